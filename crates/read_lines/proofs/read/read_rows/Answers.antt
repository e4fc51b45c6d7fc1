use mathlib.Core.Path.{refl, ◌∙◌}
use Rattle.read_lines.proofs.Reading.{so_far_start, so_far_end, fewer, fields_small, so_far_more, so_far_refused}
use Rattle.read_lines.proofs.read.read_rows.Goals as goal

pub loop-at-init : goal.loop-at-init
loop-at-init c = (so_far_start c.args.s.now c.args.t.now c.args.g.now c.nothing_seen-seen.ensures c.requires.1 c.requires.2, refl)

pub put_row-requires : goal.put_row-requires
put_row-requires c = fields_small c.loop-at.invariant.0 c.loop-at-test.true c.judge_line.result c.judge_line.ensures _ _ c.in-Ok.is c.requires.0 c.row_size-size.ensures

pub loop-at-smaller : goal.loop-at-smaller
loop-at-smaller c = fewer c.loop-at.invariant.0 c.loop-at-test.true c.judge_line.result c.judge_line.ensures _ _ c.in-Ok.is

pub loop-at-preserved : goal.loop-at-preserved
loop-at-preserved c = (
  so_far_more c.loop-at.invariant.0 c.loop-at-test.true c.judge_line.result c.judge_line.ensures _ _ c.in-Ok.is c.requires.0 c.row_size-size.ensures
      c.put_row.ensures c.keep_tags.ensures c.seen_after-seen.ensures,
  c.keep_tags.ensures.long ∙ c.loop-at.invariant.1,
)

pub returns-in-Err : goal.returns-in-Err
returns-in-Err c = so_far_refused c.loop-at.invariant.0 c.loop-at-test.true c.judge_line.result c.judge_line.ensures _ c.in-Err.is

pub returns : goal.returns
returns c = so_far_end c.loop-at.invariant.0 c.loop-at-test.false
