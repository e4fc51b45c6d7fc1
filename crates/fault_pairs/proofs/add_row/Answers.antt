use Rattle.fault_pairs.proofs.Gathering.{inner_more}
use borrow.Author.Rules.{rules}
use Rattle.fault_pairs.proofs.add_row.Goals as goal

pub loop-y-preserved : goal.loop-y-preserved
loop-y-preserved c =
    let l = c.loop-y in inner_more c.args.t.now c.args.base c.args.f c.args.rows.now c.wide.result c.cell-q.result l.invariant (search rules) c.with_pair-b.auto.out
    c.with_pair-b.ensures.0 c.wide.ensures.value c.cell-q.ensures.0 c.with_pair-b.ensures.1
