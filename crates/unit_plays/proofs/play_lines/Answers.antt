use Prim.Native.Nat.{◌-◌}
use Rattle.unit_plays.proofs.Lines.{through_start, through_next, through_end}
use Rattle.unit_plays.proofs.play_lines.Goals as goal

pub loop-at-init : goal.loop-at-init
loop-at-init c = through_start _ _ _ _ _ _ _ _ _

pub loop-at-preserved : goal.loop-at-preserved
loop-at-preserved c =
    through_next c.loop-at.invariant c.loop-at-test.true c.line_end-end.ensures c.play_line.ensures c.play_line.auto.work c.play_line.auto.lines c.play_line.auto.settings

pub returns : goal.returns
returns c = through_end c.loop-at.invariant c.loop-at-test.false
