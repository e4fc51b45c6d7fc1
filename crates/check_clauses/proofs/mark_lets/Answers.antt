use Prim.Native.Nat.{◌-◌}
use Rattle.check_clauses.proofs.ClauseLaws.{marks_step}
use Rattle.check_clauses.proofs.mark_lets.Goals as goal

pub loop-n-preserved : goal.loop-n-preserved
loop-n-preserved c =
    marks_step
    c.loop-n.invariant
    c.loop-n-test.true
    c.cell.ensures.0
    c.mark-used.ensures
    c.cell-in-loop-n.ensures.0
    c.mark-now.ensures
