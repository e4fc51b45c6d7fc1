use Prim.Native.Nat.{◌-◌}
use Rattle.check_clauses.proofs.ClauseLaws.{shapes_first, shapes_second, shapes_step}
use Rattle.check_clauses.proofs.shapes_kept.Goals as goal
use Rattle.check_clauses.proofs.shapes_kept.Goals.{then-not-plainly-via-then-not-plainly, then-not-plainly-via-else-not-plainly+then-not-plainly-2}

pub loop-n-preserved : goal.loop-n-preserved
loop-n-preserved c =
    shapes_step
    c.loop-n.invariant
    c.loop-n-test.true
    c.cell.ensures.0
    c.plainly.ensures
    c.if-not-plainly.false
    c.cell-else-not-plainly.ensures.0
    c.plainly-else-not-plainly.ensures
    c.if-not-plainly-2.false

pub returns-then-not-plainly : goal.returns-then-not-plainly
returns-then-not-plainly c =
    elim c.then-not-plainly.branch [
      | then-not-plainly-via-then-not-plainly w ↦ shapes_first c.loop-n.invariant c.loop-n-test.true c.cell.ensures.0 c.plainly.ensures w.if-not-plainly.true
      | then-not-plainly-via-else-not-plainly+then-not-plainly-2 w ↦
          shapes_second c.loop-n.invariant c.loop-n-test.true c.cell.ensures.0 c.plainly.ensures w.if-not-plainly.false w.cell-else-not-plainly.ensures.0 w.plainly-else-not-plainly.ensures
          w.if-not-plainly-2.true
    ]
