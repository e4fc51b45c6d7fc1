use Rattle.check_recursion.proofs.Laws.{calls_step}
use Rattle.check_recursion.proofs.no_calls.Goals as goal

pub loop-n-preserved : goal.loop-n-preserved
loop-n-preserved c = calls_step c.loop-n.invariant c.loop-n-test.true c.cell.ensures.0 c.if-cell-i.false
