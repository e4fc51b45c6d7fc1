use Rattle.check_idle.proofs.Marking.{walking_start, walking_step, walking_end}
use Rattle.check_idle.proofs.walk_up.Goals as goal

pub loop-n-init : goal.loop-n-init
loop-n-init c = walking_start c.none-found.ensures.0

pub loop-n-preserved : goal.loop-n-preserved
loop-n-preserved c = walking_step c.loop-n.invariant c.loop-n-test.true c.with_row-found.auto.marks c.with_row-found.ensures

pub returns : goal.returns
returns c = walking_end c.loop-n.invariant c.loop-n-test.false
