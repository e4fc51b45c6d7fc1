use Rattle.fault_values.proofs.Collecting.{walking_step, walking_end}
use Rattle.fault_values.proofs.clauses_from.Goals as goal

pub loop-n-preserved : goal.loop-n-preserved
loop-n-preserved c = walking_step c.loop-n.invariant c.loop-n-test.true c.with_row-c.ensures

pub returns : goal.returns
returns c = walking_end c.loop-n.invariant c.loop-n-test.false
