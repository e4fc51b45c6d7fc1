use Rattle.turner.proofs.Lets.{lets_start, lets_step, lets_done}
use borrow.Author.Rules.{rules}
use Rattle.turner.proofs.put_lets.Goals as goal

pub loop-n-init : goal.loop-n-init
loop-n-init c = lets_start _ _ _ _ _

pub loop-n-preserved : goal.loop-n-preserved
loop-n-preserved c = lets_step c.loop-n.invariant c.loop-n-test.true (search rules) c.put_turned_row-end.ensures

pub returns : goal.returns
returns c = lets_done c.loop-n.invariant c.loop-n-test.false
