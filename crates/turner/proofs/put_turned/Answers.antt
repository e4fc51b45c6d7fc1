use Prim.Native.Nat.{◌-◌}
use Rattle.turner.proofs.Turning.{turning_start, turning_step, turning_done}
use borrow.Author.Rules.{rules}
use Rattle.turner.proofs.put_turned.Goals as goal

pub loop-n-init : goal.loop-n-init
loop-n-init c = turning_start _ _ _

pub loop-n-preserved : goal.loop-n-preserved
loop-n-preserved c = turning_step c.loop-n.invariant c.loop-n-test.true c.lets_end-next.ensures c.put_turned_row-end.ensures c.put_lets-end.ensures (search rules)

pub returns : goal.returns
returns c = turning_done c.loop-n.invariant c.loop-n-test.false
