use Prim.Native.Nat.{◌-◌}
use Rattle.check_known.proofs.Looking.{large_step}
use Rattle.check_known.proofs.any_large.Goals as goal

pub loop-n-preserved : goal.loop-n-preserved
loop-n-preserved c = large_step c.loop-n.invariant c.loop-n-test.true c.is_large_row.ensures c.if-is_large_row.false
