use Rattle.area_parts.proofs.Filled.{filled_step}
use Rattle.area_parts.proofs.clear.Goals as goal

pub loop-item-preserved : goal.loop-item-preserved
loop-item-preserved g c = filled_step _ _ _ _ c.loop-item.invariant c.loop-item-test.true
