use Rattle.check_places.proofs.Sides.{seen_known}
use Rattle.check_places.proofs.placed.Goals as goal

pub returns-then-walk : goal.returns-then-walk
returns-then-walk c = seen_known (c.requires) c.empty.ensures c.walk.ensures c.if-walk.true c.is_full.ensures
