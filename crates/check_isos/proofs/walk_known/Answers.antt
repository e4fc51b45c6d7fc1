use Rattle.check_known.proofs.Keeping.{known_none}
use Rattle.check_isos.proofs.walk_known.Goals as goal

pub find_known-requires : goal.find_known-requires
find_known-requires c = (c.requires.3, known_none _ _ 36864)
