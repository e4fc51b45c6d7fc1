use Rattle.check_sets.proofs.Sets.{low_test, shifted}
use Rattle.check_sets.proofs.low.Goals as goal

pub returns : goal.returns
returns c = low_test _ _ (shifted _ c.requires)
