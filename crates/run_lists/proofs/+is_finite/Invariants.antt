use Rattle.table_trees.proofs.Unfolding.{rank}
use Rattle.run_lists.proofs.+is_finite.Given as goal

abbrev pub decreases-is_finite : goal.decreases-is_finite
decreases-is_finite l = rank l.i
