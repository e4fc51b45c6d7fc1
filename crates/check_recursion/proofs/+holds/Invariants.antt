use Rattle.table_trees.proofs.Unfolding.{rank}
use Rattle.check_recursion.proofs.+holds.Given as goal

abbrev pub decreases-holds : goal.decreases-holds
decreases-holds l = rank l.q
