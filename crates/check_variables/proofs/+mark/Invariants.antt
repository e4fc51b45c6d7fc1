use Rattle.table_trees.proofs.Unfolding.{rank}
use Rattle.check_variables.proofs.+mark.Given as goal

abbrev pub decreases-mark : goal.decreases-mark
decreases-mark l = rank l.p
