use Rattle.table_trees.proofs.Unfolding.{rank}
use Rattle.number_values.proofs.+count_values.Given as goal

abbrev pub decreases-count_values : goal.decreases-count_values
decreases-count_values l = rank l.i
