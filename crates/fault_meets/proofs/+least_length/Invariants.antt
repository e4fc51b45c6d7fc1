use Rattle.table_trees.proofs.Unfolding.{rank}
use Rattle.fault_meets.proofs.+least_length.Given as goal

abbrev pub decreases-least_length : goal.decreases-least_length
decreases-least_length l = rank l.i
