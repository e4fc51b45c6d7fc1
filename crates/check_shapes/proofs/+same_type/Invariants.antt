use Rattle.table_trees.proofs.Unfolding.{rank}
use Rattle.check_shapes.proofs.+same_type.Given as goal

abbrev pub decreases-same_type : goal.decreases-same_type
decreases-same_type l = rank l.a
