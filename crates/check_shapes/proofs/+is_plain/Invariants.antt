use Rattle.table_trees.proofs.Unfolding.{rank}
use Rattle.check_shapes.proofs.+is_plain.Given as goal

abbrev pub decreases-is_plain : goal.decreases-is_plain
decreases-is_plain l = rank l.p
