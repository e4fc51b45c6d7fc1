use Rattle.table_trees.proofs.Unfolding.{rank}
use Rattle.list_writing.proofs.+write_type.Given as goal

abbrev pub decreases-write_type : goal.decreases-write_type
decreases-write_type l = rank l.i
