use Rattle.table_trees.proofs.Unfolding.{rank}
use Rattle.fault_meets.proofs.+write_common.Given as goal

abbrev pub decreases-write_common : goal.decreases-write_common
decreases-write_common l = rank l.p
