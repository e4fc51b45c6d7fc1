use Rattle.table_trees.proofs.Unfolding.{rank}
use Rattle.fault_meets.proofs.+write_least.Given as goal

abbrev pub decreases-write_least : goal.decreases-write_least
decreases-write_least l = rank l.i
