use Rattle.table_trees.proofs.Unfolding.{rank}
use Rattle.fault_meets.proofs.+write_least_in.Given as goal

abbrev pub decreases-write_least_in : goal.decreases-write_least_in
decreases-write_least_in l = rank l.p
