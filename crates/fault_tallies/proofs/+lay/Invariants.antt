use Rattle.table_trees.proofs.Unfolding.{rank}
use Rattle.fault_tallies.proofs.+lay.Given as goal

abbrev pub decreases-lay : goal.decreases-lay
decreases-lay l = rank l.i
