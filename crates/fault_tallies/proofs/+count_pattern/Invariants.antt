use Rattle.table_trees.proofs.Unfolding.{rank}
use Rattle.fault_tallies.proofs.+count_pattern.Given as goal

abbrev pub decreases-count_pattern : goal.decreases-count_pattern
decreases-count_pattern l = rank l.p
