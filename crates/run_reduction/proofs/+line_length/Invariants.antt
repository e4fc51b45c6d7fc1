use Rattle.table_trees.proofs.Unfolding.{rank}
use Rattle.run_reduction.proofs.+line_length.Given as goal

abbrev pub decreases-line_length : goal.decreases-line_length
decreases-line_length l = rank l.j
