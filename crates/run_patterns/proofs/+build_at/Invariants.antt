use Rattle.table_trees.proofs.Unfolding.{rank}
use Rattle.run_patterns.proofs.+build_at.Given as goal

abbrev pub decreases-build_at : goal.decreases-build_at
decreases-build_at l = rank l.j
