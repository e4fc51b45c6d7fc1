use Rattle.table_trees.proofs.Unfolding.{rank}
use Rattle.run_patterns.proofs.+match_at.Given as goal

abbrev pub decreases-match_at : goal.decreases-match_at
decreases-match_at l = rank l.j
