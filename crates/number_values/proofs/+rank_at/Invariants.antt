use Rattle.table_trees.proofs.Unfolding.{rank}
use Rattle.number_values.proofs.+rank_at.Given as goal

abbrev pub decreases-rank_at : goal.decreases-rank_at
decreases-rank_at l = rank l.i
