use Rattle.table_trees.proofs.Unfolding.{rank}
use Rattle.number_values.proofs.+unrank_at.Given as goal

abbrev pub decreases-unrank_at : goal.decreases-unrank_at
decreases-unrank_at l = rank l.i
