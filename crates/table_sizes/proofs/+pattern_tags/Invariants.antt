use Rattle.table_trees.proofs.Unfolding.{rank}
use Rattle.table_sizes.proofs.+pattern_tags.Given as goal

abbrev pub decreases-pattern_tags : goal.decreases-pattern_tags
decreases-pattern_tags l = rank l.j
