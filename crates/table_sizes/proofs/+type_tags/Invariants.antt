use Rattle.table_trees.proofs.Unfolding.{rank}
use Rattle.table_sizes.proofs.+type_tags.Given as goal

abbrev pub decreases-type_tags : goal.decreases-type_tags
decreases-type_tags l = rank l.i
