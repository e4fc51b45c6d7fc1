use Rattle.table_trees.proofs.Unfolding.{rank}
use Rattle.table_trees.proofs.Lines.{both}
use Prim.Native.Nat.{◌*◌}
use Rattle.list_writing.proofs.+write_pair_write_tag_write_value.Given as goal

abbrev pub decreases-write_pair : goal.decreases-write_pair
decreases-write_pair l = both l.left l.right

abbrev pub decreases-write_tag : goal.decreases-write_tag
decreases-write_tag l = both l.left l.right

abbrev pub decreases-write_value : goal.decreases-write_value
decreases-write_value l = 2 * rank l.i
