use Rattle.table_trees.proofs.Unfolding.{rank}
use Prim.Native.Nat.{◌+◌, ◌*◌}
use Rattle.check_typing.proofs.+fit_element_fit_lines_fit_parts.Given as goal

abbrev pub decreases-fit_element : goal.decreases-fit_element
decreases-fit_element l = 2 * rank l.p

abbrev pub decreases-fit_lines : goal.decreases-fit_lines
decreases-fit_lines l = 2 * rank l.i + 1

abbrev pub decreases-fit_parts : goal.decreases-fit_parts
decreases-fit_parts l = 2 * rank l.p
