use mathlib.Core.Path.{◌≡◌}
use lib.ListN.{length, drop}
use Rattle.calculus.specs.Trees.{tlist}
use Rattle.table_trees.specs.Unfolding.{type_of}
use Rattle.table_trees.proofs.Unfolding.{rank}
use Rattle.run_values.specs.Texts.{behind}
use Prim.Native.Nat.{◌+◌, ◌-◌, ◌*◌}
use Rattle.run_values.proofs.+list_end_typed_end.Given as goal

abbrev pub invariant-list_end-loop-next : goal.invariant-list_end-loop-next
invariant-list_end-loop-next l = behind (tlist (type_of l.t l.i)) (drop l.next l.s) ≡ behind (tlist (type_of l.t l.i)) (drop l.at l.s)

abbrev pub decreases-list_end-loop-next : goal.decreases-list_end-loop-next
decreases-list_end-loop-next l = length l.s - l.next

abbrev pub decreases-list_end : goal.decreases-list_end
decreases-list_end l = 2 * rank l.i + 1

abbrev pub decreases-typed_end : goal.decreases-typed_end
decreases-typed_end l = 2 * rank l.i
