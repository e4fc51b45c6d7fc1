use Rattle.table_trees.proofs.Unfolding.{rank}
use Rattle.fault_tallies.proofs.Adding.{Going}
use Prim.Native.Nat.{◌+◌, ◌*◌}
use Rattle.fault_tallies.proofs.+add_type_count_type.Given as goal

abbrev pub invariant-add_type-loop-k : goal.invariant-add_type-loop-k
invariant-add_type-loop-k l = Going l.m l.t l.i l.w l.initial.sum l.k l.sum l.j

abbrev pub decreases-add_type-loop-k : goal.decreases-add_type-loop-k
decreases-add_type-loop-k l = rank l.j

abbrev pub decreases-add_type : goal.decreases-add_type
decreases-add_type l = 2 * rank l.i

abbrev pub decreases-count_type : goal.decreases-count_type
decreases-count_type l = 2 * rank l.i + 1
