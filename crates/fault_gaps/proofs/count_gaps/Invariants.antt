use mathlib.Core.List.{[], ◌∷◌}
use Rattle.table_trees.specs.Unfolding.{type_of}
use Rattle.fault_stacks.specs.Stacks.{types_along}
use Rattle.fault_gaps.proofs.Taking.{RowsLeft}
use Rattle.fault_gaps.proofs.count_gaps.Given as goal

abbrev pub invariant-loop-x : goal.invariant-loop-x
invariant-loop-x l = RowsLeft l.m l.t l.base l.f l.rows l.k l.w (types_along l.w (type_of l.t l.i ∷ [])) l.x
