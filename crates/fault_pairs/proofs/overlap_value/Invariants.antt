use Rattle.table_trees.specs.Unfolding.{type_of}
use Rattle.fault_pairs.proofs.Gathering.{Outer}
use Rattle.fault_pairs.proofs.overlap_value.Given as goal

abbrev pub invariant-loop-x : goal.invariant-loop-x
invariant-loop-x l = Outer l.t l.base l.f l.rows (type_of l.t l.i) l.initial.out l.out l.best l.x
