use Rattle.table_trees.specs.Unfolding.{type_of, pattern_of}
use Rattle.fault_pairs.proofs.Gathering.{Inner}
use Rattle.fault_pairs.proofs.add_row.Given as goal

abbrev pub invariant-loop-y : goal.invariant-loop-y
invariant-loop-y l = Inner l.t l.base l.f l.rows (type_of l.t l.i) (pattern_of l.t l.base l.p) l.initial.out l.out l.best l.b l.y
