use Rattle.list_writing.proofs.Pairing.{Pairs}
use Rattle.table_trees.specs.Unfolding.{type_of}
use Rattle.list_writing.proofs.write_pairs.Given as goal

abbrev pub invariant-loop-k : goal.invariant-loop-k
invariant-loop-k l = Pairs (type_of l.t l.i) (type_of l.t l.j) l.tos l.n l.initial.s l.initial.q l.s l.q l.k l.end
