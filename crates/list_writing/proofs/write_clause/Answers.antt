use Rattle.list_writing.proofs.Pairing.{clause_done}
use Rattle.table_trees.specs.Unfolding.{type_of}
use Rattle.list_writing.proofs.write_clause.Goals as goal

pub returns : goal.returns
returns c =
    clause_done (type_of c.args.t.now c.args.i) (type_of c.args.t.now c.args.j) c.args.k c.args.n c.write_value-v.ensures c.write_value-w.ensures c.store_entry.ensures
