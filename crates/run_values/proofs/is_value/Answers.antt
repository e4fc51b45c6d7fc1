use Rattle.std.proofs.Common.{rules}
use Rattle.table_trees.specs.Unfolding.{type_of}
use Rattle.run_values.proofs.Alone.{alone_end}
use Rattle.run_values.proofs.is_value.Goals as goal

pub returns : goal.returns
returns c = alone_end (type_of c.args.t.now c.args.i) c.args.value.now c.typed_end.result c.typed_end.ensures (search rules)
