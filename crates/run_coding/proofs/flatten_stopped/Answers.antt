use Rattle.table_trees.specs.Unfolding.{pattern_of}
use Rattle.run_coding.proofs.Flattening.{flat_stopped}
use Rattle.run_coding.proofs.flatten_stopped.Goals as goal

pub returns : goal.returns
returns c = flat_stopped (pattern_of c.args.t.now c.args.base c.args.j) c.put_number.new.code c.put_number.result c.in_ok-end.ensures c.put_number.ensures
