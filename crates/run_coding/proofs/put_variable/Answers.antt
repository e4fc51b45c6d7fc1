use Rattle.run_coding.proofs.Flattening.{flat_var}
use Rattle.run_coding.proofs.put_variable.Goals as goal

pub returns : goal.returns
returns c = flat_var c.args.n c.args.at c.args.code.now c.put_number.new.code c.put_number.result c.if-n-ge-VARIABLES.false c.narrow.ensures c.put_number.ensures
