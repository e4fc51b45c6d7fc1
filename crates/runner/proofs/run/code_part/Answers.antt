use Rattle.runner.proofs.Parting.{none_behind, rest_part}
use Rattle.runner.proofs.Parting.{none_behind}
use Rattle.runner.proofs.run.code_part.Goals as goal

pub returns-then-n-lt-INDEX_LENGTH : goal.returns-then-n-lt-INDEX_LENGTH
returns-then-n-lt-INDEX_LENGTH c = none_behind c.args.index.now c.if-n-lt-INDEX_LENGTH.true

pub returns : goal.returns
returns c = rest_part 4162 c.args.index.now
