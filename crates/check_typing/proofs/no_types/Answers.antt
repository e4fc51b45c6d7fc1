use borrow.Author.Rules.{rules}
use Rattle.check_typing.specs.Fitting.{fresh_env}
use Rattle.check_typing.proofs.no_types.Goals as goal

pub returns : goal.returns
unfolding fresh_env
returns c = search rules
