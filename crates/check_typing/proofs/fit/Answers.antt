use Rattle.check_typing.specs.Fitting.{env_view}
use Rattle.check_typing.proofs.Meeting.{bare_same}
use Rattle.check_typing.proofs.fit.Goals as goal

pub returns-then-is_bare : goal.returns-then-is_bare
returns-then-is_bare c = bare_same c.args.binds (c.is_bare.ensures c.if-is_bare.true c.args.t.now c.requires) (env_view c.args.t.now c.args.e)
