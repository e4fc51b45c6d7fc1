use Rattle.check_typing.specs.Fitting.{env_view}
use Rattle.check_clauses.proofs.ClauseLaws.{FitsLeft}
use Rattle.check_clauses.proofs.fit_lets.Given as goal

abbrev pub invariant-loop-n : goal.invariant-loop-n
invariant-loop-n l = FitsLeft l.t l.starts l.base l.from l.to l.n (env_view l.t l.initial.env) (env_view l.t l.env)
