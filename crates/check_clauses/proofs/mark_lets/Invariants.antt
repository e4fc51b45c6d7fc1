use Rattle.check_clauses.proofs.ClauseLaws.{MarksLeft}
use Rattle.check_clauses.proofs.mark_lets.Given as goal

abbrev pub invariant-loop-n : goal.invariant-loop-n
invariant-loop-n l = MarksLeft l.t l.base l.from l.to l.n l.initial.now.state l.now.state
