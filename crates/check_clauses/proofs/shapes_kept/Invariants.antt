use Rattle.check_clauses.proofs.ClauseLaws.{ShapesLeft}
use Rattle.check_clauses.proofs.shapes_kept.Given as goal

abbrev pub invariant-loop-n : goal.invariant-loop-n
invariant-loop-n l = ShapesLeft l.t l.base l.from l.to l.n
