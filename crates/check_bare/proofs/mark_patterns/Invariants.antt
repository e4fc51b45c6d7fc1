use Rattle.check_bare.proofs.Marking.{Patterning}
use Rattle.check_bare.proofs.mark_patterns.Given as goal

abbrev pub invariant-loop-j : goal.invariant-loop-j
invariant-loop-j l = Patterning l.t l.initial.g l.g l.base l.n l.j
