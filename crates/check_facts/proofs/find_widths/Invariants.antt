use Rattle.check_facts.proofs.Finding.{Widening}
use Rattle.check_facts.proofs.find_widths.Given as goal

abbrev pub invariant-loop-i : goal.invariant-loop-i
invariant-loop-i l = Widening l.t l.initial.f l.f l.n l.i
