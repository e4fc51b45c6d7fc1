use Rattle.check_facts.proofs.Finding.{Tagging}
use Rattle.check_facts.proofs.find_tags.Given as goal

abbrev pub invariant-loop-j : goal.invariant-loop-j
invariant-loop-j l = Tagging l.t l.initial.f l.f l.base l.n l.j
