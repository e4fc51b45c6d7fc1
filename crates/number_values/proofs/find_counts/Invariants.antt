use Rattle.number_values.proofs.Filling.{Filling}
use Rattle.number_values.proofs.find_counts.Given as goal

abbrev pub invariant-loop-i : goal.invariant-loop-i
invariant-loop-i l = Filling l.t l.initial.counts l.counts l.i
