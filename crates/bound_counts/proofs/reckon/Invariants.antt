use Rattle.law_costs.specs.Costs.{least_of, greatest_of}
use Rattle.bound_counts.proofs.Reckoning.{Reckoned}
use Rattle.bound_counts.proofs.reckon.Given as goal

abbrev pub invariant-loop-i : goal.invariant-loop-i
invariant-loop-i l = Reckoned least_of l.t l.index l.isos l.initial.least l.least l.i × Reckoned greatest_of l.t l.index l.isos l.initial.greatest l.greatest l.i
