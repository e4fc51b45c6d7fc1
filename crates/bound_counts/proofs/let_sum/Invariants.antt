use Rattle.bound_counts.proofs.Reckoning.{Summed}
use Rattle.bound_counts.proofs.let_sum.Given as goal

abbrev pub invariant-loop-n : goal.invariant-loop-n
invariant-loop-n l = Summed l.t l.known l.row l.end l.n l.sum
