use Rattle.fault_gaps.proofs.Writing.{Scanned}
use Rattle.fault_gaps.proofs.first_count.Given as goal

abbrev pub invariant-loop-n : goal.invariant-loop-n
invariant-loop-n l = Scanned l.k l.n
