use Rattle.fault_pairs.proofs.Sooner.{Alike}
use Rattle.fault_pairs.proofs.is_sooner.Given as goal

abbrev pub invariant-loop-i : goal.invariant-loop-i
invariant-loop-i l = Alike l.x l.y l.i
