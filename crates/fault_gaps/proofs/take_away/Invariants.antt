use Rattle.fault_tallies.proofs.Shifting.{Each}
use Rattle.fault_gaps.specs.Gaps.{minus_of}
use Rattle.fault_gaps.proofs.take_away.Given as goal

abbrev pub invariant-loop-i : goal.invariant-loop-i
invariant-loop-i l = Each (minus_of l.m) l.initial.k l.o l.k l.i
