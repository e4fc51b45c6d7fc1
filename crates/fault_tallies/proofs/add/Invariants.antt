use Rattle.fault_tallies.specs.Tallies.{plus_of}
use Rattle.fault_tallies.proofs.Shifting.{Each}
use Rattle.fault_tallies.proofs.add.Given as goal

abbrev pub invariant-loop-i : goal.invariant-loop-i
invariant-loop-i l = Each (plus_of l.m) l.initial.k l.o l.k l.i
