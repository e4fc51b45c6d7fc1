use Rattle.fault_tallies.proofs.Flowing.{Stepped}
use Rattle.fault_tallies.proofs.step.Given as goal

abbrev pub invariant-loop-x : goal.invariant-loop-x
invariant-loop-x l = Stepped l.m l.one l.two l.n l.v l.initial.u l.u l.x
