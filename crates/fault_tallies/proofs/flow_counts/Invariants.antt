use Rattle.fault_tallies.proofs.Flowing.{Poured}
use Rattle.fault_tallies.proofs.flow_counts.Given as goal

abbrev pub invariant-loop-h : goal.invariant-loop-h
invariant-loop-h l = Poured l.m l.one l.two l.n l.initial.k l.k l.v l.u l.h
