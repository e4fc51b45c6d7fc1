use Rattle.fault_stacks.proofs.Counting.{TypesAt}
use Rattle.fault_stacks.proofs.count_types.Given as goal

abbrev pub invariant-loop-c : goal.invariant-loop-c
invariant-loop-c l = TypesAt l.m l.t l.ts l.k l.top l.c
