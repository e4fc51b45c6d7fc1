use Rattle.fault_stacks.proofs.Counting.{RowAt}
use Rattle.fault_stacks.proofs.count_row.Given as goal

abbrev pub invariant-loop-c : goal.invariant-loop-c
invariant-loop-c l = RowAt l.m l.t l.base l.ps l.ts l.k l.top l.c
