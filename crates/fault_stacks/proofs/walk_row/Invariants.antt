use Rattle.fault_stacks.proofs.Walking.{On}
use Rattle.fault_stacks.proofs.walk_row.Given as goal

abbrev pub invariant-loop-c : goal.invariant-loop-c
invariant-loop-c l = On l.t l.base l.w l.ps l.ts l.p l.i l.c-index l.top
