use Rattle.fault_stacks.proofs.Walking.{TypesOn}
use Rattle.fault_stacks.proofs.walk_types.Given as goal

abbrev pub invariant-loop-c : goal.invariant-loop-c
invariant-loop-c l = TypesOn l.t l.w l.ts l.i l.c-index l.top
