use Prim.Native.Nat.{◌≤◌}
use Rattle.fault_pairs.proofs.Sooner.{Copied}
use Rattle.fault_pairs.proofs.copy_front.Given as goal

abbrev pub invariant-loop-i : goal.invariant-loop-i
invariant-loop-i l = Copied l.from l.initial.out l.out l.i × (l.i ≤ l.n)
