use Prim.Native.Nat.{◌-◌}
use Rattle.check_known.specs.Known.{Skipped}
use Rattle.check_known.proofs.skip_empty.Given as goal

abbrev pub invariant-loop-i : goal.invariant-loop-i
invariant-loop-i l = Skipped l.k l.at l.from l.i

abbrev pub decreases-loop-i : goal.decreases-loop-i
decreases-loop-i l = 32 - l.i
