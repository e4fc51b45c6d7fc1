use lib.ListN.{length}
use Prim.Native.Nat.{◌+◌, ◌<◌, ◌≤◌}
use Rattle.check_known.proofs.Keeping.{Entering}
use Rattle.check_known.proofs.enter.Given as goal

abbrev pub invariant-loop-i : goal.invariant-loop-i
invariant-loop-i l = Entering l.initial.k l.k l.at l.line l.i × (l.at + 35 < length l.initial.k)
