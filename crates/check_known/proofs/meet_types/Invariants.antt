use lib.ListN.{get_or}
use Prim.Native.Nat.{◌-◌, ◌+◌, ◌<◌}
use Rattle.check_known.proofs.Keeping.{Met}
use Rattle.check_known.proofs.meet_types.Given as goal

abbrev pub invariant-loop-i : goal.invariant-loop-i
invariant-loop-i l = Met l.t l.k l.at l.binds l.e.line l.line l.i × (l.i < 32 → 0 < get_or l.k (l.at + l.i) 0)

abbrev pub decreases-loop-i : goal.decreases-loop-i
decreases-loop-i l = 32 - l.i
