use Prim.Native.Nat.{◌-◌}
use Rattle.turner.proofs.Turning.{Turning}
use Rattle.turner.proofs.put_turned.Given as goal

abbrev pub invariant-loop-n : goal.invariant-loop-n
invariant-loop-n l = Turning l.t l.initial.out l.out l.lines l.n l.end

abbrev pub decreases-loop-n : goal.decreases-loop-n
decreases-loop-n l = l.lines - l.n
