use Prim.Native.Nat.{◌-◌}
use Rattle.check_recursion.proofs.Laws.{TailLeft}
use Rattle.check_recursion.proofs.tail_calls.Given as goal

abbrev pub invariant-loop-first : goal.invariant-loop-first
invariant-loop-first l = TailLeft l.t l.base l.i l.v l.back l.from l.to l.first l.end

abbrev pub decreases-loop-first : goal.decreases-loop-first
decreases-loop-first l = l.end - l.first
