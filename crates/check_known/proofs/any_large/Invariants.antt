use Rattle.check_known.specs.Known.{LargeLeft}
use Rattle.check_known.proofs.any_large.Given as goal

abbrev pub invariant-loop-n : goal.invariant-loop-n
invariant-loop-n l = LargeLeft l.t l.g l.from l.to l.n
