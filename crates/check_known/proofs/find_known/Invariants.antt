use Rattle.check_known.specs.Known.{Known}
use mathlib.Core.Path.{◌≡◌}
use lib.ListN.{length}
use Rattle.check_known.proofs.find_known.Given as goal

abbrev pub invariant-loop-n : goal.invariant-loop-n
invariant-loop-n l = (length l.k ≡ length l.initial.k) × Known l.t l.base l.k
