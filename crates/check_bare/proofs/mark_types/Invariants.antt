use Rattle.check_bare.proofs.Marking.{Typing}
use mathlib.Core.Path.{◌≡◌}
use lib.ListN.{length}
use Rattle.check_bare.proofs.mark_types.Given as goal

abbrev pub invariant-loop-i : goal.invariant-loop-i
invariant-loop-i l = Typing l.t l.initial.g l.g l.n l.i × (length l.h ≡ length l.initial.h)
