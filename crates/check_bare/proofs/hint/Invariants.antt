use lib.ListN.{length}
use mathlib.Core.Path.{◌≡◌}
use Rattle.check_bare.proofs.hint.Given as goal

abbrev pub invariant-loop-k : goal.invariant-loop-k
invariant-loop-k l = length l.h ≡ length l.initial.h
