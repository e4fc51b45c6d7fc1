use Rattle.run_coding.proofs.Listing.{Listing}
use lib.ListN.{length}
use mathlib.Core.Path.{◌≡◌}
use Rattle.run_coding.proofs.code_patterns.Given as goal

abbrev pub invariant-loop-j : goal.invariant-loop-j
invariant-loop-j l = Listing l.t l.base l.code l.at l.j l.patterns × (length l.code ≡ length l.initial.code)
