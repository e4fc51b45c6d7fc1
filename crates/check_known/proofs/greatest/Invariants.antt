use lib.ListN.{get_or}
use Prim.Native.Nat.{ℕ, ◌<◌, ◌≤◌}
use Rattle.check_known.proofs.greatest.Given as goal

abbrev pub invariant-loop-entry : goal.invariant-loop-entry
invariant-loop-entry l = (j : ℕ) → j < l.entry-index → get_or l.fn.e.line j 0 ≤ l.most
