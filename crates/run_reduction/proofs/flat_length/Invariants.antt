use Prim.Native.Nat.{ℕ, suc, ◌≤◌}
use mathlib.Core.List.{List}
use lib.ListN.{length}
use Rattle.limits.specs.Limits.{max_letters}
use Rattle.calculus.specs.Trees.{Pat}
use Rattle.run_values.specs.Texts.{Below, built}
use Rattle.run_flat.specs.Flat.{Stands}
use Rattle.run_reduction.proofs.Lengths.{Measured}
use Rattle.run_reduction.proofs.flat_length.Given as goal

abbrev pub invariant-loop-k : goal.invariant-loop-k
invariant-loop-k l = ((q : Pat) (s : List ℕ) → Stands l.code l.p q → Below l.vars (length s) → Measured l.code s l.vars (length (built q s l.vars)) l.k l.n) × (l.n ≤ suc max_letters)
