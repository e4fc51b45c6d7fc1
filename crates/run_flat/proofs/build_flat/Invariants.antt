use Prim.Native.Nat.{ℕ, ◌+◌, ◌≤◌}
use mathlib.Core.Path.{◌≡◌}
use lib.ListN.{length, take}
use Rattle.calculus.specs.Trees.{Pat}
use Rattle.run_values.specs.Texts.{Below, built}
use Rattle.run_flat.specs.Flat.{Stands}
use Rattle.run_flat.proofs.Writing.{Written}
use Rattle.run_flat.proofs.build_flat.Given as goal

abbrev pub invariant-loop-k : goal.invariant-loop-k
invariant-loop-k l = ((q : Pat) (top : ℕ) → Stands l.code l.p q → Below l.vars top → top ≤ l.from → l.from + length (built q (take top l.initial.work) l.vars) ≤ length l.initial.work
    → Written l.code l.initial.work top l.vars l.from
    (built q (take top l.initial.work) l.vars) l.k l.work l.at) × (length l.work ≡ length l.initial.work)
