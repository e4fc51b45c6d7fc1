use Prim.Native.Nat.{◌+◌}
use mathlib.Core.Path.{◌≡◌}
use lib.ListN.{length}
use Rattle.calculus.specs.Trees.{Pat, Val}
use Rattle.calculus.specs.Letters.{letters}
use Rattle.run_values.specs.Texts.{At, alike, ranges}
use Rattle.run_flat.specs.Flat.{Stands}
use Rattle.run_flat.proofs.Following.{Before}
use Rattle.run_flat.proofs.match_flat.Given as goal

abbrev pub invariant-loop-k : goal.invariant-loop-k
invariant-loop-k l = ((q : Pat) (v : Val) → Stands l.code l.p q → At l.s l.from v → l.end ≡ l.from + length (letters v)
    → Before l.code l.s l.end (alike q v) (ranges q v l.from l.initial.vars) l.k l.at l.vars) × (length l.vars ≡ length l.initial.vars)
