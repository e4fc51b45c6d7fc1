-- Where the rest of the input no longer matters: the code's test against the machine's.
use Prim.Native.Nat.{ℕ}
use native.Mathlib.Omega.{arith}
use mathlib.Core.Path.{◌≡◌, refl, sym, ◌∙◌}
use mathlib.Core.Logic.{◌⊎◌, inl, inr}
use mathlib.Core.Bool.{true, false}
use mathlib.Core.List.{List}
use lib.Dec.{ltb}
use lib.ListN.{length, length-take}
use borrow.Author.Tests.{lt-ltb, le-ltb, ltb-true, ltb-false}
use Rattle.limits.specs.Limits.{max_bytes}
use Rattle.calculus.proofs.Basic.{bool_cases}
use Rattle.query_lines.specs.Stream.{State, settled}
use Rattle.desk.specs.declared.Desk as D
use Rattle.desk.specs.declared.Phase.TheVariants as phases
use Rattle.desk.specs.DeskSays.{file_room, Holds, DeskAt, collects, asks, stops}

-- of a file with too many bytes one more is kept than may be
held_long : {held : ℕ} {area : List ℕ} (bs : List ℕ) → Holds file_room held area bs → ltb 65536 held ≡ ltb max_bytes (length bs)
held_long {held} bs k = go (bool_cases (ltb max_bytes (length bs)))
  where
    go : (ltb max_bytes (length bs) ≡ true) ⊎ (ltb max_bytes (length bs) ≡ false) → ltb 65536 held ≡ ltb max_bytes (length bs)
    go (inl t) = lt-ltb 65536 held (omega (arith, k.count, length-take file_room bs, ltb-true max_bytes (length bs) t)) ∙ sym t
    go (inr t) = le-ltb 65536 held (omega (arith, k.count, length-take file_room bs, ltb-false max_bytes (length bs) t)) ∙ sym t

module _ (d : D.Desk) where
  -- a file
  pub settled_file : d.phase ≡ phases.File → (file line table index : List ℕ) (s : State) → DeskAt d file line table index s → ltb 65536 d.held ≡ settled s
  settled_file e file line table index s (collects {bs} p f h) = held_long bs h
  settled_file e file line table index s (asks p h q) = let z : ◌≡◌ {A = ℕ} 0 1 = cc in absurd (omega arith)
  settled_file e file line table index s (stops p) = let z : ◌≡◌ {A = ℕ} 0 1 = cc in absurd (omega arith)

  -- queries
  pub settled_queries : d.phase ≡ phases.Queries → (file line table index : List ℕ) (s : State) → DeskAt d file line table index s → false ≡ settled s
  settled_queries e file line table index s (collects p f h) = let z : ◌≡◌ {A = ℕ} 0 1 = cc in absurd (omega arith)
  settled_queries e file line table index s (asks p h q) = refl
  settled_queries e file line table index s (stops p) = let z : ◌≡◌ {A = ℕ} 0 1 = cc in absurd (omega arith)

  -- the end
  pub settled_stopped : d.phase ≡ phases.Stopped → (file line table index : List ℕ) (s : State) → DeskAt d file line table index s → true ≡ settled s
  settled_stopped e file line table index s (collects p f h) = let z : ◌≡◌ {A = ℕ} 0 1 = cc in absurd (omega arith)
  settled_stopped e file line table index s (asks p h q) = let z : ◌≡◌ {A = ℕ} 0 1 = cc in absurd (omega arith)
  settled_stopped e file line table index s (stops p) = refl
