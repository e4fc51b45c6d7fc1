-- Two indexes that agree where it counts tell the same clauses and isos; and where they agree after a store.
use Prim.Native.Nat.{ℕ, zero, suc, ◌+◌, ◌-◌, ◌≤◌, ◌<◌}
use native.Mathlib.Omega.{arith}
use mathlib.Core.Path.{◌≡◌, refl, ap₂, ◌∙◌}
use mathlib.Core.List.{List, ◌∷◌}
use lib.ListN.{length, set}
use lib.Seq.{get_or-set_same, get_or-set_other}
use Rattle.calculus.specs.Trees.{Clause, Iso}
use Rattle.table_trees.specs.Unfolding.{cell_of, type_of}
use Rattle.table_walks.specs.InTable.{clause_in}
use Rattle.run_index.specs.Index.{place_at, clauses_at, iso_between, isos_at}

-- the same numbers from place `low` on
abbrev pub SameFrom : ℕ → List ℕ → List ℕ → Type 0
SameFrom low a b = (m : ℕ) → low ≤ m → place_at a m ≡ place_at b m

-- the same numbers for `count` isos from iso i on and behind them, all places from `low` on
abbrev pub SameIsos : ℕ → ℕ → ℕ → List ℕ → List ℕ → Type 0
SameIsos low i count a b = (j : ℕ) → i ≤ j → j ≤ i + count → (place_at a j ≡ place_at b j) × (low ≤ place_at b j)

module _ (t : List ℕ) (base low : ℕ) (a b : List ℕ) (same : SameFrom low a b) where
  -- the same clauses
  pub clauses_agree : (m count : ℕ) → low ≤ m → clauses_at t base a m count ≡ clauses_at t base b m count
  clauses_agree m zero h = refl
  clauses_agree m (suc count) h =
      ap₂ {C = List Clause} ◌∷◌ (ap₂ (clause_in t base) (same m h) (same (suc m) (omega arith))) (clauses_agree (suc m) count (omega arith))

  -- the same iso
  iso_agrees : (m end : ℕ) → low ≤ m → iso_between t base a m end ≡ iso_between t base b m end
  iso_agrees m end h =
      ap₂ (λ (p : ℕ) (cs : List Clause). record { line = suc p; from = type_of t (cell_of t p 1); to = type_of t (cell_of t p 2); clauses = cs }) (same m h)
      (clauses_agree (suc m) (end - suc m) (omega arith))

  -- the same isos
  pub isos_agree : (i count : ℕ) → SameIsos low i count a b → isos_at t base a i count ≡ isos_at t base b i count
  isos_agree i zero h = refl
  isos_agree i (suc count) h =
      ap₂ {C = List Iso} ◌∷◌
      (ap₂ (iso_between t base a) (h i (omega arith) (omega arith)).0 (h (suc i) (omega arith) (omega arith)).0
      ∙ iso_agrees (place_at b i) (place_at b (suc i)) (h i (omega arith) (omega arith)).1)
      (isos_agree (suc i) count (λ j l u. h j (omega arith) (omega arith)))

-- ---- after a store

-- the place stored at
pub stored_here : (index : List ℕ) (k v : ℕ) → k < length index → place_at (set index k v) k ≡ v
stored_here index k v h = get_or-set_same index k v 0 h

-- any other place
pub stored_other : (index : List ℕ) (k v m : ℕ) → (m ≡ k → ⊥) → place_at (set index k v) m ≡ place_at index m
stored_other index k v m h = get_or-set_other index k m v 0 h
