-- The counts of what is still to come, line by line from the last.
use Prim.Native.Nat.{ℕ, zero, suc, ◌-◌, ◌%◌, ◌<◌, ◌≤◌}
use native.Mathlib.Nat.{mod-eq_of_lt}
use native.Mathlib.Omega.{arith}
use mathlib.Core.Path.{◌≡◌, refl, sym, ap, ap₂, ◌∙◌, subst}
use mathlib.Core.List.{List, [], ◌∷◌, map}
use lib.ListN.{length, get_or, set, replicate, drop, drop_of_length-le}
use lib.Seq.{get_or-set_other, drop-cons}
use Rattle.calculus.specs.Trees.{Ty, Pat, type_nodes}
use Rattle.calculus.specs.Shapes.{Shape}
use Rattle.law_witnesses.specs.Seeking.{how_many, ways}
use Rattle.table_trees.specs.Unfolding.{type_of, pattern_of}
use Rattle.fault_tallies.proofs.Counting.{held_as, zero_mod, zeros}
use Rattle.fault_tallies.specs.Tallies.{CountsType, CountsIn}
use Rattle.fault_tallies.proofs.Ways.{more_all, more_in_lem}
use Rattle.fault_stacks.specs.Stacks.{types_from, row_from, Shapes, also, Countable, one_more, NothingHeld, TypesHold, RowHolds}
use Rattle.limits.specs.Limits.{max_nodes, lengths}

-- zeros, and 1 stored before
pub empty_counts : NothingHeld (set (replicate 128 0) 0 1)
empty_counts m w = record { wide = w; at = go }
  where
    go : (r : ℕ) → r < lengths → get_or (set (replicate 128 0) 0 1) r 0 ≡ ways r [] [] % m
    go zero l = sym (mod-eq_of_lt w)
    go (suc r) l = get_or-set_other (replicate 128 0) 0 (suc r) 1 0 (λ e. absurd (omega arith)) ∙ zeros 128 (suc r) ∙ zero_mod m w

-- ---- two functions that agree

-- the line before
from_line : (s : List ℕ) (c : ℕ) → 0 < c → c ≤ length s → drop (c - 1) s ≡ get_or s (c - 1) 0 ∷ drop c s
from_line s c p h =
    let e : suc (c - 1) ≡ c = omega arith in
    drop-cons s (c - 1) 0 (omega arith) ∙ ap (λ n. get_or s (c - 1) 0 ∷ drop n s) e

module _ (t : List ℕ) (ts : List ℕ) where
  pub types_end : (c : ℕ) → length ts ≤ c → types_from t ts c ≡ []
  types_end c h = ap (map (type_of t)) (drop_of_length-le ts h)

  pub types_line : (c : ℕ) → 0 < c → c ≤ length ts → types_from t ts (c - 1) ≡ type_of t (get_or ts (c - 1) 0) ∷ types_from t ts c
  types_line c p h = ap (map (type_of t)) (from_line ts c p h)

  none_more : (r : ℕ) → ways r [] [] ≡ how_many r []
  none_more zero = refl
  none_more (suc r) = refl

  pub types_start : (m : ℕ) {k : List ℕ} → length ts ≡ 128 → NothingHeld k → TypesHold m t ts k 128
  types_start m e h w f =
      held_as (λ n. how_many n (types_from t ts 128)) (λ r. none_more r ∙ ap (how_many r) (sym (types_end 128 (omega arith)))) (h m w)

  pub first_types : (c : ℕ) → 0 < c → c ≤ length ts → Countable (types_from t ts (c - 1))
      → (type_nodes (type_of t (get_or ts (c - 1) 0)) ≤ max_nodes) × Countable (types_from t ts c)
  first_types c p h f = apart (subst Countable (types_line c p h) f)
    where
      apart : {a : Ty} {bs : List Ty} → Countable (a ∷ bs) → (type_nodes a ≤ max_nodes) × Countable bs
      apart (one_more g r) = (g, r)

  pub types_step : {m : ℕ} {k l : List ℕ} (c : ℕ) → 0 < c → c ≤ length ts → TypesHold m t ts k c → CountsType m (type_of t (get_or ts (c - 1) 0)) k l
      → TypesHold m t ts l (c - 1)
  types_step c p h below g w f =
      let d = first_types c p h f in
      held_as (λ n. how_many n (types_from t ts (c - 1)))
      (λ r. more_all (type_of t (get_or ts (c - 1) 0)) {ts = types_from t ts c} (λ n. refl) r ∙ ap (how_many r) (sym (types_line c p h)))
      (g d.0 (λ n. how_many n (types_from t ts c)) (below w d.1))

module _ (t : List ℕ) (base : ℕ) (ps ts : List ℕ) where
  pub row_end : (c : ℕ) → length ps ≤ c → row_from t base ps c ≡ []
  row_end c h = ap (map (pattern_of t base)) (drop_of_length-le ps h)

  pub row_line : (c : ℕ) → 0 < c → c ≤ length ps → row_from t base ps (c - 1) ≡ pattern_of t base (get_or ps (c - 1) 0) ∷ row_from t base ps c
  row_line c p h = ap (map (pattern_of t base)) (from_line ps c p h)

  pub row_start : (m : ℕ) {k : List ℕ} → length ps ≡ 128 → length ts ≡ 128 → NothingHeld k → RowHolds m t base ps ts k 128
  row_start m e f h w s g =
      held_as (λ n. ways n (types_from t ts 128) (row_from t base ps 128))
      (λ r. sym (ap₂ (ways r) (types_end t ts 128 (omega arith)) (row_end 128 (omega arith)))) (h m w)

  head_tail : {p : Pat} {a : Ty} {qs : List Pat} {as' : List Ty} → Shapes (p ∷ qs) (a ∷ as') → Shape p a × Shapes qs as'
  head_tail (also h s) = (h, s)

  pub row_step : {m : ℕ} {k l : List ℕ} (c : ℕ) → 0 < c → c ≤ length ps → c ≤ length ts → RowHolds m t base ps ts k c
      → CountsIn m (pattern_of t base (get_or ps (c - 1) 0)) (type_of t (get_or ts (c - 1) 0)) k l → RowHolds m t base ps ts l (c - 1)
  row_step c p h g below f w s z =
      let r = row_line c p h in
      let u = types_line t ts c p g in
      let d = head_tail (subst (λ x. Shapes x (type_of t (get_or ts (c - 1) 0) ∷ types_from t ts c)) r (subst (Shapes (row_from t base ps (c - 1))) u s)) in
      let y = first_types t ts c p g z in
      held_as (λ n. ways n (types_from t ts (c - 1)) (row_from t base ps (c - 1)))
      (λ n. more_in_lem d.0 {ts = types_from t ts c} {row = row_from t base ps c} (λ m. refl) n ∙ sym (ap₂ (ways n) u r))
      (f y.0 (λ n. ways n (types_from t ts c) (row_from t base ps c)) (below w d.1 y.1))

-- ---- the loops

pub record TypesAt (m : ℕ) (t ts k : List ℕ) (top c : ℕ) : Type 0 where
  pub lower : top ≤ c
  pub upper : c ≤ 128
  pub long : length k ≡ 128
  pub holds : TypesHold m t ts k c

pub record RowAt (m : ℕ) (t : List ℕ) (base : ℕ) (ps ts k : List ℕ) (top c : ℕ) : Type 0 where
  pub lower : top ≤ c
  pub upper : c ≤ 128
  pub long : length k ≡ 128
  pub holds : RowHolds m t base ps ts k c

-- at the end c is top
pub types_done : {m : ℕ} {t ts k : List ℕ} {top c : ℕ} → TypesAt m t ts k top c → c ≤ top → TypesHold m t ts k top
types_done {m} {t} {ts} {k} {top} {c} a h = let e : c ≡ top = omega (arith, a.lower) in subst (TypesHold m t ts k) e a.holds

pub row_done : {m : ℕ} {t : List ℕ} {base : ℕ} {ps ts k : List ℕ} {top c : ℕ} → RowAt m t base ps ts k top c → c ≤ top → RowHolds m t base ps ts k top
row_done {m} {t} {base} {ps} {ts} {k} {top} {c} a h = let e : c ≡ top = omega (arith, a.lower) in subst (RowHolds m t base ps ts k) e a.holds
