-- The sides of an iso over the rows of its clauses: patterns two by two, their weights and the sum of those, and the lowest refusal.
use Prim.Native.Nat.{ℕ, zero, suc, ◌+◌, ◌*◌, ◌-◌, ◌^◌, ◌≤◌, ◌<◌, min}
use native.Mathlib.Nat.{le_refl, sub-zero, suc-sub-suc}
use native.Mathlib.Omega.{arith}
use native.Mathlib.Numerals.{add-one}
use mathlib.Core.Path.{◌≡◌, refl, sym, ap, ap₂, ◌∙◌}
use mathlib.Core.Bool.{Bool, true, false, cond, ◌&&◌}
use mathlib.Core.Option.{Option, none, some}
use mathlib.Core.List.{List, [], ◌∷◌, map}
use lib.Dec.{eqb}
use lib.ListN.{length, get_or, drop, drop_of_length-le, length-drop, length-map}
use lib.Seq.{drop-cons, drop-length}
use lib.Pow.{pow_mono}
use borrow.Author.Tests.{eq-eqb, ne_eqb}
use Rattle.limits.specs.Limits.{max_tags, max_clauses, many_tags}
use Rattle.calculus.specs.Tools.{all, total}
use Rattle.calculus.specs.Trees.{Pat, left, right, tags}
use Rattle.calculus.specs.Refusals.{Refusal, iso_line, overlap, gap}
use Rattle.calculus.specs.Clauses.{clash, apart, weight, full_weight}
use Rattle.table_trees.specs.Unfolding.{cell_of, pattern_of}
use Rattle.table_walks.specs.InTable.{patterns_at, weight_at, sides_fault}
use Rattle.check_overlap.specs.Comparison.{compare}
use Rattle.check_overlap.proofs.Comparing.{compare_clash}

-- the patterns in field k of the clause rows from place i on
abbrev from : List ℕ → ℕ → ℕ → List ℕ → ℕ → List Pat
from t base k rows i = patterns_at t base k (drop i rows)

-- the first of them, where r is the row and q its number k
module _ (t : List ℕ) (base k : ℕ) (rows : List ℕ) (i : ℕ) {r q : ℕ} (below : i < length rows) (row : r ≡ get_or rows i 0) (field : q ≡ cell_of t r k) where
  from_next : from t base k rows i ≡ pattern_of t base q ∷ from t base k rows (suc i)
  from_next =
      ap (patterns_at t base k) (drop-cons rows i 0 below)
      ∙ ap (λ x. pattern_of t base x ∷ from t base k rows (suc i)) (sym (field ∙ ap (λ x. cell_of t x k) row))

from_end : (t : List ℕ) (base k : ℕ) (rows : List ℕ) (i : ℕ) → length rows ≤ i → from t base k rows i ≡ []
from_end t base k rows i h = ap (patterns_at t base k) (drop_of_length-le rows h)

-- ---- a pattern against the rest

-- what a loop over the places knows at place i: the rest decides
pub record Clashing (t : List ℕ) (base p k : ℕ) (rows : List ℕ) (i : ℕ) : Type 0 where
  pub rest : all (clash (pattern_of t base p)) (patterns_at t base k rows) ≡ all (clash (pattern_of t base p)) (from t base k rows i)

pub clashing_start : (t : List ℕ) (base p k : ℕ) (rows : List ℕ) → Clashing t base p k rows 0
clashing_start t base p k rows = record { rest = refl }

pub clashing_all : (t : List ℕ) (base p k : ℕ) (rows : List ℕ) (i : ℕ) → Clashing t base p k rows i → length rows ≤ i
    → true ≡ all (clash (pattern_of t base p)) (patterns_at t base k rows)
clashing_all t base p k rows i w h = sym (w.rest ∙ ap (all (clash (pattern_of t base p))) (from_end t base k rows i h))

module _ (t : List ℕ) (base p k : ℕ) (rows : List ℕ) (i : ℕ) {r q : ℕ} {b : Bool} (w : Clashing t base p k rows i) (below : i < length rows)
    (row : r ≡ get_or rows i 0) (field : q ≡ cell_of t r k) (test : b ≡ (compare (pattern_of t base p) (pattern_of t base q)).clash) where
  clashing_next : all (clash (pattern_of t base p)) (patterns_at t base k rows) ≡ (b && all (clash (pattern_of t base p)) (from t base k rows (suc i)))
  clashing_next =
      w.rest
      ∙ ap (all (clash (pattern_of t base p))) (from_next t base k rows i below row field)
      ∙ ap (λ x. x && all (clash (pattern_of t base p)) (from t base k rows (suc i))) (sym (test ∙ compare_clash (pattern_of t base p) (pattern_of t base q)))

  pub clashing_step : b ≡ true → Clashing t base p k rows (i + 1)
  clashing_step e = record {
    rest =
        clashing_next
        ∙ ap (λ x. x && all (clash (pattern_of t base p)) (from t base k rows (suc i))) e
        ∙ sym (ap (λ n. all (clash (pattern_of t base p)) (from t base k rows n)) (add-one i));
  }

  pub clashing_not : b ≡ false → false ≡ all (clash (pattern_of t base p)) (patterns_at t base k rows)
  clashing_not e = sym (clashing_next ∙ ap (λ x. x && all (clash (pattern_of t base p)) (from t base k rows (suc i))) e)

-- ---- two by two

-- what a loop over the places knows at place i: the rest decides
pub record Apart (t : List ℕ) (base k : ℕ) (rows : List ℕ) (i : ℕ) : Type 0 where
  pub rest : apart (patterns_at t base k rows) ≡ apart (from t base k rows i)

pub apart_start : (t : List ℕ) (base k : ℕ) (rows : List ℕ) → Apart t base k rows 0
apart_start t base k rows = record { rest = refl }

pub apart_all : (t : List ℕ) (base k : ℕ) (rows : List ℕ) (i : ℕ) → Apart t base k rows i → length rows ≤ i → true ≡ apart (patterns_at t base k rows)
apart_all t base k rows i w h = sym (w.rest ∙ ap apart (from_end t base k rows i h))

module _ (t : List ℕ) (base k : ℕ) (rows : List ℕ) (i : ℕ) {r p : ℕ} {b : Bool} (w : Apart t base k rows i) (below : i < length rows)
    (row : r ≡ get_or rows i 0) (field : p ≡ cell_of t r k) (test : b ≡ all (clash (pattern_of t base p)) (from t base k rows (i + 1))) where
  apart_next : apart (patterns_at t base k rows) ≡ (b && apart (from t base k rows (i + 1)))
  apart_next =
      w.rest
      ∙ ap apart (from_next t base k rows i below row field)
      ∙ sym (ap (λ n. all (clash (pattern_of t base p)) (from t base k rows n) && apart (from t base k rows n)) (add-one i))
      ∙ ap (λ x. x && apart (from t base k rows (i + 1))) (sym test)

  pub apart_step : b ≡ true → Apart t base k rows (i + 1)
  apart_step e = record { rest = apart_next ∙ ap (λ x. x && apart (from t base k rows (i + 1))) e }

  pub apart_not : b ≡ false → false ≡ apart (patterns_at t base k rows)
  apart_not e = sym (apart_next ∙ ap (λ x. x && apart (from t base k rows (i + 1))) e)

-- ---- the sum of weights

-- what the patterns of a side weigh together where they leave no gap
abbrev pub full : ℕ
full = 2 ^ max_tags

weight_counted : (k : ℕ) → weight_at (min many_tags k) ≡ weight_at k
weight_counted k = let same : 40 - min many_tags k ≡ 40 - k = omega arith in ap (λ n. 2 ^ n) same

weight_most : (k : ℕ) → weight_at k ≤ full
weight_most k = let short : 40 - k ≤ 40 = omega arith in pow_mono short

total_most : (ps : List Pat) → total (map weight ps) ≤ length ps * full
total_most [] = omega arith
total_most (p ∷ ps) = omega (arith, weight_most (tags p), total_most ps)

-- what a loop that walks down to place i knows: the sum is that of the patterns from i on
pub record Weighed (t : List ℕ) (base k : ℕ) (rows : List ℕ) (i sum : ℕ) : Type 0 where
  pub within : i ≤ length rows
  pub holds : sum ≡ total (map weight (from t base k rows i))

pub weighed_start : (t : List ℕ) (base k : ℕ) (rows : List ℕ) → Weighed t base k rows (length rows) 0
weighed_start t base k rows = record {
  within = le_refl (length rows);
  holds = sym (ap (λ l. total (map weight (patterns_at t base k l))) (drop-length rows));
}

pub weighed_all : (t : List ℕ) (base k : ℕ) (rows : List ℕ) (i sum : ℕ) → Weighed t base k rows i sum → i ≤ 0
    → sum ≡ total (map weight (patterns_at t base k rows))
weighed_all t base k rows i sum w h =
    let none_left : i ≡ 0 = omega arith in
    w.holds ∙ ap (λ n. total (map weight (from t base k rows n))) none_left

module _ (t : List ℕ) (base k : ℕ) (rows : List ℕ) (i sum : ℕ) {r p n x : ℕ} (w : Weighed t base k rows i sum) (some_left : 0 < i)
    (row : r ≡ get_or rows (i - 1) 0) (field : p ≡ cell_of t r k) (count : n ≡ min many_tags (tags (pattern_of t base p))) (one : x ≡ weight_at n) where
  weighed_one : x ≡ weight (pattern_of t base p)
  weighed_one = one ∙ ap weight_at count ∙ weight_counted (tags (pattern_of t base p))

  weighed_next : total (map weight (from t base k rows (i - 1))) ≡ weight (pattern_of t base p) + sum
  weighed_next =
      let below : i - 1 < length rows = omega (arith, w.within) in
      let next : suc (i - 1) ≡ i = omega arith in
      ap (λ l. total (map weight l)) (from_next t base k rows (i - 1) below row field)
      ∙ ap (λ m. weight (pattern_of t base p) + total (map weight (from t base k rows m))) next
      ∙ ap (λ m. weight (pattern_of t base p) + m) (sym w.holds)

  pub weighed_step : Weighed t base k rows (i - 1) (sum + x)
  weighed_step = record { within = omega (arith, w.within); holds = omega (arith, weighed_next, weighed_one) }

  pub weighed_fits : length rows ≤ max_clauses → sum + x < 2 ^ 64
  weighed_fits few =
      let long : length (from t base k rows i) ≡ length rows - i = length-map (drop i rows) (λ m. pattern_of t base (cell_of t m k)) ∙ length-drop i rows in
      omega (arith, w.holds, long, total_most (from t base k rows i), weighed_one, weight_most (tags (pattern_of t base p)))

-- ---- the lowest refusal

-- the refusal that four tests come to
abbrev lowest : Bool → Bool → Bool → Bool → Option Refusal
lowest a b f g = cond a (cond b (cond f (cond g none (some (gap iso_line right))) (some (gap iso_line left))) (some (overlap iso_line right))) (some (overlap iso_line left))

module _ (ls rs : List Pat) where
  lowest_sides : {a b f g : Bool} → apart ls ≡ a → apart rs ≡ b → full_weight ls ≡ f → full_weight rs ≡ g → lowest a b f g ≡ sides_fault ls rs
  unfolding sides_fault
  lowest_sides {a} {b} e f g h = sym (ap₂ (λ x y. lowest x y (full_weight ls) (full_weight rs)) e f ∙ ap₂ (λ x y. lowest a b x y) g h)

  pub overlaps_left : {a : Bool} → a ≡ apart ls → a ≡ false → some (overlap iso_line left) ≡ sides_fault ls rs
  overlaps_left e f = lowest_sides (sym e ∙ f) refl refl refl

  module _ {a : Bool} (e : a ≡ apart ls) (f : a ≡ true) where
    pub overlaps_right : {b : Bool} → b ≡ apart rs → b ≡ false → some (overlap iso_line right) ≡ sides_fault ls rs
    overlaps_right g h = lowest_sides (sym e ∙ f) (sym g ∙ h) refl refl

    module _ {b : Bool} (g : b ≡ apart rs) (h : b ≡ true) {m : ℕ} (l : m ≡ total (map weight ls)) where
      pub gap_left_lem : (m ≡ full → ⊥) → some (gap iso_line left) ≡ sides_fault ls rs
      gap_left_lem u = lowest_sides (sym e ∙ f) (sym g ∙ h) (ap (λ x. eqb x full) (sym l) ∙ ne_eqb m full u) refl

      module _ (u : m ≡ full) {n : ℕ} (r : n ≡ total (map weight rs)) where
        pub gap_right_lem : (n ≡ full → ⊥) → some (gap iso_line right) ≡ sides_fault ls rs
        gap_right_lem v =
            lowest_sides (sym e ∙ f) (sym g ∙ h) (ap (λ x. eqb x full) (sym l) ∙ eq-eqb m full u)
            (ap (λ x. eqb x full) (sym r) ∙ ne_eqb n full v)

        pub no_fault : n ≡ full → none ≡ sides_fault ls rs
        no_fault v =
            lowest_sides (sym e ∙ f) (sym g ∙ h) (ap (λ x. eqb x full) (sym l) ∙ eq-eqb m full u)
            (ap (λ x. eqb x full) (sym r) ∙ eq-eqb n full v)
