-- The facts of a line from those of the lines that it names, and the loops that find them.
use Prim.Native.Nat.{ℕ, suc, ◌+◌, ◌-◌, ◌≤◌, ◌<◌, min, max}
use native.Mathlib.Nat.{le_refl, eq-or-lt_of_le}
use native.Mathlib.Omega.{arith}
use mathlib.Core.Path.{◌≡◌, refl, sym, ap, ◌∙◌}
use mathlib.Core.Bool.{Bool, true, false, cond, true≢false}
use mathlib.Core.Logic.{◌⊎◌, inl, inr}
use mathlib.Core.List.{List}
use lib.Dec.{eqb, ltb}
use lib.ListN.{length, get_or, set, length-set}
use lib.Seq.{get_or-set_same, get_or-set_other}
use borrow.Author.Tests.{ltb-true, lt-ltb, le-ltb, eqb-true, eq-eqb}
use Rattle.limits.specs.Limits.{max_lines, many_tags}
use Rattle.calculus.specs.Trees.{tags}
use Rattle.table_trees.specs.Unfolding.{cell_of, smaller_of, type_of, pattern_of}
use Rattle.table_trees.proofs.Unfolding.{type_past, pattern_past}
use Rattle.table_trees.proofs.Lines.{line_sum, line_product, line_list, line_other}
use Rattle.table_trees.proofs.Cases.{Injects}
use Rattle.table_sizes.proofs.Counts.{pattern_tags_inj, pattern_tags_pair, pattern_tags_element}
use Rattle.check_facts.specs.Facts.{width, many_places, Widths, Tagged, Facts}

-- ---- the fact of a named line

pub told_smaller : {a i x v : ℕ} → a < i → v ≡ x → v ≡ cond (ltb a i) x 0
told_smaller {a} {i} {x} h e = e ∙ sym (ap (λ b. cond b x 0) (lt-ltb a i h))

pub told_not : {a i : ℕ} (x : ℕ) → i ≤ a → 0 ≡ cond (ltb a i) x 0
told_not {a} {i} x h = sym (ap (λ b. cond b x 0) (le-ltb a i h))

named_width : (t f : List ℕ) (i : ℕ) {v : ℕ} (a : ℕ) → Widths t f i → v ≡ cond (ltb a i) (get_or f (0 + a) 0) 0
    → v ≡ min many_places (width (type_of t (smaller_of a i)))
named_width t f i {v} a w e = go (ltb a i) refl e
  where
    go : (b : Bool) → ltb a i ≡ b → v ≡ cond b (get_or f (0 + a) 0) 0 → v ≡ min many_places (width (type_of t (cond b a max_lines)))
    go true q d = d ∙ ap (λ n. get_or f n 0) (omega arith) ∙ w.widths a (ltb-true a i q)
    go false q d = d ∙ sym (ap (λ y. min many_places (width y)) (type_past t max_lines (le_refl max_lines)))

named_tags : (t : List ℕ) (base : ℕ) (f : List ℕ) (j : ℕ) {v : ℕ} (a : ℕ) → Tagged t base f j → v ≡ cond (ltb a j) (get_or f (base + a) 0) 0
    → v ≡ min many_tags (tags (pattern_of t base (smaller_of a j)))
named_tags t base f j {v} a w e = go (ltb a j) refl e
  where
    go : (b : Bool) → ltb a j ≡ b → v ≡ cond b (get_or f (base + a) 0) 0 → v ≡ min many_tags (tags (pattern_of t base (cond b a max_lines)))
    go true q d = d ∙ w.tagged a (ltb-true a j q)
    go false q d = d ∙ sym (ap (λ y. min many_tags (tags y)) (pattern_past t base max_lines (omega arith)))

-- ---- the fact of a line: k is its kind, a and b are the lines that it names, m and n what is told of those

module _ (t f : List ℕ) (i : ℕ) {k : ℕ} (w : Widths t f i) (e : k ≡ cell_of t i 1) where
  module _ {a b m n : ℕ} (p : a ≡ cell_of t i 2) (q : m ≡ cond (ltb a i) (get_or f (0 + a) 0) 0)
      (u : b ≡ cell_of t i 3) (v : n ≡ cond (ltb b i) (get_or f (0 + b) 0) 0) where
    first : m ≡ min many_places (width (type_of t (smaller_of a i)))
    first = named_width t f i a w q

    second : n ≡ min many_places (width (type_of t (smaller_of b i)))
    second = named_width t f i b w v

    pub width_sum : {r : ℕ} → k ≡ 1 → r ≡ min many_places (suc (max m n)) → r ≡ min many_places (width (type_of t i))
    width_sum z h =
        let whole : width (type_of t i) ≡ suc (max (width (type_of t (smaller_of a i))) (width (type_of t (smaller_of b i)))) =
        ap width (line_sum t i e (ap (λ x. smaller_of x i) p) (ap (λ x. smaller_of x i) u) z) in
        omega (arith, whole, first, second)

    pub width_product : {r : ℕ} → k ≡ 2 → r ≡ min many_places (m + n) → r ≡ min many_places (width (type_of t i))
    width_product z h =
        let whole : width (type_of t i) ≡ width (type_of t (smaller_of a i)) + width (type_of t (smaller_of b i)) =
        ap width (line_product t i e (ap (λ x. smaller_of x i) p) (ap (λ x. smaller_of x i) u) z) in
        omega (arith, whole, first, second)

  -- a unit, a list, or a number that is no kind
  pub width_other : (k ≡ 1 → ⊥) → (k ≡ 2 → ⊥) → 0 ≡ min many_places (width (type_of t i))
  width_other x y = by (eqb k 3) refl
    where
      by : (b : Bool) → eqb k 3 ≡ b → 0 ≡ min many_places (width (type_of t i))
      by true z = sym (ap (λ a. min many_places (width a)) (line_list t i e refl (eqb-true k 3 z)))
      by false z = sym (ap (λ a. min many_places (width a)) (line_other t i e x y (λ h. true≢false (sym (eq-eqb k 3 h) ∙ z))))

module _ (t : List ℕ) (base : ℕ) (f : List ℕ) (j : ℕ) {k : ℕ} (w : Tagged t base f j) (e : k ≡ cell_of t (base + j) 1) where
  module _ {a m : ℕ} (p : a ≡ cell_of t (base + j) 2) (q : m ≡ cond (ltb a j) (get_or f (base + a) 0) 0) where
    pub tags_inj : {r : ℕ} → Injects k → r ≡ min many_tags (1 + m) → r ≡ min many_tags (tags (pattern_of t base j))
    tags_inj h r = pattern_tags_inj t base j e h p refl (named_tags t base f j a w q) r

    pub tags_pair : {b n r : ℕ} → k ≡ 4 → b ≡ cell_of t (base + j) 3 → n ≡ cond (ltb b j) (get_or f (base + b) 0) 0 → r ≡ min many_tags (m + n)
        → r ≡ min many_tags (tags (pattern_of t base j))
    tags_pair {b} h u v r = pattern_tags_pair t base j e h p refl u refl (named_tags t base f j a w q) (named_tags t base f j b w v) r

    pub tags_element : {b n o r : ℕ} → k ≡ 6 → b ≡ cell_of t (base + j) 3 → n ≡ cond (ltb b j) (get_or f (base + b) 0) 0 → o ≡ min many_tags (1 + n)
        → r ≡ min many_tags (m + o) → r ≡ min many_tags (tags (pattern_of t base j))
    tags_element {b} h u v o r = pattern_tags_element t base j e h p refl u refl (named_tags t base f j a w q) (named_tags t base f j b w v) o r

-- ---- the loops

small : {v n : ℕ} (x : ℕ) → n < 256 → v ≡ min n x → v < 256
small x h e = omega arith

pub widths_start : (t f : List ℕ) → Widths t f 0
widths_start t f = record { widths = λ i h. absurd (omega arith) }

pub widths_step : (t f : List ℕ) (i : ℕ) {v r : ℕ} → Widths t f i → i < length f → v ≡ min many_places (width (type_of t i)) → (v < 256 → r ≡ v)
    → Widths t (set f i r) (i + 1)
widths_step t f i {v} {r} w l e b = record { widths = λ j h. at j (eq-or-lt_of_le h) }
  where
    at : (j : ℕ) → (suc j ≡ i + 1) ⊎ (suc j < i + 1) → get_or (set f i r) j 0 ≡ min many_places (width (type_of t j))
    at j (inl q) =
        let s : j ≡ i = omega arith in
        ap (λ n. get_or (set f i r) n 0) s ∙ get_or-set_same f i r 0 l ∙ b (small _ (omega arith) e) ∙ e ∙ ap (λ n. min many_places (width (type_of t n))) (sym s)
    at j (inr q) = get_or-set_other f i j r 0 (λ z. absurd (omega arith)) ∙ w.widths j (omega arith)

pub widths_kept : (t f : List ℕ) (base j r : ℕ) → Widths t f base → Widths t (set f (base + j) r) base
widths_kept t f base j r w = record { widths = λ i h. get_or-set_other f (base + j) i r 0 (λ z. absurd (omega arith)) ∙ w.widths i h }

pub tagged_start : (t : List ℕ) (base : ℕ) (f : List ℕ) → Tagged t base f 0
tagged_start t base f = record { tagged = λ i h. absurd (omega arith) }

pub tagged_step : (t : List ℕ) (base : ℕ) (f : List ℕ) (i : ℕ) {v r : ℕ} → Tagged t base f i → base + i < length f
    → v ≡ min many_tags (tags (pattern_of t base i)) → (v < 256 → r ≡ v) → Tagged t base (set f (base + i) r) (i + 1)
tagged_step t base f i {v} {r} w l e b = record { tagged = λ j h. at j (eq-or-lt_of_le h) }
  where
    at : (j : ℕ) → (suc j ≡ i + 1) ⊎ (suc j < i + 1) → get_or (set f (base + i) r) (base + j) 0 ≡ min many_tags (tags (pattern_of t base j))
    at j (inl q) =
        let s : j ≡ i = omega arith in
        ap (λ n. get_or (set f (base + i) r) (base + n) 0) s ∙ get_or-set_same f (base + i) r 0 l ∙ b (small _ (omega arith) e) ∙ e
        ∙ ap (λ n. min many_tags (tags (pattern_of t base n))) (sym s)
    at j (inr q) = get_or-set_other f (base + i) (base + j) r 0 (λ z. absurd (omega arith)) ∙ w.tagged j (omega arith)

-- what the loops know
pub record Widening (t f₀ f : List ℕ) (n i : ℕ) : Type 0 where
  pub long : length f ≡ length f₀
  pub within : n ≤ length f
  pub found : Widths t f i

pub record Tagging (t f₀ f : List ℕ) (base n j : ℕ) : Type 0 where
  pub long : length f ≡ length f₀
  pub within : base + n ≤ length f
  pub kept : Widths t f base
  pub found : Tagged t base f j

pub widening_step : (t f₀ f : List ℕ) (n i : ℕ) {v r : ℕ} → Widening t f₀ f n i → i < n → v ≡ min many_places (width (type_of t i)) → (v < 256 → r ≡ v)
    → Widening t f₀ (set f i r) n (i + 1)
widening_step t f₀ f n i {v} {r} w l e b = record {
  long = length-set f i r ∙ w.long;
  within = omega (arith, w.within, length-set f i r);
  found = widths_step t f i w.found (omega (arith, w.within)) e b;
}

pub tagging_step : (t f₀ f : List ℕ) (base n j : ℕ) {v r : ℕ} → Tagging t f₀ f base n j → j < n → v ≡ min many_tags (tags (pattern_of t base j))
    → (v < 256 → r ≡ v) → Tagging t f₀ (set f (base + j) r) base n (j + 1)
tagging_step t f₀ f base n j {v} {r} w l e b = record {
  long = length-set f (base + j) r ∙ w.long;
  within = omega (arith, w.within, length-set f (base + j) r);
  kept = widths_kept t f base j r w.kept;
  found = tagged_step t base f j w.found (omega (arith, w.within)) e b;
}

widths_less : {t f : List ℕ} {n m : ℕ} → m ≤ n → Widths t f n → Widths t f m
widths_less h w = record { widths = λ i l. w.widths i (omega arith) }

pub widening_all : {t f₀ f : List ℕ} {n i : ℕ} → Widening t f₀ f n i → n ≤ i → Widths t f n
widening_all w h = widths_less h w.found

pub tagging_all : {t f₀ f : List ℕ} {base n j : ℕ} → Tagging t f₀ f base n j → n ≤ j → Tagged t base f n
tagging_all w h = record { tagged = λ i l. w.found.tagged i (omega arith) }

-- ---- all facts

pub facts_all : {t f : List ℕ} {base n m : ℕ} → length f ≡ m → base ≤ m → n ≡ m - base → Widths t f base → Tagged t base f n → Facts t base f
facts_all e h d w g = record { widths = λ i l k. w.widths i l; tagged = λ j l. g.tagged j (omega arith) }

pub facts_short : {t f : List ℕ} {base m : ℕ} → length f ≡ m → m < base → Widths t f m → Facts t base f
facts_short e h w = record { widths = λ i l k. w.widths i (omega arith); tagged = λ j l. absurd (omega arith) }
