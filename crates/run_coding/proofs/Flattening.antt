-- A P line's numbers, written in prefix order: each node's, then those of its parts.
use Prim.Native.Nat.{ℕ, ◌+◌, ◌%◌, ◌≤◌, ◌<◌}
use native.Mathlib.Omega.{arith}
use mathlib.Core.Path.{◌≡◌, refl, sym, ap, ap₂, ◌∙◌, subst}
use mathlib.Core.List.{List, [], ◌∷◌, ◌++◌}
use lib.ListN.{length, set, take, length-append}
use lib.Seq.{sets, length-sets, take-take, take-set-le}
use Rattle.std.specs.Prelude.{Option as Maybe, Some, None}
use Rattle.calculus.specs.Trees.{Pat, pleaf, pvar, pinj, pnode}
use Rattle.area_cells.proofs.Writing.{sets_append}
use Rattle.table_trees.specs.Unfolding.{cell_of, smaller_of, pattern_of}
use Rattle.table_trees.proofs.Unfolding.{pattern_var, pattern_call, rank}
use Rattle.table_trees.proofs.Cases as cases
use Rattle.table_trees.proofs.Cases.{Injects, Joins}
use Rattle.run_values.specs.Texts.{letter_for}
use Rattle.run_patterns.proofs.Lines.{leaf_line, inj_line, node_line}
use Rattle.run_coding.specs.Coded.{Stored, NumberPut, Flattened, Stopped}

-- ---- numbers one after the other

-- what is before a place stays where only what lies behind is written
pub front_kept : {xs code c₁ : List ℕ} (c₂ : List ℕ) {at m : ℕ} → Stored xs code c₁ at m → take m c₂ ≡ take m c₁ → take at c₂ ≡ take at code
front_kept {code = code} {c₁} c₂ {at} {m} w e =
    let p = w.place in sym (take-take at m c₂ (omega (arith, p))) ∙ ap (take at) e ∙ take-take at m c₁ (omega (arith, p)) ∙ w.before

stored_both : {xs bs code c₁ c₂ : List ℕ} {at m r : ℕ} → Stored xs code c₁ at m → Stored bs c₁ c₂ m r → Stored (xs ++ bs) code c₂ at r
stored_both {xs} {bs} {code} {c₁} {c₂} {at} {m} {r} w v =
    let p = w.place in
    let q = v.place in
    let both = length-append xs bs in
    let l = ap length w.area ∙ length-sets code at xs in
    let h = v.fits in
    record {
      before = front_kept c₂ w v.before;
      area = v.area ∙ ap₂ (λ c k. sets c k bs) w.area p ∙ sym (sets_append xs bs code at);
      place = omega (arith, p, q, both);
      fits = omega (arith, h, l);
      near = v.near;
    }

pub stored_one : {code code' : List ℕ} {at v : ℕ} → at < length code → at < 65535 → code' ≡ set code at v → Stored (v ∷ []) code code' at (at + 1)
stored_one {code} {code'} {at} {v} h n e =
    record { before = ap (take at) e ∙ take-set-le at code at v (omega arith); area = e; place = refl; fits = omega arith; near = omega arith }

-- ---- patterns

pub flat_var : (n : ℕ) {v : ℕ} (at : ℕ) (code code' : List ℕ) (r : Maybe ℕ) → n < 32 → v ≡ n % 65536 → NumberPut code code' at v r → Flattened (pvar n) code code' at r
flat_var n at code code' None h e w = w
flat_var n {v} at code code' (Some r) h e w =
    let is : v ≡ n = omega (arith, e) in (subst (λ x. Stored (x ∷ []) code code' at r) is w, h)

-- the number behind the last one
pub flat_stopped : (p : Pat) {code c₁ : List ℕ} (c₂ : List ℕ) {at m : ℕ} (r : Maybe ℕ) → Flattened p code c₁ at (Some m) → NumberPut c₁ c₂ m 128 r → Stopped p code c₂ at r
flat_stopped p c₂ None f w = front_kept c₂ f.0 w
flat_stopped p c₂ (Some r) f w = (stored_both f.0 w, f.1)

-- ---- a P line's last part, written by the same loop

-- what line i's numbers from place m on are for line j's
abbrev pub Leads : (t : List ℕ) (base j : ℕ) (code : List ℕ) (at i : ℕ) (c₁ : List ℕ) (m : ℕ) → Type 0
Leads t base j code at i c₁ m = (c₂ : List ℕ) (r : Maybe ℕ) → Flattened (pattern_of t base i) c₁ c₂ m r → Flattened (pattern_of t base j) code c₂ at r

-- and what it names ranks no higher
pub part_ranks : (t : List ℕ) (base i u m : ℕ) {k a : ℕ} → k ≡ cell_of t (base + i) 1 → (k ≡ 0 → ⊥) → a ≡ smaller_of u i → rank i ≤ m → rank a ≤ m
part_ranks t base i u m e n s h = let l = pattern_call t base i u refl e n s in omega (arith, l, h)

-- ---- P lines: k is the kind, b its letter, a and c the lines that line j names

module _ (t : List ℕ) (base j : ℕ) (code : List ℕ) (at : ℕ) {k : ℕ} (e : k ≡ cell_of t (base + j) 1) where
  as_line : (p : Pat) (code' : List ℕ) (r : Maybe ℕ) → pattern_of t base j ≡ p → Flattened p code code' at r → Flattened (pattern_of t base j) code code' at r
  as_line p code' r h w = subst (λ p. Flattened p code code' at r) (sym h) w

  pub flatten_variable : (x : ℕ) (code' : List ℕ) (r : Maybe ℕ) → k ≡ 1 → x ≡ cell_of t (base + j) 2 → Flattened (pvar x) code code' at r → Flattened (pattern_of t base j) code code' at r
  flatten_variable x code' r z f w = as_line (pvar x) code' r (pattern_var t base j (sym e ∙ z) ∙ sym (ap pvar f)) w

  module _ {b m : ℕ} {c₁ : List ℕ} (f : b ≡ letter_for k) (w : NumberPut code c₁ at b (Some m)) where
    one : {x : ℕ} → letter_for k ≡ x → Stored (x ∷ []) code c₁ at m
    one y = subst (λ v. Stored (v ∷ []) code c₁ at m) (f ∙ y) w

    pub flatten_leaf : (k ≡ 1 → ⊥) → cases.Leaf k → Flattened (pattern_of t base j) code c₁ at (Some m)
    flatten_leaf n i = let (x, y, h) = leaf_line t base j e n i in as_line (pleaf x) c₁ (Some m) h (one y, tt)

    module _ {a : ℕ} (n : a ≡ smaller_of (cell_of t (base + j) 2) j) (c₂ : List ℕ) where
      pub flatten_tag : (r : Maybe ℕ) → Flattened (pattern_of t base a) c₁ c₂ m r → Injects k → Flattened (pattern_of t base j) code c₂ at r
      flatten_tag None g u = front_kept c₂ w g
      flatten_tag (Some r) g u = let (x, y, h) = inj_line t base j e n u in as_line (pinj x (pattern_of t base a)) c₂ (Some r) h (stored_both (one y) g.0, g.1)

      pub flatten_node : {c i : ℕ} (c₃ : List ℕ) (r : Maybe ℕ) → Flattened (pattern_of t base a) c₁ c₂ m (Some i) → Joins k → c ≡ smaller_of (cell_of t (base + j) 3) j
          → Flattened (pattern_of t base c) c₂ c₃ i r → Flattened (pattern_of t base j) code c₃ at r
      flatten_node c₃ None g u d v = front_kept c₃ w (front_kept c₃ g.0 v)
      flatten_node {c} c₃ (Some r) g u d v =
          let (x, y, h) = node_line t base j e n d u in as_line (pnode x (pattern_of t base a) (pattern_of t base c)) c₃ (Some r) h (stored_both (one y) (stored_both g.0 v.0), (g.1, v.1))
