-- The letters of a pattern with its variables' letters put in, written behind all of those.
use Prim.Native.Nat.{ℕ, suc, ◌+◌, ◌≤◌}
use native.Mathlib.Omega.{arith}
use mathlib.Core.Path.{◌≡◌, sym, ap, ◌∙◌, subst}
use mathlib.Core.Bool.{cond}
use mathlib.Core.List.{List, ◌∷◌, ◌++◌}
use lib.Dec.{ltb}
use lib.ListN.{length, set, take, length-append}
use lib.Seq.{take-set-le}
use Rattle.calculus.specs.Trees.{Leaf, Tag, Node, Pat, pleaf, pvar, pinj, pnode}
use Rattle.calculus.specs.Letters.{leaf_letter, letter_of, node_letter}
use Rattle.area_cells.specs.Areas.{Writes}
use Rattle.area_cells.proofs.Writing.{writes_one, writes_both, writes_as}
use Rattle.table_trees.specs.Unfolding.{cell_of, smaller_of, pattern_of}
use Rattle.table_trees.proofs.Unfolding.{pattern_var}
use Rattle.table_trees.proofs.Cases as cases
use Rattle.table_trees.proofs.Cases.{Injects, Joins}
use Rattle.run_values.specs.Texts.{letter_for, Below, range_of, built}
use Rattle.run_patterns.proofs.Lines.{leaf_line, inj_line, node_line}
use Rattle.run_values.proofs.Copying.{put_place}
use Rattle.run_values.proofs.Agreeing.{take_sets}

-- the area l is l' once p is written from place `at` on, `end` the place behind it
abbrev pub Builds : List ℕ → List ℕ → List ℕ → ℕ → ℕ → Pat → Type 0
Builds vars l l' at end p = (top : ℕ) → Below vars top → top ≤ at → Writes l l' at end (built p (take top l) vars)

-- one byte written
abbrev Puts : List ℕ → List ℕ → ℕ → ℕ → ℕ → Type 0
Puts l l' at end b = (l' ≡ set l at b) × (end ≡ cond (ltb at (length l)) (suc at) at)

module _ {vars l : List ℕ} {at : ℕ} where
  -- unit and empty
  builds_leaf : (u : Leaf) {l' : List ℕ} {r : ℕ} → Puts l l' at r (leaf_letter u) → Builds vars l l' at r (pleaf u)
  builds_leaf u w top b h = writes_one w.0 w.1

  -- the first letter, then the rest
  builds_inj : (t : Tag) (p : Pat) {l₁ l₂ : List ℕ} {m r : ℕ} → Puts l l₁ at m (letter_of t) → Builds vars l₁ l₂ m r p → Builds vars l l₂ at r (pinj t p)
  builds_inj t p w f top b h =
      let place = put_place l at w.1 in
      writes_both (writes_one w.0 w.1)
      (writes_as (ap (λ s. built p s vars) (ap (take top) w.0 ∙ take-set-le top l at (letter_of t) h)) (f top b (omega arith)))

  -- a pair and an element: the letter, the first part, the second part
  builds_node : (k : Node) (p q : Pat) {l₁ l₂ l₃ : List ℕ} {m n r : ℕ} → Puts l l₁ at m (node_letter k) → Builds vars l₁ l₂ m n p → length l₃ ≡ length l₂ → Builds vars l₂ l₃ n r q
      → Builds vars l l₃ at r (pnode k p q)
  builds_node k p q {l₁} {l₂} {l₃} {m} {n} {r} w f same g top b h =
      record { kept = same ∙ before.kept; area = λ y. (whole y).area y; place = λ y. (whole y).place y }
    where
      -- the letter and the first part
      before : Writes l l₂ at n (node_letter k ∷ built p (take top l) vars)
      before =
          let place = put_place l at w.1 in
          writes_both (writes_one w.0 w.1)
          (writes_as (ap (λ x. built p x vars) (ap (take top) w.0 ∙ take-set-le top l at (node_letter k) h)) (f top b (omega arith)))

      fits : at + length (node_letter k ∷ (built p (take top l) vars ++ built q (take top l) vars)) ≤ length l → at + length (node_letter k ∷ built p (take top l) vars) ≤ length l
      fits y = omega (arith, length-append (built p (take top l) vars) (built q (take top l) vars))

      -- the second part, where all of it fits
      whole : at + length (node_letter k ∷ (built p (take top l) vars ++ built q (take top l) vars)) ≤ length l
          → Writes l l₃ at r (node_letter k ∷ (built p (take top l) vars ++ built q (take top l) vars))
      whole y =
          let place = before.place (fits y) in
          let still : take top l₂ ≡ take top l =
          ap (take top) (before.area (fits y)) ∙ take_sets l (node_letter k ∷ built p (take top l) vars) at top h in
          writes_both before (writes_as (ap (λ x. built q x vars) still) (g top b (omega arith)))

-- ---- P lines: k is the kind, b its letter, a and c the lines that line j names

module _ (t : List ℕ) (base j : ℕ) {vars l : List ℕ} {at k : ℕ} (e : k ≡ cell_of t (base + j) 1) where
  -- what holds of the tree that line j unfolds to
  as_line : {p : Pat} {l' : List ℕ} {r : ℕ} → pattern_of t base j ≡ p → Builds vars l l' at r p → Builds vars l l' at r (pattern_of t base j)
  as_line {l'} {r} e w = subst (λ p. Builds vars l l' at r p) (sym e) w

  -- a variable
  pub build_variable : {x r : ℕ} {l' : List ℕ} → k ≡ 1 → x ≡ cell_of t (base + j) 2 → ((top : ℕ) → Below vars top → top ≤ at → Writes l l' at r (range_of (take top l) vars x))
      → Builds vars l l' at r (pattern_of t base j)
  build_variable z f w = as_line (pattern_var t base j (sym e ∙ z) ∙ sym (ap pvar f)) w

  module _ {b m : ℕ} {l₁ : List ℕ} (f : b ≡ letter_for k) (w : Puts l l₁ at m b) where
    -- a unit, an empty list, or a number that is no kind
    pub build_leaf : (k ≡ 1 → ⊥) → cases.Leaf k → Builds vars l l₁ at m (pattern_of t base j)
    build_leaf n i = let (x, y, h) = leaf_line t base j e n i in as_line h (builds_leaf x (subst (Puts l l₁ at m) (f ∙ y) w))

    module _ {a : ℕ} (n : a ≡ smaller_of (cell_of t (base + j) 2) j) {l₂ : List ℕ} {i : ℕ} (g : Builds vars l₁ l₂ m i (pattern_of t base a)) where
      -- left and right
      pub build_tag : Injects k → Builds vars l l₂ at i (pattern_of t base j)
      build_tag o = let (x, y, h) = inj_line t base j e n o in as_line h (builds_inj x (pattern_of t base a) (subst (Puts l l₁ at m) (f ∙ y) w) g)

      -- a pair and an element
      pub build_node : {c r : ℕ} {l₃ : List ℕ} → Joins k → c ≡ smaller_of (cell_of t (base + j) 3) j → length l₃ ≡ length l₂
          → Builds vars l₂ l₃ i r (pattern_of t base c) → Builds vars l l₃ at r (pattern_of t base j)
      build_node {c} o d same v =
          let (x, y, h) = node_line t base j e n d o in
          as_line h (builds_node x (pattern_of t base a) (pattern_of t base c) (subst (Puts l l₁ at m) (f ∙ y) w) g same v)
