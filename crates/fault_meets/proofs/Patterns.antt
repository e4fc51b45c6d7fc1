-- The least value of a pattern, written.
use Prim.Native.Nat.{ℕ, ◌+◌, ◌≤◌}
use native.Mathlib.Omega.{arith}
use mathlib.Core.Path.{◌≡◌, refl, sym, ap, ◌∙◌, subst}
use mathlib.Core.Logic.{◌⊎◌, inl, inr}
use mathlib.Core.List.{List, [], ◌∷◌}
use Rattle.limits.specs.Limits.{max_nodes}
use Rattle.calculus.specs.Trees.{Ty, Leaf, unit_leaf, empty_leaf, Tag, left, right, Node, pair_node, element_node, Pat, pvar, pleaf, pinj, pnode, type_nodes}
use Rattle.calculus.specs.Letters.{leaf_letter, letter_of, node_letter, letters}
use Rattle.calculus.specs.Shapes.{Shape}
use Rattle.law_witnesses.specs.Seeking.{least_in}
use Rattle.area_cells.specs.Areas.{Prints}
use Rattle.area_cells.proofs.Writing.{prints_both}
use Rattle.run_values.specs.Texts.{letter_for}
use Rattle.run_patterns.proofs.Lines.{letter_other}
use Rattle.table_trees.specs.Unfolding.{cell_of, smaller_of, pattern_of}
use Rattle.table_trees.proofs.Cases.{Joins, pairs, elements}
use Rattle.table_trees.proofs.Lines.{is_left, is_right, is_pair, is_empty, is_element, is_unit}
use Rattle.fault_tallies.specs.Tallies.{part_of}
use Rattle.fault_tallies.proofs.Patterns.{eq_or_ne}
use Rattle.fault_meets.specs.Spelled.{SpellsLeast, SpellsIn}

-- ---- the letter of a kind

-- the letter of a kind whose number is known
pub letter_from : {k : ℕ} (n : ℕ) → k ≡ n → letter_for n ≡ letter_for k
letter_from n e = sym (ap letter_for e)

pub letter_unit : {k : ℕ} → (k ≡ 2 → ⊥) → (k ≡ 3 → ⊥) → (k ≡ 4 → ⊥) → (k ≡ 5 → ⊥) → (k ≡ 6 → ⊥) → 85 ≡ letter_for k
letter_unit {k} l r p n e = sym (letter_other k p l r n e)

-- ---- a P line that is no variable, with its letter

-- k is the kind of the line, b its letter
module _ (t : List ℕ) (base p : ℕ) {k b : ℕ} (e : k ≡ cell_of t (base + p) 1) (f : b ≡ letter_for k) where
  pub node_line : {q r : ℕ} → Joins k → q ≡ smaller_of (cell_of t (base + p) 2) p → r ≡ smaller_of (cell_of t (base + p) 3) p
      → (n : Node) × (pattern_of t base p ≡ pnode n (pattern_of t base q) (pattern_of t base r)) × (b ≡ node_letter n)
  node_line {q} {r} j g h = go (joined j)
    where
      joined : {m : ℕ} → Joins m → (m ≡ 4) ⊎ (m ≡ 6)
      joined pairs = inl refl
      joined elements = inr refl

      go : (k ≡ 4) ⊎ (k ≡ 6) → (n : Node) × (pattern_of t base p ≡ pnode n (pattern_of t base q) (pattern_of t base r)) × (b ≡ node_letter n)
      go (inl z) = (pair_node, is_pair t base p e z g h, f ∙ sym (letter_from 4 z))
      go (inr z) = (element_node, is_element t base p e z g h, f ∙ sym (letter_from 6 z))

  pub left_line : {q : ℕ} → k ≡ 2 → q ≡ smaller_of (cell_of t (base + p) 2) p → (pattern_of t base p ≡ pinj left (pattern_of t base q)) × (b ≡ letter_of left)
  left_line z g = (is_left t base p e z g, f ∙ sym (letter_from 2 z))

  pub right_line : {q : ℕ} → k ≡ 3 → q ≡ smaller_of (cell_of t (base + p) 2) p → (pattern_of t base p ≡ pinj right (pattern_of t base q)) × (b ≡ letter_of right)
  right_line z g = (is_right t base p e z g, f ∙ sym (letter_from 3 z))

  pub leaf_line : (k ≡ 1 → ⊥) → (k ≡ 4 → ⊥) → (k ≡ 6 → ⊥) → (k ≡ 2 → ⊥) → (k ≡ 3 → ⊥) → (n : Leaf) × (pattern_of t base p ≡ pleaf n) × (b ≡ leaf_letter n)
  leaf_line v c m l r = go (eq_or_ne k 5)
    where
      go : (k ≡ 5) ⊎ (k ≡ 5 → ⊥) → (n : Leaf) × (pattern_of t base p ≡ pleaf n) × (b ≡ leaf_letter n)
      go (inl z) = (empty_leaf, is_empty t base p e z, f ∙ sym (letter_from 5 z))
      go (inr n) = (unit_leaf, is_unit t base p e v l r c n m, f ∙ sym (letter_unit l r c n m))

-- ---- its least value

module _ {x : Pat} {a : Ty} {l : List ℕ} {at : ℕ} where
  pub in_var : {l' : List ℕ} {n end : ℕ} → x ≡ pvar n → SpellsLeast a l l' at end → SpellsIn x a l l' at end
  in_var {l'} {end = end} e w = subst (λ z. SpellsIn z a l l' at end) (sym e) (record { by = λ s h. w.by h })

  pub in_leaf : {l' : List ℕ} {b end : ℕ} (k : Leaf) → x ≡ pleaf k → b ≡ leaf_letter k → Prints l l' at end (b ∷ []) → SpellsIn x a l l' at end
  in_leaf {l'} {end = end} k e f w = subst (λ z. SpellsIn z a l l' at end) (sym e) (record { by = λ s h. subst (λ b. Prints l l' at end (b ∷ [])) f w })

  module _ {l₁ : List ℕ} {b next : ℕ} (w : Prints l l₁ at next (b ∷ [])) where
    pub in_tag : (s : Tag) {y : Pat} {d : Ty} {l₂ : List ℕ} {end : ℕ} → x ≡ pinj s y → b ≡ letter_of s → d ≡ part_of s a → SpellsIn y d l₁ l₂ next end
        → SpellsIn x a l l₂ at end
    in_tag s {y} {d} {l₂} {end} e f g i =
        subst (λ z. SpellsIn z a l l₂ at end) (sym e)
        (record { by = λ sh h. go s sh h (subst (λ c. SpellsIn y c l₁ l₂ next end) g i) (subst (λ c. Prints l l₁ at next (c ∷ [])) f w) })
      where
        go : {c : Ty} (s : Tag) → Shape (pinj s y) c → type_nodes c ≤ max_nodes → SpellsIn y (part_of s c) l₁ l₂ next end → Prints l l₁ at next (letter_of s ∷ [])
            → Prints l l₂ at end (letters (least_in (pinj s y) c))
        go left (Shape.inj sh) h k v = prints_both v (k.by sh (omega arith))
        go right (Shape.inj sh) h k v = prints_both v (k.by sh (omega arith))

    pub in_node : (k : Node) {y z : Pat} {c d : Ty} {l₂ l₃ : List ℕ} {middle end : ℕ} → x ≡ pnode k y z → b ≡ node_letter k → c ≡ part_of left a → d ≡ part_of right a
        → SpellsIn y c l₁ l₂ next middle → SpellsIn z d l₂ l₃ middle end → SpellsIn x a l l₃ at end
    in_node k {y} {z} {c} {d} {l₂} {l₃} {middle} {end} e f g g' i j =
        subst (λ u. SpellsIn u a l l₃ at end) (sym e)
        (record {
          by = λ sh h. go k sh h (subst (λ o. SpellsIn y o l₁ l₂ next middle) g i) (subst (λ o. SpellsIn z o l₂ l₃ middle end) g' j)
              (subst (λ o. Prints l l₁ at next (o ∷ [])) f w);
        })
      where
        go : {o : Ty} (k : Node) → Shape (pnode k y z) o → type_nodes o ≤ max_nodes → SpellsIn y (part_of left o) l₁ l₂ next middle
            → SpellsIn z (part_of right o) l₂ l₃ middle end → Prints l l₁ at next (node_letter k ∷ []) → Prints l l₃ at end (letters (least_in (pnode k y z) o))
        go pair_node (Shape.pair s u) h i j v = prints_both v (prints_both (i.by s (omega arith)) (j.by u (omega arith)))
        go element_node (Shape.cons s u) h i j v = prints_both v (prints_both (i.by s (omega arith)) (j.by u h))
