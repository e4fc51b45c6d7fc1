-- P lines that are no variables, by their kinds: the letter of the kind, and the tree above the lines a and c that the line names.
use Prim.Native.Nat.{ℕ, zero, suc, ◌+◌, ◌≤◌}
use native.Mathlib.Omega.{arith}
use mathlib.Core.Path.{◌≡◌, refl, ap, ap₂, ◌∙◌}
use mathlib.Core.Bool.{cond}
use mathlib.Core.Logic.{◌⊎◌, inl, inr}
use mathlib.Core.List.{List}
use lib.Dec.{eqb}
use borrow.Author.Tests.{ne_eqb}
use Rattle.calculus.specs.Trees as trees
use Rattle.calculus.specs.Trees.{unit_leaf, empty_leaf, Tag, left, right, Node, pair_node, element_node, pleaf, pinj, pnode}
use Rattle.calculus.specs.Letters.{leaf_letter, letter_of, node_letter}
use Rattle.table_trees.specs.Unfolding.{cell_of, smaller_of, pattern_of}
use Rattle.table_trees.proofs.Cases.{Leaf, leaf_beyond, Injects, lefts, rights, Joins, pairs, elements}
use Rattle.table_trees.proofs.Lines.{is_left, is_right, is_pair, is_empty, is_element, is_unit}
use Rattle.run_values.specs.Texts.{letter_for}

-- a kind other than left, right, pair, empty and element has the letter of a unit
pub letter_other : (k : ℕ) → (k ≡ 4 → ⊥) → (k ≡ 2 → ⊥) → (k ≡ 3 → ⊥) → (k ≡ 5 → ⊥) → (k ≡ 6 → ⊥) → letter_for k ≡ 85
letter_other k a b c d e =
    ap₂ (λ x y. cond x 80 (cond y 76 (cond (eqb k 3) 82 (cond (eqb k 5) 78 (cond (eqb k 6) 75 85))))) (ne_eqb k 4 a) (ne_eqb k 2 b)
    ∙ ap₂ (λ x y. cond x 82 (cond y 78 (cond (eqb k 6) 75 85))) (ne_eqb k 3 c) (ne_eqb k 5 d)
    ∙ ap (λ x. cond x 75 85) (ne_eqb k 6 e)

-- every kind is one of these
pub kinds_of : (k : ℕ) → Leaf k ⊎ (Injects k ⊎ Joins k)
kinds_of zero = inl Leaf.unit
kinds_of (suc zero) = inl Leaf.var
kinds_of (suc (suc zero)) = inr (inl lefts)
kinds_of (suc (suc (suc zero))) = inr (inl rights)
kinds_of (suc (suc (suc (suc zero)))) = inr (inr pairs)
kinds_of (suc (suc (suc (suc (suc zero))))) = inl Leaf.empty
kinds_of (suc (suc (suc (suc (suc (suc zero)))))) = inr (inr elements)
kinds_of (suc (suc (suc (suc (suc (suc (suc k))))))) = inl (Leaf.other k)

-- neither left nor right nor one that joins two parts
pub leaf_high : (k : ℕ) → 4 ≤ k → ((k ≡ 4) ⊎ (k ≡ 6) → ⊥) → Leaf k
leaf_high k h n = leaf_beyond k h (λ e. n (inl e)) (λ e. n (inr e))

-- a unit, an empty list, or a number that is no kind
pub leaf_line : (t : List ℕ) (base j : ℕ) {k : ℕ} → k ≡ cell_of t (base + j) 1 → (k ≡ 1 → ⊥) → Leaf k
    → (l : trees.Leaf) × (letter_for k ≡ leaf_letter l) × (pattern_of t base j ≡ pleaf l)
leaf_line t base j e n Leaf.unit =
    (unit_leaf, refl, is_unit t base j e n (λ z. absurd (omega arith)) (λ z. absurd (omega arith)) (λ z. absurd (omega arith)) (λ z. absurd (omega arith)) (λ z. absurd (omega arith)))
leaf_line t base j e n Leaf.var = absurd (n refl)
leaf_line t base j e n Leaf.empty = (empty_leaf, refl, is_empty t base j e refl)
leaf_line t base j e n (Leaf.other k) = (
  unit_leaf,
  letter_other (suc (suc (suc (suc (suc (suc (suc k))))))) (λ z. absurd (omega arith)) (λ z. absurd (omega arith)) (λ z. absurd (omega arith)) (λ z. absurd (omega arith)) (λ z. absurd (omega arith)),
  is_unit t base j e n (λ z. absurd (omega arith)) (λ z. absurd (omega arith)) (λ z. absurd (omega arith)) (λ z. absurd (omega arith)) (λ z. absurd (omega arith)),
)

-- left and right
pub inj_line : (t : List ℕ) (base j : ℕ) {k a : ℕ} → k ≡ cell_of t (base + j) 1 → a ≡ smaller_of (cell_of t (base + j) 2) j → Injects k
    → (s : Tag) × (letter_for k ≡ letter_of s) × (pattern_of t base j ≡ pinj s (pattern_of t base a))
inj_line t base j e f lefts = (left, refl, is_left t base j e refl f)
inj_line t base j e f rights = (right, refl, is_right t base j e refl f)

-- a pair, and an element before a list
pub node_line : (t : List ℕ) (base j : ℕ) {k a c : ℕ} → k ≡ cell_of t (base + j) 1 → a ≡ smaller_of (cell_of t (base + j) 2) j → c ≡ smaller_of (cell_of t (base + j) 3) j → Joins k
    → (m : Node) × (letter_for k ≡ node_letter m) × (pattern_of t base j ≡ pnode m (pattern_of t base a) (pattern_of t base c))
node_line t base j e f g pairs = (pair_node, refl, is_pair t base j e refl f g)
node_line t base j e f g elements = (element_node, refl, is_element t base j e refl f g)
