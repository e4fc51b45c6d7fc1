-- The counts of a P line, by its kind and the lines that it names.
use Prim.Native.Nat.{ℕ, ◌+◌, ◌≤◌, ◌<◌}
use native.Mathlib.Nat.{le_trans}
use native.Mathlib.Omega.{arith}
use mathlib.Core.Path.{◌≡◌, refl, sym, ap, ◌∙◌, subst}
use mathlib.Core.Bool.{true, false, true≢false}
use mathlib.Core.Logic.{◌⊎◌, inl, inr, ⊎_elim}
use mathlib.Core.List.{List}
use lib.Dec.{eqb}
use Rattle.calculus.specs.Trees.{Ty, tunit, tlist, tsum, tprod, type_nodes, Tag, left, right, Leaf, unit_leaf, empty_leaf, Node, pair_node, element_node, Pat, pleaf, pvar, pinj, pnode}
use Rattle.table_trees.specs.Unfolding.{cell_of, smaller_of, type_of, pattern_of}
use Rattle.fault_tallies.specs.Tallies.{Shifts, more_in, part_of, HasTwo, CountsType, CountsIn}
use Rattle.fault_tallies.proofs.Counting.{held_shift}
use Rattle.calculus.proofs.Basic.{bool_cases, not_both, eqb_eq, eq_eqb}
use Rattle.table_trees.proofs.Cases.{Joins, pairs, elements, joins_pair, joins_element}
use Rattle.table_trees.proofs.Lines.{line_sum, line_product, line_list, line_other, is_empty, is_pair, is_element, is_unit}

pub eq_or_ne : (k n : ℕ) → (k ≡ n) ⊎ (k ≡ n → ⊥)
eq_or_ne k n = ⊎_elim (λ e. inl (eqb_eq k n e)) (λ e. inr (λ h. not_both (eq_eqb h) e)) (bool_cases (eqb k n))

pub two_pair : {k : ℕ} → k ≡ 4 → HasTwo k true
two_pair e = record { joins = λ t. joins_pair e; no_pair = λ f. absurd (true≢false f); no_element = λ f. absurd (true≢false f) }

pub two_element : {k : ℕ} → k ≡ 6 → HasTwo k true
two_element e = record { joins = λ t. joins_element e; no_pair = λ f. absurd (true≢false f); no_element = λ f. absurd (true≢false f) }

pub two_not : {k : ℕ} → (k ≡ 4 → ⊥) → (k ≡ 6 → ⊥) → HasTwo k false
two_not n m = record { joins = λ t. absurd (true≢false (sym t)); no_pair = λ f. n; no_element = λ f. m }

-- ---- the parts of a T line

module _ (t : List ℕ) (i : ℕ) {k : ℕ} (e : k ≡ cell_of t i 1) where
  sum_left : {l : ℕ} → k ≡ 1 → l ≡ smaller_of (cell_of t i 2) i → type_of t l ≡ part_of left (type_of t i)
  sum_left z f = sym (ap (part_of left) (line_sum t i e f refl z))

  sum_right : {l : ℕ} → k ≡ 1 → l ≡ smaller_of (cell_of t i 3) i → type_of t l ≡ part_of right (type_of t i)
  sum_right z f = sym (ap (part_of right) (line_sum t i e refl f z))

  product_left : {l : ℕ} → k ≡ 2 → l ≡ smaller_of (cell_of t i 2) i → type_of t l ≡ part_of left (type_of t i)
  product_left z f = sym (ap (part_of left) (line_product t i e f refl z))

  product_right : {l : ℕ} → k ≡ 2 → l ≡ smaller_of (cell_of t i 3) i → type_of t l ≡ part_of right (type_of t i)
  product_right z f = sym (ap (part_of right) (line_product t i e refl f z))

  list_left : {l : ℕ} → k ≡ 3 → l ≡ smaller_of (cell_of t i 2) i → type_of t l ≡ part_of left (type_of t i)
  list_left z f = sym (ap (part_of left) (line_list t i e f z))

  -- a line with parts, by its kind's number
  pub first_of : {l : ℕ} → 0 < k → k < 4 → l ≡ smaller_of (cell_of t i 2) i → type_of t l ≡ part_of left (type_of t i)
  first_of {l} p q f = go (eq_or_ne k 1) (eq_or_ne k 2)
    where
      go : (k ≡ 1) ⊎ (k ≡ 1 → ⊥) → (k ≡ 2) ⊎ (k ≡ 2 → ⊥) → type_of t l ≡ part_of left (type_of t i)
      go (inl z) s = sum_left z f
      go (inr n) (inl z) = product_left z f
      go (inr n) (inr m) = let z : k ≡ 3 = omega arith in list_left z f

  pub second_of : {l : ℕ} → 0 < k → k < 3 → l ≡ smaller_of (cell_of t i 3) i → type_of t l ≡ part_of right (type_of t i)
  second_of {l} p q f = go (eq_or_ne k 1)
    where
      go : (k ≡ 1) ⊎ (k ≡ 1 → ⊥) → type_of t l ≡ part_of right (type_of t i)
      go (inl z) = sum_right z f
      go (inr n) = let z : k ≡ 2 = omega arith in product_right z f

  -- a unit is its own part
  pub no_part : (s : Tag) → (k ≡ 1 → ⊥) → (k ≡ 2 → ⊥) → (k ≡ 3 → ⊥) → type_of t i ≡ part_of s (type_of t i)
  no_part s n m l = let u = line_other t i e n m l in u ∙ sym (ap (part_of s) u)

  -- and a list its own second part
  pub no_second : (k ≡ 1 → ⊥) → (k ≡ 2 → ⊥) → type_of t i ≡ part_of right (type_of t i)
  no_second n m = go (eq_or_ne k 3)
    where
      go : (k ≡ 3) ⊎ (k ≡ 3 → ⊥) → type_of t i ≡ part_of right (type_of t i)
      go (inl z) = let u = line_list t i e refl z in u ∙ sym (ap (part_of right) u)
      go (inr l) = no_part right n m l

-- ---- what an array then holds

part_small : (s : Tag) (a : Ty) → type_nodes (part_of s a) ≤ type_nodes a
part_small left tunit = omega arith
part_small right tunit = omega arith
part_small left (tlist a) = omega arith
part_small right (tlist a) = omega arith
part_small left (tsum a b) = omega arith
part_small right (tsum a b) = omega arith
part_small left (tprod a b) = omega arith
part_small right (tprod a b) = omega arith

module _ (m : ℕ) (a : Ty) where
  pub as_leaf : {x : Pat} {k l : List ℕ} (n : Leaf) → x ≡ pleaf n → Shifts k l → CountsIn m x a k l
  as_leaf {k = k} {l = l} n e s = subst (λ z. CountsIn m z a k l) (sym e) (λ z W h. held_shift s h)

  pub as_var : {x : Pat} {n : ℕ} {k l : List ℕ} → x ≡ pvar n → CountsType m a k l → CountsIn m x a k l
  as_var {k = k} {l = l} e c = subst (λ z. CountsIn m z a k l) (sym e) c

  pub as_tag : (s : Tag) {x y : Pat} {b : Ty} {k l o : List ℕ} → x ≡ pinj s y → b ≡ part_of s a → CountsIn m y b k l → Shifts l o → CountsIn m x a k o
  as_tag s {x} {y} {b} {k} {l} {o} e f c d =
      subst (λ z. CountsIn m z a k o) (sym e) (λ z W h. held_shift d (subst (λ t. CountsIn m y t k l) f c (le_trans (part_small s a) z) W h))

  pub as_node : {x y z : Pat} {b c : Ty} {k l o q : List ℕ} (n : Node) → x ≡ pnode n y z → b ≡ part_of left a → c ≡ part_of right a
      → CountsIn m z c k l → CountsIn m y b l o → Shifts o q → CountsIn m x a k q
  as_node {x} {y} {z} {b} {c} {k} {l} {o} {q} n e f g u v d =
      subst (λ t. CountsIn m t a k q) (sym e)
      (λ w W h.
      held_shift d
      (subst (λ t. CountsIn m y t l o) f v (le_trans (part_small left a) w) (more_in z (part_of right a) W)
      (subst (λ t. CountsIn m z t k l) g u (le_trans (part_small right a) w) W h)))

-- ---- the leaf or the node of a P line

module _ (t : List ℕ) (base p : ℕ) {k : ℕ} (e : k ≡ cell_of t (base + p) 1) where
  pub a_node : {q r : ℕ} → Joins k → q ≡ smaller_of (cell_of t (base + p) 2) p → r ≡ smaller_of (cell_of t (base + p) 3) p
      → (n : Node) × (pattern_of t base p ≡ pnode n (pattern_of t base q) (pattern_of t base r))
  a_node {q} {r} j f g = go (joined j)
    where
      joined : {m : ℕ} → Joins m → (m ≡ 4) ⊎ (m ≡ 6)
      joined pairs = inl refl
      joined elements = inr refl

      go : (k ≡ 4) ⊎ (k ≡ 6) → (n : Node) × (pattern_of t base p ≡ pnode n (pattern_of t base q) (pattern_of t base r))
      go (inl z) = (pair_node, is_pair t base p e z f g)
      go (inr z) = (element_node, is_element t base p e z f g)

  pub a_leaf : (k ≡ 1 → ⊥) → (k ≡ 2 → ⊥) → (k ≡ 3 → ⊥) → (k ≡ 4 → ⊥) → (k ≡ 6 → ⊥) → (n : Leaf) × (pattern_of t base p ≡ pleaf n)
  a_leaf v l r b m = go (eq_or_ne k 5)
    where
      go : (k ≡ 5) ⊎ (k ≡ 5 → ⊥) → (n : Leaf) × (pattern_of t base p ≡ pleaf n)
      go (inl z) = (empty_leaf, is_empty t base p e z)
      go (inr n) = (unit_leaf, is_unit t base p e v l r b n m)
