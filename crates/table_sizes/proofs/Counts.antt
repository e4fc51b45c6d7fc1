-- The counts of an unfolded line's nodes, from those of the lines that it names, up to the ceiling that stands for more.
use Prim.Native.Nat.{ℕ, suc, ◌+◌, ◌<◌, ◌≤◌, min, max}
use native.Mathlib.Nat.{zero-add}
use native.Mathlib.Omega.{arith}
use mathlib.Core.Path.{◌≡◌, refl, sym, ap, ◌∙◌, subst}
use mathlib.Core.List.{List}
use Rattle.limits.specs.Limits.{many_tags}
use Rattle.calculus.specs.Trees.{Ty, type_nodes, Pat, nodes, tags, most_tags}
use mathlib.Core.Bool.{Bool, true, false, cond, true≢false}
use lib.Dec.{eqb}
use borrow.Author.Tests.{eqb-true, eq-eqb}
use Rattle.calculus.proofs.Basic.{not_eqb}
use Rattle.table_sizes.specs.Joined.{join_tags}
use Rattle.format.specs.Judge.{type_node, pattern_node}
use Rattle.table_trees.specs.Unfolding.{cell_of, smaller_of, type_of, pattern_of}
use Rattle.table_trees.proofs.Cases.{Parted, sums, products, Whole, node_whole, whole_beyond, node_list, Injects, lefts, rights, Joins, pairs, elements, Leaf, unit, var, empty, other, Plain}
use Rattle.table_trees.proofs.Unfolding.{type_node_lem, pattern_node_lem}

-- ---- a node's count, by its kind

pub whole_count : {k : ℕ} (a b : Ty) → Whole k → type_nodes (type_node k a b) ≡ 1
whole_count a b h = ap type_nodes (node_whole a b h)

pub type_count : {k : ℕ} (a b : Ty) → Parted k → type_nodes (type_node k a b) ≡ 1 + type_nodes a + type_nodes b
type_count a b sums = refl
type_count a b products = refl

pub list_count : {k : ℕ} (a b : Ty) → k ≡ 3 → type_nodes (type_node k a b) ≡ 1 + type_nodes a
list_count a b e = ap (λ k. type_nodes (type_node k a b)) e

pub leaf_count : {k : ℕ} (n : ℕ) (p q : Pat) → Leaf k → nodes (pattern_node k n p q) ≡ 1
leaf_count n p q unit = refl
leaf_count n p q var = refl
leaf_count n p q empty = refl
leaf_count n p q (other k) = refl

pub inj_count : {k : ℕ} (n : ℕ) (p q : Pat) → Injects k → nodes (pattern_node k n p q) ≡ 1 + nodes p
inj_count n p q lefts = refl
inj_count n p q rights = refl

-- a pair, or an element before a list
pub pair_count : {k : ℕ} (n : ℕ) (p q : Pat) → Joins k → nodes (pattern_node k n p q) ≡ 1 + nodes p + nodes q
pair_count n p q pairs = refl
pair_count n p q elements = refl

pub leaf_tags : {k : ℕ} (n : ℕ) (p q : Pat) → Plain k → tags (pattern_node k n p q) ≡ 0
leaf_tags n p q Plain.unit = refl
leaf_tags n p q Plain.var = refl
leaf_tags n p q (Plain.other k) = refl

pub empty_tags : {k : ℕ} (n : ℕ) (p q : Pat) → k ≡ 5 → tags (pattern_node k n p q) ≡ 1
empty_tags n p q e = ap (λ k. tags (pattern_node k n p q)) e

pub inj_tags : {k : ℕ} (n : ℕ) (p q : Pat) → Injects k → tags (pattern_node k n p q) ≡ 1 + tags p
inj_tags n p q lefts = refl
inj_tags n p q rights = refl

pub pair_tags : {k : ℕ} (n : ℕ) (p q : Pat) → k ≡ 4 → tags (pattern_node k n p q) ≡ tags p + tags q
pair_tags n p q e = ap (λ k. tags (pattern_node k n p q)) e ∙ zero-add (tags p + tags q)

pub element_tags : {k : ℕ} (n : ℕ) (p q : Pat) → k ≡ 6 → tags (pattern_node k n p q) ≡ 1 + (tags p + tags q)
element_tags n p q e = ap (λ k. tags (pattern_node k n p q)) e

-- ---- counts that stop at a ceiling

pub both : {m n r : ℕ} (x y z : ℕ) → m ≡ min many_tags x → n ≡ min many_tags y → r ≡ min many_tags (m + n) → z ≡ x + y → r ≡ min many_tags z
both x y z p q e f = omega arith

pub one_above : {m n o r : ℕ} (x y z : ℕ) → m ≡ min many_tags x → n ≡ min many_tags y → o ≡ min many_tags (1 + n) → r ≡ min many_tags (m + o) → z ≡ 1 + (x + y) → r ≡ min many_tags z
one_above x y z p q s e f = omega arith

pub one_more : {m r : ℕ} (x z : ℕ) → m ≡ min many_tags x → r ≡ min many_tags (1 + m) → z ≡ 1 + x → r ≡ min many_tags z
one_more x z p e f = omega arith

-- the values of a sum or a product
pub join_two : {k m n r : ℕ} (x y : Ty) {z : ℕ} → Parted k → m ≡ min many_tags (most_tags x) → n ≡ min many_tags (most_tags y) → r ≡ min many_tags (join_tags k m n)
    → z ≡ most_tags (type_node k x y) → r ≡ min many_tags z
join_two x y sums p q e f = omega arith
join_two x y products p q e f = omega arith

pub joined_second : (k m n : ℕ) {r : ℕ} → k ≡ 1 → m < n → r ≡ min many_tags (1 + n) → r ≡ min many_tags (join_tags k m n)
joined_second k m n {r} h l e = subst (λ j. r ≡ min many_tags (join_tags j m n)) (sym h) (omega arith)

pub joined_first : (k m n : ℕ) {r : ℕ} → k ≡ 1 → n ≤ m → r ≡ min many_tags (1 + m) → r ≡ min many_tags (join_tags k m n)
joined_first k m n {r} h l e = subst (λ j. r ≡ min many_tags (join_tags j m n)) (sym h) (omega arith)

pub joined_both : (k m n : ℕ) {r : ℕ} → (k ≡ 1 → ⊥) → r ≡ min many_tags (m + n) → r ≡ min many_tags (join_tags k m n)
joined_both k m n h e = e ∙ sym (ap (λ b. min many_tags (cond b (suc (max m n)) (m + n))) (not_eqb h))

-- ---- T lines: k is the kind, a and b are the lines that line i names, m and n what was counted there

module _ (t : List ℕ) (i : ℕ) where
  pub type_tags_whole : {k : ℕ} → k ≡ cell_of t i 1 → Whole k → 0 ≡ min many_tags (most_tags (type_of t i))
  type_tags_whole e h = sym (ap (min many_tags) (ap most_tags (type_node_lem t i ∙ node_whole _ _ (subst Whole e h))))

  -- a list has no most
  pub type_tags_list : {k : ℕ} → k ≡ cell_of t i 1 → k ≡ 3 → 0 ≡ min many_tags (most_tags (type_of t i))
  type_tags_list e h = sym (ap (min many_tags) (ap most_tags (type_node_lem t i ∙ node_list _ _ (sym e ∙ h))))

  pub type_tags_past : {k : ℕ} → k ≡ cell_of t i 1 → 3 ≤ k → 0 ≡ min many_tags (most_tags (type_of t i))
  type_tags_past {k} e h = by (eqb k 3) refl
    where
      by : (b : Bool) → eqb k 3 ≡ b → 0 ≡ min many_tags (most_tags (type_of t i))
      by true z = type_tags_list e (eqb-true k 3 z)
      by false z = type_tags_whole e (whole_beyond k h (λ y. true≢false (sym (eq-eqb k 3 y) ∙ z)))

  pub type_tags_node :
      {k u v a b m n r : ℕ} →
      k ≡ cell_of t i 1 →
      Parted k →
      u ≡ cell_of t i 2 →
      a ≡ smaller_of u i →
      v ≡ cell_of t i 3 →
      b ≡ smaller_of v i →
      m ≡ min many_tags (most_tags (type_of t a)) →
      n ≡ min many_tags (most_tags (type_of t b)) →
      r ≡ min many_tags (join_tags k m n) →
      r ≡ min many_tags (most_tags (type_of t i))
  type_tags_node e h f s g w p q r =
      join_two (type_of t (smaller_of (cell_of t i 2) i)) (type_of t (smaller_of (cell_of t i 3) i)) h
      (p ∙ ap (λ x. min many_tags (most_tags (type_of t x))) (s ∙ ap (λ x. smaller_of x i) f))
      (q ∙ ap (λ x. min many_tags (most_tags (type_of t x))) (w ∙ ap (λ x. smaller_of x i) g))
      r
      (ap most_tags (type_node_lem t i) ∙ ap (λ k. most_tags (type_node k (type_of t (smaller_of (cell_of t i 2) i)) (type_of t (smaller_of (cell_of t i 3) i)))) (sym e))

-- ---- P lines, likewise

module _ (t : List ℕ) (base j : ℕ) where
  pub pattern_tags_leaf : {k : ℕ} → k ≡ cell_of t (base + j) 1 → Plain k → 0 ≡ min many_tags (tags (pattern_of t base j))
  pattern_tags_leaf e h =
      sym (ap (min many_tags) (ap tags (pattern_node_lem t base j) ∙ leaf_tags _ _ _ (subst Plain e h)))

  pub pattern_tags_empty : {k : ℕ} → k ≡ cell_of t (base + j) 1 → k ≡ 5 → 1 ≡ min many_tags (tags (pattern_of t base j))
  pattern_tags_empty e h = sym (ap (min many_tags) (ap tags (pattern_node_lem t base j) ∙ empty_tags _ _ _ (sym e ∙ h)))

  pub pattern_tags_inj :
      {k u a m r : ℕ} →
      k ≡ cell_of t (base + j) 1 →
      Injects k →
      u ≡ cell_of t (base + j) 2 →
      a ≡ smaller_of u j →
      m ≡ min many_tags (tags (pattern_of t base a)) →
      r ≡ min many_tags (1 + m) →
      r ≡ min many_tags (tags (pattern_of t base j))
  pattern_tags_inj e h f s p r =
      one_more _ _
      (p ∙ ap (λ x. min many_tags (tags (pattern_of t base x))) (s ∙ ap (λ x. smaller_of x j) f))
      r
      (ap tags (pattern_node_lem t base j) ∙ inj_tags _ _ _ (subst Injects e h))

  pub pattern_tags_pair :
      {k u v a b m n r : ℕ} →
      k ≡ cell_of t (base + j) 1 →
      k ≡ 4 →
      u ≡ cell_of t (base + j) 2 →
      a ≡ smaller_of u j →
      v ≡ cell_of t (base + j) 3 →
      b ≡ smaller_of v j →
      m ≡ min many_tags (tags (pattern_of t base a)) →
      n ≡ min many_tags (tags (pattern_of t base b)) →
      r ≡ min many_tags (m + n) →
      r ≡ min many_tags (tags (pattern_of t base j))
  pattern_tags_pair e h f s g w p q r =
      both _ _ _
      (p ∙ ap (λ x. min many_tags (tags (pattern_of t base x))) (s ∙ ap (λ x. smaller_of x j) f))
      (q ∙ ap (λ x. min many_tags (tags (pattern_of t base x))) (w ∙ ap (λ x. smaller_of x j) g))
      r
      (ap tags (pattern_node_lem t base j) ∙ pair_tags _ _ _ (sym e ∙ h))

  pub pattern_tags_element :
      {k u v a b m n o r : ℕ} →
      k ≡ cell_of t (base + j) 1 →
      k ≡ 6 →
      u ≡ cell_of t (base + j) 2 →
      a ≡ smaller_of u j →
      v ≡ cell_of t (base + j) 3 →
      b ≡ smaller_of v j →
      m ≡ min many_tags (tags (pattern_of t base a)) →
      n ≡ min many_tags (tags (pattern_of t base b)) →
      o ≡ min many_tags (1 + n) →
      r ≡ min many_tags (m + o) →
      r ≡ min many_tags (tags (pattern_of t base j))
  pattern_tags_element e h f s g w p q o r =
      one_above _ _ _
      (p ∙ ap (λ x. min many_tags (tags (pattern_of t base x))) (s ∙ ap (λ x. smaller_of x j) f))
      (q ∙ ap (λ x. min many_tags (tags (pattern_of t base x))) (w ∙ ap (λ x. smaller_of x j) g))
      o
      r
      (ap tags (pattern_node_lem t base j) ∙ element_tags _ _ _ (sym e ∙ h))
