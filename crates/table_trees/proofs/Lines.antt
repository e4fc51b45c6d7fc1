-- T and P lines by their kinds, above the lines that they name, and the measures of the recursions over two of them.
use Prim.Native.Nat.{ℕ, suc, ◌+◌, ◌*◌, ◌<◌, max}
use native.Mathlib.Omega.{arith}
use mathlib.Core.Path.{◌≡◌, refl, sym, ap, ap₂, ◌∙◌}
use mathlib.Core.List.{List}
use Rattle.calculus.specs.Trees.{tunit, tlist, tsum, tprod, left, right, unit_leaf, empty_leaf, pair_node, element_node, pleaf, pvar, pinj, pnode}
use Rattle.format.specs.Judge.{type_node}
use Rattle.table_trees.specs.Unfolding.{cell_of, smaller_of, type_of, pattern_of}
use Rattle.table_trees.proofs.Cases.{node_sum, node_prod, node_list, node_other}
use Rattle.table_trees.proofs.Unfolding.{rank, type_node_lem, type_call, pattern_var, pattern_left, pattern_right, pattern_pair, pattern_empty, pattern_element, pattern_other}

-- a kind that is told is not a unit
pub no_unit : {k n : ℕ} → k ≡ suc n → k ≡ 0 → ⊥
no_unit e z = omega arith

-- the line that a number of line j names, the number being read before
pub part_of : (j : ℕ) {x c r : ℕ} → x ≡ c → r ≡ smaller_of x j → r ≡ smaller_of c j
part_of j e f = f ∙ ap (λ x. smaller_of x j) e

-- k is the kind of line i, l and r are the lines that it names
module _ (t : List ℕ) (i : ℕ) {k l r : ℕ} (e : k ≡ cell_of t i 1) (nl : l ≡ smaller_of (cell_of t i 2) i) (nr : r ≡ smaller_of (cell_of t i 3) i) where
  pub line_node : type_of t i ≡ type_node k (type_of t l) (type_of t r)
  line_node = type_node_lem t i ∙ sym (ap (λ x. type_node x (type_of t l) (type_of t r)) e ∙ ap₂ (λ a b. type_node (cell_of t i 1) (type_of t a) (type_of t b)) nl nr)

  pub line_sum : k ≡ 1 → type_of t i ≡ tsum (type_of t l) (type_of t r)
  line_sum z = line_node ∙ node_sum (type_of t l) (type_of t r) z

  pub line_product : k ≡ 2 → type_of t i ≡ tprod (type_of t l) (type_of t r)
  line_product z = line_node ∙ node_prod (type_of t l) (type_of t r) z

pub line_list : (t : List ℕ) (i : ℕ) {k l : ℕ} → k ≡ cell_of t i 1 → l ≡ smaller_of (cell_of t i 2) i → k ≡ 3 → type_of t i ≡ tlist (type_of t l)
line_list t i {l = l} e nl z = line_node t i e nl refl ∙ node_list (type_of t l) (type_of t (smaller_of (cell_of t i 3) i)) z

-- a unit, or a number that is no kind
pub line_other : (t : List ℕ) (i : ℕ) {k : ℕ} → k ≡ cell_of t i 1 → (k ≡ 1 → ⊥) → (k ≡ 2 → ⊥) → (k ≡ 3 → ⊥) → type_of t i ≡ tunit
line_other t i {k} e n m l =
    line_node t i e refl refl
    ∙ node_other {k = k} (type_of t (smaller_of (cell_of t i 2) i)) (type_of t (smaller_of (cell_of t i 3) i)) n m l

-- ---- P lines: k is the kind of line p, q and r are the lines that it names

module _ (t : List ℕ) (base p : ℕ) {k : ℕ} (e : k ≡ cell_of t (base + p) 1) where
  pub is_var : k ≡ 1 → pattern_of t base p ≡ pvar (cell_of t (base + p) 2)
  is_var z = pattern_var t base p (sym e ∙ z)

  pub is_left : {q : ℕ} → k ≡ 2 → q ≡ smaller_of (cell_of t (base + p) 2) p → pattern_of t base p ≡ pinj left (pattern_of t base q)
  is_left z f = pattern_left t base p (sym e ∙ z) ∙ ap (λ x. pinj left (pattern_of t base x)) (sym f)

  pub is_right : {q : ℕ} → k ≡ 3 → q ≡ smaller_of (cell_of t (base + p) 2) p → pattern_of t base p ≡ pinj right (pattern_of t base q)
  is_right z f = pattern_right t base p (sym e ∙ z) ∙ ap (λ x. pinj right (pattern_of t base x)) (sym f)

  pub is_pair : {q r : ℕ} → k ≡ 4 → q ≡ smaller_of (cell_of t (base + p) 2) p → r ≡ smaller_of (cell_of t (base + p) 3) p
      → pattern_of t base p ≡ pnode pair_node (pattern_of t base q) (pattern_of t base r)
  is_pair z f g = pattern_pair t base p (sym e ∙ z) ∙ sym (ap₂ (λ x y. pnode pair_node (pattern_of t base x) (pattern_of t base y)) f g)

  pub is_empty : k ≡ 5 → pattern_of t base p ≡ pleaf empty_leaf
  is_empty z = pattern_empty t base p (sym e ∙ z)

  pub is_element : {q r : ℕ} → k ≡ 6 → q ≡ smaller_of (cell_of t (base + p) 2) p → r ≡ smaller_of (cell_of t (base + p) 3) p
      → pattern_of t base p ≡ pnode element_node (pattern_of t base q) (pattern_of t base r)
  is_element z f g = pattern_element t base p (sym e ∙ z) ∙ sym (ap₂ (λ x y. pnode element_node (pattern_of t base x) (pattern_of t base y)) f g)

  -- a unit, or a number that is no kind
  pub is_unit : (k ≡ 1 → ⊥) → (k ≡ 2 → ⊥) → (k ≡ 3 → ⊥) → (k ≡ 4 → ⊥) → (k ≡ 5 → ⊥) → (k ≡ 6 → ⊥) → pattern_of t base p ≡ pleaf unit_leaf
  is_unit v l r b n m = pattern_other t base p (λ h. v (e ∙ h)) (λ h. l (e ∙ h)) (λ h. r (e ∙ h)) (λ h. b (e ∙ h)) (λ h. n (e ∙ h)) (λ h. m (e ∙ h))

-- ---- measures: twice the line's rank; of two lines one more than twice the higher rank

abbrev pub both : ℕ → ℕ → ℕ
both l r = 2 * max (rank l) (rank r) + 1

-- a line that names others comes above each
pub part_call : (t : List ℕ) (i u : ℕ) {k l m : ℕ} → 2 * rank i ≡ m → k ≡ cell_of t i 1 → (k ≡ 0 → ⊥) → l ≡ smaller_of u i → 2 * rank l < m
part_call t i u {k} {l} {m} p e n f = lower (rank i) (rank l) p (type_call t i u refl e n f)
  where
    lower : (x y : ℕ) → 2 * x ≡ m → y < x → 2 * y < m
    lower x y q h = omega arith

-- and above both
pub parts_call : (t : List ℕ) (i u v : ℕ) {k l r m : ℕ} → 2 * rank i ≡ m → k ≡ cell_of t i 1 → (k ≡ 0 → ⊥) → l ≡ smaller_of u i → r ≡ smaller_of v i → both l r < m
parts_call t i u v {k} {l} {r} {m} p e n f g = lower (rank i) (rank l) (rank r) p (type_call t i u refl e n f) (type_call t i v refl e n g)
  where
    lower : (x y z : ℕ) → 2 * x ≡ m → y < x → z < x → 2 * max y z + 1 < m
    lower x y z q a b = omega arith

-- each comes below both
pub left_call : (l r : ℕ) {m : ℕ} → both l r ≡ m → 2 * rank l < m
left_call l r {m} p = lower (rank l) (rank r) p
  where
    lower : (y z : ℕ) → 2 * max y z + 1 ≡ m → 2 * y < m
    lower y z q = omega arith

pub right_call : (l r : ℕ) {m : ℕ} → both l r ≡ m → 2 * rank r < m
right_call l r {m} p = lower (rank l) (rank r) p
  where
    lower : (y z : ℕ) → 2 * max y z + 1 ≡ m → 2 * z < m
    lower y z q = omega arith
