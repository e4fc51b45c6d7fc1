-- What the table's lines unfold to: past the rows a unit, at any depth that suffices the same tree, node by node from smaller lines, and
-- the same tree in every table with the same rows up to the line.
use Prim.Native.Nat.{ℕ, zero, suc, ◌+◌, ◌*◌, ◌<◌, ◌≤◌}
use native.Mathlib.Omega.{arith}
use mathlib.Core.Path.{◌≡◌, refl, sym, ap, ap₂, ◌∙◌, subst}
use mathlib.Core.Logic.{◌⊎◌, inl, inr}
use mathlib.Core.Bool.{true, false, cond}
use mathlib.Core.List.{List}
use lib.Dec.{ltb}
use lib.ListN.{get_or}
use borrow.Author.Tests.{lt-ltb, le-ltb, ltb-true, ltb-false}
use Rattle.limits.specs.Limits.{max_lines, row_width}
use Rattle.calculus.specs.Trees.{tunit, tlist, tsum, tprod, pleaf, pvar, pinj, pnode, unit_leaf, empty_leaf, left, right, pair_node, element_node}
use Rattle.format.specs.Judge.{type_node, pattern_node}
use Rattle.calculus.proofs.Basic.{bool_cases}
use Rattle.table_trees.specs.Unfolding.{cell_of, smaller_of, type_in, pattern_in, type_of, pattern_of}
use Rattle.table_trees.proofs.Cases.{node_unit, node_sum, node_prod, node_list, node_other, node_punit, node_var, node_left, node_right, node_pair, node_empty, node_element, node_pother}

-- ---- cells and names

-- a row past the table's rows holds zeros
pub cell_past : (t : List ℕ) (row k : ℕ) → max_lines ≤ row → cell_of t row k ≡ 0
cell_past t row k h = ap (λ b. cond b (cond (ltb k row_width) (get_or t (row * row_width + k) 0) 0) 0) (le-ltb row max_lines h)

-- past the width of a row stand zeros
pub cell_beyond : (t : List ℕ) (row k : ℕ) → row_width ≤ k → cell_of t row k ≡ 0
cell_beyond t row k h = go (bool_cases (ltb row max_lines))
  where
    none_there : cond (ltb k row_width) (get_or t (row * row_width + k) 0) 0 ≡ 0
    none_there = ap (λ b. cond b (get_or t (row * row_width + k) 0) 0) (le-ltb k row_width h)

    go : (ltb row max_lines ≡ true) ⊎ (ltb row max_lines ≡ false) → cell_of t row k ≡ 0
    go (inl e) = ap (λ b. cond b (cond (ltb k row_width) (get_or t (row * row_width + k) 0) 0) 0) e ∙ none_there
    go (inr e) = ap (λ b. cond b (cond (ltb k row_width) (get_or t (row * row_width + k) 0) 0) 0) e

-- a number of a row of the table
pub cell_within : (t : List ℕ) (row k : ℕ) → row < max_lines → k < row_width → cell_of t row k ≡ get_or t (row * row_width + k) 0
cell_within t row k h l =
    ap (λ b. cond b (cond (ltb k row_width) (get_or t (row * row_width + k) 0) 0) 0) (lt-ltb row max_lines h)
    ∙ ap (λ b. cond b (get_or t (row * row_width + k) 0) 0) (lt-ltb k row_width l)

-- a number other than 0 stands in a row of the table
pub row_within : (t : List ℕ) (row k : ℕ) → (cell_of t row k ≡ 0 → ⊥) → row < max_lines
row_within t row k h = go (bool_cases (ltb row max_lines))
  where
    go : (ltb row max_lines ≡ true) ⊎ (ltb row max_lines ≡ false) → row < max_lines
    go (inl e) = ltb-true row max_lines e
    go (inr e) = absurd (h (cell_past t row k (ltb-false row max_lines e)))

pub smaller_less : (a i : ℕ) → a < i → smaller_of a i ≡ a
smaller_less a i h = ap (λ b. cond b a max_lines) (lt-ltb a i h)

pub smaller_not : (a i : ℕ) → i ≤ a → smaller_of a i ≡ max_lines
smaller_not a i h = ap (λ b. cond b a max_lines) (le-ltb a i h)

-- what holds of each line before i and past the rows holds of every line that i names
pub smaller_cases : (Q : ℕ → Type 0) (a i : ℕ) → (a < i → Q a) → Q max_lines → Q (smaller_of a i)
smaller_cases Q a i f g = go (bool_cases (ltb a i))
  where
    go : (ltb a i ≡ true) ⊎ (ltb a i ≡ false) → Q (smaller_of a i)
    go (inl e) = subst Q (sym (smaller_less a i (ltb-true a i e))) (f (ltb-true a i e))
    go (inr e) = subst Q (sym (smaller_not a i (ltb-false a i e))) g

-- ---- the measure of the recursion over lines

abbrev pub rank : ℕ → ℕ
rank i = cond (ltb i max_lines) (suc i) 0

pub rank_within : (i : ℕ) → i < max_lines → rank i ≡ suc i
rank_within i h = ap (λ b. cond b (suc i) 0) (lt-ltb i max_lines h)

pub rank_past : rank max_lines ≡ 0
rank_past = refl

pub rank_less : (a i : ℕ) → i < max_lines → rank (smaller_of a i) < rank i
rank_less a i h = subst (λ r. rank (smaller_of a i) < r) (sym (rank_within i h)) (smaller_cases (λ s. rank s < suc i) a i before past)
  where
    before : a < i → rank a < suc i
    before l = let w : a < max_lines = omega arith in subst (λ r. r < suc i) (sym (rank_within a w)) (omega arith)

    past : rank max_lines < suc i
    past = subst (λ r. r < suc i) (sym rank_past) (omega arith)

-- what a line that is no unit names ranks below it
pub type_falls : (t : List ℕ) (i a : ℕ) → (cell_of t i 1 ≡ 0 → ⊥) → rank (smaller_of a i) < rank i
type_falls t i a h = rank_less a i (row_within t i 1 h)

pub line_within : (t : List ℕ) (base j : ℕ) → (cell_of t (base + j) 1 ≡ 0 → ⊥) → j < max_lines
line_within t base j h = omega (arith, row_within t (base + j) 1 h)

pub pattern_falls : (t : List ℕ) (base j a : ℕ) → (cell_of t (base + j) 1 ≡ 0 → ⊥) → rank (smaller_of a j) < rank j
pattern_falls t base j a h = rank_less a j (line_within t base j h)

-- the same as a recursion asks it: m is the measure of the line at hand, k its kind, a what it names
pub type_call : (t : List ℕ) (i u : ℕ) {k a m : ℕ} → rank i ≡ m → k ≡ cell_of t i 1 → (k ≡ 0 → ⊥) → a ≡ smaller_of u i → rank a < m
type_call t i u {m} r e h s =
    subst (λ x. rank x < m) (sym s) (subst (λ x. rank (smaller_of u i) < x) r (type_falls t i u (λ z. h (e ∙ z))))

pub pattern_call : (t : List ℕ) (base j u : ℕ) {k a m : ℕ} → rank j ≡ m → k ≡ cell_of t (base + j) 1 → (k ≡ 0 → ⊥) → a ≡ smaller_of u j → rank a < m
pattern_call t base j u {m} r e h s =
    subst (λ x. rank x < m) (sym s) (subst (λ x. rank (smaller_of u j) < x) r (pattern_falls t base j u (λ z. h (e ∙ z))))

-- ---- T lines

module _ (t : List ℕ) where
  type_open : (i : ℕ) → type_of t i ≡ type_in t (suc i) i
  unfolding type_of
  type_open i = refl

  -- past the rows, at any depth, stands a unit
  pub type_past_in : (d i : ℕ) → max_lines ≤ i → type_in t d i ≡ tunit
  type_past_in zero i h = refl
  type_past_in (suc d) i h = node_unit _ _ (cell_past t i 1 h)

  pub type_past : (i : ℕ) → max_lines ≤ i → type_of t i ≡ tunit
  type_past i h = type_open i ∙ type_past_in (suc i) i h

  type_deep : (d e i : ℕ) → i < d → i < e → type_in t d i ≡ type_in t e i
  type_deep zero e i h l = absurd (omega arith)
  type_deep (suc d) zero i h l = absurd (omega arith)
  type_deep (suc d) (suc e) i h l =
      let below : (a : ℕ) → type_in t d (smaller_of a i) ≡ type_in t e (smaller_of a i) =
      λ a. smaller_cases (λ s. type_in t d s ≡ type_in t e s) a i
      (λ s. type_deep d e a (omega arith) (omega arith))
      (type_past_in d max_lines (omega arith) ∙ sym (type_past_in e max_lines (omega arith))) in
      ap₂ (λ x y. type_node (cell_of t i 1) x y) (below (cell_of t i 2)) (below (cell_of t i 3))

  -- more depth changes nothing
  pub type_depth : (d i : ℕ) → i < d → type_in t d i ≡ type_of t i
  type_depth d i h = type_deep d (suc i) i h (omega arith) ∙ sym (type_open i)

  pub type_depth_past : (d i : ℕ) → max_lines ≤ i → type_in t d i ≡ type_of t i
  type_depth_past d i h = type_past_in d i h ∙ sym (type_past i h)

  type_named : (i a : ℕ) → type_in t i (smaller_of a i) ≡ type_of t (smaller_of a i)
  type_named i a =
      smaller_cases (λ s. type_in t i s ≡ type_of t s) a i
      (λ h. type_depth i a h)
      (type_depth_past i max_lines (omega arith))

  -- a line's tree is a node above the trees of the lines that it names
  pub type_node_lem : (i : ℕ) → type_of t i ≡ type_node (cell_of t i 1) (type_of t (smaller_of (cell_of t i 2) i)) (type_of t (smaller_of (cell_of t i 3) i))
  type_node_lem i =
      type_open i ∙ ap₂ (λ x y. type_node (cell_of t i 1) x y) (type_named i (cell_of t i 2)) (type_named i (cell_of t i 3))

  -- by its kind
  pub type_unit : (i : ℕ) → cell_of t i 1 ≡ 0 → type_of t i ≡ tunit
  type_unit i e = type_node_lem i ∙ node_unit _ _ e

  pub type_sum : (i : ℕ) → cell_of t i 1 ≡ 1 → type_of t i ≡ tsum (type_of t (smaller_of (cell_of t i 2) i)) (type_of t (smaller_of (cell_of t i 3) i))
  type_sum i e = type_node_lem i ∙ node_sum _ _ e

  pub type_prod : (i : ℕ) → cell_of t i 1 ≡ 2 → type_of t i ≡ tprod (type_of t (smaller_of (cell_of t i 2) i)) (type_of t (smaller_of (cell_of t i 3) i))
  type_prod i e = type_node_lem i ∙ node_prod _ _ e

  pub type_list : (i : ℕ) → cell_of t i 1 ≡ 3 → type_of t i ≡ tlist (type_of t (smaller_of (cell_of t i 2) i))
  type_list i e = type_node_lem i ∙ node_list _ _ e

  pub type_other : (i : ℕ) → (cell_of t i 1 ≡ 1 → ⊥) → (cell_of t i 1 ≡ 2 → ⊥) → (cell_of t i 1 ≡ 3 → ⊥) → type_of t i ≡ tunit
  type_other i s p l = type_node_lem i ∙ node_other _ _ s p l

-- ---- P lines

module _ (t : List ℕ) (base : ℕ) where
  pattern_open : (j : ℕ) → pattern_of t base j ≡ pattern_in t base (suc j) j
  unfolding pattern_of
  pattern_open j = refl

  pub pattern_past_in : (d j : ℕ) → max_lines ≤ base + j → pattern_in t base d j ≡ pleaf unit_leaf
  pattern_past_in zero j h = refl
  pattern_past_in (suc d) j h = node_punit _ _ _ (cell_past t (base + j) 1 h)

  pub pattern_past : (j : ℕ) → max_lines ≤ base + j → pattern_of t base j ≡ pleaf unit_leaf
  pattern_past j h = pattern_open j ∙ pattern_past_in (suc j) j h

  pattern_deep : (d e j : ℕ) → j < d → j < e → pattern_in t base d j ≡ pattern_in t base e j
  pattern_deep zero e j h l = absurd (omega arith)
  pattern_deep (suc d) zero j h l = absurd (omega arith)
  pattern_deep (suc d) (suc e) j h l =
      let below : (a : ℕ) → pattern_in t base d (smaller_of a j) ≡ pattern_in t base e (smaller_of a j) =
      λ a. smaller_cases (λ s. pattern_in t base d s ≡ pattern_in t base e s) a j
      (λ s. pattern_deep d e a (omega arith) (omega arith))
      (pattern_past_in d max_lines (omega arith) ∙ sym (pattern_past_in e max_lines (omega arith))) in
      ap₂ (λ x y. pattern_node (cell_of t (base + j) 1) (cell_of t (base + j) 2) x y) (below (cell_of t (base + j) 2)) (below (cell_of t (base + j) 3))

  pub pattern_depth : (d j : ℕ) → j < d → pattern_in t base d j ≡ pattern_of t base j
  pattern_depth d j h = pattern_deep d (suc j) j h (omega arith) ∙ sym (pattern_open j)

  pub pattern_depth_past : (d j : ℕ) → max_lines ≤ base + j → pattern_in t base d j ≡ pattern_of t base j
  pattern_depth_past d j h = pattern_past_in d j h ∙ sym (pattern_past j h)

  pattern_named : (j a : ℕ) → pattern_in t base j (smaller_of a j) ≡ pattern_of t base (smaller_of a j)
  pattern_named j a =
      smaller_cases (λ s. pattern_in t base j s ≡ pattern_of t base s) a j
      (λ h. pattern_depth j a h)
      (pattern_depth_past j max_lines (omega arith))

  pub pattern_node_lem : (j : ℕ) → pattern_of t base j ≡ pattern_node (cell_of t (base + j) 1) (cell_of t (base + j) 2) (pattern_of t base (smaller_of (cell_of t (base + j) 2) j))
      (pattern_of t base (smaller_of (cell_of t (base + j) 3) j))
  pattern_node_lem j =
      pattern_open j
      ∙ ap₂ (λ x y. pattern_node (cell_of t (base + j) 1) (cell_of t (base + j) 2) x y) (pattern_named j (cell_of t (base + j) 2)) (pattern_named j (cell_of t (base + j) 3))

  -- a line of kind k is the node of that kind
  pub opened : (j : ℕ) {k : ℕ} → k ≡ cell_of t (base + j) 1 → pattern_node k (cell_of t (base + j) 2) (pattern_of t base (smaller_of (cell_of t (base + j) 2) j))
      (pattern_of t base (smaller_of (cell_of t (base + j) 3) j)) ≡ pattern_of t base j
  opened j e =
      ap (λ x. pattern_node x (cell_of t (base + j) 2) (pattern_of t base (smaller_of (cell_of t (base + j) 2) j)) (pattern_of t base (smaller_of (cell_of t (base + j) 3) j))) e
      ∙ sym (pattern_node_lem j)

  pub pattern_unit : (j : ℕ) → cell_of t (base + j) 1 ≡ 0 → pattern_of t base j ≡ pleaf unit_leaf
  pattern_unit j e = pattern_node_lem j ∙ node_punit _ _ _ e

  pub pattern_var : (j : ℕ) → cell_of t (base + j) 1 ≡ 1 → pattern_of t base j ≡ pvar (cell_of t (base + j) 2)
  pattern_var j e = pattern_node_lem j ∙ node_var _ _ _ e

  pub pattern_left : (j : ℕ) → cell_of t (base + j) 1 ≡ 2 → pattern_of t base j ≡ pinj left (pattern_of t base (smaller_of (cell_of t (base + j) 2) j))
  pattern_left j e = pattern_node_lem j ∙ node_left _ _ _ e

  pub pattern_right : (j : ℕ) → cell_of t (base + j) 1 ≡ 3 → pattern_of t base j ≡ pinj right (pattern_of t base (smaller_of (cell_of t (base + j) 2) j))
  pattern_right j e = pattern_node_lem j ∙ node_right _ _ _ e

  pub pattern_pair : (j : ℕ) → cell_of t (base + j) 1 ≡ 4 → pattern_of t base j ≡ pnode pair_node (pattern_of t base (smaller_of (cell_of t (base + j) 2) j))
      (pattern_of t base (smaller_of (cell_of t (base + j) 3) j))
  pattern_pair j e = pattern_node_lem j ∙ node_pair _ _ _ e

  pub pattern_empty : (j : ℕ) → cell_of t (base + j) 1 ≡ 5 → pattern_of t base j ≡ pleaf empty_leaf
  pattern_empty j e = pattern_node_lem j ∙ node_empty _ _ _ e

  pub pattern_element : (j : ℕ) → cell_of t (base + j) 1 ≡ 6 → pattern_of t base j ≡ pnode element_node (pattern_of t base (smaller_of (cell_of t (base + j) 2) j))
      (pattern_of t base (smaller_of (cell_of t (base + j) 3) j))
  pattern_element j e = pattern_node_lem j ∙ node_element _ _ _ e

  pub pattern_other : (j : ℕ) → (cell_of t (base + j) 1 ≡ 1 → ⊥) → (cell_of t (base + j) 1 ≡ 2 → ⊥) → (cell_of t (base + j) 1 ≡ 3 → ⊥) → (cell_of t (base + j) 1 ≡ 4 → ⊥)
      → (cell_of t (base + j) 1 ≡ 5 → ⊥) → (cell_of t (base + j) 1 ≡ 6 → ⊥) → pattern_of t base j ≡ pleaf unit_leaf
  pattern_other j v l r b e m = pattern_node_lem j ∙ node_pother _ _ _ v l r b e m

-- ---- tables with the same rows below n

module _ (t t' : List ℕ) (n : ℕ) (same : (row k : ℕ) → row < n → cell_of t' row k ≡ cell_of t row k) where
  type_same_in : (d i : ℕ) → i < n → type_in t' d i ≡ type_in t d i
  type_same_in zero i h = refl
  type_same_in (suc d) i h =
      let below : (k : ℕ) → type_in t' d (smaller_of (cell_of t' i k) i) ≡ type_in t d (smaller_of (cell_of t i k) i) =
      λ k. ap (λ a. type_in t' d (smaller_of a i)) (same i k h)
      ∙ smaller_cases (λ s. type_in t' d s ≡ type_in t d s) (cell_of t i k) i
      (λ l. type_same_in d (cell_of t i k) (omega arith))
      (type_past_in t' d max_lines (omega arith) ∙ sym (type_past_in t d max_lines (omega arith))) in
      ap (λ c. type_node c (type_in t' d (smaller_of (cell_of t' i 2) i)) (type_in t' d (smaller_of (cell_of t' i 3) i))) (same i 1 h)
      ∙ ap₂ (λ x y. type_node (cell_of t i 1) x y) (below 2) (below 3)

  pub type_same : (i : ℕ) → i < n → type_of t' i ≡ type_of t i
  type_same i h = type_open t' i ∙ type_same_in (suc i) i h ∙ sym (type_open t i)

  pattern_same_in : (base d j : ℕ) → base + j < n → pattern_in t' base d j ≡ pattern_in t base d j
  pattern_same_in base zero j h = refl
  pattern_same_in base (suc d) j h =
      let below : (k : ℕ) → pattern_in t' base d (smaller_of (cell_of t' (base + j) k) j) ≡ pattern_in t base d (smaller_of (cell_of t (base + j) k) j) =
      λ k. ap (λ a. pattern_in t' base d (smaller_of a j)) (same (base + j) k h)
      ∙ smaller_cases (λ s. pattern_in t' base d s ≡ pattern_in t base d s) (cell_of t (base + j) k) j
      (λ l. pattern_same_in base d (cell_of t (base + j) k) (omega arith))
      (pattern_past_in t' base d max_lines (omega arith) ∙ sym (pattern_past_in t base d max_lines (omega arith))) in
      ap₂
      (λ c m. pattern_node c m (pattern_in t' base d (smaller_of (cell_of t' (base + j) 2) j)) (pattern_in t' base d (smaller_of (cell_of t' (base + j) 3) j)))
      (same (base + j) 1 h)
      (same (base + j) 2 h)
      ∙ ap₂ (λ x y. pattern_node (cell_of t (base + j) 1) (cell_of t (base + j) 2) x y) (below 2) (below 3)

  pub pattern_same : (base j : ℕ) → base + j < n → pattern_of t' base j ≡ pattern_of t base j
  pattern_same base j h = pattern_open t' base j ∙ pattern_same_in base (suc j) j h ∙ sym (pattern_open t base j)
