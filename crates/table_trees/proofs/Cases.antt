-- The node of each kind, and the cases that the code tells apart: sum or product; a list; left or right; pair or element; all others.
use Prim.Native.Nat.{ℕ, zero, suc, ◌<◌, ◌≤◌}
use native.Mathlib.Omega.{arith}
use mathlib.Core.Path.{◌≡◌, refl, sym, ap, subst}
use mathlib.Core.Logic.{◌⊎◌, inl, inr}
use Rattle.calculus.specs.Trees.{Ty, tunit, tlist, tsum, tprod, Pat, pleaf, pvar, pinj, pnode, unit_leaf, empty_leaf, left, right, pair_node, element_node}
use Rattle.format.specs.Judge.{type_node, pattern_node}

-- ---- T lines

pub node_unit : {k : ℕ} (a b : Ty) → k ≡ 0 → type_node k a b ≡ tunit
node_unit a b e = ap (λ k. type_node k a b) e

pub node_sum : {k : ℕ} (a b : Ty) → k ≡ 1 → type_node k a b ≡ tsum a b
node_sum a b e = ap (λ k. type_node k a b) e

pub node_prod : {k : ℕ} (a b : Ty) → k ≡ 2 → type_node k a b ≡ tprod a b
node_prod a b e = ap (λ k. type_node k a b) e

pub node_list : {k : ℕ} (a b : Ty) → k ≡ 3 → type_node k a b ≡ tlist a
node_list a b e = ap (λ k. type_node k a b) e

-- a unit, or a number that is no kind
pub node_other : {k : ℕ} (a b : Ty) → (k ≡ 1 → ⊥) → (k ≡ 2 → ⊥) → (k ≡ 3 → ⊥) → type_node k a b ≡ tunit
node_other {k = zero} a b s p l = refl
node_other {k = suc zero} a b s p l = absurd (s refl)
node_other {k = suc (suc zero)} a b s p l = absurd (p refl)
node_other {k = suc (suc (suc zero))} a b s p l = absurd (l refl)
node_other {k = suc (suc (suc (suc k)))} a b s p l = refl

-- a sum or a product, which names two parts
pub data Parted : ℕ → Type 0 where
  sums : Parted 1
  products : Parted 2

pub parted : (k : ℕ) → 1 ≤ k → k < 3 → Parted k
parted zero h l = absurd (omega arith)
parted (suc zero) h l = sums
parted (suc (suc zero)) h l = products
parted (suc (suc (suc k))) h l = absurd (omega arith)

pub parted_no_unit : {k : ℕ} → Parted k → k ≡ 0 → ⊥
parted_no_unit sums e = absurd (omega arith)
parted_no_unit products e = absurd (omega arith)

-- a list is no unit
pub list_no_unit : {k : ℕ} → k ≡ 3 → k ≡ 0 → ⊥
list_no_unit e z = omega arith

-- neither sum, product nor list, which names nothing: a unit, or a number that is no kind
pub data Whole : ℕ → Type 0 where
  units : Whole 0
  others : (k : ℕ) → Whole (suc (suc (suc (suc k))))

pub whole_below : (k : ℕ) → k < 1 → Whole k
whole_below zero h = units
whole_below (suc k) h = absurd (omega arith)

pub whole_beyond : (k : ℕ) → 3 ≤ k → (k ≡ 3 → ⊥) → Whole k
whole_beyond zero h l = absurd (omega arith)
whole_beyond (suc zero) h l = absurd (omega arith)
whole_beyond (suc (suc zero)) h l = absurd (omega arith)
whole_beyond (suc (suc (suc zero))) h l = absurd (l refl)
whole_beyond (suc (suc (suc (suc k)))) h l = others k

pub whole_past : (k : ℕ) → 4 ≤ k → Whole k
whole_past k h = whole_beyond k (omega arith) (λ e. omega arith)

pub node_whole : {k : ℕ} (a b : Ty) → Whole k → type_node k a b ≡ tunit
node_whole a b units = refl
node_whole a b (others k) = refl

-- ---- P lines

pub node_punit : {k : ℕ} (n : ℕ) (p q : Pat) → k ≡ 0 → pattern_node k n p q ≡ pleaf unit_leaf
node_punit n p q e = ap (λ k. pattern_node k n p q) e

pub node_var : {k : ℕ} (n : ℕ) (p q : Pat) → k ≡ 1 → pattern_node k n p q ≡ pvar n
node_var n p q e = ap (λ k. pattern_node k n p q) e

pub node_left : {k : ℕ} (n : ℕ) (p q : Pat) → k ≡ 2 → pattern_node k n p q ≡ pinj left p
node_left n p q e = ap (λ k. pattern_node k n p q) e

pub node_right : {k : ℕ} (n : ℕ) (p q : Pat) → k ≡ 3 → pattern_node k n p q ≡ pinj right p
node_right n p q e = ap (λ k. pattern_node k n p q) e

pub node_pair : {k : ℕ} (n : ℕ) (p q : Pat) → k ≡ 4 → pattern_node k n p q ≡ pnode pair_node p q
node_pair n p q e = ap (λ k. pattern_node k n p q) e

pub node_empty : {k : ℕ} (n : ℕ) (p q : Pat) → k ≡ 5 → pattern_node k n p q ≡ pleaf empty_leaf
node_empty n p q e = ap (λ k. pattern_node k n p q) e

pub node_element : {k : ℕ} (n : ℕ) (p q : Pat) → k ≡ 6 → pattern_node k n p q ≡ pnode element_node p q
node_element n p q e = ap (λ k. pattern_node k n p q) e

-- a unit, or a number that is no kind
pub node_pother : {k : ℕ} (n : ℕ) (p q : Pat) → (k ≡ 1 → ⊥) → (k ≡ 2 → ⊥) → (k ≡ 3 → ⊥) → (k ≡ 4 → ⊥) → (k ≡ 5 → ⊥) → (k ≡ 6 → ⊥)
    → pattern_node k n p q ≡ pleaf unit_leaf
node_pother {k = zero} n p q v l r b e m = refl
node_pother {k = suc zero} n p q v l r b e m = absurd (v refl)
node_pother {k = suc (suc zero)} n p q v l r b e m = absurd (l refl)
node_pother {k = suc (suc (suc zero))} n p q v l r b e m = absurd (r refl)
node_pother {k = suc (suc (suc (suc zero)))} n p q v l r b e m = absurd (b refl)
node_pother {k = suc (suc (suc (suc (suc zero))))} n p q v l r b e m = absurd (e refl)
node_pother {k = suc (suc (suc (suc (suc (suc zero)))))} n p q v l r b e m = absurd (m refl)
node_pother {k = suc (suc (suc (suc (suc (suc (suc k))))))} n p q v l r b e m = refl

-- a left or a right
pub data Injects : ℕ → Type 0 where
  lefts : Injects 2
  rights : Injects 3

pub injects : (k : ℕ) → 2 ≤ k → k < 4 → Injects k
injects zero h l = absurd (omega arith)
injects (suc zero) h l = absurd (omega arith)
injects (suc (suc zero)) h l = lefts
injects (suc (suc (suc zero))) h l = rights
injects (suc (suc (suc (suc k)))) h l = absurd (omega arith)

-- the same where variables were told apart before
pub injects_beyond : (k : ℕ) → 1 ≤ k → (k ≡ 1 → ⊥) → k < 4 → Injects k
injects_beyond k h v l = injects k (omega arith) l

pub injects_no_unit : {k : ℕ} → Injects k → k ≡ 0 → ⊥
injects_no_unit lefts e = absurd (omega arith)
injects_no_unit rights e = absurd (omega arith)

pub pair_no_unit : {k : ℕ} → k ≡ 4 → k ≡ 0 → ⊥
pair_no_unit e z = omega arith

-- a pair, or an element in front of a list, which name two parts
pub data Joins : ℕ → Type 0 where
  pairs : Joins 4
  elements : Joins 6

pub joins_pair : {k : ℕ} → k ≡ 4 → Joins k
joins_pair e = subst Joins (sym e) pairs

pub joins_element : {k : ℕ} → k ≡ 6 → Joins k
joins_element e = subst Joins (sym e) elements

pub joins_key : {k : ℕ} → ((k ≡ 4) ⊎ (k ≡ 6)) → Joins k
joins_key (inl e) = joins_pair e
joins_key (inr e) = joins_element e

pub joins_no_unit : {k : ℕ} → Joins k → k ≡ 0 → ⊥
joins_no_unit pairs e = absurd (omega arith)
joins_no_unit elements e = absurd (omega arith)

-- neither left, right, pair nor element, which names nothing: a unit, a variable, an empty list, or a number that is no kind
pub data Leaf : ℕ → Type 0 where
  unit : Leaf 0
  var : Leaf 1
  empty : Leaf 5
  other : (k : ℕ) → Leaf (suc (suc (suc (suc (suc (suc (suc k)))))))

pub leaf_below : (k : ℕ) → k < 2 → Leaf k
leaf_below zero h = unit
leaf_below (suc zero) h = var
leaf_below (suc (suc k)) h = absurd (omega arith)

pub leaf_unit : (k : ℕ) → k < 1 → Leaf k
leaf_unit k h = leaf_below k (omega arith)

pub leaf_beyond : (k : ℕ) → 4 ≤ k → (k ≡ 4 → ⊥) → (k ≡ 6 → ⊥) → Leaf k
leaf_beyond zero h b m = absurd (omega arith)
leaf_beyond (suc zero) h b m = absurd (omega arith)
leaf_beyond (suc (suc zero)) h b m = absurd (omega arith)
leaf_beyond (suc (suc (suc zero))) h b m = absurd (omega arith)
leaf_beyond (suc (suc (suc (suc zero)))) h b m = absurd (b refl)
leaf_beyond (suc (suc (suc (suc (suc zero))))) h b m = empty
leaf_beyond (suc (suc (suc (suc (suc (suc zero)))))) h b m = absurd (m refl)
leaf_beyond (suc (suc (suc (suc (suc (suc (suc k))))))) h b m = other k

pub leaf_past : (k : ℕ) → 5 ≤ k → (k ≡ 6 → ⊥) → Leaf k
leaf_past k h m = leaf_beyond k (omega arith) (λ e. omega arith) m

-- one that counts for no tag: a unit, a variable, or a number that is no kind
pub data Plain : ℕ → Type 0 where
  unit : Plain 0
  var : Plain 1
  other : (k : ℕ) → Plain (suc (suc (suc (suc (suc (suc (suc k)))))))

pub plain_below : (k : ℕ) → k < 2 → Plain k
plain_below zero h = Plain.unit
plain_below (suc zero) h = Plain.var
plain_below (suc (suc k)) h = absurd (omega arith)

pub plain_beyond : (k : ℕ) → 4 ≤ k → (k ≡ 4 → ⊥) → (k ≡ 5 → ⊥) → (k ≡ 6 → ⊥) → Plain k
plain_beyond zero h b e m = absurd (omega arith)
plain_beyond (suc zero) h b e m = absurd (omega arith)
plain_beyond (suc (suc zero)) h b e m = absurd (omega arith)
plain_beyond (suc (suc (suc zero))) h b e m = absurd (omega arith)
plain_beyond (suc (suc (suc (suc zero)))) h b e m = absurd (b refl)
plain_beyond (suc (suc (suc (suc (suc zero))))) h b e m = absurd (e refl)
plain_beyond (suc (suc (suc (suc (suc (suc zero)))))) h b e m = absurd (m refl)
plain_beyond (suc (suc (suc (suc (suc (suc (suc k))))))) h b e m = Plain.other k

pub plain_unit : (k : ℕ) → k < 1 → Plain k
plain_unit k h = plain_below k (omega arith)

pub plain_past : (k : ℕ) → 5 ≤ k → (k ≡ 5 → ⊥) → (k ≡ 6 → ⊥) → Plain k
plain_past k h e m = plain_beyond k (omega arith) (λ z. omega arith) e m
