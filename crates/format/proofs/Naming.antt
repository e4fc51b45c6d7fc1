-- What the kinds of T and P lines come to, by cases: which numbers are kinds, and that a line's tree depends on the lines that it names only.
use Prim.Native.Nat.{ℕ, zero, suc, ◌<◌, ◌≤◌}
use native.Mathlib.Nat.{lt_of_lt_of_le}
use mathlib.Core.Path.{◌≡◌, refl, ap, ap₂}
use mathlib.Core.Logic.{◌⊎◌, inl, inr}
use mathlib.Core.Bool.{true, ◌&&◌, false≢true}
use lib.Dec.{ltb}
use Rattle.calculus.specs.Trees.{Ty, tlist, tsum, tprod, Pat, pinj, pnode, pair_node, element_node, left, right}
use Rattle.format.specs.Kinds.{TypeKind, unit_type, sum_type, product_type, list_type, no_type, PatternKind, unit_pattern, variable_pattern, left_pattern}
use Rattle.format.specs.Kinds.{right_pattern, pair_pattern, empty_pattern, element_pattern, no_pattern}
use Rattle.format.specs.Judge.{type_node_of, pattern_node_of, type_fields, pattern_fields, type_names_of, pattern_names_of}
use Rattle.calculus.proofs.Basic.{and_true, true_and, ltb_lt, lt_ltb}

-- ---- the kinds that are listed

pub type_listed : (k a b : ℕ) → type_fields k a b ≡ true → (k ≡ 0) ⊎ ((k ≡ 1) ⊎ ((k ≡ 2) ⊎ (k ≡ 3)))
type_listed zero a b e = inl refl
type_listed (suc zero) a b e = inr (inl refl)
type_listed (suc (suc zero)) a b e = inr (inr (inl refl))
type_listed (suc (suc (suc zero))) a b e = inr (inr (inr refl))
type_listed (suc (suc (suc (suc k)))) a b e = absurd (false≢true e)

pub pattern_listed : (k a b : ℕ) → pattern_fields k a b ≡ true → (k ≡ 0) ⊎ ((k ≡ 1) ⊎ ((k ≡ 2) ⊎ ((k ≡ 3) ⊎ ((k ≡ 4) ⊎ ((k ≡ 5) ⊎ (k ≡ 6))))))
pattern_listed zero a b e = inl refl
pattern_listed (suc zero) a b e = inr (inl refl)
pattern_listed (suc (suc zero)) a b e = inr (inr (inl refl))
pattern_listed (suc (suc (suc zero))) a b e = inr (inr (inr (inl refl)))
pattern_listed (suc (suc (suc (suc zero)))) a b e = inr (inr (inr (inr (inl refl))))
pattern_listed (suc (suc (suc (suc (suc zero))))) a b e = inr (inr (inr (inr (inr (inl refl)))))
pattern_listed (suc (suc (suc (suc (suc (suc zero)))))) a b e = inr (inr (inr (inr (inr (inr refl)))))
pattern_listed (suc (suc (suc (suc (suc (suc (suc k))))))) a b e = absurd (false≢true e)

-- ---- names

pub both_named : (n a b : ℕ) → (ltb a n && ltb b n) ≡ true → (a < n) × (b < n)
both_named n a b e = let h = and_true (ltb a n) (ltb b n) e in (ltb_lt a n h.0, ltb_lt b n h.1)

one_mono : {m n : ℕ} (a : ℕ) → m ≤ n → ltb a m ≡ true → ltb a n ≡ true
one_mono {m} a l e = lt_ltb (lt_of_lt_of_le (ltb_lt a m e) l)

both_mono : {m n : ℕ} (a b : ℕ) → m ≤ n → (ltb a m && ltb b m) ≡ true → (ltb a n && ltb b n) ≡ true
both_mono {m} a b l e = let h = and_true (ltb a m) (ltb b m) e in true_and (one_mono a l h.0) (one_mono b l h.1)

-- names that stand below a number stand below a greater one
pub type_names_mono : {m n : ℕ} (k : TypeKind) (a b : ℕ) → m ≤ n → type_names_of m k a b ≡ true → type_names_of n k a b ≡ true
type_names_mono unit_type a b l e = refl
type_names_mono sum_type a b l e = both_mono a b l e
type_names_mono product_type a b l e = both_mono a b l e
type_names_mono list_type a b l e = one_mono a l e
type_names_mono no_type a b l e = refl

pub pattern_names_mono : {m n : ℕ} (k : PatternKind) (a b : ℕ) → m ≤ n → pattern_names_of m k a b ≡ true → pattern_names_of n k a b ≡ true
pattern_names_mono unit_pattern a b l e = refl
pattern_names_mono variable_pattern a b l e = refl
pattern_names_mono left_pattern a b l e = one_mono a l e
pattern_names_mono right_pattern a b l e = one_mono a l e
pattern_names_mono pair_pattern a b l e = both_mono a b l e
pattern_names_mono empty_pattern a b l e = refl
pattern_names_mono element_pattern a b l e = both_mono a b l e
pattern_names_mono no_pattern a b l e = refl

-- two trees of a line are the same where those of the lines that it names are
pub type_by_names : (n : ℕ) (k : TypeKind) (a b : ℕ) {x y x' y' : Ty} → type_names_of n k a b ≡ true
    → (a < n → x ≡ x') → (b < n → y ≡ y') → type_node_of k x y ≡ type_node_of k x' y'
type_by_names n unit_type a b e f g = refl
type_by_names n sum_type a b e f g = let h = both_named n a b e in ap₂ tsum (f h.0) (g h.1)
type_by_names n product_type a b e f g = let h = both_named n a b e in ap₂ tprod (f h.0) (g h.1)
type_by_names n list_type a b e f g = ap tlist (f (ltb_lt a n e))
type_by_names n no_type a b e f g = refl

pub pattern_by_names : (n : ℕ) (k : PatternKind) (a b : ℕ) {p q p' q' : Pat} → pattern_names_of n k a b ≡ true
    → (a < n → p ≡ p') → (b < n → q ≡ q') → pattern_node_of k a p q ≡ pattern_node_of k a p' q'
pattern_by_names n unit_pattern a b e f g = refl
pattern_by_names n variable_pattern a b e f g = refl
pattern_by_names n left_pattern a b e f g = ap (pinj left) (f (ltb_lt a n e))
pattern_by_names n right_pattern a b e f g = ap (pinj right) (f (ltb_lt a n e))
pattern_by_names n pair_pattern a b e f g = let h = both_named n a b e in ap₂ (pnode pair_node) (f h.0) (g h.1)
pattern_by_names n empty_pattern a b e f g = refl
pattern_by_names n element_pattern a b e f g = let h = both_named n a b e in ap₂ (pnode element_node) (f h.0) (g h.1)
pattern_by_names n no_pattern a b e f g = refl
