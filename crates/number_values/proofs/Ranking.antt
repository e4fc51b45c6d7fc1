-- The number of a value that stands at a place, by the node of its type and by its first letter.
use Prim.Native.Nat.{ℕ, ◌+◌, ◌*◌, ◌≤◌, ◌<◌, min}
use native.Mathlib.Omega.{arith}
use mathlib.Core.Path.{◌≡◌, refl, sym, ap₂, ◌∙◌, subst}
use mathlib.Core.List.{List}
use lib.ListN.{length, get_or, length-append}
use Rattle.limits.specs.Limits.{max_values}
use Rattle.calculus.specs.Trees.{Ty, tunit, tlist, tsum, tprod, Val, vleaf, unit_leaf, empty_leaf, vinj, vnode, pair_node, element_node, left, right}
use Rattle.calculus.specs.Letters.{letters, inhabits}
use Rattle.law_ranking.specs.Numbering.{count}
use Rattle.calculus.proofs.Basic.{not_both, and_true}
use Rattle.run_values.specs.Texts.{At}
use Rattle.run_patterns.proofs.Spelling.{at_within, at_first, at_inj, at_left, at_right}
use Rattle.number_values.specs.Numbers.{Counts, Ranks}
use Rattle.law_ranking.proofs.Numbering.{rank_below, count_left, count_right, count_first, count_second}
use Rattle.number_values.proofs.Counting.{counted, times_plus_is}

-- the values of a list are not numbered
pub ranks_list : (a : Ty) (s : List ℕ) (at n e : ℕ) → Ranks (tlist a) s at n e
ranks_list a s at n e v h i c = absurd (omega (arith, c))

-- `next` is the place behind the letter at place `at`
module _ (s : List ℕ) (at : ℕ) {next : ℕ} (p : at < length s → next ≡ at + 1) where
  -- what stands behind the letter
  moved : {v : Val} → at < length s → At s (at + 1) v → At s next v
  moved {v} h a = subst (λ k. At s k v) (sym (p h)) a

  -- unit
  pub ranks_unit : Ranks tunit s at 0 next
  ranks_unit (vleaf unit_leaf) h i c = (refl, p (at_within h))
  ranks_unit (vleaf empty_leaf) h i c = absurd (not_both i refl)
  ranks_unit (vinj t v) h i c = absurd (not_both i refl)
  ranks_unit (vnode pair_node v w) h i c = absurd (not_both i refl)
  ranks_unit (vnode element_node v w) h i c = absurd (not_both i refl)

  module _ (a b : Ty) where
    -- left
    pub ranks_left : {x n e : ℕ} → x ≡ get_or s at 0 → x ≡ 76 → Ranks a s next n e → Ranks (tsum a b) s at n e
    ranks_left f z w (vleaf unit_leaf) h i c = absurd (not_both i refl)
    ranks_left f z w (vleaf empty_leaf) h i c = absurd (not_both i refl)
    ranks_left {n} {e} f z w (vinj left v) h i c =
        let q = p (at_within h) in
        let g = w v (moved (at_within h) (at_inj h)) i (omega (arith, count_left a b)) in
        (omega (arith, g.0), omega (arith, g.1))
    ranks_left f z w (vinj right v) h i c = absurd (omega (arith, at_first h))
    ranks_left f z w (vnode pair_node u v) h i c = absurd (not_both i refl)
    ranks_left f z w (vnode element_node u v) h i c = absurd (not_both i refl)

    -- right
    pub ranks_right : {x m n r e : ℕ} → x ≡ get_or s at 0 → (x ≡ 76 → ⊥) → Ranks b s next n e → Counts a m → r ≡ min 1 max_values * min m max_values + min n max_values
        → Ranks (tsum a b) s at r e
    ranks_right f z w k o (vleaf unit_leaf) h i c = absurd (not_both i refl)
    ranks_right f z w k o (vleaf empty_leaf) h i c = absurd (not_both i refl)
    ranks_right f z w k o (vinj left v) h i c = absurd (z (f ∙ at_first h))
    ranks_right {x} {m} {n} {r} {e} f z w k o (vinj right v) h i c =
        let q = p (at_within h) in
        let g = w v (moved (at_within h) (at_inj h)) i (omega (arith, count_right a b)) in
        let known = counted a k (omega (arith, count_left a b)) in
        let below = rank_below v b i in
        let small : (m ≤ max_values) × (n ≤ max_values) = (omega (arith, count_left a b), omega (arith, g.0, count_right a b)) in
        let sum = times_plus_is 1 m n (omega arith) small.0 small.1 o in
        (omega (arith, g.0), omega (arith, g.1))
    ranks_right f z w k o (vnode pair_node u v) h i c = absurd (not_both i refl)
    ranks_right f z w k o (vnode element_node u v) h i c = absurd (not_both i refl)

    -- a pair
    pub ranks_pair : {m n j y r e : ℕ} → Ranks a s next n j → Ranks b s j y e → Counts b m → r ≡ min n max_values * min m max_values + min y max_values → Ranks (tprod a b) s at r e
    ranks_pair w x k o (vleaf unit_leaf) h i c = absurd (not_both i refl)
    ranks_pair w x k o (vleaf empty_leaf) h i c = absurd (not_both i refl)
    ranks_pair w x k o (vinj t v) h i c = absurd (not_both i refl)
    ranks_pair w x k o (vnode element_node u v) h i c = absurd (not_both i refl)
    ranks_pair {m} {n} {j} {y} {r} {e} w x k o (vnode pair_node u v) h i c =
        let q = p (at_within h) in
        let both = and_true (inhabits u a) (inhabits v b) i in
        let few : count a ≤ max_values = omega (arith, count_first a b) in
        let fewer : count b ≤ max_values = omega (arith, count_second a b) in
        let f = w u (moved (at_within h) (at_left h)) both.0 few in
        let place : j ≡ at + 1 + length (letters u) = omega (arith, f.1) in
        let g = x v (subst (λ z. At s z v) (sym place) (at_right h)) both.1 fewer in
        let known = counted b k fewer in
        let low = rank_below u a both.0 in
        let high = rank_below v b both.1 in
        (times_plus_is n m y (omega (arith, f.0)) (omega arith) (omega (arith, g.0)) o ∙ ap₂ ◌+◌ (ap₂ ◌*◌ f.0 known) g.0, omega (arith, g.1, length-append (letters u) (letters v)))
