-- The letters of the value with a number, written one after the other, by the node of its type.
use Prim.Native.Nat.{ℕ, ◌+◌, ◌-◌, ◌/◌, ◌%◌, ◌*◌, ◌≤◌, ◌<◌}
use native.Mathlib.Nat.{div-lt_iff_lt-mul, mod-lt}
use native.Mathlib.Omega.{arith}
use mathlib.Core.Path.{◌≡◌, refl, sym, ap, ap₂, subst}
use mathlib.Core.Bool.{cond}
use mathlib.Core.List.{List, [], ◌∷◌}
use lib.ListN.{length, set}
use borrow.Author.Tests.{lt-ltb, le-ltb}
use Rattle.limits.specs.Limits.{max_values}
use Rattle.calculus.specs.Trees.{Ty, tunit, tlist, tsum, tprod, vinj, vnode, pair_node, left, right}
use Rattle.calculus.specs.Letters.{letters}
use Rattle.law_ranking.specs.Numbering.{count, unrank}
use Rattle.area_cells.specs.Areas.{Writes}
use Rattle.area_cells.proofs.Writing.{place_in, writes_one, writes_both, writes_as}
use Rattle.number_values.specs.Numbers.{Counts, Unranks}
use Rattle.law_ranking.proofs.Numbering.{count_positive, count_left, count_right, count_first, count_second}
use Rattle.number_values.proofs.Counting.{counted}

-- the letters are written, where the type's values are numbered and n is the number of one
abbrev Spells : Ty → ℕ → List ℕ → List ℕ → ℕ → ℕ → Type 0
Spells a n l l' at end = count a ≤ max_values → n < count a → Writes l l' at end (letters (unrank a n))

spells : (a : Ty) (n : ℕ) {l l' : List ℕ} {at end : ℕ} → length l' ≡ length l → Unranks a n l l' at end → Spells a n l l' at end
spells a n k f c h = record { kept = k; area = λ room. (f c h room).0; place = λ room. (f c h room).1 }

unranks : (a : Ty) (n : ℕ) {l l' : List ℕ} {at end : ℕ} → Spells a n l l' at end → Unranks a n l l' at end
unranks a n f c h room = ((f c h).area room, (f c h).place room)

-- the values of a list are not numbered
pub unranks_list : (a : Ty) (n : ℕ) (l l₂ : List ℕ) (at r : ℕ) → Unranks (tlist a) n l l₂ at r
unranks_list a n l l₂ at r c k room = absurd (omega (arith, c))

-- a letter is stored at place `at` of the area l
module _ (n : ℕ) (l : List ℕ) (at : ℕ) (here : at < length l) where
  letter : (b : ℕ) → Writes l (set l at b) at (at + 1) (b ∷ [])
  letter b = writes_one refl (place_in l at here)

  -- unit
  pub unranks_unit : Unranks tunit n l (set l at 85) at (at + 1)
  unranks_unit = unranks tunit n {l = l} (λ c h. letter 85)

  module _ (a b : Ty) {l₂ : List ℕ} where
    -- left
    pub unranks_left : {c r : ℕ} → Counts a c → n < c → length l₂ ≡ length (set l at 76) → Unranks a n (set l at 76) l₂ (at + 1) r → Unranks (tsum a b) n l l₂ at r
    unranks_left {c} {r} e h k f = unranks (tsum a b) n {l = l} (λ x y.
        let few : count a ≤ max_values = omega (arith, count_left a b) in
        let below : n < count a = omega (arith, counted a e few) in
        let test = lt-ltb n (count a) below in
        writes_as
        (ap (λ t. letters (cond t (vinj left (unrank a n)) (vinj right (unrank b (n - count a))))) (sym test))
        (writes_both (letter 76) (spells a n k f few below)))

    -- right
    pub unranks_right : {c r : ℕ} → Counts a c → c ≤ n → length l₂ ≡ length (set l at 82) → Unranks b (n - c) (set l at 82) l₂ (at + 1) r → Unranks (tsum a b) n l l₂ at r
    unranks_right {c} {r} e h k f = unranks (tsum a b) n {l = l} (λ x y.
        let few : count a ≤ max_values = omega (arith, count_left a b) in
        let fewer : count b ≤ max_values = omega (arith, count_right a b) in
        let known : c ≡ count a = counted a e few in
        let above : count a ≤ n = omega arith in
        let test = le-ltb n (count a) above in
        let below : n - c < count b = omega arith in
        writes_as
        (ap₂ (λ t d. letters (cond t (vinj left (unrank a n)) (vinj right (unrank b (n - d))))) (sym test) known)
        (writes_both (letter 82) (spells b (n - c) k f fewer below)))

    -- a pair
    pub unranks_pair : {l₃ : List ℕ} {c j r : ℕ} → Counts b c → length l₂ ≡ length (set l at 80) → Unranks a (n / c) (set l at 80) l₂ (at + 1) j → length l₃ ≡ length l₂
        → Unranks b (n % c) l₂ l₃ j r → Unranks (tprod a b) n l l₃ at r
    unranks_pair {l₃} {c} {j} {r} e k f o g = unranks (tprod a b) n {l = l} (λ x y.
        let few : count a ≤ max_values = omega (arith, count_first a b) in
        let fewer : count b ≤ max_values = omega (arith, count_second a b) in
        let known : c ≡ count b = counted b e fewer in
        let some : 0 < c = omega (arith, count_positive b) in
        let first : n / c < count a = (div-lt_iff_lt-mul some).1 (subst (λ z. n < count a * z) (sym known) y) in
        let second : n % c < count b = subst (λ z. n % c < z) known (mod-lt n some) in
        writes_as
        (ap (λ z. letters (vnode pair_node (unrank a (n / z)) (unrank b (n % z)))) known)
        (writes_both (writes_both (letter 80) (spells a (n / c) k f few first)) (spells b (n % c) o g fewer second)))
