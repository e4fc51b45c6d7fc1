-- What an array holds after each step.
use Prim.Native.Nat.{ℕ, zero, suc, ◌+◌, ◌-◌, ◌%◌, ◌<◌, ◌≤◌}
use native.Mathlib.Nat.{mod-lt, mod-eq_of_lt, add-mod, mod-eq-sub-mod}
use native.Mathlib.Numerals.{add-one}
use native.Mathlib.Omega.{arith}
use mathlib.Core.Path.{◌≡◌, refl, sym, ap, ap₂, ◌∙◌}
use mathlib.Core.Bool.{Bool, true, false, cond}
use mathlib.Core.List.{List}
use lib.Dec.{ltb}
use lib.ListN.{get_or, replicate}
use borrow.Author.Tests.{ltb-true, ltb-false, lt-ltb, le-ltb}
use Rattle.fault_tallies.specs.Tallies.{plus_of, Holds, Shifts, Adds, shifted}
use Rattle.fault_tallies.proofs.Linear.{Same}
use Rattle.limits.specs.Limits.{lengths}

-- modulo
pub below : (m n : ℕ) → 1 < m → n % m < m
below m n h = mod-lt n (omega arith)

-- the sum of two numbers below the modulus
plus_small : (m x y : ℕ) → x < m → y < m → plus_of m x y ≡ (x + y) % m
plus_small m x y hx hy = go (ltb x (m - y)) refl
  where
    go : (b : Bool) → ltb x (m - y) ≡ b → cond b (x + y) (x - (m - y)) ≡ (x + y) % m
    go true e = let l = ltb-true x (m - y) e in sym (mod-eq_of_lt (omega arith))
    go false e =
        let l = ltb-false x (m - y) e in
        let h : m ≤ x + y = omega arith in
        let r : x - (m - y) ≡ x + y - m = omega arith in
        r ∙ sym (mod-eq_of_lt (omega arith)) ∙ sym (mod-eq-sub-mod h)

-- by the room that is left above y
pub plus_in : (m x y : ℕ) → x < m - y → x + y ≡ plus_of m x y
plus_in m x y h = sym (ap (λ b. cond b (x + y) (x - (m - y))) (lt-ltb x (m - y) h))

pub plus_out : (m x y : ℕ) → m - y ≤ x → x - (m - y) ≡ plus_of m x y
plus_out m x y h = sym (ap (λ b. cond b (x + y) (x - (m - y))) (le-ltb x (m - y) h))

pub plus_mod : (m a b : ℕ) → 1 < m → plus_of m (a % m) (b % m) ≡ (a + b) % m
plus_mod m a b h = plus_small m (a % m) (b % m) (below m a h) (below m b h) ∙ sym (add-mod a b m)

pub zero_mod : (m : ℕ) → 1 < m → 0 ≡ 0 % m
zero_mod m h = sym (mod-eq_of_lt (omega arith))

-- by the place's number
by_place : (m : ℕ) (l : List ℕ) (W : ℕ → ℕ) → 1 < m → get_or l 0 0 ≡ 0 → ((j : ℕ) → j + 1 < lengths → get_or l (j + 1) 0 ≡ W j % m) → Holds m l (shifted W)
by_place m l W w z s = record { wide = w; at = go }
  where
    go : (r : ℕ) → r < lengths → get_or l r 0 ≡ shifted W r % m
    go zero h = z ∙ zero_mod m w
    go (suc j) h = ap (λ n. get_or l n 0) (sym (add-one j)) ∙ s j (omega arith)

pub held_shift : {m : ℕ} {k l : List ℕ} {W : ℕ → ℕ} → Shifts k l → Holds m k W → Holds m l (shifted W)
held_shift {m} {l = l} {W = W} e h = by_place m l W h.wide e.first (λ j b. e.rest j b ∙ h.at j (omega arith))

pub held_add : {m : ℕ} {k o l : List ℕ} {W X : ℕ → ℕ} → Adds m k o l → Holds m k W → Holds m o X → Holds m l (λ r. W r + X r)
held_add {m} {W = W} {X = X} e h g =
    record { wide = h.wide; at = λ r b. e.at r b ∙ ap₂ (plus_of m) (h.at r b) (g.at r b) ∙ plus_mod m (W r) (X r) h.wide }

-- the same counts under another description
pub held_as : {m : ℕ} {k : List ℕ} {W : ℕ → ℕ} (X : ℕ → ℕ) → Same W X → Holds m k W → Holds m k X
held_as {m} X e h = record { wide = h.wide; at = λ r b. h.at r b ∙ ap (λ n. n % m) (e r) }

-- an array of zeros
pub zeros : (n j : ℕ) → get_or {A = ℕ} (replicate n 0) j 0 ≡ 0
zeros zero j = refl
zeros (suc n) zero = refl
zeros (suc n) (suc j) = zeros n j

pub held_zeros : {m : ℕ} → 1 < m → Holds m (replicate lengths 0) (λ n. 0)
held_zeros {m} h = record { wide = h; at = λ r b. zeros lengths r ∙ zero_mod m h }
