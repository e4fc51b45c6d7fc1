-- The digits of a number in base 2: of an or, of a power of two, and of the low ones together.
use Prim.Native.Nat.{ℕ, zero, suc, ◌+◌, ◌-◌, ◌*◌, ◌/◌, ◌%◌, ◌^◌, ◌<◌, max}
use native.Mathlib.Nat.{pow-suc, mod-lt, zero-lt-suc}
use native.Mathlib.Omega.{arith}
use mathlib.Core.Path.{◌≡◌, refl, ap, ◌∙◌}
use mathlib.Core.Bool.{Bool, true, false, ◌||◌}
use lib.Dec.{eqb}
use lib.Arith.{digits_div, digits_mod, mod-mul}
use lib.Bits.{bit_or, or_step}
use lib.Pow.{pow_pos}
use borrow.Author.Tests.{eqb-true, eq-eqb}
use Rattle.check_sets.specs.Sets.{bit}

-- ---- an or

below_two : (x : ℕ) → x % 2 < 2
below_two x = mod-lt x (zero-lt-suc 1)

max_one : (x y : ℕ) → x < 2 → y < 2 → eqb (max x y) 1 ≡ (eqb x 1 || eqb y 1)
max_one zero zero h l = refl
max_one zero (suc zero) h l = refl
max_one zero (suc (suc y)) h l = absurd (omega arith)
max_one (suc zero) zero h l = refl
max_one (suc zero) (suc zero) h l = refl
max_one (suc zero) (suc (suc y)) h l = absurd (omega arith)
max_one (suc (suc x)) y h l = absurd (omega arith)

max_two : (x y : ℕ) → x < 2 → y < 2 → max x y < 2
max_two x y h l = omega arith

or_odd : (a b : ℕ) → bit_or a b % 2 ≡ max (a % 2) (b % 2)
or_odd a b = ap (λ x. x % 2) (or_step a b) ∙ digits_mod (bit_or (a / 2) (b / 2)) (max_two (a % 2) (b % 2) (below_two a) (below_two b))

or_half : (a b : ℕ) → bit_or a b / 2 ≡ bit_or (a / 2) (b / 2)
or_half a b = ap (λ x. x / 2) (or_step a b) ∙ digits_div (bit_or (a / 2) (b / 2)) (max_two (a % 2) (b % 2) (below_two a) (below_two b))

pub bit_or_lem : (j a b : ℕ) → bit j (bit_or a b) ≡ (bit j a || bit j b)
bit_or_lem zero a b = ap (λ x. eqb x 1) (or_odd a b) ∙ max_one (a % 2) (b % 2) (below_two a) (below_two b)
bit_or_lem (suc j) a b = ap (bit j) (or_half a b) ∙ bit_or_lem j (a / 2) (b / 2)

-- ---- a power of two

pub bit_zero : (j : ℕ) → bit j 0 ≡ false
bit_zero zero = refl
bit_zero (suc j) = bit_zero j

power_odd : (i : ℕ) → 2 ^ suc i % 2 ≡ 0
power_odd i = ap (λ x. x % 2) (pow-suc 2 i) ∙ omega arith

power_half : (i : ℕ) → 2 ^ suc i / 2 ≡ 2 ^ i
power_half i = ap (λ x. x / 2) (pow-suc 2 i) ∙ omega arith

pub bit_same : (i : ℕ) → bit i (2 ^ i) ≡ true
bit_same zero = refl
bit_same (suc i) = ap (bit i) (power_half i) ∙ bit_same i

pub bit_other : (j i : ℕ) → (j ≡ i → ⊥) → bit j (2 ^ i) ≡ false
bit_other zero zero n = absurd (n refl)
bit_other zero (suc i) n = ap (λ x. eqb x 1) (power_odd i)
bit_other (suc j) zero n = bit_zero j
bit_other (suc j) (suc i) n = ap (bit j) (power_half i) ∙ bit_other j i (λ e. n (ap suc e))

-- ---- the low digits

low_parts : (k x : ℕ) → x % 2 ^ suc k ≡ (x / 2 % 2 ^ k) * 2 + x % 2
low_parts k x = ap (λ y. x % y) (pow-suc 2 k) ∙ mod-mul x (pow_pos k) (zero-lt-suc 1)

pub low_ones : (k x : ℕ) → x % 2 ^ k ≡ 2 ^ k - 1 → (j : ℕ) → j < k → bit j x ≡ true
low_ones zero x e j h = absurd (omega arith)
low_ones (suc k) x e zero h = eq-eqb (x % 2) 1 (omega (arith, low_parts k x, pow-suc 2 k, pow_pos k, below_two x))
low_ones (suc k) x e (suc j) h =
    low_ones k (x / 2) (omega (arith, low_parts k x, pow-suc 2 k, pow_pos k, below_two x)) j (omega arith)

pub low_clear : (k x : ℕ) → (x % 2 ^ k ≡ 2 ^ k - 1 → ⊥) → (j : ℕ) × (j < k) × (bit j x ≡ false)
low_clear zero x n = absurd (n (omega arith))
low_clear (suc k) x n = go (eqb (x % 2) 1) refl (low_clear k (x / 2))
  where
    go : (b : Bool) → eqb (x % 2) 1 ≡ b → ((x / 2 % 2 ^ k ≡ 2 ^ k - 1 → ⊥) → (j : ℕ) × (j < k) × (bit j (x / 2) ≡ false))
        → (j : ℕ) × (j < suc k) × (bit j x ≡ false)
    go false e rest = (0, omega arith, e)
    go true e rest =
        let odd : x % 2 ≡ 1 = eqb-true (x % 2) 1 e in
        let r = rest (λ d. n (omega (arith, odd, low_parts k x, pow-suc 2 k, pow_pos k))) in
        (suc r.0, omega (arith, r.1), r.2)
