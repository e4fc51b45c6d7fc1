-- The digits of a number: one step of reading them, and where they stop.
use Prim.Native.Nat.{ℕ, ◌+◌, ◌*◌, ◌-◌, ◌<◌, ◌≤◌}
use native.Mathlib.Omega.{arith}
use mathlib.Core.Path.{◌≡◌, refl, sym, ap, ◌∙◌, subst}
use mathlib.Core.Logic.{◌⊎◌, inl, inr}
use mathlib.Core.Bool.{true, false}
use mathlib.Core.Option.{none, some}
use mathlib.Core.List.{List}
use lib.Dec.{leb, ltb}
use lib.ListN.{length, get_or, drop, drop_of_length-le, get_or-eq_default}
use borrow.Author.Tests.{le-leb, lt-leb, lt-ltb, le-ltb, leb-true, leb-false, ltb-true, eq-eqb, ne_eqb}
use Rattle.format.specs.Lines.{is_digit, digits, numeral}
use Rattle.calculus.proofs.Basic.{bool_cases, from_byte}
use Rattle.read_fields.specs.Views.{digit_of}

-- ---- which bytes are digits

digit : (b : ℕ) → 48 ≤ b → b < 58 → is_digit b ≡ true
digit b low high = rw (le-leb 48 b low, lt-ltb b 58 high)

below_digits : (b : ℕ) → b < 48 → is_digit b ≡ false
below_digits b h = rw (lt-leb 48 b h)

above_digits : (b : ℕ) → 58 ≤ b → is_digit b ≡ false
above_digits b h = let low : 48 ≤ b = omega arith in rw (le-leb 48 b low, le-ltb b 58 h)

-- a byte's digit by its two tests
module _ {b x : ℕ} (byte : b ≡ x) where
  pub a_digit : 48 ≤ b → b < 58 → b - 48 ≡ digit_of x
  a_digit low high = let e : b - 48 ≡ digit_of b = rw (digit b low high) in e ∙ ap digit_of byte

  pub digit_below : b < 48 → 10 ≡ digit_of x
  digit_below h = let e : 10 ≡ digit_of b = rw (below_digits b h) in e ∙ ap digit_of byte

  pub digit_above : 58 ≤ b → 10 ≡ digit_of x
  digit_above h = let e : 10 ≡ digit_of b = rw (above_digits b h) in e ∙ ap digit_of byte

-- and the tests by the digit
record Digit (b d : ℕ) : Type 0 where
  low : 48 ≤ b
  high : b < 58
  value : d ≡ b - 48

module _ (b : ℕ) {d : ℕ} (e : d ≡ digit_of b) where
  known_by : d < 10 → (leb 48 b ≡ true) ⊎ (leb 48 b ≡ false) → (ltb b 58 ≡ true) ⊎ (ltb b 58 ≡ false) → Digit b d
  known_by h (inl t) (inl u) = record { low = leb-true 48 b t; high = ltb-true b 58 u; value = e ∙ rw (t, u) }
  known_by h (inl t) (inr u) = let ten : d ≡ 10 = e ∙ rw (t, u) in absurd (omega arith)
  known_by h (inr t) u = let ten : d ≡ 10 = e ∙ rw t in absurd (omega arith)

  known_digit : d < 10 → Digit b d
  known_digit h = known_by h (bool_cases (leb 48 b)) (bool_cases (ltb b 58))

  none_by : 10 ≤ d → (leb 48 b ≡ true) ⊎ (leb 48 b ≡ false) → (ltb b 58 ≡ true) ⊎ (ltb b 58 ≡ false) → is_digit b ≡ false
  none_by h (inl t) (inl u) = let v : d ≡ b - 48 = e ∙ rw (t, u) in let high = ltb-true b 58 u in absurd (omega arith)
  none_by h (inl t) (inr u) = rw (t, u)
  none_by h (inr t) u = rw t

  no_digit : 10 ≤ d → is_digit b ≡ false
  no_digit h = none_by h (bool_cases (leb 48 b)) (bool_cases (ltb b 58))

-- past the end there is no digit
module _ (s : List ℕ) (at : ℕ) {d : ℕ} (e : d ≡ digit_of (get_or s at 0)) where
  within_by : d < 10 → (leb (length s) at ≡ true) ⊎ (leb (length s) at ≡ false) → at < length s
  within_by h (inl t) =
      let ten : d ≡ 10 = e ∙ ap digit_of (get_or-eq_default s 0 (leb-true (length s) at t)) in
      absurd (omega arith)
  within_by h (inr t) = leb-false (length s) at t

  pub digit_within : d < 10 → at < length s
  digit_within h = within_by h (bool_cases (leb (length s) at))

  pub zero_within : d ≡ 0 → at < length s
  zero_within z = digit_within (omega arith)

-- ---- one byte of the digits

module _ (bound n : ℕ) (s : List ℕ) (at : ℕ) (inside : at < length s) where
  stops : is_digit (get_or s at 0) ≡ false → digits bound n (drop at s) ≡ some (n, drop at s)
  stops d = rw (from_byte s at inside, d)

  goes_on :
      is_digit (get_or s at 0) ≡ true
      → n * 10 + (get_or s at 0 - 48) < bound
      → digits bound n (drop at s) ≡ digits bound (n * 10 + (get_or s at 0 - 48)) (drop (at + 1) s)
  goes_on d h = rw (from_byte s at inside, d, lt-ltb (n * 10 + (get_or s at 0 - 48)) bound h)

  too_large : is_digit (get_or s at 0) ≡ true → bound ≤ n * 10 + (get_or s at 0 - 48) → digits bound n (drop at s) ≡ none
  too_large d h = rw (from_byte s at inside, d, le-ltb (n * 10 + (get_or s at 0 - 48)) bound h)

-- ---- what the loop knows: the digits from here on with n before them are those from the start

pub record Carried (most : ℕ) (s : List ℕ) (from at n : ℕ) : Type 0 where
  pub small : n ≤ most
  pub holds : digits (most + 1) n (drop at s) ≡ digits (most + 1) 0 (drop from s)

pub carried_start : (most : ℕ) (s : List ℕ) (from : ℕ) → Carried most s from from 0
carried_start most s from = record { small = omega arith; holds = refl }

module _ {most : ℕ} {s : List ℕ} {from at n : ℕ} (i : Carried most s from at n) where
  module _ (e : digit_of (get_or s at 0) ≡ 10) where
    ended_by : (leb (length s) at ≡ true) ⊎ (leb (length s) at ≡ false) → some (n, drop at s) ≡ digits (most + 1) n (drop at s)
    ended_by (inl t) = rw (drop_of_length-le s (leb-true (length s) at t))
    ended_by (inr t) = sym (stops (most + 1) n s at (leb-false (length s) at t) (no_digit (get_or s at 0) refl (omega (arith, e))))

    pub carried_end : some (n, drop at s) ≡ digits (most + 1) 0 (drop from s)
    carried_end = ended_by (bool_cases (leb (length s) at)) ∙ i.holds

  module _ {d : ℕ} (ahead : d ≡ digit_of (get_or s at 0)) (h : d < 10) where
    pub inside : at < length s
    inside = digit_within s at ahead h

    this : Digit (get_or s at 0) d
    this = known_digit (get_or s at 0) ahead h

    is_digit_lem : is_digit (get_or s at 0) ≡ true
    is_digit_lem = digit (get_or s at 0) this.low this.high

    same : n * 10 + d ≡ n * 10 + (get_or s at 0 - 48)
    same = ap (λ x. n * 10 + x) this.value

    pub carried_over : most < n * 10 + d → none ≡ digits (most + 1) 0 (drop from s)
    carried_over over =
        let past : most + 1 ≤ n * 10 + (get_or s at 0 - 48) = omega (arith, same) in
        sym (too_large (most + 1) n s at inside is_digit_lem past) ∙ i.holds

    pub carried_step : n * 10 + d ≤ most → Carried most s from (at + 1) (n * 10 + d)
    carried_step fit =
        let below : n * 10 + (get_or s at 0 - 48) < most + 1 = omega (arith, same) in
        record {
          small = fit;
          holds = ap (λ x. digits (most + 1) x (drop (at + 1) s)) same ∙ sym (goes_on (most + 1) n s at inside is_digit_lem below) ∙ i.holds;
        }

-- the first digit is told
module _ (most : ℕ) (s : List ℕ) (from : ℕ) {d : ℕ} (e : d ≡ digit_of (get_or s from 0)) (h : d < 10) where
  none_before : 0 * 10 + d ≡ d
  none_before = omega arith

  pub first_inside : from < length s
  first_inside = digit_within s from e h

  pub first_over : most < d → none ≡ digits (most + 1) 0 (drop from s)
  first_over l = carried_over (carried_start most s from) e h (let z = none_before in omega arith)

  pub carried_first : d ≤ most → Carried most s from (from + 1) d
  carried_first l =
      subst (λ x. Carried most s from (from + 1) x) none_before (carried_step (carried_start most s from) e h (let z = none_before in omega arith))

-- ---- a number at a place

module _ (bound : ℕ) (s : List ℕ) (at : ℕ) {d : ℕ} (e : d ≡ digit_of (get_or s at 0)) where
  pub numeral_zero : d ≡ 0 → some (0, drop (at + 1) s) ≡ numeral bound (drop at s)
  numeral_zero z =
      let h : d < 10 = omega arith in
      let this = known_digit (get_or s at 0) e h in
      let zero : get_or s at 0 ≡ 48 = omega (arith, this.low, this.value) in
      rw (from_byte s at (digit_within s at e h), eq-eqb (get_or s at 0) 48 zero)

  module _ (more : d ≡ 0 → ⊥) where
    pub numeral_digits : d < 10 → digits bound 0 (drop at s) ≡ numeral bound (drop at s)
    numeral_digits h =
        let this = known_digit (get_or s at 0) e h in
        let other : get_or s at 0 ≡ 48 → ⊥ = λ q. more (omega (arith, this.value)) in
        rw (from_byte s at (digit_within s at e h), ne_eqb (get_or s at 0) 48 other, digit (get_or s at 0) this.low this.high)

    none_at : 10 ≤ d → (leb (length s) at ≡ true) ⊎ (leb (length s) at ≡ false) → none ≡ numeral bound (drop at s)
    none_at h (inl t) = rw (drop_of_length-le s (leb-true (length s) at t))
    none_at h (inr t) =
        let other : get_or s at 0 ≡ 48 → ⊥ = λ q. more (e ∙ ap digit_of q) in
        rw (from_byte s at (leb-false (length s) at t), ne_eqb (get_or s at 0) 48 other, no_digit (get_or s at 0) e h)

    pub numeral_none : 10 ≤ d → none ≡ numeral bound (drop at s)
    numeral_none h = none_at h (bool_cases (leb (length s) at))
