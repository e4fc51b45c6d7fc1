-- The bytes of numbers, fields and rows, written one after the other.
use Prim.Native.Nat.{ℕ, suc, ◌+◌, ◌/◌, ◌*◌, ◌%◌, ◌<◌, ◌≤◌}
use native.Mathlib.Omega.{arith}
use mathlib.Core.Path.{◌≡◌, refl, sym, ap, ◌∙◌}
use mathlib.Core.Bool.{cond}
use mathlib.Core.List.{List, [], ◌∷◌, ◌++◌, append_assoc, append-nil}
use lib.Dec.{ltb}
use lib.ListN.{length, set, take}
use Rattle.area_cells.specs.Areas.{Prints}
use Rattle.area_cells.proofs.Writing.{prints_one, prints_both, prints_as}
use Rattle.limits.specs.Limits.{comma, digit_zero, line_feed, numeral_bound}
use Rattle.calculus.specs.Refusals.{Kind, type_line, pattern_line, iso_line, clause_line, let_line}
use Rattle.format.specs.Lines.{Row, letter, field_count, decimal, print_field, print}
use Rattle.format.proofs.Numerals.{decimal_small, decimal_snoc}
use Rattle.format.proofs.Printing.{print_fields, print_shape}

-- ---- numbers

-- the last digit behind the digits of the quotient
decimal_large : (n : ℕ) → 10 ≤ n → n < numeral_bound → decimal n ≡ decimal (n / 10) ++ ((digit_zero + n % 10) ∷ [])
decimal_large n h f =
    let whole : n / 10 * 10 + n % 10 ≡ n = omega arith in
    sym (ap decimal whole) ∙ decimal_snoc (n / 10) (n % 10) (omega arith) (omega arith) (omega arith)

-- one digit
pub number_small : {l l' : List ℕ} {at end d : ℕ} (n : ℕ) → n < 10 → d ≡ digit_zero + n % 10
    → l' ≡ set l at d → end ≡ cond (ltb at (length l)) (suc at) at → Prints l l' at end (decimal n)
number_small {d = d} n h e s p =
    let byte : d ≡ digit_zero + n = omega arith in
    prints_as (ap (λ b. b ∷ []) byte ∙ sym (decimal_small n h)) (prints_one s p)

-- the digits of the quotient, and the last digit
pub number_large : {l l₁ l₂ : List ℕ} {at next end d : ℕ} (n : ℕ) → 10 ≤ n → n < numeral_bound
    → (n / 10 < numeral_bound → Prints l l₁ at next (decimal (n / 10))) → d ≡ digit_zero + n % 10
    → l₂ ≡ set l₁ next d → end ≡ cond (ltb next (length l₁)) (suc next) next → Prints l l₂ at end (decimal n)
number_large n h f w e s p =
    prints_as (ap (λ b. decimal (n / 10) ++ (b ∷ [])) e ∙ sym (decimal_large n h f)) (prints_both (w (omega arith)) (prints_one s p))

-- ---- fields

-- a comma, and a number
pub field_bytes : {l l₁ l₂ : List ℕ} {at next end : ℕ} (n : ℕ) → l₁ ≡ set l at comma → next ≡ cond (ltb at (length l)) (suc at) at
    → Prints l₁ l₂ next end (decimal n) → Prints l l₂ at end (print_field n)
field_bytes n s p w = prints_both (prints_one s p) w

-- ---- rows

-- the bytes of a row, by the number of its fields
abbrev first_two : Row → List ℕ
first_two r = ((letter r.kind ∷ []) ++ print_field r.x) ++ print_field r.y

two_parts : (a : ℕ) (b c d : List ℕ) → a ∷ ((b ++ (c ++ [])) ++ d) ≡ (((a ∷ []) ++ b) ++ c) ++ d
two_parts a b c d = ap (λ e. a ∷ (e ++ d)) (ap (λ e. b ++ e) (append-nil c))

three_parts : (a : ℕ) (b c d e : List ℕ) → a ∷ ((b ++ (c ++ (d ++ []))) ++ e) ≡ ((((a ∷ []) ++ b) ++ c) ++ d) ++ e
three_parts a b c d e = ap (λ f. a ∷ (f ++ e)) (ap (λ f. b ++ (c ++ f)) (append-nil d) ∙ sym (append_assoc b c d))

print_two : (r : Row) → field_count r.kind ≡ 2 → first_two r ++ (line_feed ∷ []) ≡ print r
print_two r e =
    sym
    (print_shape r
    ∙ ap (λ n. letter r.kind ∷ (print_fields (take n (r.x ∷ r.y ∷ r.z ∷ [])) ++ (line_feed ∷ []))) e
    ∙ two_parts (letter r.kind) (print_field r.x) (print_field r.y) (line_feed ∷ []))

print_three : (r : Row) → field_count r.kind ≡ 3 → (first_two r ++ print_field r.z) ++ (line_feed ∷ []) ≡ print r
print_three r e =
    sym
    (print_shape r
    ∙ ap (λ n. letter r.kind ∷ (print_fields (take n (r.x ∷ r.y ∷ r.z ∷ [])) ++ (line_feed ∷ []))) e
    ∙ three_parts (letter r.kind) (print_field r.x) (print_field r.y) (print_field r.z) (line_feed ∷ []))

-- a line of a form that has not two fields has three
three_fields : (k : Kind) → (field_count k ≡ 2 → ⊥) → field_count k ≡ 3
three_fields type_line h = refl
three_fields pattern_line h = refl
three_fields iso_line h = absurd (h refl)
three_fields clause_line h = absurd (h refl)
three_fields let_line h = refl

-- the letter and the first two fields
pub start_bytes : {l l₁ l₂ l₃ : List ℕ} {at x y z b : ℕ} (r : Row) → b ≡ letter r.kind
    → l₁ ≡ set l at b → x ≡ cond (ltb at (length l)) (suc at) at
    → Prints l₁ l₂ x y (print_field r.x) → Prints l₂ l₃ y z (print_field r.y) → Prints l l₃ at z (first_two r)
start_bytes r e s p u v = prints_both (prints_both (prints_as (ap (λ c. c ∷ []) e) (prints_one s p)) u) v

-- a row of two fields
pub row_two : {l l₁ l₂ : List ℕ} {at z end n : ℕ} (r : Row) → n ≡ field_count r.kind → n ≡ 2 → Prints l l₁ at z (first_two r)
    → l₂ ≡ set l₁ z line_feed → end ≡ cond (ltb z (length l₁)) (suc z) z → Prints l l₂ at end (print r)
row_two r e t w s p = prints_as (print_two r (sym e ∙ t)) (prints_both w (prints_one s p))

-- a row of three fields
pub row_three : {l l₁ l₂ l₃ : List ℕ} {at z y end n : ℕ} (r : Row) → n ≡ field_count r.kind → (n ≡ 2 → ⊥) → Prints l l₁ at z (first_two r)
    → Prints l₁ l₂ z y (print_field r.z)
    → l₃ ≡ set l₂ y line_feed → end ≡ cond (ltb y (length l₂)) (suc y) y → Prints l l₃ at end (print r)
row_three r e t w u s p = prints_as (print_three r (three_fields r.kind (λ h. t (e ∙ h)))) (prints_both (prints_both w u) (prints_one s p))
