-- Decimal numerals: what is printed reads back, and what reads is what is printed.
use Prim.Native.Nat.{ℕ, zero, suc, ◌+◌, ◌*◌, ◌-◌, ◌/◌, ◌%◌, ◌^◌, ◌<◌, ◌≤◌}
use native.Mathlib.Nat.{pow-suc, ne_of_gt}
use native.Mathlib.Omega.{arith}
use mathlib.Core.Path.{◌≡◌, refl, sym, ap, ap₂, ◌∙◌, subst}
use mathlib.Core.Logic.{◌⊎◌, inl, inr}
use mathlib.Core.Bool.{true, false, cond}
use mathlib.Core.Option.{some}
use mathlib.Core.List.{List, [], ◌∷◌, ◌++◌, append_assoc}
use lib.Dec.{leb, ltb, eqb}
use Rattle.limits.specs.Limits.{digit_zero}
use Rattle.calculus.specs.Tools.{◌>>=◌, guard, all}
use Rattle.format.specs.Lines.{is_digit, digits, numeral, decimal_of, decimal}
use Rattle.calculus.proofs.Basic.{bind_some, none≢some, some_inj, guard_true, bool_cases, and_true, true_and, eqb_eq, eqb_false, not_eqb, leb_le, le_leb}
use Rattle.calculus.proofs.Basic.{ltb_lt, lt_ltb, ltb_false, not_ltb, all_append}

-- ---- digits

pub digit_lower : (b : ℕ) → is_digit b ≡ true → digit_zero ≤ b
digit_lower b e = leb_le digit_zero b (and_true (leb digit_zero b) (ltb b (digit_zero + 10)) e).0

pub digit_upper : (b : ℕ) → is_digit b ≡ true → b < digit_zero + 10
digit_upper b e = ltb_lt b (digit_zero + 10) (and_true (leb digit_zero b) (ltb b (digit_zero + 10)) e).1

pub digit_of : (e : ℕ) → e < 10 → is_digit (digit_zero + e) ≡ true
digit_of e h =
    let lower : digit_zero ≤ digit_zero + e = omega arith in
    let upper : digit_zero + e < digit_zero + 10 = omega arith in
    true_and (le_leb lower) (lt_ltb upper)

-- ---- the fuel of decimalOf

decimal_of_small : (d n : ℕ) → n < 10 → decimal_of (suc d) n ≡ (digit_zero + n) ∷ []
decimal_of_small d n h = rw (lt_ltb h)

decimal_of_large : (d n : ℕ) → 10 ≤ n → decimal_of (suc d) n ≡ decimal_of d (n / 10) ++ ((digit_zero + n % 10) ∷ [])
decimal_of_large d n h = rw (not_ltb h)

-- the quotient needs one digit less
quotient_fits : (d n : ℕ) → n < 10 ^ suc (suc d) → n / 10 < 10 ^ suc d
quotient_fits d n h =
    let p : 10 ^ suc (suc d) ≡ 10 ^ suc d * 10 = pow-suc 10 (suc d) in
    omega arith

-- one digit of fuel more changes nothing
decimal_of_more : (d n : ℕ) → n < 10 ^ suc d → decimal_of (suc d) n ≡ decimal_of (suc (suc d)) n
decimal_of_more zero n h = decimal_of_small 0 n h ∙ sym (decimal_of_small 1 n h)
decimal_of_more (suc d) n h =
    ap (λ ds. cond (ltb n 10) ((digit_zero + n) ∷ []) (ds ++ ((digit_zero + n % 10) ∷ []))) (decimal_of_more d (n / 10) (quotient_fits d n h))

pub decimal_small : (n : ℕ) → n < 10 → decimal n ≡ (digit_zero + n) ∷ []
unfolding decimal
decimal_small n h = decimal_of_small 9 n h

-- a digit behind a number is the last digit of ten times the number and the digit
pub decimal_snoc : (m e : ℕ) → 0 < m → e < 10 → m < 1000000000 → decimal (m * 10 + e) ≡ decimal m ++ ((digit_zero + e) ∷ [])
unfolding decimal
decimal_snoc m e p h f =
    let quotient : (m * 10 + e) / 10 ≡ m = omega arith in
    let remainder : (m * 10 + e) % 10 ≡ e = omega arith in
    let large : 10 ≤ m * 10 + e = omega arith in
    decimal_of_large 9 (m * 10 + e) large
    ∙ ap₂ (λ q r. decimal_of 9 q ++ ((digit_zero + r) ∷ [])) quotient remainder
    ∙ ap (λ ds. ds ++ ((digit_zero + e) ∷ [])) (decimal_of_more 8 m f)

-- ---- the digits of a number

-- a digit ahead carries the number on
digits_step :
    (bound n b : ℕ) (bs : List ℕ)
    → is_digit b ≡ true
    → n * 10 + (b - digit_zero) < bound
    → digits bound n (b ∷ bs) ≡ digits bound (n * 10 + (b - digit_zero)) bs
digits_step bound n b bs d h = rw (d, lt_ltb h)

-- any other byte ends it
digits_stop : (bound n b : ℕ) (bs : List ℕ) → is_digit b ≡ false → digits bound n (b ∷ bs) ≡ some (n, b ∷ bs)
digits_stop bound n b bs d = rw d

-- bytes that do not go on a number
abbrev pub NoDigit : List ℕ → Type 0
NoDigit [] = Unit {0}
NoDigit (b ∷ bs) = is_digit b ≡ false

digits_end : (bound n : ℕ) (rest : List ℕ) → NoDigit rest → digits bound n rest ≡ some (n, rest)
digits_end bound n [] h = refl
digits_end bound n (b ∷ bs) h = digits_stop bound n b bs h

-- where a digit ahead reads, the number that it carries on is below the bound
digits_step_inv :
    (bound n b : ℕ) (bs : List ℕ) {r : ℕ × List ℕ}
    → is_digit b ≡ true
    → digits bound n (b ∷ bs) ≡ some r
    → (n * 10 + (b - digit_zero) < bound) × (digits bound (n * 10 + (b - digit_zero)) bs ≡ some r)
digits_step_inv bound n b bs {r} d e =
    let m : ℕ = n * 10 + (b - digit_zero) in
    let e' : (guard (ltb m bound) >>= λ _. digits bound m bs) ≡ some r = rw d at e in
    let t = bind_some (guard (ltb m bound)) (λ _. digits bound m bs) e' in
    (ltb_lt m bound (guard_true (ltb m bound) t.1), t.2)

-- the byte of a digit
digit_byte : (b : ℕ) → is_digit b ≡ true → digit_zero + (b - digit_zero) ≡ b
digit_byte b d = let h : digit_zero ≤ b = digit_lower b d in omega arith

-- a digit moved from the bytes behind a number to the number
decimal_push : (n b : ℕ) (bs : List ℕ) → is_digit b ≡ true → 0 < n → n < 1000000000 → decimal (n * 10 + (b - digit_zero)) ++ bs ≡ decimal n ++ (b ∷ bs)
decimal_push n b bs d p f =
    let low : digit_zero ≤ b = digit_lower b d in
    let high : b < digit_zero + 10 = digit_upper b d in
    let last : List ℕ = (digit_zero + (b - digit_zero)) ∷ [] in
    ap (λ ds. ds ++ bs) (decimal_snoc n (b - digit_zero) p (omega arith) f)
    ∙ append_assoc (decimal n) last bs
    ∙ ap (λ k. decimal n ++ (k ∷ bs)) (digit_byte b d)

-- reading on from the number n
abbrev Carries : ℕ → ℕ → List ℕ → ℕ × List ℕ → Type 0
Carries bound n bs r = (decimal n ++ bs ≡ decimal r.0 ++ r.1) × (r.0 < bound)

read_digits :
    (bound : ℕ)
    → bound ≤ 4294967296
    → (bs : List ℕ) (n : ℕ) {r : ℕ × List ℕ}
    → 0 < n
    → n < bound
    → digits bound n bs ≡ some r
    → Carries bound n bs r
read_digits bound c [] n {r} p h e =
    let q : ◌≡◌ {A = ℕ × List ℕ} (n, []) r = some_inj e in
    (ap (λ s. decimal s.0 ++ s.1) q, subst (λ s. s.0 < bound) q h)
read_digits bound c (b ∷ bs) n {r} p h e = go (bool_cases (is_digit b)) (λ m. read_digits bound c bs m)
  where
    go :
        (is_digit b ≡ true) ⊎ (is_digit b ≡ false)
        → ((m : ℕ) → 0 < m → m < bound → digits bound m bs ≡ some r → Carries bound m bs r)
        → Carries bound n (b ∷ bs) r
    go (inl d) ih =
        let m : ℕ = n * 10 + (b - digit_zero) in
        let t : (m < bound) × (digits bound m bs ≡ some r) = digits_step_inv bound n b bs d e in
        let below : m < bound = t.0 in
        let o : Carries bound m bs r = ih m (omega arith) t.0 t.1 in
        (sym (decimal_push n b bs d p (omega arith)) ∙ o.0, o.1)
    go (inr d) ih =
        let q : ◌≡◌ {A = ℕ × List ℕ} (n, b ∷ bs) r = some_inj (sym (digits_stop bound n b bs d) ∙ e) in
        (ap (λ s. decimal s.0 ++ s.1) q, subst (λ s. s.0 < bound) q h)

decimal_zero : decimal 0 ≡ digit_zero ∷ []
unfolding decimal
decimal_zero = refl

-- what reads is what is printed
pub read_numeral :
    (bound : ℕ)
    → 0 < bound
    → bound ≤ 4294967296
    → (bs : List ℕ) {r : ℕ × List ℕ}
    → numeral bound bs ≡ some r
    → (bs ≡ decimal r.0 ++ r.1) × (r.0 < bound)
read_numeral bound p c [] e = absurd (none≢some e)
read_numeral bound p c (b ∷ bs) {r} e = go (bool_cases (eqb b digit_zero))
  where
    go : (eqb b digit_zero ≡ true) ⊎ (eqb b digit_zero ≡ false) → (b ∷ bs ≡ decimal r.0 ++ r.1) × (r.0 < bound)
    go (inl z) =
        let q : ◌≡◌ {A = ℕ × List ℕ} (0, bs) r = some_inj (rw z at e) in
        let byte : b ∷ bs ≡ decimal 0 ++ bs = ap (λ k. k ∷ bs) (eqb_eq b digit_zero z) ∙ ap (λ ds. ds ++ bs) (sym decimal_zero) in
        (byte ∙ ap (λ s. decimal s.0 ++ s.1) q, subst (λ s. s.0 < bound) q p)
    go (inr z) =
        let e' : (guard (is_digit b) >>= λ _. digits bound 0 (b ∷ bs)) ≡ some r = rw z at e in
        let t = bind_some (guard (is_digit b)) (λ _. digits bound 0 (b ∷ bs)) e' in
        let d : is_digit b ≡ true = guard_true (is_digit b) t.1 in
        let u = digits_step_inv bound 0 b bs d t.2 in
        let low : digit_zero ≤ b = digit_lower b d in
        let high : b < digit_zero + 10 = digit_upper b d in
        let m : ℕ = 0 * 10 + (b - digit_zero) in
        let zeroless : b ≡ digit_zero → ⊥ = eqb_false z in
        let o : Carries bound m bs r = read_digits bound c bs m (omega (arith, zeroless)) u.0 u.1 in
        let same : digit_zero + m ≡ b = omega arith in
        let first : decimal m ≡ b ∷ [] = decimal_small m (omega arith) ∙ ap (λ k. k ∷ []) same in
        (sym (ap (λ ds. ds ++ bs) first) ∙ o.0, o.1)

-- ---- printed numbers

-- a last digit carries the number ahead of it on to the whole number
digits_last : (bound m e n : ℕ) (rest : List ℕ) → e < 10 → m * 10 + e ≡ n → n < bound → digits bound m ((digit_zero + e) ∷ rest) ≡ digits bound n rest
digits_last bound m e n rest h q f =
    let same : m * 10 + (digit_zero + e - digit_zero) ≡ n = omega arith in
    digits_step bound m (digit_zero + e) rest (digit_of e h) (omega arith) ∙ ap (λ k. digits bound k rest) same

digits_one : (bound d n : ℕ) (rest : List ℕ) → n < 10 → n < bound → digits bound 0 (decimal_of (suc d) n ++ rest) ≡ digits bound n rest
digits_one bound d n rest f h = ap (λ ds. digits bound 0 (ds ++ rest)) (decimal_of_small d n f) ∙ digits_last bound 0 n n rest f (omega arith) h

-- the digits of n ahead carry 0 on to n
digits_decimal : (bound d n : ℕ) (rest : List ℕ) → n < 10 ^ suc d → n < bound → digits bound 0 (decimal_of (suc d) n ++ rest) ≡ digits bound n rest
digits_decimal bound zero n rest f h = digits_one bound 0 n rest f h
digits_decimal bound (suc d) n rest f h =
    go (bool_cases (ltb n 10)) (digits_decimal bound d (n / 10) ((digit_zero + n % 10) ∷ rest) (quotient_fits d n f) (omega arith))
  where
    go :
        (ltb n 10 ≡ true) ⊎ (ltb n 10 ≡ false)
        → digits bound 0 (decimal_of (suc d) (n / 10) ++ ((digit_zero + n % 10) ∷ rest)) ≡ digits bound (n / 10) ((digit_zero + n % 10) ∷ rest)
        → digits bound 0 (decimal_of (suc (suc d)) n ++ rest) ≡ digits bound n rest
    go (inl t) ih = digits_one bound (suc d) n rest (ltb_lt n 10 t) h
    go (inr t) ih =
        ap (λ ds. digits bound 0 (ds ++ rest)) (decimal_of_large (suc d) n (ltb_false n 10 t))
        ∙ ap (digits bound 0) (append_assoc (decimal_of (suc d) (n / 10)) ((digit_zero + n % 10) ∷ []) rest)
        ∙ ih
        ∙ digits_last bound (n / 10) (n % 10) n rest (omega arith) (omega arith) h

-- the first digit of a number other than 0 is not 0
record Leading (ds : List ℕ) : Type 0 where
  first : ℕ
  others : List ℕ
  shape : ds ≡ first ∷ others
  digit : is_digit first ≡ true
  nonzero : eqb first digit_zero ≡ false

leading_digit : (n : ℕ) → 0 < n → n < 10 → Leading ((digit_zero + n) ∷ [])
leading_digit n p h =
    let above : digit_zero < digit_zero + n = omega arith in
    record { first = digit_zero + n; others = []; shape = refl; digit = digit_of n h; nonzero = not_eqb (ne_of_gt above) }

leading_append : {ds : List ℕ} (es : List ℕ) → Leading ds → Leading (ds ++ es)
leading_append es l = record { first = l.first; others = l.others ++ es; shape = ap (λ ds. ds ++ es) l.shape; digit = l.digit; nonzero = l.nonzero }

leading : (d n : ℕ) → 0 < n → n < 10 ^ suc d → Leading (decimal_of (suc d) n)
leading zero n p f = subst Leading (sym (decimal_of_small 0 n f)) (leading_digit n p f)
leading (suc d) n p f = go (bool_cases (ltb n 10)) (λ q. leading d (n / 10) q (quotient_fits d n f))
  where
    go : (ltb n 10 ≡ true) ⊎ (ltb n 10 ≡ false) → (0 < n / 10 → Leading (decimal_of (suc d) (n / 10))) → Leading (decimal_of (suc (suc d)) n)
    go (inl t) ih = subst Leading (sym (decimal_of_small (suc d) n (ltb_lt n 10 t))) (leading_digit n p (ltb_lt n 10 t))
    go (inr t) ih =
        let h : 10 ≤ n = ltb_false n 10 t in
        subst Leading (sym (decimal_of_large (suc d) n h)) (leading_append ((digit_zero + n % 10) ∷ []) (ih (omega arith)))

numeral_digit : (bound b : ℕ) (bs : List ℕ) → is_digit b ≡ true → eqb b digit_zero ≡ false → numeral bound (b ∷ bs) ≡ digits bound 0 (b ∷ bs)
numeral_digit bound b bs d z =
    ap (λ t. cond t (some (0, bs)) (guard (is_digit b) >>= λ _. digits bound 0 (b ∷ bs))) z ∙ ap (λ t. guard t >>= λ _. digits bound 0 (b ∷ bs)) d

numeral_leading : (bound : ℕ) {ds : List ℕ} (rest : List ℕ) → Leading ds → numeral bound (ds ++ rest) ≡ digits bound 0 (ds ++ rest)
numeral_leading bound {ds} rest l =
    subst (λ es. numeral bound (es ++ rest) ≡ digits bound 0 (es ++ rest)) (sym l.shape) (numeral_digit bound l.first (l.others ++ rest) l.digit l.nonzero)

-- reading what is printed
pub numeral_decimal :
    (bound n : ℕ) (rest : List ℕ)
    → bound ≤ 4294967296
    → n < bound
    → NoDigit rest
    → numeral bound (decimal n ++ rest) ≡ some (n, rest)
unfolding decimal
numeral_decimal bound zero rest c h q = refl
numeral_decimal bound (suc n) rest c h q =
    let f : suc n < 10 ^ 10 = omega arith in
    numeral_leading bound rest (leading 9 (suc n) (omega arith) f) ∙ digits_decimal bound 9 (suc n) rest f h ∙ digits_end bound (suc n) rest q

-- ---- the bytes of printed numbers

decimal_of_digits : (d n : ℕ) → all is_digit (decimal_of d n) ≡ true
decimal_of_digits zero n = refl
decimal_of_digits (suc d) n = go (bool_cases (ltb n 10)) (decimal_of_digits d (n / 10))
  where
    go : (ltb n 10 ≡ true) ⊎ (ltb n 10 ≡ false) → all is_digit (decimal_of d (n / 10)) ≡ true → all is_digit (decimal_of (suc d) n) ≡ true
    go (inl t) ih = ap (all is_digit) (decimal_of_small d n (ltb_lt n 10 t)) ∙ true_and (digit_of n (ltb_lt n 10 t)) refl
    go (inr t) ih =
        ap (all is_digit) (decimal_of_large d n (ltb_false n 10 t))
        ∙ all_append is_digit (decimal_of d (n / 10)) ((digit_zero + n % 10) ∷ []) ih (true_and (digit_of (n % 10) (omega arith)) refl)

pub decimal_digits : (n : ℕ) → all is_digit (decimal n) ≡ true
unfolding decimal
decimal_digits n = decimal_of_digits 10 n
