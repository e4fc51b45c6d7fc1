-- Whether a lent area is short, by the code's tests; three numbers stored one after the other.
use Prim.Native.Nat.{ℕ, suc, ◌+◌, ◌*◌, ◌/◌, ◌≤◌, ◌<◌}
use native.Mathlib.Nat.{div-lt_iff_lt-mul, le-div_iff_mul-le}
use native.Mathlib.Omega.{arith}
use mathlib.Core.Path.{◌≡◌, sym, ap, ap₂, ◌∙◌}
use mathlib.Core.Bool.{true, false, ◌||◌}
use mathlib.Core.Logic.{◌⊎◌, inl, inr}
use mathlib.Core.List.{List, [], ◌∷◌}
use lib.Dec.{ltb}
use lib.ListN.{length, set}
use lib.Seq.{sets}
use Rattle.limits.specs.Limits.{result_length, work_length, table_length}
use Rattle.model.specs.Services.{short}
use Rattle.model.specs.Sheet.{narrow_sheet}
use Rattle.model.proofs.Sheets.{long_enough}
use Rattle.calculus.proofs.Basic.{bool_cases, neither, lt_ltb, not_ltb, ltb_lt, ltb_false}

-- ---- short areas

-- a length of fewer than m parts is below their sum
parts : (d l m : ℕ) → 0 < d → ltb (l / d) m ≡ ltb l (m * d)
parts d l m h = go (bool_cases (ltb (l / d) m))
  where
    go : (ltb (l / d) m ≡ true) ⊎ (ltb (l / d) m ≡ false) → ltb (l / d) m ≡ ltb l (m * d)
    go (inl t) = t ∙ sym (lt_ltb ((div-lt_iff_lt-mul h).0 (ltb_lt (l / d) m t)))
    go (inr t) = t ∙ sym (not_ltb ((le-div_iff_mul-le h).0 (ltb_false (l / d) m t)))

pub short_table : (t w n o : List ℕ) (m : ℕ) → length t < table_length → true ≡ (short t w || narrow_sheet m n o)
short_table t w n o m h = sym (ap (λ b. (b || ltb (length w) work_length) || narrow_sheet m n o) (lt_ltb h))

pub short_work : (t w n o : List ℕ) (m : ℕ) → table_length ≤ length t → length w < work_length → true ≡ (short t w || narrow_sheet m n o)
short_work t w n o m h k = sym (ap₂ (λ a b. (a || b) || narrow_sheet m n o) (not_ltb h) (lt_ltb k))

pub short_numbers : (t w n o : List ℕ) (m : ℕ) → table_length ≤ length t → work_length ≤ length w → length n / 3 < m → true ≡ (short t w || narrow_sheet m n o)
short_numbers t w n o m h k l =
    sym (ap₂ (λ a b. a || (b || ltb (length o) (m * result_length))) (long_enough t w h k) (sym (parts 3 (length n) m (omega arith)) ∙ lt_ltb l))

pub short_letters : (t w n o : List ℕ) (m : ℕ) → table_length ≤ length t → work_length ≤ length w → m ≤ length n / 3
    → ltb (length o / result_length) m ≡ (short t w || narrow_sheet m n o)
short_letters t w n o m h k l =
    parts result_length (length o) m (omega arith)
    ∙ sym (ap₂ (λ a b. a || (b || ltb (length o) (m * result_length))) (long_enough t w h k) (sym (parts 3 (length n) m (omega arith)) ∙ not_ltb l))

-- what areas that are long enough have room for
pub record Roomy (t w n o : List ℕ) (m : ℕ) : Type 0 where
  pub enough : short t w ≡ false
  pub works : work_length ≤ length w
  pub numbers : m * 3 ≤ length n
  pub letters : m * result_length ≤ length o

pub roomy : (t w n o : List ℕ) (m : ℕ) → (short t w || narrow_sheet m n o) ≡ false → Roomy t w n o m
roomy t w n o m e =
    let a = neither (short t w) (narrow_sheet m n o) e in
    let b = neither (ltb (length n) (m * 3)) (ltb (length o) (m * result_length)) a.1 in
    let c = neither (ltb (length t) table_length) (ltb (length w) work_length) a.0 in
    record {
      enough = a.0;
      works = ltb_false (length w) work_length c.1;
      numbers = ltb_false (length n) (m * 3) b.0;
      letters = ltb_false (length o) (m * result_length) b.1;
    }

-- ---- three numbers

pub three_stored : (n : List ℕ) {n₁ n₂ n₃ : List ℕ} (at b : ℕ) {a x c y z : ℕ} → n₁ ≡ set n at a → a ≡ x → x ≡ y → n₂ ≡ set n₁ (at + 1) b → n₃ ≡ set n₂ (at + 2) c → c ≡ z
    → n₃ ≡ sets n at (y ∷ (b ∷ (z ∷ [])))
three_stored n at b {y = y} {z = z} e p q f g r =
    let one : at + 1 ≡ suc at = omega arith in
    let two : at + 2 ≡ suc (suc at) = omega arith in
    g ∙ ap₂ (λ l v. set l (at + 2) v) (f ∙ ap (λ l. set l (at + 1) b) (e ∙ ap (set n at) (p ∙ q))) r
    ∙ ap₂ (λ i j. set (set (set n at y) i b) j z) one two
