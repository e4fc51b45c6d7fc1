-- Comparing and copying letters.
use Prim.Native.Nat.{ℕ, zero, suc, ◌+◌, ◌<◌, ◌≤◌}
use native.Mathlib.Nat.{le_refl, le_of_eq, le_of_lt, ne_of_gt}
use native.Mathlib.Numerals.{add-one}
use native.Mathlib.Omega.{arith}
use mathlib.Core.Path.{◌≡◌, refl, sym, ap, ap₂, ◌∙◌, subst}
use mathlib.Core.Bool.{true, false, cond, ◌||◌}
use mathlib.Core.List.{List, [], ◌∷◌, ◌++◌}
use lib.Dec.{eqb}
use lib.ListN.{length, get_or, set, take, drop, length-set, drop_of_length-le}
use lib.Seq.{drop-cons, take-suc, get_or-set_same, drop-set-lt, take-set-le}
use Rattle.law_ranking.specs.Numbering.{before}
use Rattle.law_witnesses.specs.Showing.{sooner}
use Rattle.calculus.proofs.Basic.{lt_ltb, not_ltb, eq_eqb, not_eqb}

pub sooner_fewer : (x y : List ℕ) → length x < length y → true ≡ sooner x y
sooner_fewer x y h = sym (ap (λ b. b || cond (eqb (length x) (length y)) (before x y) false) (lt_ltb h))

pub sooner_more : (x y : List ℕ) → length y < length x → false ≡ sooner x y
sooner_more x y h = sym (ap₂ (λ b c. b || cond c (before x y) false) (not_ltb (le_of_lt h)) (not_eqb (λ e. ne_of_gt h e)))

pub record Alike (x y : List ℕ) (i : ℕ) : Type 0 where
  pub within : i ≤ length x
  pub same : length x ≡ length y
  pub rest : before (drop i x) (drop i y) ≡ before x y

pub alike_start : (x y : List ℕ) → length y ≤ length x → length x ≤ length y → Alike x y 0
alike_start x y h k = record { within = omega arith; same = omega arith; rest = refl }

by_bytes : {x y : List ℕ} {i : ℕ} → Alike x y i → before x y ≡ sooner x y
by_bytes {x} {y} a = sym (ap₂ (λ b c. b || cond c (before x y) false) (not_ltb (le_of_eq (sym a.same))) (eq_eqb a.same))

module _ {x y : List ℕ} {i : ℕ} (a : Alike x y i) (h : i < length x) where
  heads : before (get_or x i 0 ∷ drop (suc i) x) (get_or y i 0 ∷ drop (suc i) y) ≡ before x y
  heads = ap₂ before (sym (drop-cons x i 0 h)) (sym (drop-cons y i 0 (omega (arith, a.same)))) ∙ a.rest

  pub alike_lower : get_or x i 0 < get_or y i 0 → true ≡ sooner x y
  alike_lower l = sym (ap (λ b. b || cond (eqb (get_or x i 0) (get_or y i 0)) (before (drop (suc i) x) (drop (suc i) y)) false) (lt_ltb l)) ∙ heads ∙ by_bytes a

  pub alike_higher : get_or y i 0 < get_or x i 0 → false ≡ sooner x y
  alike_higher l =
      sym (ap₂ (λ b c. b || cond c (before (drop (suc i) x) (drop (suc i) y)) false) (not_ltb (le_of_lt l)) (not_eqb (λ e. ne_of_gt l e))) ∙ heads ∙ by_bytes a

  pub alike_more : get_or y i 0 ≤ get_or x i 0 → get_or x i 0 ≤ get_or y i 0 → Alike x y (i + 1)
  alike_more k l =
      let e : get_or x i 0 ≡ get_or y i 0 = omega arith in
      record {
        within = omega arith;
        same = a.same;
        rest = ap (λ n. before (drop n x) (drop n y)) (add-one i)
            ∙ sym (ap₂ (λ b c. b || cond c (before (drop (suc i) x) (drop (suc i) y)) false) (not_ltb k) (eq_eqb e)) ∙ heads;
      }

pub alike_all : {x y : List ℕ} {i : ℕ} → Alike x y i → length x ≤ i → false ≡ sooner x y
alike_all {x} {y} {i} a h =
    ap₂ before (sym (drop_of_length-le x {i = i} h)) (sym (drop_of_length-le y {i = i} (subst (λ n. n ≤ i) a.same h))) ∙ a.rest ∙ by_bytes a

-- ---- copies

pub record Copied (from out₀ out : List ℕ) (i : ℕ) : Type 0 where
  pub long : length out ≡ length out₀
  pub same : take i out ≡ take i from
  pub rest : drop i out ≡ drop i out₀

drop_one : (i : ℕ) (l : List ℕ) → drop (suc i) l ≡ drop 1 (drop i l)
drop_one zero [] = refl
drop_one zero (x ∷ l) = refl
drop_one (suc i) [] = refl
drop_one (suc i) (x ∷ l) = drop_one i l

pub copied : {from out₀ out : List ℕ} {i : ℕ} → Copied from out₀ out i → i < length from → i < length out₀ → Copied from out₀ (set out i (get_or from i 0)) (i + 1)
copied {from} {out₀} {out} {i} c h k =
    let l : i < length out = subst (λ n. i < n) (sym c.long) k in
    record {
      long = length-set out i (get_or from i 0) ∙ c.long;
      same = ap (λ n. take n (set out i (get_or from i 0))) (add-one i)
          ∙ take-suc (set out i (get_or from i 0)) i 0 (subst (λ n. i < n) (sym (length-set out i (get_or from i 0))) l)
          ∙ ap₂ (λ p q. p ++ (q ∷ [])) (take-set-le i out i (get_or from i 0) (le_refl i) ∙ c.same) (get_or-set_same out i (get_or from i 0) 0 l)
          ∙ sym (take-suc from i 0 h)
          ∙ ap (λ n. take n from) (sym (add-one i));
      rest = ap (λ n. drop n (set out i (get_or from i 0))) (add-one i)
          ∙ drop-set-lt (suc i) out i (get_or from i 0) (omega arith)
          ∙ drop_one i out ∙ ap (drop 1) c.rest ∙ sym (drop_one i out₀)
          ∙ ap (λ n. drop n out₀) (sym (add-one i));
    }

pub finished : {from out₀ out : List ℕ} {i n : ℕ} → Copied from out₀ out i → i ≤ n → n ≤ i → (take n out ≡ take n from) × (drop n out ≡ drop n out₀)
finished {from} {out₀} {out} {i = i} {n = n} c h k = let e : i ≡ n = omega arith in (subst (λ m. take m out ≡ take m from) e c.same, subst (λ m. drop m out ≡ drop m out₀) e c.rest)
