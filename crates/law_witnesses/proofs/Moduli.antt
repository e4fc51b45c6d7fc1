-- Request 09 with lists: a count of values of at most 127 letters may pass 64 bits; the remainders by two numbers of 64 bits tell it from 0.
use Prim.Native.Nat.{ℕ, zero, suc, ◌+◌, ◌*◌, ◌^◌, ◌-◌, ◌/◌, ◌%◌, ◌<◌, ◌≤◌}
use native.Mathlib.Nat.{le_trans, le_refl, mul-le-mul, div-add-mod, pow-le-pow_right}
use native.Mathlib.Bridge.{le_by_compare, IsLe}
use native.Mathlib.Omega.{arith}
use mathlib.Core.Path.{◌≡◌, refl, ap, ◌∙◌}
use mathlib.Core.Logic.{◌⊎◌, inl, inr}
use mathlib.Core.List.{List}
use Rattle.calculus.specs.Trees.{Ty}
use Rattle.law_witnesses.specs.Seeking.{how_many}
use Rattle.calculus.proofs.Basic.{le_or_lt}
use Rattle.law_witnesses.proofs.Descent.{how_many_power}

multiples : (m u a b : ℕ) → 0 < m → u < m * suc m → u ≡ m * a → u ≡ m * b + b → u ≡ 0
multiples m u a b p l by_m by_next = at (a - b) refl
  where
    not_less : a < b → ⊥
    not_less h = let k = mul-le-mul (le_refl m) h in absurd (omega arith)

    rest : (s : ℕ) → a - b ≡ s → b ≡ m * s
    rest s h = go (le_or_lt b a)
      where
        go : (b ≤ a) ⊎ (a < b) → b ≡ m * s
        go (inr k) = absurd (not_less k)
        go (inl k) =
            let c : a ≡ b + s = omega arith in
            let d : m * a ≡ m * (b + s) = ap (λ x. m * x) c in
            omega arith

    zeros : (x : ℕ) → x * 0 + 0 ≡ 0
    zeros x = omega arith

    at : (s : ℕ) → a - b ≡ s → u ≡ 0
    at zero h = let k = rest zero h in let z : b ≡ 0 = omega arith in by_next ∙ ap (λ x. m * x + x) z ∙ zeros m
    at (suc s) h =
        let k = rest (suc s) h in
        let y : m * b ≡ m * (m * suc s) = ap (λ x. m * x) k in
        absurd (omega arith)

-- a number below m * (m + 1) is 0 where both leave nothing over
pub two_moduli : (m u : ℕ) → 0 < m → u < m * suc m → u % m ≡ 0 → u % suc m ≡ 0 → u ≡ 0
two_moduli m u p l e f =
    multiples m u (u / m) (u / suc m) p l (let h = div-add-mod u m in omega arith) (let h = div-add-mod u (suc m) in omega arith)

wide : 2 ^ 127 < 18446744073709551614 * 18446744073709551615
unfolding IsLe
wide = le_by_compare (suc (2 ^ 127)) (18446744073709551614 * 18446744073709551615) tt

suc_le : {x y : ℕ} → x ≤ y → suc x ≤ suc y
suc_le q = omega arith

-- a number no larger than a count of at most 127 letters is 0 where both moduli leave nothing over
pub tells : (n u : ℕ) (ts : List Ty) → n ≤ 127 → u ≤ how_many n ts → u % 18446744073709551614 ≡ 0 → u % 18446744073709551615 ≡ 0 → u ≡ 0
tells n u ts h l e f =
    two_moduli 18446744073709551614 u (omega arith)
    (le_trans (suc_le (le_trans l (le_trans (how_many_power n ts) (pow-le-pow_right (omega arith) h)))) wide) e f
