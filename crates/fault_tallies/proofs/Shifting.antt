-- Loops over arrays of 128 numbers.
use Prim.Native.Nat.{ℕ, zero, suc, ◌+◌, ◌<◌, ◌≤◌}
use native.Mathlib.Nat.{eq-or-lt_of_le}
use native.Mathlib.Omega.{arith}
use mathlib.Core.Path.{◌≡◌, refl, ap, ◌∙◌, subst}
use mathlib.Core.Logic.{◌⊎◌, inl, inr}
use mathlib.Core.List.{List, [], ◌∷◌}
use lib.ListN.{length, get_or, set, length-set}
use lib.Seq.{get_or-set_same, get_or-set_other}

-- each place by the numbers of two arrays there
pub record Each (f : ℕ → ℕ → ℕ) (k₀ o k : List ℕ) (i : ℕ) : Type 0 where
  pub within : i ≤ 128
  pub long : length k ≡ 128
  pub done : (j : ℕ) → j < i → get_or k j 0 ≡ f (get_or k₀ j 0) (get_or o j 0)
  pub kept : (j : ℕ) → i ≤ j → get_or k j 0 ≡ get_or k₀ j 0

pub each_one : (f : ℕ → ℕ → ℕ) (k₀ o k : List ℕ) (i v : ℕ) → Each f k₀ o k i → i < 128 → v ≡ f (get_or k i 0) (get_or o i 0) → Each f k₀ o (set k i v) (i + 1)
each_one f k₀ o k i v z l e =
    record {
      within = omega arith;
      long = length-set k i v ∙ z.long;
      done = λ j h. at j (eq-or-lt_of_le h);
      kept = λ j h. get_or-set_other k i j v 0 (λ q. absurd (omega arith)) ∙ z.kept j (omega arith);
    }
  where
    at : (j : ℕ) → (suc j ≡ i + 1) ⊎ (suc j < i + 1) → get_or (set k i v) j 0 ≡ f (get_or k₀ j 0) (get_or o j 0)
    at j (inl q) =
        let r : i ≡ j = omega arith in
        subst (λ n. get_or (set k i v) n 0 ≡ f (get_or k₀ n 0) (get_or o n 0)) r
        (get_or-set_same k i v 0 (omega (arith, z.long)) ∙ e ∙ ap (λ x. f x (get_or o i 0)) (z.kept i (omega arith)))
    at j (inr q) = get_or-set_other k i j v 0 (λ same. absurd (omega arith)) ∙ z.done j (omega arith)

-- nothing stands past the end
pub past_end : (l : List ℕ) (x : ℕ) → length l ≤ x → 0 ≡ get_or l x 0
past_end [] x h = refl
past_end (y ∷ l) zero h = absurd (omega arith)
past_end (y ∷ l) (suc x) h = past_end l x (omega arith)
