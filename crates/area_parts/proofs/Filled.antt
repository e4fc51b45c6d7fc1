-- A list that is filled from the front, step by step and up to an end.
use Prim.Native.Nat.{ℕ, zero, suc, ◌<◌, ◌+◌}
use native.Mathlib.Numerals.{add-one}
use native.Mathlib.Omega.{arith}
use mathlib.Core.Path.{◌≡◌, refl, sym, ap, ◌∙◌}
use mathlib.Core.List.{List, [], ◌∷◌, ◌++◌}
use lib.ListN.{length, drop, set, replicate}

-- one element more
filled_next : {A : Type 0} (x : A) (i : ℕ) (l : List A) → i < length l → set (replicate i x ++ drop i l) i x ≡ replicate (suc i) x ++ drop (suc i) l
filled_next x i [] h = absurd (omega arith)
filled_next x zero (y ∷ l) h = refl
filled_next x (suc i) (y ∷ l) h = ap (λ k. x ∷ k) (filled_next x i l (omega arith))

pub filled_step : {A : Type 0} (x : A) (i : ℕ) (l d : List A) → d ≡ replicate i x ++ drop i l → i < length l → set d i x ≡ replicate (i + 1) x ++ drop (i + 1) l
filled_step x i l d e h = ap (λ k. set k i x) e ∙ filled_next x i l h ∙ ap (λ k. replicate k x ++ drop k l) (sym (add-one i))
