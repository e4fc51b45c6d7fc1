-- A linear environment: a slot for each variable number, empty or full. Putting needs an empty slot, getting a full one and
-- empties it, so that the two undo each other.
use Rattle.std.specs.Prelude.{ℕ, zero, suc, Bool, true, false, List, [], ◌∷◌, replicate}
use Rattle.std.proofs.Math.Option.{Option, none, some}
use Rattle.limits.specs.Limits.{variables}
use Rattle.calculus.specs.Tools.{◌>>=◌}

abbrev pub Slots : Type 0 → Type 0
Slots A = List (Option A)

abbrev pub put : {A : Type 0} → ℕ → A → Slots A → Option (Slots A)
put n a [] = none
put zero a (none ∷ e) = some (some a ∷ e)
put zero a (some b ∷ e) = none
put (suc n) a (s ∷ e) = put n a e >>= λ e'. some (s ∷ e')

abbrev pub get : {A : Type 0} → ℕ → Slots A → Option (A × Slots A)
get n [] = none
get zero (none ∷ e) = none
get zero (some a ∷ e) = some (a, none ∷ e)
get (suc n) (s ∷ e) = get n e >>= λ r. some (r.0, s ∷ r.1)

-- no variable has a value
unfoldable pub empty : (A : Type 0) → Slots A
empty A = replicate variables none

abbrev pub all_empty : {A : Type 0} → Slots A → Bool
all_empty [] = true
all_empty (none ∷ e) = all_empty e
all_empty (some a ∷ e) = false

-- what a slot holds; nothing behind the last
abbrev pub slot : {A : Type 0} → Slots A → ℕ → Option A
slot [] n = none
slot (s ∷ e) zero = s
slot (s ∷ e) (suc n) = slot e n
