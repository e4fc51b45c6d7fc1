-- An earlier refusal, or else what was found later.
use Prim.Native.Nat.{ℕ, suc, ◌+◌}
use native.Mathlib.Numerals.{add-one}
use mathlib.Core.Path.{◌≡◌, refl, sym, ap, ap₂, ◌∙◌}
use mathlib.Core.Bool.{Bool, true, false, true≢false, false≢true}
use mathlib.Core.Option.{Option, none, some}
use Rattle.calculus.specs.Refusals.{Refusal}
use Rattle.calculus.specs.Tools.{is_some, or_else}
use Rattle.calculus.specs.Clauses.{at}

-- x is the refusal there or none, b whether it is one
module _ {b : Bool} (place : ℕ) (later : Option (Refusal × ℕ)) where
  -- none: what was found later
  pub goes_on : (x : Option Refusal) → b ≡ is_some x → b ≡ false → later ≡ or_else (at place x) later
  goes_on none e h = refl
  goes_on (some f) e h = absurd (true≢false (sym e ∙ h))

  -- a refusal stays
  pub stays : (x : Option Refusal) → b ≡ is_some x → b ≡ true → at place x ≡ or_else (at place x) later
  stays none e h = absurd (false≢true (sym e ∙ h))
  stays (some f) e h = refl

-- and before two others
pub stays_first : {b : Bool} (place : ℕ) (next later : Option (Refusal × ℕ)) (x : Option Refusal) → b ≡ is_some x → b ≡ true
    → at place x ≡ or_else (or_else (at place x) next) later
stays_first place next later x e h = stays place later x e h ∙ ap (λ o. or_else o later) (stays place next x e h)

-- no clause refused, x none, y the refusal at row p of the calls c of the iso to itself or none: it stays
pub by_calls : {b d : Bool} (place p : ℕ) (x y : Option Refusal) (c sides o : Option (Refusal × ℕ)) → b ≡ is_some x → b ≡ false → at p y ≡ c → d ≡ is_some y → d ≡ true
    → at p y ≡ or_else (or_else (at place x) (or_else c sides)) o
by_calls place p x y c sides o e h ec f k =
    stays_first p sides o y f k ∙ ap (λ z. or_else (or_else z sides) o) ec ∙ ap (λ z. or_else z o) (goes_on place (or_else c sides) x e h)

-- none in its calls: the refusal of the sides at the I line, or else what was found later
pub by_sides : {b d : Bool} (place n p : ℕ) (x y : Option Refusal) {g s : Option Refusal} (c o : Option (Refusal × ℕ)) {r : Option (Refusal × ℕ)}
    → b ≡ is_some x → b ≡ false → at p y ≡ c → d ≡ is_some y → d ≡ false → g ≡ s → r ≡ or_else (at (n + 1) g) o
    → r ≡ or_else (or_else (at place x) (or_else c (at (suc n) s))) o
by_sides place n p x y {s = s} c o e h ec f k es er =
    er
    ∙ ap (λ z. or_else z o)
    (ap₂ at (add-one n) es ∙ goes_on p (at (suc n) s) y f k ∙ ap (λ z. or_else z (at (suc n) s)) ec ∙ goes_on place (or_else c (at (suc n) s)) x e h)

-- none there: none is none of a line
pub told_none : {b : Bool} (place : ℕ) (x : Option Refusal) {o : Option (Refusal × ℕ)} → b ≡ is_some x → b ≡ false → o ≡ none → o ≡ at place x
told_none place none e h n = n
told_none place (some f) e h n = absurd (true≢false (sym e ∙ h))

-- a refusal is not none
pub told_some : {b : Bool} {P : Type 0} (x : Option Refusal) → b ≡ is_some x → b ≡ true → x ≡ none → P
told_some x e h n = absurd (false≢true (sym (e ∙ ap is_some n) ∙ h))
