-- The lines of a script, one after the other.
use Rattle.std.specs.Prelude.{Option as CodeOption}
use Prim.Native.Nat.{ℕ, ◌-◌, ◌≤◌, ◌<◌}
use native.Mathlib.Omega.{arith}
use mathlib.Core.Path.{◌≡◌, refl, sym, ap, ◌∙◌}
use mathlib.Core.Bool.{Bool, true, false, true≢false}
use mathlib.Core.Option.{Option, none, some}
use mathlib.Core.List.{List, [], ◌∷◌}
use lib.ListN.{length, take, drop, drop_of_length-le}
use Rattle.calculus.specs.Tools.{is_some, or_else}
use Rattle.calculus.specs.Trees.{Iso}
use Rattle.calculus.specs.Refusals.{Refusal}
use Rattle.calculus.proofs.Basic.{is_some_true}
use Rattle.format.specs.Lines.{lines}
use Rattle.format.specs.Code.{refusal_view}
use Rattle.format.specs.declared.Refusal as F
use Rattle.model.specs.Services.{Outcome, gives, fails, refusal_of}
use Rattle.law_units.specs.Units.{Planned, and_then, line_on, script_of}
use Rattle.read_fields.specs.Views.{LineEnd}
use Rattle.unit_script.specs.Views.{Marked, LineTold, ScriptTold}

-- the first line decides where it is refused
first_of : (units : ℕ) (os : List Iso) (l : List ℕ) (ls : List (List ℕ))
    → refusal_of (script_of units os (l ∷ ls)) ≡ or_else (refusal_of (line_on units os l)) (refusal_of (script_of units os ls))
first_of units os l ls = go (line_on units os l) (script_of units os ls)
  where
    go : (x : Outcome Planned) (y : Outcome (List Planned)) → refusal_of (and_then x (λ p. and_then y (λ ps. gives (p ∷ ps)))) ≡ or_else (refusal_of x) (refusal_of y)
    go (fails f) y = refl
    go (gives p) (fails f) = refl
    go (gives p) (gives ps) = refl

none_of : (x : Option Refusal) → is_some x ≡ false → x ≡ none
none_of none e = refl
none_of (some f) e = absurd (true≢false e)

module _ (units isos : ℕ) (ms s : List ℕ) where
  -- what the loop knows before the line at place `at`
  pub record Through (at : ℕ) : Type 0 where
    pub within : at ≤ length s
    pub so : (os : List Iso) → isos ≡ length os → Marked os ms → refusal_of (script_of units os (lines s)) ≡ refusal_of (script_of units os (lines (drop at s)))

  pub through_start : Through 0
  through_start = record { within = omega arith; so = λ os n m. refl }

  module _ {at end : ℕ} (x : Through at) (h : at < length s) (e : LineEnd s at end) (f : CodeOption F.Refusal) (told : LineTold units isos ms (take (end - at) (drop at s)) f)
      {b : Bool} (g : b ≡ is_some (refusal_view f)) where
    by_line : (os : List Iso) → isos ≡ length os → Marked os ms → refusal_of (script_of units os (lines s)) ≡ or_else (refusal_view f) (refusal_of (script_of units os (lines (drop end s))))
    by_line os n m =
        x.so os n m ∙ ap (λ ls. refusal_of (script_of units os ls)) (e.splits h) ∙ first_of units os (take (end - at) (drop at s)) (lines (drop end s))
        ∙ ap (λ z. or_else z (refusal_of (script_of units os (lines (drop end s))))) (sym (told os n m))

    pub through_bad : b ≡ true → ScriptTold units isos ms s f
    through_bad k os n m =
        let (z, y) = is_some_true (refusal_view f) (sym g ∙ k) in
        y ∙ sym (by_line os n m ∙ ap (λ u. or_else u (refusal_of (script_of units os (lines (drop end s))))) y)

    pub through_next : b ≡ false → Through end
    through_next k =
        record {
          within = e.within h;
          so = λ os n m. by_line os n m ∙ ap (λ u. or_else u (refusal_of (script_of units os (lines (drop end s))))) (none_of (refusal_view f) (sym g ∙ k));
        }

  pub through_end : {at : ℕ} → Through at → length s ≤ at → (os : List Iso) → isos ≡ length os → Marked os ms → none ≡ refusal_of (script_of units os (lines s))
  through_end {at} x h os n m = sym (x.so os n m ∙ ap (λ l. refusal_of (script_of units os (lines l))) (drop_of_length-le s {i = at} h))
