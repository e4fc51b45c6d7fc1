-- What Run answers and leaves in the areas, case by case, against the model's Run.
use Prim.Native.Nat.{ℕ, ◌-◌, ◌≤◌, ◌<◌}
use native.Mathlib.Omega.{arith}
use native.Mathlib.Nat.{sub-zero}
use mathlib.Core.Path.{◌≡◌, refl, sym, ap, ◌∙◌, subst}
use mathlib.Core.Bool.{Bool, true, false}
use mathlib.Core.Option.{none, some}
use mathlib.Core.List.{List, ◌++◌}
use lib.ListN.{length, drop, take}
use lib.Seq.{length-take-le, drop_at}
use borrow.Rule.Slice.PartMut.{mid_of, post_of}
use Rattle.limits.specs.Limits.{result_length, work_length}
use Rattle.calculus.specs.Tools.{is_some}
use Rattle.calculus.specs.Refusals.{short_area}
use Rattle.model.specs.Services.{verdict, written, Outcome, answer_of_run, run_on, run_served, run_service}
use Rattle.format.specs.Code.{refusal_view}
use Rattle.format.specs.declared.Answer as A
use Rattle.area_parts.specs.Cleared.{cleared}
use Rattle.checker.specs.CheckSays.{CheckSays, Accepted}
use Rattle.checker.specs.declared.Checked as C
use Rattle.checker.proofs.Going.{ServedAs, narrow, roomy, cleared_work, short_area_lem, check_refused, check_accepted}
use Rattle.checker.proofs.Whole.{whole}
use Rattle.runner.specs.declared.run.Ran as R
use Rattle.runner.specs.RunSays.{OnAccepted, answer_for, RanInto, RunSays}

-- count, length and letters, as an outcome says
abbrev Own : List ℕ → List ℕ → R.Ran → Outcome (ℕ × List ℕ) → Type 0
Own o o' r x =
    (r.count ≡ (answer_of_run x).count) × (r.length ≡ length (answer_of_run x).letters) × (o' ≡ written (answer_of_run x).letters o)

-- Run's answer names no line
run_says : (s t w : List ℕ) (i : ℕ) (back : Bool) (budget : ℕ) (value o t' w' o' : List ℕ) (r : R.Ran) {place : ℕ}
    → ServedAs (run_served (verdict s) t w i back budget value o) (Own o o' r) r.refusal place t' w' → RunSays s t w i back budget value o t' w' o' r
unfolding run_service
run_says s t w i back budget value o t' w' o' r g =
    record {
      refusal = g.refusal;
      number = g.number;
      count = g.answers.0;
      bytes = g.answers.1;
      table = g.table;
      work = g.work;
      result = g.answers.2;
    }

-- 1: the result area is short
pub short_result : (s t w : List ℕ) (i : ℕ) (back : Bool) (budget : ℕ) (value o : List ℕ) (r : R.Ran) → length o < result_length
    → refusal_view r.refusal ≡ some short_area → r.count ≡ 0 → r.length ≡ 0 → RunSays s t w i back budget value o t w o r
short_result s t w i back budget value o r h n k l =
    run_says s t w i back budget value o t w o r
    (short_area_lem (run_on i back budget value) (Own o o r) s t w (narrow t w h) {place = 0} n refl (k, l, refl))

-- a refused file runs nothing
pub run_refused : (s t w : List ℕ) (i : ℕ) (back : Bool) (budget : ℕ) (value o t' w' : List ℕ) (a : A.Answer) (r : R.Ran) (b : Bool) → result_length ≤ length o
    → CheckSays s t w t' w' a → b ≡ is_some (refusal_view a.refusal) → b ≡ true → r.refusal ≡ a.refusal → r.count ≡ 0 → r.length ≡ 0
    → RunSays s t w i back budget value o t' w' o r
run_refused s t w i back budget value o t' w' a r b h c e y same k l =
    run_says s t w i back budget value o t' w' o r
    (subst (λ f. ServedAs (run_served (verdict s) t w i back budget value o) (Own o o r) f a.place t' w') (sym same)
    (check_refused (run_on i back budget value) (Own o o r) s t w (roomy t w h) c e y (λ g. (k, l, refl))))

-- ---- an accepted file

-- the work area has the room that a run needs
pub work_room : (s t w t' w' : List ℕ) (c : C.Checked) (b : Bool) → length w' ≡ length w → CheckSays s t w t' w' c.answer
    → (refusal_view c.answer.refusal ≡ none → Accepted s t' c) → b ≡ is_some (refusal_view c.answer.refusal) → b ≡ false → work_length ≤ length w'
work_room s t w t' w' c b wide says acc e y =
    let g = whole s t w t' w' c b says acc e y in let h = g.work_long in omega (arith, wide, h)

-- ---- the work area's front, lent on

pub front_length : (room : ℕ) (w : List ℕ) → room ≤ length w → length (mid_of 0 (room - 0) w) ≡ room
front_length room w h = ap (λ k. length (take k w)) (sub-zero room) ∙ length-take-le room w h

-- what lies behind it
pub front_rest : (room : ℕ) (w ys w' : List ℕ) → room ≤ length w → length ys ≡ length (mid_of 0 (room - 0) w) → w' ≡ ys ++ post_of 0 (room - 0) w → drop room w' ≡ drop room w
front_rest room w ys w' h n e =
    ap (drop room) e ∙ drop_at ys (post_of 0 (room - 0) w) room (n ∙ front_length room w h) ∙ ap (λ k. drop k w) (sub-zero room)

pub run_accepted : (s t w : List ℕ) (i : ℕ) (back : Bool) (budget : ℕ) (value o t' w₁ w₂ w' o' : List ℕ) (c : C.Checked) (r : R.Ran) (b : Bool) → result_length ≤ length o
    → length w₁ ≡ length w → CheckSays s t w t' w₁ c.answer → (refusal_view c.answer.refusal ≡ none → Accepted s t' c)
    → b ≡ is_some (refusal_view c.answer.refusal) → b ≡ false → length w₂ ≡ length w₁ → drop work_length w₂ ≡ drop work_length w₁
    → OnAccepted t' c work_length (λ rs. RanInto (answer_for rs i back budget value) o o' r)
    → w' ≡ cleared work_length w₂ → RunSays s t w i back budget value o t' w' o' r
run_accepted s t w i back budget value o t' w₁ w₂ w' o' c r b h wide says acc e y same rest ran e' =
    run_says s t w i back budget value o t' w' o' r
    (check_accepted (run_on i back budget value) (Own o o' r) s t w (roomy t w h) c says acc e y {place = 0} refl
    (λ a. let q = ran s a (omega arith) (omega arith) h in (q.refusal, (q.count, q.bytes, q.result)))
    (λ long is. cleared_work w w₁ w₂ w' long wide is same rest e'))
