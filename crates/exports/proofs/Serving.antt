-- What the service answers and leaves in the areas, case by case, against the model's.
use Prim.Native.Nat.{ℕ, ◌≤◌, ◌<◌}
use native.Mathlib.Omega.{arith}
use mathlib.Core.Path.{◌≡◌, refl, ap, ◌∙◌}
use mathlib.Core.Bool.{Bool, true, false}
use mathlib.Core.Option.{none, some}
use mathlib.Core.List.{List}
use lib.ListN.{length, drop}
use Rattle.limits.specs.Limits.{work_length, export_length}
use Rattle.calculus.specs.Tools.{is_some}
use Rattle.calculus.specs.Refusals.{short_area}
use Rattle.model.specs.Services.{written, Outcome, bytes_from}
use Rattle.format.specs.Code.{refusal_view}
use Rattle.law_pairlists.specs.PairLists.{export_rows, export_served, export_service}
use Rattle.area_parts.specs.Cleared.{cleared}
use Rattle.checker.specs.CheckSays.{CheckSays, Accepted}
use Rattle.checker.specs.declared.Checked as C
use Rattle.runner.specs.RunSays.{OnAccepted}
use Rattle.checker.proofs.Going.{ServedAs, narrow, roomy, cleared_work, short_area_lem, check_refused, check_accepted}
use Rattle.exports.specs.ExportSays.{ListedInto, ExportSays}
use Rattle.exports.specs.declared.Listed as L
use Rattle.exports.specs.declared.Exported as E

-- the list written, as an outcome says
abbrev Own : List ℕ → List ℕ → E.Exported → Outcome (List ℕ) → Type 0
Own o o' r x = (r.length ≡ length (bytes_from x)) × (o' ≡ written (bytes_from x) o)

export_says : (s t w : List ℕ) (i budget : ℕ) (o t' w' o' : List ℕ) (r : E.Exported)
    → ServedAs (export_served s t w i budget o) (Own o o' r) r.answer.refusal r.answer.place t' w' → ExportSays s t w i budget o t' w' o' r
unfolding export_service
export_says s t w i budget o t' w' o' r g =
    record {
      refusal = g.refusal;
      number = g.number;
      line = g.line;
      bytes = g.answers.0;
      table = g.table;
      work = g.work;
      output = g.answers.1;
    }

-- 1: the output area is short
pub short_output : (s t w : List ℕ) (i budget : ℕ) (o : List ℕ) (r : E.Exported) → length o < export_length
    → refusal_view r.answer.refusal ≡ some short_area → r.answer.place ≡ 0 → r.length ≡ 0 → ExportSays s t w i budget o t w o r
short_output s t w i budget o r h n p l =
    export_says s t w i budget o t w o r (short_area_lem (λ rs. export_rows rs i budget) (Own o o r) s t w (narrow t w h) n p (l, refl))

-- a refused file lists nothing
pub export_refused : (s t w : List ℕ) (i budget : ℕ) (o t' w' : List ℕ) (r : E.Exported) (b : Bool) → export_length ≤ length o
    → CheckSays s t w t' w' r.answer → b ≡ is_some (refusal_view r.answer.refusal) → b ≡ true → r.length ≡ 0 → ExportSays s t w i budget o t' w' o r
export_refused s t w i budget o t' w' r b h c e y l =
    export_says s t w i budget o t' w' o r (check_refused (λ rs. export_rows rs i budget) (Own o o r) s t w (roomy t w h) c e y (λ g. (l, refl)))

-- an accepted file
pub export_accepted : (s t w : List ℕ) (i budget : ℕ) (o t' w₁ w₂ w' o' : List ℕ) (c : C.Checked) (l : L.Listed) (r : E.Exported) (b : Bool) → export_length ≤ length o
    → length w₁ ≡ length w → CheckSays s t w t' w₁ c.answer → (refusal_view c.answer.refusal ≡ none → Accepted s t' c)
    → b ≡ is_some (refusal_view c.answer.refusal) → b ≡ false → length w₂ ≡ length w₁ → drop work_length w₂ ≡ drop work_length w₁
    → OnAccepted t' c work_length (λ rs. ListedInto rs i budget o o' l)
    → w' ≡ cleared work_length w₂ → r.answer.refusal ≡ l.refusal → r.answer.place ≡ 0 → r.length ≡ l.length → ExportSays s t w i budget o t' w' o' r
export_accepted s t w i budget o t' w₁ w₂ w' o' c l r b h wide says acc e y same rest listed e' refusal place bytes =
    export_says s t w i budget o t' w' o' r
    (check_accepted (λ rs. export_rows rs i budget) (Own o o' r) s t w (roomy t w h) c says acc e y place
    (λ a. let q = listed s a (omega arith) (omega arith) h in (ap refusal_view refusal ∙ q.refusal, (bytes ∙ q.bytes, q.output)))
    (λ long is. cleared_work w w₁ w₂ w' long wide is same rest e'))
