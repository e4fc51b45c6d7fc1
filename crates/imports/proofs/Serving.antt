-- What Import answers and leaves in the areas, case by case, against the model's.
use Prim.Native.Nat.{ℕ, ◌≤◌, ◌<◌}
use mathlib.Core.Path.{◌≡◌, refl, ap, ◌∙◌}
use mathlib.Core.Bool.{Bool, true, false}
use mathlib.Core.Option.{none, some}
use mathlib.Core.List.{List}
use lib.ListN.{length}
use Rattle.limits.specs.Limits.{import_length}
use Rattle.calculus.specs.Tools.{is_some}
use Rattle.calculus.specs.Refusals.{short_area}
use Rattle.format.specs.Lines.{Row}
use Rattle.model.specs.Services.{written, Outcome, bytes_from}
use Rattle.format.specs.Code.{refusal_view}
use Rattle.law_pairlists.specs.PairLists.{import_rows, import_service, import_served}
use Rattle.table_walks.specs.Walk.{FileIn}
use Rattle.checker.specs.CheckSays.{CheckSays, Accepted}
use Rattle.checker.specs.declared.Checked as C
use Rattle.checker.proofs.Going.{ServedAs, narrow, roomy, short_area_lem, check_refused, check_accepted}
use Rattle.list_file.specs.Filing.{FiledAs}
use Rattle.list_file.specs.declared.Filed as D
use Rattle.imports.specs.ImportSays.{ImportSays}
use Rattle.imports.specs.declared.Imported as I

module _ (s t w : List ℕ) (i j : ℕ) (list o : List ℕ) where
  -- the file written, as an outcome says
  abbrev Own : List ℕ → I.Imported → Outcome (List ℕ) → Type 0
  Own o' r x = (r.length ≡ length (bytes_from x)) × (o' ≡ written (bytes_from x) o)

  import_says : (t' w' o' : List ℕ) (r : I.Imported) → ServedAs (import_served s t w i j list o) (Own o' r) r.answer.refusal r.answer.place t' w'
      → ImportSays s t w i j list o t' w' o' r
  unfolding import_service
  import_says t' w' o' r g =
      record {
        refusal = g.refusal;
        number = g.number;
        line = g.line;
        bytes = g.answers.0;
        table = g.table;
        work = g.work;
        output = g.answers.1;
      }

  -- 1: the output area is short
  pub import_short : (r : I.Imported) → length o < import_length → refusal_view r.answer.refusal ≡ some short_area → r.answer.place ≡ 0 → r.length ≡ 0
      → ImportSays s t w i j list o t w o r
  import_short r h e p k = import_says t w o r (short_area_lem (λ rs. import_rows rs i j list) (Own o r) s t w (narrow t w h) e p (k, refl))

  module _ (h : import_length ≤ length o) (t' w' : List ℕ) where
    pub import_refused : (r : I.Imported) {b : Bool} → CheckSays s t w t' w' r.answer → b ≡ is_some (refusal_view r.answer.refusal) → b ≡ true → r.length ≡ 0
        → ImportSays s t w i j list o t' w' o r
    import_refused r c e y k =
        import_says t' w' o r (check_refused (λ rs. import_rows rs i j list) (Own o r) s t w (roomy t w h) c e y (λ g. (k, refl)))

    pub import_accepted : (o' : List ℕ) (c : C.Checked) (m : D.Filed) (r : I.Imported) {b : Bool} → CheckSays s t w t' w' c.answer → (refusal_view c.answer.refusal ≡ none → Accepted s t' c)
        → b ≡ is_some (refusal_view c.answer.refusal) → b ≡ false
        → ((patterns lines : ℕ) (rs : List Row) → FileIn t' c.types patterns lines rs → import_length ≤ length o → FiledAs (import_rows rs i j list) o o' m)
        → r.answer.refusal ≡ m.refusal → r.answer.place ≡ 0 → r.length ≡ m.length → ImportSays s t w i j list o t' w' o' r
    import_accepted o' c m r says acc e y f same p k =
        import_says t' w' o' r
        (check_accepted (λ rs. import_rows rs i j list) (Own o' r) s t w (roomy t w h) c says acc e y p
        (λ a. let q = f c.patterns c.lines a.file a.table h in (ap refusal_view same ∙ q.refusal, (k ∙ q.bytes, q.output)))
        (λ _ u. u))
