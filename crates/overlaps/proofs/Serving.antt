-- What the service answers and leaves in the areas, case by case, against its definition.
use Prim.Native.Nat.{ℕ, ◌≤◌}
use mathlib.Core.Path.{◌≡◌, refl, sym, ap, ◌∙◌, subst}
use mathlib.Core.Bool.{Bool, true, false}
use mathlib.Core.Option.{none}
use mathlib.Core.List.{List}
use lib.Dec.{ltb}
use lib.ListN.{length}
use Rattle.limits.specs.Limits.{table_length, work_length}
use Rattle.calculus.specs.Tools.{is_some}
use Rattle.format.specs.Lines.{Row}
use Rattle.model.specs.Services.{accepted, verdict, short, check, Outcome}
use Rattle.format.specs.Code.{refusal_view, numbered}
use Rattle.format.specs.declared.Answer as A
use Rattle.calculus.proofs.Basic.{ltb_false, neither}
use Rattle.table_walks.specs.Walk.{FileIn}
use Rattle.checker.specs.CheckSays.{CheckSays, Accepted}
use Rattle.checker.specs.declared.Checked as C
use Rattle.checker.proofs.Checks.{unless_accepted, flag_none}
use Rattle.checker.proofs.Going.{ServedAs, check_refused, check_accepted}
use Rattle.check_overlap.specs.Comparison.{Compared}
use Rattle.check_overlap.specs.Overlap.{overlap_rows, overlap_on, clash_of, pairs_of, overlap_served, overlap_service}
use Rattle.overlaps.specs.OverlapSays.{OverlapAs, OverlapSays}
use Rattle.overlaps.specs.declared.Overlapped as O

-- table and work area are as after Check, whatever is answered
pub overlap_areas : (file t w : List ℕ) (i j : ℕ) → ((overlap_service file t w i j).table ≡ (check file t w).table) × ((overlap_service file t w i j).work ≡ (check file t w).work)
unfolding check overlap_service
overlap_areas file t w i j = (refl, refl)

module _ (s t w : List ℕ) (i j : ℕ) (t' w' : List ℕ) where
  -- clash and pairs as an outcome says
  abbrev Own : O.Overlapped → Outcome Compared → Type 0
  Own r x = (r.clash ≡ clash_of x) × (r.pairs ≡ pairs_of x)

  overlap_says : (r : O.Overlapped) → ServedAs (overlap_served s t w i j) (Own r) r.answer.refusal r.answer.place t' w' → OverlapSays s t w i j t' w' r
  unfolding overlap_service
  overlap_says r g =
      record {
        refusal = g.refusal;
        number = g.number;
        line = g.line;
        clash = g.answers.0;
        pairs = g.answers.1;
        table = g.table;
        work = g.work;
      }

  -- a refusal of Check
  pub overlap_refused : (a : A.Answer) (r : O.Overlapped) {b : Bool} → CheckSays s t w t' w' a → b ≡ is_some (refusal_view a.refusal) → b ≡ true
      → (r.answer ≡ a) × (r.clash ≡ false) × (r.pairs ≡ 0) → OverlapSays s t w i j t' w' r
  overlap_refused a r c e y same =
      overlap_says r
      (check_refused (overlap_rows i j) (Own r) s t w refl (subst (CheckSays s t w t' w') (sym same.0) c)
      (e ∙ ap (λ x. is_some (refusal_view x.refusal)) (sym same.0)) y (λ g. (same.1, same.2)))

  module _ (c : C.Checked) {b : Bool} (says : CheckSays s t w t' w' c.answer) (e : b ≡ is_some (refusal_view c.answer.refusal)) (y : b ≡ false) where
    -- an accepted file came with a whole table
    pub table_long : table_length ≤ length t
    unfolding check
    table_long =
        let n : refusal_view c.answer.refusal ≡ none = flag_none b (refusal_view c.answer.refusal) e y in
        let u = unless_accepted (short t w) (verdict s) (sym says.number ∙ ap numbered n) in
        ltb_false (length t) table_length (neither (ltb (length t) table_length) (ltb (length w) work_length) u.0).0

    -- and its rows are in the table
    pub overlap_accepted : (r : O.Overlapped) → (refusal_view c.answer.refusal ≡ none → Accepted s t' c)
        → ((lines : ℕ) (rs : List Row) → FileIn t' c.types c.patterns lines rs → OverlapAs (overlap_on (accepted rs) i j) r)
        → OverlapSays s t w i j t' w' r
    overlap_accepted r acc f =
        let q : (a : Accepted s t' c) → OverlapAs (overlap_on (accepted a.file) i j) r = λ a. f c.lines a.file a.table in
        overlap_says r
        (check_accepted (overlap_rows i j) (Own r) s t w refl c says acc e y (q (acc (flag_none b (refusal_view c.answer.refusal) e y))).line
        (λ a. ((q a).refusal, ((q a).clash, (q a).pairs))) (λ _ u. u))
