-- What Turn answers and leaves in the areas, case by case, against the model's Turn.
use Prim.Native.Nat.{ℕ, ◌+◌, ◌≤◌, ◌<◌}
use native.Mathlib.Nat.{zero-add}
use native.Mathlib.Omega.{arith}
use mathlib.Core.Path.{◌≡◌, refl, ap, ◌∙◌, subst}
use mathlib.Core.Bool.{Bool, true, false}
use mathlib.Core.Option.{none, some}
use mathlib.Core.List.{List, ◌++◌}
use lib.ListN.{length, drop}
use lib.Seq.{sets-eq}
use Rattle.calculus.specs.Tools.{is_some}
use Rattle.calculus.specs.Refusals.{short_area}
use Rattle.format.specs.Lines.{Row, print_rows}
use Rattle.format.specs.Unfold.{turn_rows}
use Rattle.model.specs.Services.{accepted, verdict, written, answer_of, check, Outcome, bytes_from, turned_rows, turned_of, turned, turn_served, turn}
use Rattle.format.specs.Code.{refusal_view}
use Rattle.model.proofs.Files.{turned_fits}
use Rattle.area_cells.specs.Areas.{Writes}
use Rattle.checker.specs.CheckSays.{CheckSays, Accepted}
use Rattle.checker.proofs.Checks.{flag_none}
use Rattle.checker.proofs.Going.{ServedAs, narrow, roomy, short_area_lem, check_refused, check_accepted}
use Rattle.checker.proofs.Whole.{whole}
use Rattle.checker.specs.declared.Checked as C
use Rattle.turner.specs.Written.{FileWritten}
use Rattle.turner.specs.TurnSays.{TurnSays}
use Rattle.turner.specs.declared.Turned as T

-- the turned file written, as an outcome says
abbrev Own : List ℕ → List ℕ → T.Turned → Outcome (List ℕ) → Type 0
Own o o' r x = (r.length ≡ length (bytes_from x)) × (o' ≡ written (bytes_from x) o)

turn_says : (s t w o t' w' o' : List ℕ) (r : T.Turned)
    → ServedAs (turn_served (verdict s) (length s) t w o) (Own o o' r) r.answer.refusal r.answer.place t' w' → TurnSays s t w o t' w' o' r
unfolding turn
turn_says s t w o t' w' o' r g =
    record {
      refusal = g.refusal;
      number = g.number;
      line = g.line;
      bytes = g.answers.0;
      table = g.table;
      work = g.work;
      output = g.answers.1;
    }

-- 1: the output area is short
pub short_output : (s t w o : List ℕ) (r : T.Turned) → length o < length s → refusal_view r.answer.refusal ≡ some short_area → r.answer.place ≡ 0
    → r.length ≡ 0 → TurnSays s t w o t w o r
short_output s t w o r h n p l = turn_says s t w o t w o r (short_area_lem turned_rows (Own o o r) s t w (narrow t w h) n p (l, refl))

-- refused by Check
pub turn_refused : (s t w o t' w' : List ℕ) (r : T.Turned) (b : Bool) → length s ≤ length o → CheckSays s t w t' w' r.answer
    → b ≡ is_some (refusal_view r.answer.refusal) → b ≡ true → r.length ≡ 0 → TurnSays s t w o t' w' o r
turn_refused s t w o t' w' r b h c e y l =
    turn_says s t w o t' w' o r (check_refused turned_rows (Own o o r) s t w (roomy t w h) c e y (λ g. (l, refl)))

-- ---- an accepted file

-- all bytes at the front
written_all : {o o' : List ℕ} {end : ℕ} (bs : List ℕ) → length bs ≤ length o → Writes o o' 0 end bs → (end ≡ length bs) × (o' ≡ written bs o)
written_all {o} {o'} {end} bs h w =
    let z : 0 + length bs ≡ length bs = zero-add (length bs) in
    let fits : 0 + length bs ≤ length o = omega arith in
    (w.place fits ∙ z, w.area fits ∙ sets-eq bs o 0 fits ∙ ap (λ k. bs ++ drop k o) z)

turned_bytes : (s : List ℕ) (rs : List Row) → verdict s ≡ accepted rs → length (print_rows (turn_rows rs)) ≤ length s
unfolding turned
turned_bytes s rs e = subst (λ v. length (turned_of v) ≤ length s) e (turned_fits s rs e)

pub turn_accepted : (s t w o t' w' o' : List ℕ) (c : C.Checked) (r : T.Turned) (b : Bool) (end : ℕ) → length s ≤ length o
    → CheckSays s t w t' w' c.answer → (refusal_view c.answer.refusal ≡ none → Accepted s t' c)
    → b ≡ is_some (refusal_view c.answer.refusal) → b ≡ false → FileWritten t' o o' c.lines end
    → r.answer ≡ c.answer → r.length ≡ end → TurnSays s t w o t' w' o' r
unfolding check
turn_accepted s t w o t' w' o' c r b end h says acc e y file same l =
    turn_says s t w o t' w' o' r
    (check_accepted turned_rows (Own o o' r) s t w (roomy t w h) c says acc e y (ap (λ x. x.place) same ∙ says.line ∙ accepted_line)
    (λ a.
    let rs : List Row = a.file in
    let fits = turned_bytes s rs a.accepts in
    let put = written_all (print_rows (turn_rows rs)) (omega (arith, fits)) (file.bytes c.types c.patterns rs a.table) in
    (ap (λ x. refusal_view x.refusal) same ∙ n, (l ∙ put.0, put.1)))
    (λ _ u. u))
  where
    n : refusal_view c.answer.refusal ≡ none
    n = flag_none b (refusal_view c.answer.refusal) e y

    -- an accepted file is answered at no line
    accepted_line : (check s t w).answer.line ≡ 0
    accepted_line = ap (λ v. (answer_of v).line) (whole s t w t' w' c b says acc e y).verdict_is
