-- The planner's contracts: refusal, number, line, and every lent area are what the definition gives.
use Rattle.std.specs.Prelude.{ℕ, ◌≡◌, Bool, true, false, List, length}
use Rattle.format.specs.Code.{refusal_view, number_of}
use Rattle.format.specs.declared.Answer as A
use Rattle.model.specs.Services.{Outcome, gives, fails, refusal_of, Served}
use Rattle.law_units.specs.Units.{Units, units_from, Tally, Played, play_served, play_service}
use Rattle.unit_tally.specs.declared.Tally as T
use Rattle.unit_plays.specs.Playing.{units_in, with_marks, marks_from}
use Rattle.planner.specs.declared.Visits as Y

-- the record that a struct stands for
abbrev pub tally_view : T.Tally → Tally
tally_view t = record { done = t.done; skipped = t.skipped; spent = t.spent }

abbrev pub is_given : Outcome Played → Bool
is_given (gives x) = true
is_given (fails f) = false

-- refusal, number and line of a service, its table, the units, and its work area with the marks of the visits; us are the units at entry
pub record SaidOf (x : Served Played) (us : Units) (t' w' is' ns' : List ℕ) (r : Y.Visits) : Type 0 where
  pub refusal : refusal_view r.answer.refusal ≡ refusal_of x.outcome
  pub line : r.answer.place ≡ x.line
  pub table : t' ≡ x.table
  pub work : w' ≡ with_marks (marks_from x.outcome) x.work
  pub units : units_in is' ns' ≡ units_from x.outcome us
  pub count : r.count ≡ length (marks_from x.outcome)
  pub played : r.played ≡ is_given x.outcome

-- t, w, is and ns are the areas at entry, t', w', is' and ns' at exit
abbrev pub VisitsSay : List ℕ → List ℕ → List ℕ → List ℕ → List ℕ → List ℕ → ℕ → List ℕ → List ℕ → List ℕ → List ℕ → Y.Visits → Type 0
VisitsSay file t w is ns script budget t' w' is' ns' r = SaidOf (play_served file t w (units_in is ns) script budget) (units_in is ns) t' w' is' ns' r

-- the service; l is the record at entry, l' at exit
pub record PlaySays (file t w is ns script : List ℕ) (budget : ℕ) (l : T.Tally) (t' w' is' ns' : List ℕ) (l' : T.Tally) (r : A.Answer) : Type 0 where
  pub refusal : refusal_view r.refusal ≡ (play_service file t w (units_in is ns) script budget (tally_view l)).refusal
  pub number : number_of r.refusal ≡ (play_service file t w (units_in is ns) script budget (tally_view l)).answer.number
  pub line : r.place ≡ (play_service file t w (units_in is ns) script budget (tally_view l)).answer.line
  pub table : t' ≡ (play_service file t w (units_in is ns) script budget (tally_view l)).table
  pub work : w' ≡ (play_service file t w (units_in is ns) script budget (tally_view l)).work
  pub units : units_in is' ns' ≡ (play_service file t w (units_in is ns) script budget (tally_view l)).units
  pub tally : tally_view l' ≡ (play_service file t w (units_in is ns) script budget (tally_view l)).tally
