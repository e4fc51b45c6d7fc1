-- The exported answers, from the services' contracts and document 01's number of the refusal.
use Prim.Native.Nat.{ℕ}
use mathlib.Core.Path.{◌≡◌, ◌∙◌}
use mathlib.Core.Bool.{Bool}
use mathlib.Core.List.{List}
use Rattle.format.specs.Code.{number_of}
use Rattle.format.specs.declared.Answer as A
use Rattle.checker.specs.CheckSays.{CheckSays}
use Rattle.turner.specs.TurnSays.{TurnSays}
use Rattle.turner.specs.declared.Turned as Turned
use Rattle.runner.specs.RunSays.{RunSays}
use Rattle.runner.specs.declared.run.Ran as Ran
use Rattle.sheets.specs.SheetSays.{SheetSays}
use Rattle.sheets.specs.declared.Answered as Answered
use Rattle.unit_tally.specs.declared.Tally as K
use Rattle.planner.specs.PlaySays.{PlaySays}
use Rattle.rulefile.specs.Given.{CheckGiven, TurnGiven, RunGiven, SheetGiven, PlayGiven}
use Rattle.rulefile.specs.declared.CheckAnswer as C
use Rattle.rulefile.specs.declared.TurnAnswer as T
use Rattle.rulefile.specs.declared.RunAnswer as R
use Rattle.rulefile.specs.declared.SheetAnswer as S
use Rattle.rulefile.specs.declared.PlayAnswer as Y

pub check_given : (file t w t' w' : List ℕ) (a : A.Answer) (r : C.CheckAnswer)
    → CheckSays file t w t' w' a → r.number ≡ number_of a.refusal → r.line ≡ a.place → CheckGiven file t w t' w' r
check_given file t w t' w' a r s n l = record { number = n ∙ s.number; line = l ∙ s.line; table = s.table; work = s.work }

pub turn_given : (file t w o t' w' o' : List ℕ) (a : Turned.Turned) (r : T.TurnAnswer)
    → TurnSays file t w o t' w' o' a → r.number ≡ number_of a.answer.refusal → r.line ≡ a.answer.place → r.length ≡ a.length
    → TurnGiven file t w o t' w' o' r
turn_given file t w o t' w' o' a r s n l k =
    record { number = n ∙ s.number; line = l ∙ s.line; bytes = k ∙ s.bytes; table = s.table; work = s.work; output = s.output }

pub run_given : (file t w : List ℕ) (i : ℕ) (back : Bool) (budget : ℕ) (value o t' w' o' : List ℕ) (a : Ran.Ran) (r : R.RunAnswer)
    → RunSays file t w i back budget value o t' w' o' a → r.number ≡ number_of a.refusal → r.count ≡ a.count → r.length ≡ a.length
    → RunGiven file t w i back budget value o t' w' o' r
run_given file t w i back budget value o t' w' o' a r s n k l =
    record { number = n ∙ s.number; count = k ∙ s.count; bytes = l ∙ s.bytes; table = s.table; work = s.work; result = s.result }

pub sheet_given : (file t w queries n o t' w' n' o' : List ℕ) (a : Answered.Answered) (r : S.SheetAnswer)
    → SheetSays file t w queries n o t' w' n' o' a → r.number ≡ number_of a.answer.refusal → r.line ≡ a.answer.place → r.queries ≡ a.queries
    → SheetGiven file t w queries n o t' w' n' o' r
sheet_given file t w queries n o t' w' n' o' a r s k l q =
    record {
      number = k ∙ s.number;
      line = l ∙ s.line;
      answered = q ∙ s.answered;
      table = s.table;
      work = s.work;
      numbers = s.numbers;
      letters = s.letters;
    }

pub play_given : (file t w is ns script : List ℕ) (budget : ℕ) (l : K.Tally) {t' w' is' ns' : List ℕ} {l' : K.Tally} (a : A.Answer) (r : Y.PlayAnswer)
    → PlaySays file t w is ns script budget l t' w' is' ns' l' a → (r.number ≡ number_of a.refusal) × (r.line ≡ a.place) → PlayGiven file t w is ns script budget l t' w' is' ns' l' r
play_given file t w is ns script budget l a r s e =
    record { number = e.0 ∙ s.number; line = e.1 ∙ s.line; table = s.table; work = s.work; units = s.units; tally = s.tally }
