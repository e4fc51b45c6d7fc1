-- Request 08: what two calls on such files share. The table alone differs, since it holds each file's own lines.
use Rattle.std.specs.Prelude.{ℕ, ◌≤◌, ◌<◌, ◌≡◌, Bool, true, not, ◌||◌, eqb}
use Rattle.std.proofs.Math.Option.{some}
use mathlib.Core.List.{List, [], ◌∷◌, Memᴰ}
use Rattle.limits.specs.Limits.{letter_q, max_clauses}
use Rattle.calculus.specs.Trees.{Clause, Iso}
use Rattle.calculus.specs.Refusals.{Refusal, number}
use Rattle.calculus.specs.Clauses.{clause_fault, sigs_of}
use Rattle.format.specs.Lines.{Row}
use Rattle.format.specs.Judge.{start, stage, after_all, rows, read_from}
use Rattle.model.specs.Services.{Checked, Output, RunResult}
use Rattle.model.specs.Sheet.{Sheet}
use Rattle.law_ranking.specs.Numbering.{Numbered, Lettered}
use Rattle.law_costs.specs.Bounds.{BoundsResult}
use Rattle.law_reordering.specs.Reordered.{is_clause, is_let}

-- all but the table
abbrev pub checked_but : Checked → Checked
checked_but c = record { answer = c.answer; table = []; work = c.work }

abbrev pub ran_but : RunResult → RunResult
ran_but r = record { refusal = r.refusal; number = r.number; count = r.count; length = r.length; table = []; work = r.work; result = r.result }

abbrev pub sheet_but : Sheet → Sheet
sheet_but s = record { refusal = s.refusal; answer = s.answer; queries = s.queries; table = []; work = s.work; numbers = s.numbers; letters = s.letters }

abbrev pub numbered_but : Numbered → Numbered
numbered_but n = record { refusal = n.refusal; number = n.number; setting = n.setting; table = []; work = n.work }

abbrev pub lettered_but : Lettered → Lettered
lettered_but n = record { refusal = n.refusal; number = n.number; length = n.length; table = []; work = n.work; result = n.result }

abbrev pub bounds_but : BoundsResult → BoundsResult
bounds_but r = record { refusal = r.refusal; bounds = r.bounds; table = []; work = r.work }

-- all but the table and the turned file, of which the law `turned_same` tells
abbrev pub turned_but : Output → Output
turned_but r = record { refusal = r.refusal; answer = r.answer; length = r.length; table = []; work = r.work; output = [] }

-- what `rules` reads behind a file: nothing, or queries
abbrev pub begins_queries : List ℕ → Bool
begins_queries [] = true
begins_queries (b ∷ bs) = eqb b letter_q

-- "and the number too where a file has two faults": no two clauses of one iso have faults of two numbers among 8 to 10. So it is where one clause of
-- the file has a fault, and where none has.
abbrev pub FaultsAgree : List Iso → Type 0
FaultsAgree os =
    (o : Iso) → Memᴰ o os → (c d : Clause) → Memᴰ c o.clauses → Memᴰ d o.clauses → (x y : Refusal)
    → clause_fault (sigs_of os) o.from o.to c ≡ some x → clause_fault (sigs_of os) o.from o.to d ≡ some y → number x ≡ number y

-- of 3 to 7: a line that stays where it is
abbrev pub stays : List ℕ → Bool
stays l = not (is_clause l || is_let l)

-- lines without a fault, behind which a clause may stand: the last of them is an I line or of a clause, and the iso has not yet as many clauses as it may
pub record Above (front : List (List ℕ)) : Type 0 where
  pub read : List Row
  pub reads : read_from start 1 front ≡ rows read
  pub in_iso : 2 ≤ stage (after_all start read).above
  pub room : (after_all start read).clauses < max_clauses
