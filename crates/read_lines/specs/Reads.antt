-- What reading a line and reading a file give, as the model's `read_from` has it.
use Rattle.std.specs.Prelude.{ℕ, ◌*◌, ◌<◌, ◌≡◌, List, [], ◌∷◌, ◌++◌, length, drop}
use Rattle.std.specs.Prelude.{Result, Ok, Err}
use Rattle.std.proofs.Math.Option.{Option, none, some}
use Rattle.limits.specs.Limits.{row_width}
use Rattle.calculus.specs.Refusals.{Refusal, bad_line}
use Rattle.format.specs.Lines.{Row, row_of, lines}
use Rattle.format.specs.Table.{table_of}
use Rattle.format.specs.Judge.{Seen, start, judge, after, after_all, Reading, rows, faulty, read_from}
use Rattle.format.specs.Code.{row_view, fault_view, refusal_view}
use Rattle.format.specs.declared.Row as T
use Rattle.format.specs.declared.Refusal as F
use Rattle.read_seen.specs.declared.Seen as C
use Rattle.read_seen.specs.Told.{Told, Weighed}
use Rattle.read_fields.specs.declared.Cursor as P
use Rattle.read_lines.specs.declared.read.Read as R

-- a row that passes, or the refusal of its line
pub data Verdict : Type 0 where
  passes : Row → Verdict
  refused : Option Refusal → Verdict

abbrev pub as_judged : Result (T.Row × P.Cursor) F.Refusal → Verdict
as_judged (Ok (r, c)) = passes (row_view r)
as_judged (Err f) = refused (some (fault_view f))

abbrev pub judged_row : Row → Option Refusal → Verdict
judged_row r none = passes r
judged_row r (some f) = refused (some f)

abbrev pub judged_form : Seen → Option Row → Verdict
judged_form s none = refused (some bad_line)
judged_form s (some r) = judged_row r (judge s r)

-- the lowest of 3 to 7 of a line
abbrev pub judged_line : Seen → List ℕ → Verdict
judged_line s l = judged_form s (row_of l)

-- the lines behind one that passes are those from the place that is given
abbrev pub Behind : List ℕ → Result (T.Row × P.Cursor) F.Refusal → List (List ℕ) → Type 0
Behind s (Ok (r, c)) ls = ls ≡ lines (drop c.at s)
Behind s (Err f) ls = Unit {0}

-- the line that begins at a place, below the rows that m tells of
pub record JudgedAt (s : List ℕ) (at : ℕ) (m : Seen) (j : Result (T.Row × P.Cursor) F.Refusal) : Type 0 where
  pub line : List ℕ
  pub others : List (List ℕ)
  pub splits : lines (drop at s) ≡ line ∷ others
  pub says : as_judged j ≡ judged_line m line
  pub behind : Behind s j others

abbrev pub LineSays : List ℕ → List ℕ → C.Seen → List ℕ → ℕ → Result (T.Row × P.Cursor) F.Refusal → Type 0
LineSays t g c s at j = (m : Seen) → Weighed t g c m → at < length s → JudgedAt s at m j

-- the rows of the lines before the first that is refused; of all lines where none is
abbrev pub ahead : Verdict → (Row → List Row) → List Row
ahead (passes r) k = r ∷ k r
ahead (refused f) k = []

abbrev pub passing : Seen → List (List ℕ) → List Row
passing s [] = []
passing s (l ∷ ls) = ahead (judged_line s l) (λ r. passing (after s r) ls)

-- a reading's refusal, and its line, 0 where there is none
abbrev pub refusal_in : Reading → Option Refusal
refusal_in (rows rs) = none
refusal_in (faulty f n) = some f

abbrev pub line_in : Reading → ℕ
line_in (rows rs) = 0
line_in (faulty f n) = n

-- rows in the table's front, five numbers a line; it is as it was behind them
abbrev pub rows_over : List Row → List ℕ → List ℕ
rows_over rs t₀ = table_of rs ++ drop (length rs * row_width) t₀

-- a file read into a table, t₀ before and t after: refusal and line are those of the model, and the table holds the lines before the first
-- that is refused, which are counted
pub record ReadSays (s t₀ t : List ℕ) (r : R.Read) : Type 0 where
  pub refusal : refusal_view r.refusal ≡ refusal_in (read_from start 1 (lines s))
  pub place : r.place ≡ line_in (read_from start 1 (lines s))
  pub table : t ≡ rows_over (passing start (lines s)) t₀
  pub told : Told t r.seen (after_all start (passing start (lines s)))
  pub count : r.lines ≡ length (passing start (lines s))
