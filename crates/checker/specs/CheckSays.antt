-- Check's contract: refusal, number, line, table and work area are what the model's Check gives.
use Rattle.std.specs.Prelude.{Option as CodeOption, ℕ, ◌≤◌, ◌≡◌, List, length}
use Rattle.std.proofs.Math.Option.{none, some}
use Rattle.limits.specs.Limits.{max_bytes, max_lines, table_length, work_length}
use Rattle.calculus.specs.Refusals.{Refusal, number}
use Rattle.format.specs.Lines.{Row, lines}
use Rattle.format.specs.Judge.{Seen, start, after_all, Reading, rows, faulty, read_from}
use Rattle.format.specs.Unfold.{isos_of}
use Rattle.calculus.specs.Tools.{stages}
use Rattle.model.specs.Services.{Verdict, file_tests, check, after_reading, refused, accepted, verdict, short, unless, refusal_by}
use Rattle.format.specs.Code.{number_of, refusal_view}
use Rattle.format.specs.declared.Answer as A
use Rattle.format.specs.declared.Refusal as F
use Rattle.area_parts.specs.Cleared.{cleared}
use Rattle.table_walks.specs.Walk.{FileIn}
use Rattle.read_lines.specs.Reads.{passing, rows_over}
use Rattle.checker.specs.declared.Checked as C

-- t and w are the areas at entry, t' and w' at exit; the refusal is the verdict's, with the kind of the faulty line
pub record CheckSays (file t w t' w' : List ℕ) (r : A.Answer) : Type 0 where
  pub refusal : refusal_view r.refusal ≡ refusal_by (unless (short t w) (verdict file))
  pub number : number_of r.refusal ≡ (check file t w).answer.number
  pub line : r.place ≡ (check file t w).answer.line
  pub table : t' ≡ (check file t w).table
  pub work : w' ≡ (check file t w).work

-- how many T, P and I lines a file has, and how many lines; of a file that is not accepted nothing is counted
pub record Counts : Type 0 where
  pub types : ℕ
  pub patterns : ℕ
  pub isos : ℕ
  pub lines : ℕ

abbrev pub counts_of : C.Checked → Counts
counts_of c = record { types = c.types; patterns = c.patterns; isos = c.isos; lines = c.lines }

abbrev pub no_counts : Counts
no_counts = record { types = 0; patterns = 0; isos = 0; lines = 0 }

abbrev pub counts_in : List Row → Counts
counts_in rs =
    let s : Seen = after_all start rs in
    record { types = length s.types; patterns = length s.patterns; isos = length (isos_of rs); lines = length rs }

abbrev pub counts_by : Verdict → Counts
counts_by (accepted rs) = counts_in rs
counts_by (refused f n) = no_counts

-- … before its isos are judged
abbrev pub counts_read : Reading → Counts
counts_read (rows rs) = counts_in rs
counts_read (faulty f n) = no_counts

-- a file read into a table, t₀ before and t₁ after, its idle lines and its isos: no line is idle and no iso faulty, or the refusal and its line are those of the model; the
-- table holds the lines before the first that is refused
pub record Outcome (s t₀ t₁ : List ℕ) (r : A.Answer) : Type 0 where
  pub accepts : refusal_view r.refusal ≡ none → (rs : List Row) × (read_from start 1 (lines s) ≡ rows rs) × (stages file_tests rs ≡ none)
      × (r.place ≡ 0)
  pub refuses : (f : Refusal) → refusal_view r.refusal ≡ some f → after_reading (read_from start 1 (lines s)) ≡ refused f r.place
  pub later : (f : Refusal) → refusal_view r.refusal ≡ some f → 3 ≤ number f
  pub table : t₁ ≡ rows_over (passing start (lines s)) t₀

-- a file whose lines pass, its rows in the table and counted
pub record Loaded (s t : List ℕ) (c : C.Checked) : Type 0 where
  pub file : List Row
  pub reads : read_from start 1 (lines s) ≡ rows file
  pub table : FileIn t c.types c.patterns c.lines file
  pub isos : c.isos ≡ length (isos_of file)

-- a file read into a table that was cleared first, t before and t₁ after: its rows are in the table where its lines pass
pub record Entered (s t t₁ : List ℕ) (c : C.Checked) : Type 0 where
  pub outcome : Outcome s (cleared table_length t) t₁ c.answer
  pub loaded : (rs : List Row) → read_from start 1 (lines s) ≡ rows rs → Loaded s t₁ c
  pub counts : counts_of c ≡ counts_read (read_from start 1 (lines s))

-- a refusal clears the table, t₁ before and t' after, and stays what it is, and nothing is counted; with none the table stays, and so do
-- answer and counts
pub record Settled (t₁ t' : List ℕ) (c r : C.Checked) : Type 0 where
  pub refuses : (f : Refusal) → refusal_view c.answer.refusal ≡ some f → (t' ≡ cleared table_length t₁) × (r.answer ≡ c.answer)
      × (counts_of r ≡ no_counts)
  pub accepts : refusal_view c.answer.refusal ≡ none → (t' ≡ t₁) × (r ≡ c)

-- an accepted file, its rows in the table and counted: what a run on a checked table assumes
pub record Accepted (s t : List ℕ) (c : C.Checked) : Type 0 where
  pub file : List Row
  pub accepts : verdict s ≡ accepted file
  pub table : FileIn t c.types c.patterns c.lines file
  pub isos : c.isos ≡ length (isos_of file)

-- a file that is not too long, and a table, t before and t' after: whatever work area is cleared beside it, Check says this
pub record Filed (s t t' : List ℕ) (c : C.Checked) : Type 0 where
  pub says : (w w' : List ℕ) → work_length ≤ length w → length s ≤ max_bytes → w' ≡ cleared work_length w → CheckSays s t w t' w' c.answer
  pub accepts : length s ≤ max_bytes → refusal_view c.answer.refusal ≡ none → Accepted s t' c
  pub refuses : (f : Refusal) → refusal_view c.answer.refusal ≡ some f → counts_of c ≡ no_counts

-- what stands before any reading: with no refusal the areas are long enough and the file is short enough, and a refusal is 1 or 2, is Check's
-- answer and leaves both areas as they are
pub record Early (s : List ℕ) (table work : ℕ) (x : CodeOption F.Refusal) : Type 0 where
  pub passes : refusal_view x ≡ none → (table_length ≤ table) × (work_length ≤ work) × (length s ≤ max_bytes) × (length (lines s) ≤ max_lines)
  pub low : (f : Refusal) → refusal_view x ≡ some f → number f ≤ 2
  pub refuses : (f : Refusal) → refusal_view x ≡ some f → (t w : List ℕ) → length t ≡ table → length w ≡ work → (r : A.Answer) → r.refusal ≡ x
      → r.place ≡ 0 → CheckSays s t w t w r
