-- What the desk's functions assume of state and areas, and what they leave there, against the machine of `query_lines/specs/Stream`.
use Rattle.std.specs.Prelude.{ℕ, suc, ◌+◌, ◌≤◌, ◌<◌, ◌≡◌, ◌⊎◌, List, [], ◌∷◌, ◌++◌, length, take}
use Rattle.std.proofs.Math.Option.{none, some}
use Rattle.std.proofs.lemmas.List.Edits.{sets}
use Rattle.limits.specs.Limits.{table_length, work_length, result_length, run_room, max_bytes, query_length}
use Rattle.calculus.specs.Refusals.{Refusal}
use Rattle.format.specs.Lines.{Row}
use Rattle.model.specs.Services.{accepted, verdict, answer_of, answer_of_run}
use Rattle.model.specs.Desk.{query_of, answer_to, query_line, file_line}
use Rattle.format.specs.Code.{refusal_view, number_of}
use Rattle.area_cells.specs.Areas.{Prints}
use Rattle.checker.specs.CheckSays.{Accepted}
use Rattle.checker.specs.declared.Checked as C
use Rattle.run_index.specs.Index.{index_length}
use Rattle.runner.specs.RunSays.{Prepared, RanAs}
use Rattle.runner.specs.declared.run.Ran as R
use Rattle.query_lines.specs.Stream.{State, collecting, asking, stopped, Step, opens, begun, close, answered, step, finish, steps}
use Rattle.desk.specs.declared.Desk as D
use Rattle.desk.specs.declared.Phase.TheVariants as phases
use Rattle.desk.specs.declared.Next as N
use Rattle.desk.specs.declared.Fed as F

-- the bytes of a file that are kept, and those of a query's line: one more than may be, so that too many are told from as many
abbrev pub file_room : ℕ
file_room = suc max_bytes

abbrev pub line_room : ℕ
line_room = suc query_length

-- the bytes that no answer's line exceeds
abbrev pub answer_room : ℕ
answer_room = 160

-- the areas are as long as stated
pub record Roomy (file line table work index : List ℕ) : Type 0 where
  pub files : file_room ≤ length file
  pub lines : line_room ≤ length line
  pub tables : table_length ≤ length table
  pub works : work_length ≤ length work
  pub indices : index_length ≤ length index

-- an area's first `held` bytes are the given ones, or the first `most` of these where there are more
pub record Holds (most held : ℕ) (area bs : List ℕ) : Type 0 where
  pub count : held ≡ length (take most bs)
  pub bytes : take held area ≡ take most bs

-- the code's state with its areas stands for a state of the machine
pub data DeskAt (d : D.Desk) (file line table index : List ℕ) : State → Type 0 where
  collects : {bs : List ℕ} → d.phase ≡ phases.File → d.fresh ≡ opens bs → Holds file_room d.held file bs → DeskAt d file line table index (collecting bs)
  asks : {rs : List Row} {l : List ℕ} → d.phase ≡ phases.Queries → Holds line_room d.held line l → Prepared table d.types index d.isos rs → DeskAt d file line table index (asking rs l)
  stops : d.phase ≡ phases.Stopped → DeskAt d file line table index stopped

-- bytes printed from place `at` of an output area on, up to place `end`
pub record Printed (out out' : List ℕ) (at end : ℕ) (ps : List ℕ) : Type 0 where
  pub area : out' ≡ sets out at ps
  pub place : end ≡ at + length ps
  pub fits : end ≤ length out

-- a step of the machine: the state behind it, and what it prints
pub record Reaches (p : Step) (file line table index out out' : List ℕ) (at : ℕ) (r : N.Next) : Type 0 where
  pub desk : DeskAt r.desk file line table index p.next
  pub printed : Printed out out' at r.end p.prints

-- a file's answer is printed; an accepted file's rows are then in the table, and behind a refused one nothing is read
pub record JudgedAs (file table' out out' : List ℕ) (at end : ℕ) (c : C.Checked) : Type 0 where
  pub printed : Printed out out' at end (file_line (answer_of (verdict file)))
  pub accepts : refusal_view c.answer.refusal ≡ none → Accepted file table' c
  pub refuses : (f : Refusal) → refusal_view c.answer.refusal ≡ some f → begun (verdict file) ≡ stopped

-- Bytes taken from the front of a chunk: the state behind them, and all that they print, from the output area's start on. What the work
-- area then holds is left open.
pub record FedAs (s : State) (chunk file line table index out out' : List ℕ) (r : F.Fed) : Type 0 where
  pub desk : DeskAt r.desk file line table index (steps s (take r.taken chunk)).next
  pub printed : Printed out out' 0 r.written (steps s (take r.taken chunk)).prints

-- state and areas are as they were, and nothing is taken
pub record Idle (d : D.Desk) (file line table work index out file' line' table' work' index' out' : List ℕ) (r : F.Fed) : Type 0 where
  pub taken : r.taken ≡ 0
  pub written : r.written ≡ 0
  pub desk : r.desk ≡ d
  pub files : file' ≡ file
  pub lines : line' ≡ line
  pub tables : table' ≡ table
  pub works : work' ≡ work
  pub indices : index' ≡ index
  pub outs : out' ≡ out

-- How far a chunk is taken, in areas of any length: to its end, or to where the output area lacks room for an answer; where it has room
-- for one, at least a byte; where it has none, nothing is done.
pub record Took (d : D.Desk) (chunk file line table work index out file' line' table' work' index' out' : List ℕ) (r : F.Fed) : Type 0 where
  pub within : r.taken ≤ length chunk
  pub whole : (r.taken ≡ length chunk) ⊎ (length out < r.written + answer_room)
  pub progress : 0 < length chunk → answer_room ≤ length out → 0 < r.taken
  pub idle : length out < answer_room → Idle d file line table work index out file' line' table' work' index' out' r

-- ---- contracts: an area as it was, and with ' as it is left

-- behind the answer to a file that is judged: the machine's step at the first Q line, whatever area holds the file
abbrev pub SettleSays : C.Checked → List ℕ → List ℕ → List ℕ → List ℕ → List ℕ → ℕ → N.Next → Type 0
SettleSays c line table index line' index' end r =
    (file area out out' : List ℕ) (at : ℕ) → JudgedAs file table out out' at end c → line_room ≤ length line → index_length ≤ length index
    → Reaches (close file) area line' table index' out out' at r

-- the first Q line behind a file, the first `held` bytes of its area: in areas that are long enough, with room for an answer, the
-- machine's step
abbrev pub BeginSays : (file : List ℕ) (held : ℕ) (line table work index out line' table' index' out' : List ℕ) (at : ℕ) (r : N.Next) → Type 0
BeginSays file held line table work index out line' table' index' out' at r =
    Roomy file line table work index → at + answer_room ≤ length out
    → Reaches (close (take held file)) file line' table' index' out out' at r

-- a byte b behind the bytes bs of a file: it is one more of the file, and nothing is printed
abbrev pub FileByteSays : ℕ → ℕ → List ℕ → List ℕ → ℕ → N.Next → Type 0
FileByteSays held b file file' at r =
    (bs line table index out : List ℕ) → Holds file_room held file bs → file_room ≤ length file → at + answer_room ≤ length out
    → Reaches (record { next = collecting (bs ++ (b ∷ [])); prints = [] }) file' line table index out out at r

-- a byte in the machine's state s: in areas that are long enough, with room for an answer, the machine's step
abbrev pub ByteSays : (s : State) (d : D.Desk) (b : ℕ) (file line table work index out file' line' table' index' out' : List ℕ) (at : ℕ) (r : N.Next) → Type 0
ByteSays s d b file line table work index out file' line' table' index' out' at r =
    DeskAt d file line table index s → Roomy file line table work index → at + answer_room ≤ length out
    → Reaches (step s b) file' line' table' index' out out' at r

-- a query's line over the table of an accepted file, with as much of the work area as a run wants: what the model answers
abbrev pub AnswerWithSays : ℕ → ℕ → List ℕ → List ℕ → List ℕ → ℕ → List ℕ → List ℕ → R.Ran → Type 0
AnswerWithSays types isos line table index room result result' r =
    (rs : List Row) → Prepared table types index isos rs → run_room ≤ room → room ≤ work_length → result_length ≤ length result
    → RanAs (answer_of_run (answer_to (accepted rs) (query_of line))) result result' r

-- the line that says what a run gave, whose letters are the first of a result area
abbrev pub ran_line : R.Ran → List ℕ → List ℕ
ran_line r result = query_line (record { refusal = none; number = number_of r.refusal; count = r.count; letters = take r.length result })

-- a query's line over that table: its answer is printed as far as it fits, and is no longer than an answer may be
abbrev pub AnswerSays : D.Desk → List ℕ → List ℕ → List ℕ → List ℕ → List ℕ → List ℕ → ℕ → ℕ → Type 0
AnswerSays d line table index work out out' at r =
    (rs : List Row) → Prepared table d.types index d.isos rs → work_length ≤ length work
    → Prints out out' at r (answered rs line) × (length (answered rs line) ≤ answer_room)

-- bytes of a chunk in whatever state the machine is: in areas that are long enough, the machine's steps
abbrev pub FeedSays : (d : D.Desk) (chunk file line table work index out file' line' table' index' out' : List ℕ) (r : F.Fed) → Type 0
FeedSays d chunk file line table work index out file' line' table' index' out' r =
    (s : State) → DeskAt d file line table index s → Roomy file line table work index → FedAs s chunk file' line' table' index' out out' r

-- the end of the input in whatever state the machine is: in areas that are long enough, what the machine prints there, as far as it fits
abbrev pub FinishSays : D.Desk → List ℕ → List ℕ → List ℕ → List ℕ → List ℕ → List ℕ → List ℕ → ℕ → Type 0
FinishSays d file line table work index out out' r =
    (s : State) → DeskAt d file line table index s → Roomy file line table work index → Prints out out' 0 r (finish s)
