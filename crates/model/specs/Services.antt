-- "The three services": what Check, Turn and Run answer, and what every lent area then holds, for any bytes and any areas.
use Rattle.std.specs.Prelude.{ℕ, ◌-◌, Bool, cond, ◌||◌, List, [], ◌∷◌, ◌++◌, leb, ltb, length, drop, replicate}
use Rattle.std.proofs.Math.Option.{Option, none, some}
use Rattle.std.proofs.Math.ListN.{get_elem?}
use Rattle.limits.specs.Limits.{max_bytes, max_lines, table_length, work_length, result_length}
use Rattle.calculus.specs.Tools.{◌>>=◌, guard, stages}
use Rattle.calculus.specs.Trees.{Ty, Val, Iso}
use Rattle.calculus.specs.Refusals.{Refusal, number, short_area, too_long, no_iso, no_value, spent, too_large}
use Rattle.format.specs.Lines.{Row, lines, print_rows}
use Rattle.format.specs.Table.{table_of}
use Rattle.format.specs.Judge.{start, judge, Reading, rows, faulty, read_from}
use Rattle.format.specs.Unfold.{isos_of, turn_rows}
use Rattle.format.specs.Idle.{idle_fault}
use Rattle.format.specs.Code.{numbered}
use Rattle.calculus.specs.Clauses.{fault}
use Rattle.calculus.specs.Reduction.{reduce, Counted}
use Rattle.calculus.specs.Letters.{letters, value_of, inhabits}

-- the file's rows, or its refusal and the line
pub data Verdict : Type 0 where
  accepted : List Row → Verdict
  refused : Refusal → ℕ → Verdict

abbrev pub judged : List Row → Option (Refusal × ℕ) → Verdict
judged rs none = accepted rs
judged rs (some f) = refused f.0 f.1

-- Request 11's 21, "after 7 for the whole file and before 8"; "Only then the isos in order": the tests of rows that were read, in their order. A stage more is a test more in this list.
abbrev pub file_tests : List (List Row → Option (Refusal × ℕ))
file_tests = idle_fault ∷ (λ rs. fault (isos_of rs)) ∷ []

abbrev pub after_reading : Reading → Verdict
after_reading (faulty f n) = refused f n
after_reading (rows rs) = judged rs (stages file_tests rs)

-- "over 65,536 bytes or 4,096 lines"
unfoldable pub over : List ℕ → Bool
over bs = ltb max_bytes (length bs) || ltb max_lines (length (lines bs))

-- "2. Then all lines from the first … Only then the isos in order"
unfoldable pub verdict : List ℕ → Verdict
unfolding over start judge idle_fault isos_of fault
verdict bs = cond (over bs) (refused too_long 0) (after_reading (read_from start 1 (lines bs)))

-- A lent area whose first n elements become `front` and zeros; "Bytes beyond these lengths … keep their contents".
abbrev pub filled : ℕ → List ℕ → List ℕ → List ℕ
filled n front area = front ++ (replicate (n - length front) 0 ++ drop n area)

-- "an output area past what was written" keeps its contents
abbrev pub written : List ℕ → List ℕ → List ℕ
written bs area = bs ++ drop (length bs) area

-- the table and the work area after a call with enough room
abbrev pub table_after : Verdict → List ℕ → List ℕ
table_after (accepted rs) table = filled table_length (table_of rs) table
table_after (refused f n) table = cond (leb (number f) 2) table (filled table_length [] table)

abbrev pub work_after : Verdict → List ℕ → List ℕ
work_after (accepted rs) work = filled work_length [] work
work_after (refused f n) work = cond (leb (number f) 2) work (filled work_length [] work)

-- "a lent area is shorter than stated": refusal 1 stands before all others
abbrev pub short : List ℕ → List ℕ → Bool
short table work = ltb (length table) table_length || ltb (length work) work_length

abbrev pub unless : Bool → Verdict → Verdict
unless b v = cond b (refused short_area 0) v

pub record Answer : Type 0 where
  pub number : ℕ
  pub line : ℕ

abbrev pub answer_of : Verdict → Answer
answer_of (accepted rs) = record { number = 0; line = 0 }
answer_of (refused f n) = record { number = number f; line = n }

-- the refusal itself, which holds the faulty line's kind; an accepted file has none
abbrev pub refusal_by : Verdict → Option Refusal
refusal_by (accepted rs) = none
refusal_by (refused f n) = some f

-- Check
pub record Checked : Type 0 where
  pub answer : Answer
  pub table : List ℕ
  pub work : List ℕ

-- … for a file of which the verdict is `file`
abbrev pub check_by : Verdict → List ℕ → List ℕ → Checked
check_by file table work =
    let v : Verdict = unless (short table work) file in
    record { answer = answer_of v; table = table_after v table; work = work_after v work }

unfoldable pub check : List ℕ → List ℕ → List ℕ → Checked
unfolding verdict
check bs table work = check_by (verdict bs) table work

-- ---- services that go on from an accepted file

-- a refusal, or what is asked for
pub data Outcome (A : Type 0) : Type 0 where
  gives : A → Outcome A
  fails : Refusal → Outcome A

-- what is asked for, of an accepted file's rows; a refused file is the service's refusal
abbrev pub go_on : {A : Type 0} → Verdict → (List Row → Outcome A) → Outcome A
go_on (accepted rs) asked = asked rs
go_on (refused f n) asked = fails f

abbrev pub refusal_of : {A : Type 0} → Outcome A → Option Refusal
refusal_of (gives a) = none
refusal_of (fails f) = some f

-- the refusal's number, 0 where there is none
abbrev pub refusal_number : {A : Type 0} → Outcome A → ℕ
refusal_number o = numbered (refusal_of o)

-- the bytes asked for; a refusal "leaves the output area untouched"
abbrev pub bytes_from : Outcome (List ℕ) → List ℕ
bytes_from (gives bs) = bs
bytes_from (fails f) = []

-- the line of a refused file; "Where no line is named for a refusal, it is 0"
abbrev pub line_of : Verdict → ℕ
line_of (accepted rs) = 0
line_of (refused f n) = n

-- what every such service answers, and leaves in the table and the work area
pub record Served (A : Type 0) : Type 0 where
  pub outcome : Outcome A
  pub line : ℕ
  pub table : List ℕ
  pub work : List ℕ

abbrev pub served : {A : Type 0} → Verdict → Outcome A → List ℕ → List ℕ → Served A
served v o table work = record { outcome = o; line = line_of v; table = table_after v table; work = work_after v work }

-- The one form of these services: whether a lent area is short, the file's verdict, what is asked for. Check's refusals stand before the
-- service's own, and the two areas are left as Check leaves them, whatever is answered.
abbrev pub serve : {A : Type 0} → Bool → Verdict → (List Row → Outcome A) → List ℕ → List ℕ → Served A
serve too_short file asked table work = let v : Verdict = unless too_short file in served v (go_on v asked) table work

-- number and line
abbrev pub answer_from : {A : Type 0} → Served A → Answer
answer_from s = record { number = refusal_number s.outcome; line = s.line }

-- a service that writes bytes into an output area
pub record Output : Type 0 where
  pub refusal : Option Refusal
  pub answer : Answer
  pub length : ℕ
  pub table : List ℕ
  pub work : List ℕ
  pub output : List ℕ

abbrev pub output_by : List ℕ → Served (List ℕ) → Output
output_by output s =
    let bs : List ℕ = bytes_from s.outcome in
    record {
      refusal = refusal_of s.outcome;
      answer = answer_from s;
      length = length bs;
      table = s.table;
      work = s.work;
      output = written bs output;
    }

-- Turn: the turned file's bytes, which a refusal leaves unwritten
abbrev pub turned_rows : List Row → Outcome (List ℕ)
turned_rows rs = gives (print_rows (turn_rows rs))

abbrev pub turned_of : Verdict → List ℕ
turned_of v = bytes_from (go_on v turned_rows)

unfoldable pub turned : List ℕ → List ℕ
unfolding verdict print_rows turn_rows
turned bs = turned_of (verdict bs)

-- … for a file of n bytes
abbrev pub turn_served : Verdict → ℕ → List ℕ → List ℕ → List ℕ → Served (List ℕ)
turn_served file n table work output = serve (short table work || ltb (length output) n) file turned_rows table work

abbrev pub turn_by : Verdict → ℕ → List ℕ → List ℕ → List ℕ → Output
turn_by file n table work output = output_by output (turn_served file n table work output)

unfoldable pub turn : List ℕ → List ℕ → List ℕ → List ℕ → Output
unfolding turned
turn bs table work output = turn_by (verdict bs) (length bs) table work output

-- Run: a refusal, or the count and the letters
abbrev pub Ran : Type 0
Ran = Outcome (ℕ × List ℕ)

-- what a reduction ends in. In an accepted file nothing but a ceiling stops it (the law of progress).
abbrev pub ended : Option Val → ℕ → Ran
ended none k = fails too_large
ended (some w) k = gives (k, letters w)

-- "17: the full count would pass the budget"; "24 …, in a run whichever of it and 17 the reduction meets first"
abbrev pub within : ℕ → Counted Val → Ran
within budget r = cond (leb r.1 budget) (ended r.0 r.1) (fails spent)

-- "exactly one closed value" of a type; for a run, "of the starting type"
abbrev pub value_in : List ℕ → Ty → Option Val
value_in value a = value_of value >>= λ v. guard (inhabits v a) >>= λ _. some v

abbrev pub argument : Iso → List ℕ → Option Val
argument o value = value_in value o.from

abbrev pub from : List Iso → ℕ → ℕ → Option Val → Ran
from os i budget none = fails no_value
from os i budget (some v) = within budget (reduce os i v)

abbrev pub on_iso : List Iso → ℕ → ℕ → List ℕ → Option Iso → Ran
on_iso os i budget value none = fails no_iso
on_iso os i budget value (some o) = from os i budget (argument o value)

-- "For a run, 15, 16, 17 follow", and 24.
unfoldable pub run_rows : List Row → ℕ → ℕ → List ℕ → Ran
unfolding isos_of value_of reduce
run_rows rs i budget value = on_iso (isos_of rs) i budget value (get_elem? (isos_of rs) i)

-- "A run back is a run forward of the turned file."
abbrev pub toward : Bool → List Row → List Row
toward back rs = cond back (turn_rows rs) rs

abbrev pub run_on : ℕ → Bool → ℕ → List ℕ → List Row → Ran
run_on i back budget value rs = run_rows (toward back rs) i budget value

abbrev pub run_of : Verdict → ℕ → Bool → ℕ → List ℕ → Ran
run_of v i back budget value = go_on v (run_on i back budget value)

unfoldable pub run : List ℕ → ℕ → Bool → ℕ → List ℕ → Ran
unfolding verdict turn_rows run_rows
run bs i back budget value = run_of (verdict bs) i back budget value

pub record RunAnswer : Type 0 where
  pub refusal : Option Refusal
  pub number : ℕ
  pub count : ℕ
  pub letters : List ℕ

-- "Any refusal gives count 0, length 0"
abbrev pub count_from : Ran → ℕ
count_from (gives r) = r.0
count_from (fails f) = 0

abbrev pub letters_from : Ran → List ℕ
letters_from (gives r) = r.1
letters_from (fails f) = []

abbrev pub answer_of_run : Ran → RunAnswer
answer_of_run r = record { refusal = refusal_of r; number = refusal_number r; count = count_from r; letters = letters_from r }

pub record RunResult : Type 0 where
  pub refusal : Option Refusal
  pub number : ℕ
  pub count : ℕ
  pub length : ℕ
  pub table : List ℕ
  pub work : List ℕ
  pub result : List ℕ

abbrev pub ran_by : List ℕ → Served (ℕ × List ℕ) → RunResult
ran_by result s =
    let a : RunAnswer = answer_of_run s.outcome in
    record {
      refusal = a.refusal;
      number = a.number;
      count = a.count;
      length = length a.letters;
      table = s.table;
      work = s.work;
      result = written a.letters result;
    }

abbrev pub run_served : Verdict → List ℕ → List ℕ → ℕ → Bool → ℕ → List ℕ → List ℕ → Served (ℕ × List ℕ)
run_served file table work i back budget value result =
    serve (short table work || ltb (length result) result_length) file (run_on i back budget value) table work

abbrev pub run_by : Verdict → List ℕ → List ℕ → ℕ → Bool → ℕ → List ℕ → List ℕ → RunResult
run_by file table work i back budget value result = ran_by result (run_served file table work i back budget value result)

unfoldable pub run_service : List ℕ → List ℕ → List ℕ → ℕ → Bool → ℕ → List ℕ → List ℕ → RunResult
unfolding run
run_service bs table work i back budget value result = run_by (verdict bs) table work i back budget value result
