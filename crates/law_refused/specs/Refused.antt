-- What every service answers for a file that is refused f at line n, where f is 3 or above and the lent areas are long enough: f's number, the line, nothing
-- given and nothing written, the table all zero and the work area zero.
use Rattle.std.specs.Prelude.{ℕ, false, List, []}
use Rattle.std.proofs.Math.Option.{some}
use Rattle.limits.specs.Limits.{table_length, work_length}
use Rattle.calculus.specs.Refusals.{Refusal, number}
use Rattle.model.specs.Services.{filled, Answer, Checked, fails, Served, Output, RunResult}
use Rattle.model.specs.Desk.{file_line}
use Rattle.model.specs.Sheet.{Sheet}
use Rattle.law_ranking.specs.Numbering.{Numbered, Lettered}
use Rattle.law_costs.specs.Bounds.{no_bounds, BoundsResult}
use Rattle.law_witnesses.specs.Showing.{Shown}
use Rattle.law_units.specs.Units.{Units, Tally, Play}
use Rattle.check_overlap.specs.Overlap.{Overlapped}

-- "On refusals 3 to 14 those are all zero. The first 65,536 bytes of the work area are zero."
abbrev pub zero_table : List ℕ → List ℕ
zero_table table = filled table_length [] table

abbrev pub zero_work : List ℕ → List ℕ
zero_work work = filled work_length [] work

-- number and line
abbrev pub refused_at : Refusal → ℕ → Answer
refused_at f n = record { number = number f; line = n }

-- the one form
abbrev pub served_refused : {A : Type 0} → Refusal → ℕ → List ℕ → List ℕ → Served A
served_refused f n table work = record { outcome = fails f; line = n; table = zero_table table; work = zero_work work }

abbrev pub check_refused : Refusal → ℕ → List ℕ → List ℕ → Checked
check_refused f n table work = record { answer = refused_at f n; table = zero_table table; work = zero_work work }

-- Turn, export and import: "Any refusal gives count 0, length 0, and leaves the output area untouched"
abbrev pub output_refused : Refusal → ℕ → List ℕ → List ℕ → List ℕ → Output
output_refused f n table work output =
    record { refusal = some f; answer = refused_at f n; length = 0; table = zero_table table; work = zero_work work; output = output }

-- Run names no line
abbrev pub run_refused : Refusal → List ℕ → List ℕ → List ℕ → RunResult
run_refused f table work result =
    record { refusal = some f; number = number f; count = 0; length = 0; table = zero_table table; work = zero_work work; result = result }

-- "A refused file refuses the whole call": no query is answered
abbrev pub sheet_refused : Refusal → ℕ → List ℕ → List ℕ → List ℕ → List ℕ → Sheet
sheet_refused f n table work numbers letters =
    record { refusal = some f; answer = refused_at f n; queries = 0; table = zero_table table; work = zero_work work; numbers = numbers; letters = letters }

-- "if refused, it stops there"
abbrev pub desk_refused : Refusal → ℕ → List ℕ
desk_refused f n = file_line (refused_at f n)

abbrev pub number_refused : Refusal → List ℕ → List ℕ → Numbered
number_refused f table work = record { refusal = some f; number = number f; setting = 0; table = zero_table table; work = zero_work work }

abbrev pub setting_refused : Refusal → List ℕ → List ℕ → List ℕ → Lettered
setting_refused f table work result =
    record { refusal = some f; number = number f; length = 0; table = zero_table table; work = zero_work work; result = result }

abbrev pub overlap_refused : Refusal → ℕ → List ℕ → List ℕ → Overlapped
overlap_refused f n table work =
    record { refusal = some f; number = number f; line = n; clash = false; pairs = 0; table = zero_table table; work = zero_work work }

abbrev pub bounds_refused : Refusal → List ℕ → List ℕ → BoundsResult
bounds_refused f table work = record { refusal = some f; bounds = no_bounds f; table = zero_table table; work = zero_work work }

-- no setting to look at
abbrev pub show_refused : Refusal → ℕ → List ℕ → List ℕ → List ℕ → Shown
show_refused f n table work result =
    record { refusal = some f; answer = refused_at f n; length = 0; table = zero_table table; work = zero_work work; result = result }

-- "a refusal leaves units and record unchanged"
abbrev pub play_refused : Refusal → ℕ → List ℕ → List ℕ → Units → Tally → Play
play_refused f n table work us t =
    record { refusal = some f; answer = refused_at f n; table = zero_table table; work = zero_work work; units = us; tally = t }
