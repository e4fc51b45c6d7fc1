-- The contracts of a play on an accepted file's table.
use Rattle.std.specs.Prelude.{Option as CodeOption, ℕ, ◌+◌, ◌≤◌, ◌<◌, ◌≡◌, true, List, [], ◌++◌, map, length, take, drop, get_or, replicate}
use Rattle.std.proofs.Math.Option.{Option, none, some}
use Rattle.limits.specs.Limits.{run_room, work_length, max_lines}
use Rattle.calculus.specs.Tools.{or_else}
use Rattle.calculus.specs.Trees.{Iso}
use Rattle.calculus.specs.Refusals.{Refusal}
use Rattle.calculus.specs.Lists.{is_free}
use Rattle.format.specs.Lines.{Row, lines}
use Rattle.format.specs.Unfold.{isos_of}
use Rattle.format.specs.Code.{refusal_view}
use Rattle.format.specs.declared.Refusal as F
use Rattle.model.specs.Services.{Outcome, gives, fails, refusal_of}
use Rattle.checker.specs.CheckSays.{Accepted}
use Rattle.checker.specs.declared.Checked as C
use Rattle.runner.specs.RunSays.{InRoom}
use Rattle.law_units.specs.Units.{Planned, planned_of, script_of, Units, Holds, units_fault, units_after, outcomes, Played, units_from, play_rows}
use Rattle.unit_visits.specs.Visiting.{Playable, marked, Played as VisitPlayed}

-- the units in two areas
abbrev pub units_in : List ℕ → List ℕ → Units
units_in is ns = record { types = is; settings = ns }

-- a line that plans a visit is played
abbrev pub LinePlayed : List ℕ → ℕ → List ℕ → ℕ → List ℕ → ℕ → ℕ → List ℕ → List ℕ → List ℕ → List ℕ → List ℕ → List ℕ → Type 0
LinePlayed t types index isos l k budget w is ns w' is' ns' =
    (rs : List Row) → Playable t types index isos rs → (p : Planned) → planned_of l ≡ some p → Holds rs (get_or is p.unit 0) (get_or ns p.unit 0) → p.iso < isos
    → is_free (isos_of rs) p.iso ≡ true → InRoom (length w) (k < max_lines → VisitPlayed rs budget p k w is ns w' is' ns')

-- the marks of some visits, and a work area with marks behind the room of a run
abbrev pub marks_of : List Row → ℕ → List Planned → Units → List ℕ
marks_of rs budget ps us = map marked (outcomes rs budget ps us)

abbrev pub with_marks : List ℕ → List ℕ → List ℕ
with_marks ms w = take run_room w ++ (ms ++ drop (length ms) (drop run_room w))

-- a script played: what the units then hold, and the marks of all visits
pub record ScriptPlayed (rs : List Row) (budget : ℕ) (ps : List Planned) (w is ns w' is' ns' : List ℕ) : Type 0 where
  pub units : units_in is' ns' ≡ units_after rs budget ps (units_in is ns)
  pub marks : drop run_room w' ≡ marks_of rs budget ps (units_in is ns) ++ drop (length (marks_of rs budget ps (units_in is ns))) (drop run_room w)

-- what a play assumes: units that pass, a script that plans a visit with each of its lines, and few of these
pub record Ready (rs : List Row) (q is ns : List ℕ) (ps : List Planned) : Type 0 where
  pub long : length is ≡ length ns
  pub passes : units_fault rs is ns ≡ none
  pub script : script_of (length is) (isos_of rs) (lines q) ≡ gives ps
  pub few : length (lines q) ≤ max_lines

-- all lines, in an area with room for a run and for their marks
abbrev pub LinesPlayed : List ℕ → ℕ → List ℕ → ℕ → List ℕ → ℕ → List ℕ → List ℕ → List ℕ → List ℕ → List ℕ → List ℕ → Type 0
LinesPlayed t types index isos q budget w is ns w' is' ns' =
    (rs : List Row) → Playable t types index isos rs → (ps : List Planned) → Ready rs q is ns ps → run_room + max_lines ≤ length w → length w ≤ work_length
    → ScriptPlayed rs budget ps w is ns w' is' ns'

-- the same of an accepted file's rows, in a work area's first n bytes
abbrev pub AllPlayed : List ℕ → C.Checked → List ℕ → ℕ → ℕ → List ℕ → List ℕ → List ℕ → List ℕ → List ℕ → List ℕ → Type 0
AllPlayed t c q budget n w is ns w' is' ns' =
    (s : List ℕ) (a : Accepted s t c) (ps : List Planned) → Ready a.file q is ns ps → run_room + max_lines ≤ n → n ≤ work_length
    → ScriptPlayed a.file budget ps w is ns w' is' ns'

-- the tests: the units, and then the script
abbrev pub script_fault : ℕ → List Iso → List ℕ → Option Refusal
script_fault units os q = refusal_of (script_of units os (lines q))

abbrev pub ScriptTested : List ℕ → C.Checked → List ℕ → ℕ → CodeOption F.Refusal → Type 0
ScriptTested t c q units r = (s : List ℕ) (a : Accepted s t c) → refusal_view r ≡ script_fault units (isos_of a.file) q

abbrev pub Tested : List ℕ → C.Checked → List ℕ → List ℕ → List ℕ → CodeOption F.Refusal → Type 0
Tested t c q is ns r =
    (s : List ℕ) (a : Accepted s t c) → length is ≡ length ns → refusal_view r ≡ or_else (units_fault a.file is ns) (script_fault (length is) (isos_of a.file) q)

-- the tests and the play: refusal, units and marks as an outcome says
abbrev pub marks_from : Outcome Played → List ℕ
marks_from (gives x) = map marked x.visits
marks_from (fails f) = []

pub record Into (x : Outcome Played) (w is ns w' is' ns' : List ℕ) (r : CodeOption F.Refusal) : Type 0 where
  pub refusal : refusal_view r ≡ refusal_of x
  pub units : units_in is' ns' ≡ units_from x (units_in is ns)
  pub work : w' ≡ with_marks (marks_from x) w

abbrev pub PlayedInto : List ℕ → C.Checked → List ℕ → ℕ → List ℕ → List ℕ → List ℕ → List ℕ → List ℕ → List ℕ → CodeOption F.Refusal → Type 0
PlayedInto t c q budget w is ns w' is' ns' r =
    (s : List ℕ) (a : Accepted s t c) → length is ≡ length ns → length (lines q) ≤ max_lines → take run_room w ≡ replicate run_room 0
    → Into (play_rows (units_in is ns) q budget a.file) w is ns w' is' ns' r
