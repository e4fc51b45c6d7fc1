-- The services as they stood before request 14: no kind of a list is listed, an L line names an earlier iso only, and nothing is tested that has to do with lists
-- or calls of itself. All else is as it is today.
use Rattle.std.specs.Prelude.{ℕ, suc, Bool, false, not, cond, ◌&&◌, ◌||◌, List, [], ◌∷◌, ltb, eqb, length, get_or}
use Rattle.std.proofs.Math.Option.{Option, none, some}
use Rattle.std.proofs.Math.ListN.{get_elem?}
use Rattle.limits.specs.Limits.{max_pairs, result_length}
use Rattle.calculus.specs.Tools.{first_failing, first_of, stages, or_else}
use Rattle.calculus.specs.Trees.{Iso, Val}
use Rattle.calculus.specs.Refusals.{Kind, type_line, pattern_line, iso_line, clause_line, let_line, Refusal, misplaced, bad_field, bad_name, ceiling, too_long, no_iso, no_value, too_many, bad_script}
use Rattle.calculus.specs.Clauses.{Sigs, at, clause_fault, side_fault, sigs_of}
use Rattle.calculus.specs.Reduction.{Counted, reduce_free}
use Rattle.format.specs.Lines.{Row, lines, row_of}
use Rattle.format.specs.Judge.{Seen, start, in_order, fields_fit, named, after, Reading, rows, faulty, with_row, on_row, on_judged}
use Rattle.format.specs.Unfold.{isos_of}
use Rattle.format.specs.Idle.{idle_fault}
use Rattle.model.specs.Services.{Verdict, refused, judged, over, answer_of, refusal_by, table_after, work_after, short, unless, written, Outcome, gives, fails, Ran, within, argument}
use Rattle.law_ranking.specs.Numbering.{count}
use Rattle.law_costs.specs.Costs.{least_costs, greatest_costs}
use Rattle.law_witnesses.specs.Showing.{shown_or, letters_of?, shown_unless, setting, Shown}
use Rattle.law_pairlists.specs.PairLists.{on_pairs, upwards, to_from}
use Rattle.law_units.specs.Units.{Planned, planned_for, and_then, Units, units_fault, Played, on_script}

-- ---- the reading

-- "T kind 3 …, P kinds 5 … and 6"
abbrev pub of_lists : Kind → Row → Bool
of_lists type_line r = eqb r.x 3
of_lists pattern_line r = eqb r.x 5 || eqb r.x 6
of_lists iso_line r = false
of_lists clause_line r = false
of_lists let_line r = false

-- "An L line may name its own iso": the last of the I lines above
abbrev pub calls_itself : Seen → Kind → Row → Bool
calls_itself s type_line r = false
calls_itself s pattern_line r = false
calls_itself s iso_line r = false
calls_itself s clause_line r = false
calls_itself s let_line r = eqb (suc r.y) s.isos

-- the lowest of 4 to 7, under some ceilings
unfoldable pub judge_before : (Seen → Kind → Row → Bool) → Seen → Row → Option Refusal
judge_before ceilings s r =
    let k : Kind = r.kind in
    first_failing
    ((in_order s.above k, misplaced k)
    ∷ (fields_fit k r && not (of_lists k r), bad_field k)
    ∷ (named s k r && not (calls_itself s k r), bad_name k)
    ∷ (ceilings s k r, ceiling k)
    ∷ [])

abbrev pub read_before : (Seen → Kind → Row → Bool) → Seen → ℕ → List (List ℕ) → Reading
read_before ceilings s n [] = rows []
read_before ceilings s n (l ∷ ls) =
    on_row n (row_of l) (λ r. on_judged n (judge_before ceilings s r) (λ _. with_row r (read_before ceilings (after s r) (suc n) ls)))

-- ---- the isos: no 23

unfoldable pub iso_before : Sigs → Iso → Option (Refusal × ℕ)
unfolding clause_fault side_fault
iso_before sigs o =
    stages ((λ o. first_of (λ c. at c.line (clause_fault sigs o.from o.to c)) o.clauses) ∷ (λ o. at o.line (side_fault o)) ∷ []) o

abbrev pub fault_before : Sigs → List Iso → Option (Refusal × ℕ)
fault_before sigs [] = none
fault_before sigs (o ∷ os) = or_else (iso_before sigs o) (fault_before sigs os)

abbrev pub judged_before : Reading → Verdict
judged_before (faulty f n) = refused f n
judged_before (rows rs) = judged rs (stages (idle_fault ∷ (λ rs. fault_before (sigs_of (isos_of rs)) (isos_of rs)) ∷ []) rs)

unfoldable pub before : (Seen → Kind → Row → Bool) → List ℕ → Verdict
unfolding over start judge_before idle_fault isos_of iso_before
before ceilings bs = cond (over bs) (refused too_long 0) (judged_before (read_before ceilings start 1 (lines bs)))

-- ---- a setting that shows the fault: no 24

abbrev pub shown_before : Sigs → List Iso → Option Val
shown_before sigs [] = none
shown_before sigs (o ∷ os) = shown_or o (iso_before sigs o) (shown_before sigs os)

abbrev pub shown_reading : Reading → List ℕ
shown_reading (faulty f n) = []
shown_reading (rows rs) = shown_unless (idle_fault rs) (letters_of? (shown_before (sigs_of (isos_of rs)) (isos_of rs)))

unfoldable pub showing_before : (Seen → Kind → Row → Bool) → List ℕ → List ℕ
unfolding over start judge_before idle_fault isos_of iso_before setting
showing_before ceilings bs = cond (over bs) [] (shown_reading (read_before ceilings start 1 (lines bs)))

abbrev pub show_before : Verdict → List ℕ → List ℕ → List ℕ → List ℕ → Shown
show_before file shown table work result =
    let s : Bool = short table work || ltb (length result) result_length in
    let v : Verdict = unless s file in
    let ls : List ℕ = cond s [] shown in
    record { refusal = refusal_by v; answer = answer_of v; length = length ls; table = table_after v table; work = work_after v work; result = written ls result }

-- ---- runs: no ceilings but those of the file, whose isos name earlier ones

abbrev pub reduce_before : List Iso → ℕ → Val → Counted Val
reduce_before os i v = reduce_free (length os) os i v

abbrev pub from_before : List Iso → ℕ → ℕ → Option Val → Ran
from_before os i budget none = fails no_value
from_before os i budget (some v) = within budget (reduce_before os i v)

abbrev pub on_iso_before : List Iso → ℕ → ℕ → List ℕ → Option Iso → Ran
on_iso_before os i budget value none = fails no_iso
on_iso_before os i budget value (some o) = from_before os i budget (argument o value)

abbrev pub run_before : List Row → ℕ → ℕ → List ℕ → Ran
run_before rs i budget value = on_iso_before (isos_of rs) i budget value (get_elem? (isos_of rs) i)

-- ---- requests 05, 07 and 12: no 18 by lists. What they run, `run_before` runs alike.

abbrev pub bounds_on_iso : List Iso → ℕ → Option Iso → Outcome (ℕ × ℕ)
bounds_on_iso os i none = fails no_iso
bounds_on_iso os i (some o) = gives (get_or (least_costs os) i 0, get_or (greatest_costs os) i 0)

abbrev pub bounds_before : ℕ → List Row → Outcome (ℕ × ℕ)
bounds_before i rs = bounds_on_iso (isos_of rs) i (get_elem? (isos_of rs) i)

abbrev pub export_on_iso : List Iso → ℕ → ℕ → Option Iso → Outcome (List ℕ)
export_on_iso os i budget none = fails no_iso
export_on_iso os i budget (some o) = cond (ltb max_pairs (count o.from)) (fails too_many) (on_pairs (upwards (to_from os i o budget) 0 (count o.from)))

abbrev pub export_before : List Row → ℕ → ℕ → Outcome (List ℕ)
export_before rs i budget = export_on_iso (isos_of rs) i budget (get_elem? (isos_of rs) i)

abbrev pub planned_before : Option Planned → Outcome Planned
planned_before none = fails bad_script
planned_before (some p) = gives p

abbrev pub script_before : ℕ → ℕ → List (List ℕ) → Outcome (List Planned)
script_before units isos [] = gives []
script_before units isos (l ∷ ls) =
    and_then (planned_before (planned_for units isos l)) (λ p. and_then (script_before units isos ls) (λ ps. gives (p ∷ ps)))

abbrev pub play_on_units : List Row → ℕ → Units → List (List ℕ) → Option Refusal → Outcome Played
play_on_units rs budget us ls (some f) = fails f
play_on_units rs budget us ls none = on_script rs budget us (script_before (length us.types) (length (isos_of rs)) ls)

abbrev pub play_before : Units → List ℕ → ℕ → List Row → Outcome Played
play_before us script budget rs = play_on_units rs budget us (lines script) (units_fault rs us.types us.settings)
