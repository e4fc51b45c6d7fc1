-- Request 12, "Six hundred units tried out": units that each hold a T line and a setting number, a script of visits, and what the service answers
-- and leaves in every lent area.
use Rattle.std.specs.Prelude.{ℕ, ◌+◌, ◌-◌, ◌<◌, Bool, false, cond, not, ◌&&◌, ◌||◌, List, [], ◌∷◌, eqb, ltb, length, get_or, set}
use Rattle.std.proofs.Math.Option.{Option, none, some}
use Rattle.std.proofs.Math.ListN.{get_elem?}
use Rattle.limits.specs.Limits.{field_bound, max_lines, max_units, letter_s}
use Rattle.calculus.specs.Tools.{◌>>=◌, guard, or_else}
use Rattle.calculus.specs.Trees.{Ty, same_type, Iso}
use Rattle.calculus.specs.Refusals.{Refusal, too_long, too_many, bad_script}
use Rattle.calculus.specs.Lists.{free_isos, is_free}
use Rattle.format.specs.Lines.{Row, lines, text, skip, fields, ended}
use Rattle.format.specs.Unfold.{isos_of, turn_rows}
use Rattle.model.specs.Services.{Verdict, refused, verdict, Answer, short, Outcome, gives, fails, refusal_of, Served, serve, answer_from, toward, run_rows, run_on}
use Rattle.law_ranking.specs.Numbering.{count, types_of, number_rows, setting_rows}
use Rattle.law_ranking.specs.Answers.{LineOf}

-- ---- the script

-- a planned visit, `S,unit,iso,direction`
pub record Planned : Type 0 where
  pub unit : ℕ
  pub iso : ℕ
  pub back : Bool

-- the visit of a line's text: numbers of the file's form, a direction 0 or 1, and nothing behind it
abbrev pub planned_in : List ℕ → Option Planned
planned_in t =
    skip letter_s t >>= λ bs.
    fields (field_bound ∷ field_bound ∷ 2 ∷ []) bs >>= λ r.
    ended r.1 >>= λ _.
    some (record { unit = get_or r.0 0 0; iso = get_or r.0 1 0; back = eqb (get_or r.0 2 0) 1 })

-- … of a line, with either ending
unfoldable pub planned_of : List ℕ → Option Planned
planned_of l = text l >>= λ t. planned_in t

-- "a line of another form or naming an absent unit or iso"
abbrev pub names : ℕ → ℕ → Planned → Bool
names units isos p = ltb p.unit units && ltb p.iso isos

abbrev pub planned_for : ℕ → ℕ → List ℕ → Option Planned
planned_for units isos l = planned_of l >>= λ p. guard (names units isos p) >>= λ _. some p

abbrev pub and_then : {A B : Type 0} → Outcome A → (A → Outcome B) → Outcome B
and_then (gives a) f = f a
and_then (fails r) f = fails r

-- "on each 22 before 18": a line that plans no visit is 22; one by an iso that has to do with a list is 18 (request 14)
abbrev pub on_line : List Iso → Option Planned → Outcome Planned
on_line os none = fails bad_script
on_line os (some p) = cond (is_free os p.iso) (gives p) (fails too_many)

abbrev pub line_on : ℕ → List Iso → List ℕ → Outcome Planned
line_on units os l = on_line os (planned_for units (length os) l)

-- "a script is tested line by line": the visits of its lines, or the refusal of the first line that has one
abbrev pub script_of : ℕ → List Iso → List (List ℕ) → Outcome (List Planned)
script_of units os [] = gives []
script_of units os (l ∷ ls) = and_then (line_on units os l) (λ p. and_then (script_of units os ls) (λ ps. gives (p ∷ ps)))

-- ---- the units

-- "each hold a T line and a setting number, in lent areas": unit k holds number k of either
pub record Units : Type 0 where
  pub types : List ℕ
  pub settings : List ℕ

-- "A starting unit with an absent T line is 15, a type too big to number 18, a number too high 19": as number to letters answers
abbrev pub unit_fault : List Row → ℕ → ℕ → Option Refusal
unit_fault rs i n = refusal_of (setting_rows i n rs)

-- a unit that passes: its T line is there, its type's values are numbered, and its number is below their count
pub record Holds (rs : List Row) (i n : ℕ) : Type 0 where
  pub type : Ty
  pub line : LineOf rs i type
  pub below : n < count type

-- "the units in order"
abbrev pub units_fault : List Row → List ℕ → List ℕ → Option Refusal
units_fault rs [] ns = none
units_fault rs (i ∷ is) [] = none
units_fault rs (i ∷ is) (n ∷ ns) = or_else (unit_fault rs i n) (units_fault rs is ns)

-- ---- a visit

-- what comes of a visit: the T line and the number that the unit then holds, or nothing
pub data Visited : Type 0 where
  done : ℕ → ℕ → Visited
  skipped spent : Visited

-- "A visit whose type does not match the unit": trees are compared
abbrev pub matches : Option Ty → Option Iso → Bool
matches none x = false
matches (some a) none = false
matches (some a) (some o) = same_type a o.from

-- "the T line that the iso's I line names at the other end"
abbrev pub end_of : Bool → Option Row → ℕ
end_of back none = 0
end_of back (some r) = cond back r.x r.y

abbrev pub other_end : List Row → Bool → Option Iso → ℕ
other_end rs back none = 0
other_end rs back (some o) = end_of back (get_elem? rs (o.line - 1))

-- "the number of the setting that the run gives": number to letters, run, letters to number, as the services have them; j is the T line at the other end
abbrev pub sent : List Row → ℕ → Planned → ℕ → ℕ → ℕ → Outcome ℕ
sent rs budget p i n j =
    and_then (setting_rows i n rs) (λ ls. and_then (run_on p.iso p.back budget ls rs) (λ r. number_rows j r.1 rs))

-- "one over budget is spent"; where the types match, nothing else can be refused (`only_spent`)
abbrev pub came_to : ℕ → Outcome ℕ → Visited
came_to j (gives m) = done j m
came_to j (fails f) = spent

-- a visit to a unit that holds T line i and number n, by iso o
abbrev pub visit_by : List Row → ℕ → Planned → ℕ → ℕ → Option Iso → Visited
visit_by rs budget p i n o =
    let j : ℕ = other_end rs p.back o in cond (matches (get_elem? (types_of rs) i) o) (came_to j (sent rs budget p i n j)) skipped

unfoldable pub visit : List Row → ℕ → Planned → ℕ → ℕ → Visited
unfolding types_of isos_of turn_rows run_rows
visit rs budget p i n = visit_by rs budget p i n (get_elem? (isos_of (toward p.back rs)) p.iso)

abbrev pub visit_to : List Row → ℕ → Units → Planned → Visited
visit_to rs budget us p = visit rs budget p (get_or us.types p.unit 0) (get_or us.settings p.unit 0)

-- "Any other is done: the unit then holds …"; "both leave the unit"
abbrev pub moved : Visited → ℕ → Units → Units
moved (done j m) k us = record { types = set us.types k j; settings = set us.settings k m }
moved skipped k us = us
moved spent k us = us

-- ---- the whole script

-- the units after all visits
abbrev pub units_after : List Row → ℕ → List Planned → Units → Units
units_after rs budget [] us = us
units_after rs budget (p ∷ ps) us = units_after rs budget ps (moved (visit_to rs budget us p) p.unit us)

-- what comes of each visit
abbrev pub outcomes : List Row → ℕ → List Planned → Units → List Visited
outcomes rs budget [] us = []
outcomes rs budget (p ∷ ps) us =
    let v : Visited = visit_to rs budget us p in v ∷ outcomes rs budget ps (moved v p.unit us)

-- "One record of visits done, skipped and spent"
pub record Tally : Type 0 where
  pub done : ℕ
  pub skipped : ℕ
  pub spent : ℕ

abbrev pub nothing_yet : Tally
nothing_yet = record { done = 0; skipped = 0; spent = 0 }

abbrev pub with_visit : Visited → Tally → Tally
with_visit (done j m) t = record { done = t.done + 1; skipped = t.skipped; spent = t.spent }
with_visit skipped t = record { done = t.done; skipped = t.skipped + 1; spent = t.spent }
with_visit spent t = record { done = t.done; skipped = t.skipped; spent = t.spent + 1 }

abbrev pub counted : List Visited → Tally → Tally
counted [] t = t
counted (v ∷ vs) t = counted vs (with_visit v t)

-- ---- the service

-- a play that is not refused: the units at its end, and what came of each visit
pub record Played : Type 0 where
  pub units : Units
  pub visits : List Visited

abbrev pub played : List Row → ℕ → Units → List Planned → Played
played rs budget us ps = record { units = units_after rs budget ps us; visits = outcomes rs budget ps us }

-- "then the script"
abbrev pub on_script : List Row → ℕ → Units → Outcome (List Planned) → Outcome Played
on_script rs budget us (fails f) = fails f
on_script rs budget us (gives ps) = gives (played rs budget us ps)

-- "All tests precede the first visit, the units in order"
abbrev pub on_units : List Row → ℕ → Units → List (List ℕ) → Option Refusal → Outcome Played
on_units rs budget us ls (some f) = fails f
on_units rs budget us ls none = on_script rs budget us (script_of (length us.types) (isos_of rs) ls)

unfoldable pub play_rows : Units → List ℕ → ℕ → List Row → Outcome Played
unfolding visit planned_of free_isos
play_rows us script budget rs = on_units rs budget us (lines script) (units_fault rs us.types us.settings)

-- "Unit areas of unequal length are 1"
abbrev pub unequal : Units → Bool
unequal us = not (eqb (length us.types) (length us.settings))

-- "over 1,000 units or 4,096 lines 2"
abbrev pub play_verdict : Units → List ℕ → Verdict → Verdict
play_verdict us script file = cond (ltb max_units (length us.types) || ltb max_lines (length (lines script))) (refused too_long 0) file

-- "a refusal leaves units and record unchanged"; "counted from 0 in each play"
abbrev pub units_from : Outcome Played → Units → Units
units_from (gives x) us = x.units
units_from (fails f) us = us

abbrev pub tally_from : Outcome Played → Tally → Tally
tally_from (gives x) t = counted x.visits nothing_yet
tally_from (fails f) t = t

pub record Play : Type 0 where
  pub refusal : Option Refusal
  pub answer : Answer
  pub table : List ℕ
  pub work : List ℕ
  pub units : Units
  pub tally : Tally

abbrev pub play_by : Units → Tally → Served Played → Play
play_by us t s =
    record {
      refusal = refusal_of s.outcome;
      answer = answer_from s;
      table = s.table;
      work = s.work;
      units = units_from s.outcome us;
      tally = tally_from s.outcome t;
    }

abbrev pub play_served : List ℕ → List ℕ → List ℕ → Units → List ℕ → ℕ → Served Played
play_served file table work us script budget =
    serve (short table work || unequal us) (play_verdict us script (verdict file)) (play_rows us script budget) table work

unfoldable pub play_service : List ℕ → List ℕ → List ℕ → Units → List ℕ → ℕ → Tally → Play
unfolding verdict play_rows
play_service file table work us script budget t = play_by us t (play_served file table work us script budget)
