-- The contracts of a visit on a checked table.
use Rattle.std.specs.Prelude.{ℕ, ◌≤◌, ◌<◌, ◌≡◌, true, List, length, drop, get_or, set}
use Rattle.std.proofs.Math.Option.{some}
use Rattle.std.proofs.Math.ListN.{get_elem?}
use Rattle.limits.specs.Limits.{run_room, work_length, word_bound, max_lines}
use Rattle.calculus.specs.Trees.{Iso}
use Rattle.calculus.specs.Lists.{is_free}
use Rattle.format.specs.Lines.{Row}
use Rattle.format.specs.Unfold.{isos_of}
use Rattle.model.specs.Services.{toward}
use Rattle.table_walks.specs.Walk.{FileIn}
use Rattle.runner.specs.RunSays.{Prepared, InRoom}
use Rattle.law_units.specs.Units.{Planned, Units, Visited, done, skipped, spent, Holds, other_end, sent, came_to, visit, visit_to, moved}
use Rattle.unit_script.specs.declared.Planned as P
use Rattle.unit_script.specs.Views.{planned_view}
use Rattle.unit_tally.specs.Count.{place_of, mark_of}
use Rattle.unit_tally.specs.declared.Visit as M
use Rattle.unit_tally.specs.declared.Visit.TheVariants as marks
use Rattle.unit_visits.specs.declared.Visited as Z
use Rattle.unit_visits.specs.declared.Visited.TheVariants as visits

-- a table that holds an accepted file's rows, whose isos the index finds
pub record Playable (t : List ℕ) (types : ℕ) (index : List ℕ) (isos : ℕ) (rs : List Row) : Type 0 where
  pub prepared : Prepared t types index isos rs
  pub patterns : ℕ
  pub lines : ℕ
  pub table : FileIn t types patterns lines rs

-- what an enum stands for
abbrev pub visited_view : Z.Visited → Visited
visited_view (visits.Done j m) = done j m
visited_view visits.Skipped = skipped
visited_view visits.Spent = spent

-- and its mark
abbrev pub marked : Visited → ℕ
marked (done j m) = mark_of marks.Done
marked skipped = mark_of marks.Skipped
marked spent = mark_of marks.Spent

-- what holds of the rows of whatever file is playable, for a unit that passes the tests and an iso that is there and has nothing to do with lists, where the work area is the room
-- of a run
abbrev pub OnUnit : List ℕ → ℕ → List ℕ → ℕ → P.Planned → ℕ → ℕ → List ℕ → (List Row → Type 0) → Type 0
OnUnit t types index isos p i n work Q =
    (rs : List Row) → Playable t types index isos rs → Holds rs i n → p.iso < isos → is_free (isos_of rs) p.iso ≡ true → InRoom (length work) (Q rs)

-- the same for an iso that begins at the unit's type, and the T line at its other end
abbrev pub OnWay : List ℕ → ℕ → List ℕ → P.Planned → ℕ → ℕ → ℕ → List ℕ → (List Row → Type 0) → Type 0
OnWay t types index p i n j work Q =
    (isos : ℕ) (rs : List Row) → Playable t types index isos rs → p.iso < isos → is_free (isos_of rs) p.iso ≡ true → (h : Holds rs i n) (o : Iso) → get_elem? (isos_of (toward p.back rs))
    p.iso ≡ some o
    → h.type ≡ o.from → j ≡ other_end rs p.back (some o) → j < word_bound → InRoom (length work) (Q rs)

-- all of the work area behind the frames of a run is as it was
pub record Spared (work work' : List ℕ) : Type 0 where
  pub behind : drop run_room work' ≡ drop run_room work

-- what comes of sending the unit's setting to T line j
abbrev pub Sends : List Row → ℕ → P.Planned → ℕ → ℕ → ℕ → List ℕ → List ℕ → Z.Visited → Type 0
Sends rs budget p i n j work work' r = (visited_view r ≡ came_to j (sent rs budget (planned_view p) i n j)) × Spared work work'

-- what comes of the visit
abbrev pub Visits : List Row → ℕ → P.Planned → ℕ → ℕ → List ℕ → List ℕ → Z.Visited → Type 0
Visits rs budget p i n work work' r = (visited_view r ≡ visit rs budget (planned_view p) i n) × Spared work work'

-- visit k played: what the units then hold, and its mark behind the room of a run; w, is and ns are the areas at entry, w', is' and ns' at exit
pub record Played (rs : List Row) (budget : ℕ) (p : Planned) (k : ℕ) (w is ns w' is' ns' : List ℕ) : Type 0 where
  pub types : is' ≡ (moved (visit_to rs budget (record { types = is; settings = ns }) p) p.unit (record { types = is; settings = ns })).types
  pub settings : ns' ≡ (moved (visit_to rs budget (record { types = is; settings = ns }) p) p.unit (record { types = is; settings = ns })).settings
  pub marks : drop run_room w' ≡ set (drop run_room w) k (marked (visit_to rs budget (record { types = is; settings = ns }) p))

abbrev pub OneVisited : List ℕ → ℕ → List ℕ → ℕ → P.Planned → ℕ → ℕ → List ℕ → List ℕ → List ℕ → List ℕ → List ℕ → List ℕ → Type 0
OneVisited t types index isos p k budget w is ns w' is' ns' =
    OnUnit t types index isos p (get_or is p.unit 0) (get_or ns p.unit 0) w (λ rs. k < max_lines → Played rs budget (planned_view p) k w is ns w' is' ns')
