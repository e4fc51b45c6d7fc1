-- What the exported functions give: document 01's numbers, and every lent area, as the model's services say. Of the areas, t, w and o are those at
-- entry, t', w' and o' those at exit.
use Rattle.std.specs.Prelude.{ℕ, ◌≡◌, Bool, List}
use Rattle.model.specs.Services.{check, turn, run_service}
use Rattle.model.specs.Sheet.{sheet}
use Rattle.law_ranking.specs.Numbering.{number_service, setting_service}
use Rattle.check_overlap.specs.Overlap.{overlap_service}
use Rattle.law_costs.specs.Bounds.{bounds_service}
use Rattle.law_pairlists.specs.PairLists.{export_service, import_service}
use Rattle.law_witnesses.specs.Showing.{show_service}
use Rattle.law_units.specs.Units.{play_service}
use Rattle.unit_tally.specs.declared.Tally as K
use Rattle.planner.specs.PlaySays.{tally_view}
use Rattle.rulefile.specs.declared.CheckAnswer as C
use Rattle.rulefile.specs.declared.TurnAnswer as T
use Rattle.rulefile.specs.declared.RunAnswer as R
use Rattle.rulefile.specs.declared.SheetAnswer as S
use Rattle.rulefile.specs.declared.NumberAnswer as N
use Rattle.rulefile.specs.declared.SettingAnswer as L
use Rattle.rulefile.specs.declared.OverlapAnswer as O
use Rattle.rulefile.specs.declared.BoundsAnswer as B
use Rattle.rulefile.specs.declared.TradeAnswer as P
use Rattle.rulefile.specs.declared.WitnessAnswer as W
use Rattle.rulefile.specs.declared.PlayAnswer as Y

-- "Check gives a number and a line"
pub record CheckGiven (file t w t' w' : List ℕ) (r : C.CheckAnswer) : Type 0 where
  pub number : r.number ≡ (check file t w).answer.number
  pub line : r.line ≡ (check file t w).answer.line
  pub table : t' ≡ (check file t w).table
  pub work : w' ≡ (check file t w).work

-- "Turn also writes the turned file and gives its length"
pub record TurnGiven (file t w o t' w' o' : List ℕ) (r : T.TurnAnswer) : Type 0 where
  pub number : r.number ≡ (turn file t w o).answer.number
  pub line : r.line ≡ (turn file t w o).answer.line
  pub bytes : r.length ≡ (turn file t w o).length
  pub table : t' ≡ (turn file t w o).table
  pub work : w' ≡ (turn file t w o).work
  pub output : o' ≡ (turn file t w o).output

-- Run "gives a number, a count and the result's length"
pub record RunGiven (file t w : List ℕ) (i : ℕ) (back : Bool) (budget : ℕ) (value o t' w' o' : List ℕ) (r : R.RunAnswer) : Type 0 where
  pub number : r.number ≡ (run_service file t w i back budget value o).number
  pub count : r.count ≡ (run_service file t w i back budget value o).count
  pub bytes : r.length ≡ (run_service file t w i back budget value o).length
  pub table : t' ≡ (run_service file t w i back budget value o).table
  pub work : w' ≡ (run_service file t w i back budget value o).work
  pub result : o' ≡ (run_service file t w i back budget value o).result

-- request 01; n and o are the areas of the numbers and of the letters
pub record SheetGiven (file t w queries n o t' w' n' o' : List ℕ) (r : S.SheetAnswer) : Type 0 where
  pub number : r.number ≡ (sheet file t w queries n o).answer.number
  pub line : r.line ≡ (sheet file t w queries n o).answer.line
  pub answered : r.queries ≡ (sheet file t w queries n o).queries
  pub table : t' ≡ (sheet file t w queries n o).table
  pub work : w' ≡ (sheet file t w queries n o).work
  pub numbers : n' ≡ (sheet file t w queries n o).numbers
  pub letters : o' ≡ (sheet file t w queries n o).letters

-- request 02, letters to number
pub record NumberGiven (file t w : List ℕ) (i : ℕ) (value t' w' : List ℕ) (r : N.NumberAnswer) : Type 0 where
  pub number : r.number ≡ (number_service file t w i value).number
  pub setting : r.setting ≡ (number_service file t w i value).setting
  pub table : t' ≡ (number_service file t w i value).table
  pub work : w' ≡ (number_service file t w i value).work

-- and number to letters
pub record SettingGiven (file t w : List ℕ) (i n : ℕ) (o t' w' o' : List ℕ) (r : L.SettingAnswer) : Type 0 where
  pub number : r.number ≡ (setting_service file t w i n o).number
  pub bytes : r.length ≡ (setting_service file t w i n o).length
  pub table : t' ≡ (setting_service file t w i n o).table
  pub work : w' ≡ (setting_service file t w i n o).work
  pub result : o' ≡ (setting_service file t w i n o).result

-- request 04
pub record OverlapGiven (file t w : List ℕ) (i j : ℕ) (t' w' : List ℕ) (r : O.OverlapAnswer) : Type 0 where
  pub number : r.number ≡ (overlap_service file t w i j).number
  pub line : r.line ≡ (overlap_service file t w i j).line
  pub clash : r.clash ≡ (overlap_service file t w i j).clash
  pub pairs : r.pairs ≡ (overlap_service file t w i j).pairs
  pub table : t' ≡ (overlap_service file t w i j).table
  pub work : w' ≡ (overlap_service file t w i j).work

-- request 05
pub record BoundsGiven (file t w : List ℕ) (i : ℕ) (t' w' : List ℕ) (r : B.BoundsAnswer) : Type 0 where
  pub number : r.number ≡ (bounds_service file t w i).bounds.number
  pub least : r.least ≡ (bounds_service file t w i).bounds.least
  pub greatest : r.greatest ≡ (bounds_service file t w i).bounds.greatest
  pub least_over : r.least_over ≡ (bounds_service file t w i).bounds.least_over
  pub greatest_over : r.greatest_over ≡ (bounds_service file t w i).bounds.greatest_over
  pub table : t' ≡ (bounds_service file t w i).table
  pub work : w' ≡ (bounds_service file t w i).work

-- request 07, out
pub record ExportGiven (file t w : List ℕ) (i budget : ℕ) (o t' w' o' : List ℕ) (r : P.TradeAnswer) : Type 0 where
  pub number : r.number ≡ (export_service file t w i budget o).answer.number
  pub line : r.line ≡ (export_service file t w i budget o).answer.line
  pub bytes : r.length ≡ (export_service file t w i budget o).length
  pub table : t' ≡ (export_service file t w i budget o).table
  pub work : w' ≡ (export_service file t w i budget o).work
  pub output : o' ≡ (export_service file t w i budget o).output

-- and in
pub record ImportGiven (file t w : List ℕ) (i j : ℕ) (list o t' w' o' : List ℕ) (r : P.TradeAnswer) : Type 0 where
  pub number : r.number ≡ (import_service file t w i j list o).answer.number
  pub line : r.line ≡ (import_service file t w i j list o).answer.line
  pub bytes : r.length ≡ (import_service file t w i j list o).length
  pub table : t' ≡ (import_service file t w i j list o).table
  pub work : w' ≡ (import_service file t w i j list o).work
  pub output : o' ≡ (import_service file t w i j list o).output

-- request 09
pub record WitnessGiven (file t w o t' w' o' : List ℕ) (r : W.WitnessAnswer) : Type 0 where
  pub number : r.number ≡ (show_service file t w o).answer.number
  pub line : r.line ≡ (show_service file t w o).answer.line
  pub bytes : r.length ≡ (show_service file t w o).length
  pub table : t' ≡ (show_service file t w o).table
  pub work : w' ≡ (show_service file t w o).work
  pub result : o' ≡ (show_service file t w o).result

-- request 12; is and ns are the units' areas at entry and l the record, is', ns' and l' at exit
pub record PlayGiven (file t w is ns script : List ℕ) (budget : ℕ) (l : K.Tally) (t' w' is' ns' : List ℕ) (l' : K.Tally) (r : Y.PlayAnswer) : Type 0 where
  pub number : r.number ≡ (play_service file t w (record { types = is; settings = ns }) script budget (tally_view l)).answer.number
  pub line : r.line ≡ (play_service file t w (record { types = is; settings = ns }) script budget (tally_view l)).answer.line
  pub table : t' ≡ (play_service file t w (record { types = is; settings = ns }) script budget (tally_view l)).table
  pub work : w' ≡ (play_service file t w (record { types = is; settings = ns }) script budget (tally_view l)).work
  pub units : record { types = is'; settings = ns' } ≡ (play_service file t w (record { types = is; settings = ns }) script budget (tally_view l)).units
  pub tally : tally_view l' ≡ (play_service file t w (record { types = is; settings = ns }) script budget (tally_view l)).tally
