-- All services for one file, each as a function of what else a caller hands in; and what they are for a refused file.
use Rattle.std.specs.Prelude.{ℕ, ◌*◌, ◌≤◌, ◌≡◌, Bool, List, length}
use Rattle.limits.specs.Limits.{table_length, work_length, result_length, export_length, import_length, max_queries, max_lines, max_units}
use Rattle.calculus.specs.Refusals.{Refusal}
use Rattle.format.specs.Lines.{Row, lines}
use Rattle.model.specs.Services.{Verdict, Outcome, Checked, check_by, check, Output, turn_by, turn, RunResult, run_by, run_service}
use Rattle.model.specs.Sheet.{Sheet, sheet_by, sheet}
use Rattle.law_ranking.specs.Numbering.{Numbered, number_service, Lettered, setting_service}
use Rattle.law_costs.specs.Bounds.{BoundsResult, bounds_service}
use Rattle.law_witnesses.specs.Showing.{Shown, show_service}
use Rattle.law_pairlists.specs.PairLists.{export_service, import_service}
use Rattle.law_units.specs.Units.{Units, Tally, Play, play_service}
use Rattle.check_overlap.specs.Overlap.{Overlapped, overlap_service}
use Rattle.law_refused.specs.ByVerdict.{number_with, setting_with, overlap_with, bounds_with, output_with, export_with, show_with, play_with}
use Rattle.law_refused.specs.Refused.{check_refused, output_refused, run_refused, sheet_refused, number_refused, setting_refused, overlap_refused, bounds_refused}
use Rattle.law_refused.specs.Refused.{show_refused, play_refused}

-- what each answers and leaves, table and work area first; all but the desk program, whose file is a part of its input
pub record Services : Type 0 where
  pub checks : List ℕ → List ℕ → Checked
  pub turns : List ℕ → List ℕ → List ℕ → Output
  pub runs : List ℕ → List ℕ → ℕ → Bool → ℕ → List ℕ → List ℕ → RunResult
  pub sheets : List ℕ → List ℕ → List ℕ → List ℕ → List ℕ → Sheet
  pub numbers : List ℕ → List ℕ → ℕ → List ℕ → Numbered
  pub settings : List ℕ → List ℕ → ℕ → ℕ → List ℕ → Lettered
  pub overlaps : List ℕ → List ℕ → ℕ → ℕ → Overlapped
  pub bounds : List ℕ → List ℕ → ℕ → BoundsResult
  pub exports : List ℕ → List ℕ → ℕ → ℕ → List ℕ → Output
  pub imports : List ℕ → List ℕ → ℕ → ℕ → List ℕ → List ℕ → Output
  pub shows : List ℕ → List ℕ → List ℕ → Shown
  pub plays : List ℕ → List ℕ → Units → List ℕ → ℕ → Tally → Play

-- those of today
abbrev pub today : List ℕ → Services
today file =
    record {
      checks = λ table work. check file table work;
      turns = λ table work output. turn file table work output;
      runs = λ table work i back budget value result. run_service file table work i back budget value result;
      sheets = λ table work queries numbers letters. sheet file table work queries numbers letters;
      numbers = λ table work i value. number_service file table work i value;
      settings = λ table work i n result. setting_service file table work i n result;
      overlaps = λ table work i j. overlap_service file table work i j;
      bounds = λ table work i. bounds_service file table work i;
      exports = λ table work i budget output. export_service file table work i budget output;
      imports = λ table work i j list output. import_service file table work i j list output;
      shows = λ table work result. show_service file table work result;
      plays = λ table work us script budget t. play_service file table work us script budget t;
    }

-- those by some verdict on a file of `size` bytes, by the letters that it is shown with, and by what an import asks of the rows
abbrev pub by_verdict : Verdict → List ℕ → ℕ → (List Row → ℕ → ℕ → List ℕ → Outcome (List ℕ)) → Services
by_verdict v shown size asked =
    record {
      checks = λ table work. check_by v table work;
      turns = λ table work output. turn_by v size table work output;
      runs = λ table work i back budget value result. run_by v table work i back budget value result;
      sheets = λ table work queries numbers letters. sheet_by v table work queries numbers letters;
      numbers = λ table work i value. number_with v table work i value;
      settings = λ table work i n result. setting_with v table work i n result;
      overlaps = λ table work i j. overlap_with v table work i j;
      bounds = λ table work i. bounds_with v table work i;
      exports = λ table work i budget output. export_with v table work i budget output;
      imports = λ table work i j list output. output_with import_length (λ rs. asked rs i j list) v table work output;
      shows = λ table work result. show_with v shown table work result;
      plays = λ table work us script budget t. play_with v table work us script budget t;
    }

-- lent areas that are long enough
pub record Long (table work : List ℕ) : Type 0 where
  pub long : table_length ≤ length table
  pub wide : work_length ≤ length work

-- a file of `size` bytes that is refused f at line n, f 3 or above: in areas that are long enough each service answers that refusal, gives and writes nothing, and
-- clears table and work area
pub record Refuses (f : Refusal) (n size : ℕ) (s : Services) : Type 0 where
  pub checks : (table work : List ℕ) → Long table work → s.checks table work ≡ check_refused f n table work
  pub turns : (table work output : List ℕ) → Long table work → size ≤ length output → s.turns table work output ≡ output_refused f n table work output
  pub runs : (table work : List ℕ) (i : ℕ) (back : Bool) (budget : ℕ) (value result : List ℕ) → Long table work → result_length ≤ length result
      → s.runs table work i back budget value result ≡ run_refused f table work result
  pub sheets : (table work queries numbers letters : List ℕ) → Long table work → length (lines queries) ≤ max_queries
      → length (lines queries) * 3 ≤ length numbers → length (lines queries) * result_length ≤ length letters
      → s.sheets table work queries numbers letters ≡ sheet_refused f n table work numbers letters
  pub numbers : (table work : List ℕ) (i : ℕ) (value : List ℕ) → Long table work → s.numbers table work i value ≡ number_refused f table work
  pub settings : (table work : List ℕ) (i k : ℕ) (result : List ℕ) → Long table work → result_length ≤ length result
      → s.settings table work i k result ≡ setting_refused f table work result
  pub overlaps : (table work : List ℕ) (i j : ℕ) → Long table work → s.overlaps table work i j ≡ overlap_refused f n table work
  pub bounds : (table work : List ℕ) (i : ℕ) → Long table work → s.bounds table work i ≡ bounds_refused f table work
  pub exports : (table work : List ℕ) (i budget : ℕ) (output : List ℕ) → Long table work → export_length ≤ length output
      → s.exports table work i budget output ≡ output_refused f n table work output
  pub imports : (table work : List ℕ) (i j : ℕ) (list output : List ℕ) → Long table work → import_length ≤ length output
      → s.imports table work i j list output ≡ output_refused f n table work output
  pub shows : (table work result : List ℕ) → Long table work → result_length ≤ length result → s.shows table work result ≡ show_refused f n table work result
  pub plays : (table work : List ℕ) (us : Units) (script : List ℕ) (budget : ℕ) (t : Tally) → Long table work → length us.types ≡ length us.settings
      → length us.types ≤ max_units → length (lines script) ≤ max_lines
      → s.plays table work us script budget t ≡ play_refused f n table work us t
