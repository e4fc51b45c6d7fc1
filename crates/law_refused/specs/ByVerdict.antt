-- Each service of a request, with the verdict of its file in place of the file. Check, Turn, Run, the sheet and the desk program stand so in `model`: `check_by`,
-- `turn_by`, `run_by`, `sheet_by`, `desk_by`.
use Rattle.std.specs.Prelude.{ℕ, Bool, cond, ◌||◌, List, [], ltb, length}
use Rattle.limits.specs.Limits.{result_length, export_length, import_length}
use Rattle.format.specs.Lines.{Row}
use Rattle.model.specs.Services.{Verdict, answer_of, refusal_by, table_after, work_after, short, unless, written, Outcome, serve, Output, output_by}
use Rattle.law_ranking.specs.Numbering.{number_rows, setting_rows, Numbered, numbered_by, Lettered, lettered_by}
use Rattle.law_costs.specs.Bounds.{bounds_rows, BoundsResult, bounds_by}
use Rattle.law_witnesses.specs.Showing.{Shown, measured}
use Rattle.law_pairlists.specs.PairLists.{export_rows, import_rows}
use Rattle.law_units.specs.Units.{Units, Tally, Play, play_by, play_rows, play_verdict, unequal}
use Rattle.check_overlap.specs.Overlap.{overlap_rows, Overlapped, overlapped_by}

-- request 02, letters to number and number to letters
abbrev pub number_with : Verdict → List ℕ → List ℕ → ℕ → List ℕ → Numbered
number_with file table work i value = numbered_by (serve (short table work) file (number_rows i value) table work)

abbrev pub setting_with : Verdict → List ℕ → List ℕ → ℕ → ℕ → List ℕ → Lettered
setting_with file table work i n result =
    lettered_by result (serve (short table work || ltb (length result) result_length) file (setting_rows i n) table work)

-- request 04, the overlap of two P lines
abbrev pub overlap_with : Verdict → List ℕ → List ℕ → ℕ → ℕ → Overlapped
overlap_with file table work i j = overlapped_by (serve (short table work) file (overlap_rows i j) table work)

-- request 05, bounds on the count
abbrev pub bounds_with : Verdict → List ℕ → List ℕ → ℕ → BoundsResult
bounds_with file table work i = bounds_by (serve (short table work) file (bounds_rows i) table work)

-- request 07: what is asked of the rows goes into an area of m bytes
abbrev pub output_with : ℕ → (List Row → Outcome (List ℕ)) → Verdict → List ℕ → List ℕ → List ℕ → Output
output_with m asked file table work output = output_by output (serve (short table work || ltb (length output) m) file asked table work)

abbrev pub export_with : Verdict → List ℕ → List ℕ → ℕ → ℕ → List ℕ → Output
export_with file table work i budget output = output_with export_length (λ rs. export_rows rs i budget) file table work output

abbrev pub import_with : Verdict → List ℕ → List ℕ → ℕ → ℕ → List ℕ → List ℕ → Output
import_with file table work i j list output = output_with import_length (λ rs. import_rows rs i j list) file table work output

-- request 09, a setting that shows the fault: `shown` are the letters that the file is answered with
abbrev pub show_with : Verdict → List ℕ → List ℕ → List ℕ → List ℕ → Shown
show_with file shown table work result =
    let s : Bool = short table work || ltb (length result) result_length in
    let v : Verdict = unless s (measured file shown) in
    let ls : List ℕ = cond s [] shown in
    record {
      refusal = refusal_by v;
      answer = answer_of v;
      length = length ls;
      table = table_after v table;
      work = work_after v work;
      result = written ls result;
    }

-- request 12, a play of units
abbrev pub play_with : Verdict → List ℕ → List ℕ → Units → List ℕ → ℕ → Tally → Play
play_with file table work us script budget t =
    play_by us t (serve (short table work || unequal us) (play_verdict us script file) (play_rows us script budget) table work)
