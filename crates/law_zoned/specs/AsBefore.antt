-- Every service for a file, by the services as they stood before request 14: what `law_zoned` promises of files without lists and self-calls.
use Rattle.std.specs.Prelude.{ℕ, ◌≡◌, Bool, ◌||◌, List, ltb, length}
use Rattle.limits.specs.Limits.{result_length, export_length}
use Rattle.format.specs.Lines.{Row}
use Rattle.format.specs.Judge.{within_ceilings}
use Rattle.model.specs.Services.{accepted, verdict, short, serve, ran_by, run_on, toward, check, check_by, turn, turn_by, run_service}
use Rattle.law_ranking.specs.Numbering.{number_service, setting_service}
use Rattle.law_costs.specs.Bounds.{bounds_by, bounds_service}
use Rattle.law_witnesses.specs.Showing.{show_service}
use Rattle.law_pairlists.specs.PairLists.{export_service, import_service}
use Rattle.law_units.specs.Units.{Units, Tally, play_by, play_verdict, unequal, play_service}
use Rattle.check_overlap.specs.Overlap.{overlap_service}
use Rattle.law_refused.specs.ByVerdict.{number_with, setting_with, overlap_with, output_with, import_with}
use Rattle.law_zoned.specs.Before.{before, showing_before, show_before, run_before, bounds_before, export_before, play_before}

pub record AsBefore (bs : List ℕ) : Type 0 where
  pub checks : (t w : List ℕ) → check bs t w ≡ check_by (before within_ceilings bs) t w
  pub turns : (t w output : List ℕ) → turn bs t w output ≡ turn_by (before within_ceilings bs) (length bs) t w output
  pub runs : (t w : List ℕ) (i : ℕ) (back : Bool) (budget : ℕ) (value result : List ℕ) → run_service bs t w i back budget value result
      ≡ ran_by result (serve (short t w || ltb (length result) result_length) (before within_ceilings bs) (λ rs. run_before (toward back rs) i budget value) t w)
  -- the answers of a sheet and of the desk program, query by query
  pub queries : (rs : List Row) → verdict bs ≡ accepted rs → (i : ℕ) (back : Bool) (budget : ℕ) (value : List ℕ)
      → run_on i back budget value rs ≡ run_before (toward back rs) i budget value
  pub numbers : (t w : List ℕ) (i : ℕ) (value : List ℕ) → number_service bs t w i value ≡ number_with (before within_ceilings bs) t w i value
  pub settings : (t w : List ℕ) (i n : ℕ) (result : List ℕ) → setting_service bs t w i n result ≡ setting_with (before within_ceilings bs) t w i n result
  pub overlaps : (t w : List ℕ) (i j : ℕ) → overlap_service bs t w i j ≡ overlap_with (before within_ceilings bs) t w i j
  pub bounds : (t w : List ℕ) (i : ℕ) → bounds_service bs t w i ≡ bounds_by (serve (short t w) (before within_ceilings bs) (bounds_before i) t w)
  pub exports : (t w : List ℕ) (i budget : ℕ) (output : List ℕ)
      → export_service bs t w i budget output ≡ output_with export_length (λ rs. export_before rs i budget) (before within_ceilings bs) t w output
  pub imports : (t w : List ℕ) (i j : ℕ) (list output : List ℕ) → import_service bs t w i j list output ≡ import_with (before within_ceilings bs) t w i j list output
  pub shows : (t w result : List ℕ) → show_service bs t w result ≡ show_before (before within_ceilings bs) (showing_before within_ceilings bs) t w result
  pub plays : (t w : List ℕ) (us : Units) (script : List ℕ) (budget : ℕ) (tally : Tally) → play_service bs t w us script budget tally
      ≡ play_by us tally (serve (short t w || unequal us) (play_verdict us script (before within_ceilings bs)) (play_before us script budget) t w)
