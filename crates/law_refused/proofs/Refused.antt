-- A file refused 3 or above, in lent areas that are long enough: every service answers that refusal, gives and writes nothing, and clears table and work area.
use Prim.Native.Nat.{ℕ, ◌*◌, ◌≤◌}
use mathlib.Core.Path.{◌≡◌, refl, ap, ap₂, ◌∙◌}
use mathlib.Core.Bool.{Bool, true, false, cond, not, ◌||◌}
use mathlib.Core.Option.{some}
use mathlib.Core.List.{List, [], append-nil}
use lib.Dec.{ltb, leb}
use lib.ListN.{length}
use Rattle.limits.specs.Limits.{table_length, work_length, result_length, max_queries, max_lines, max_units}
use Rattle.calculus.specs.Refusals.{Refusal, number, short_area, too_long, too_large}
use Rattle.calculus.proofs.Basic.{not_leb, not_ltb, eq_eqb}
use Rattle.format.specs.Lines.{Row, lines}
use Rattle.model.specs.Services.{Verdict, refused, answer_of, refusal_by, Checked, RunAnswer, table_after, work_after, short, unless, written, check_by, Outcome}
use Rattle.model.specs.Services.{fails, Served, serve, output_by, run_on, ran_by, run_by}
use Rattle.model.specs.Desk.{file_line, desk_by}
use Rattle.model.specs.Sheet.{Sheet, answers_to, numbers_after, letters_after, sheet_by}
use Rattle.model.proofs.Sheets.{long_enough}
use Rattle.law_ranking.specs.Numbering.{number_rows, setting_rows, numbered_by, lettered_by}
use Rattle.law_costs.specs.Bounds.{bounds_rows, bounds_by}
use Rattle.law_witnesses.specs.Showing.{sided, Shown}
use Rattle.law_units.specs.Units.{Units, Tally, play_rows, play_by, unequal}
use Rattle.check_overlap.specs.Overlap.{overlap_rows, overlapped_by}
use Rattle.law_refused.specs.ByVerdict.{number_with, setting_with, overlap_with, bounds_with, output_with, show_with, play_with}
use Rattle.law_refused.specs.Refused.{zero_table, zero_work, refused_at, served_refused, check_refused, output_refused, run_refused, sheet_refused, desk_refused}
use Rattle.law_refused.specs.Refused.{number_refused, setting_refused, overlap_refused, bounds_refused, show_refused, play_refused}

-- the desk program lends its own areas
pub refused_desk : (f : Refusal) (n : ℕ) (bs : List ℕ) → desk_by (refused f n) bs ≡ desk_refused f n
refused_desk f n bs = append-nil (file_line (refused_at f n))

-- in whatever areas, nothing is given
pub nothing_given : {A : Type 0} (f : Refusal) (n : ℕ) (asked : List Row → Outcome A) (b : Bool) (table work : List ℕ)
    → (g : Refusal) × ((serve b (refused f n) asked table work).outcome ≡ fails g)
nothing_given f n asked true table work = (short_area, refl)
nothing_given f n asked false table work = (f, refl)

module _ (f : Refusal) (n : ℕ) (high : 3 ≤ number f) (table work : List ℕ) (long : table_length ≤ length table) (wide : work_length ≤ length work) where
  above : leb (number f) 2 ≡ false
  above = not_leb high

  no_table : table_after (refused f n) table ≡ zero_table table
  no_table = ap (λ b. cond b table (zero_table table)) above

  no_work : work_after (refused f n) work ≡ zero_work work
  no_work = ap (λ b. cond b work (zero_work work)) above

  -- a further area is long enough too
  enough : short table work ≡ false
  enough = long_enough table work long wide

  both : {m k : ℕ} → m ≤ k → (short table work || ltb k m) ≡ false
  both l = ap₂ ◌||◌ enough (not_ltb l)

  -- the one form of the services
  pub refused_served : {A : Type 0} (asked : List Row → Outcome A) (b : Bool) → b ≡ false → serve b (refused f n) asked table work ≡ served_refused f n table work
  refused_served {A} asked b e =
      ap (λ c. serve c (refused f n) asked table work) e
      ∙ ap₂ {C = Served A} (λ t w. record { outcome = fails f; line = n; table = t; work = w }) no_table no_work

  pub refused_check : check_by (refused f n) table work ≡ check_refused f n table work
  refused_check =
      ap (λ b. check_of (unless b (refused f n))) enough ∙ ap₂ (λ t w. record { answer = refused_at f n; table = t; work = w }) no_table no_work
    where
      check_of : Verdict → Checked
      check_of v = record { answer = answer_of v; table = table_after v table; work = work_after v work }

  pub refused_run : (i : ℕ) (back : Bool) (budget : ℕ) (value result : List ℕ) → result_length ≤ length result
      → run_by (refused f n) table work i back budget value result ≡ run_refused f table work result
  refused_run i back budget value result l =
      ap (ran_by result) (refused_served (run_on i back budget value) (short table work || ltb (length result) result_length) (both l))

  pub refused_sheet : (queries numbers letters : List ℕ) → length (lines queries) ≤ max_queries
      → length (lines queries) * 3 ≤ length numbers → length (lines queries) * result_length ≤ length letters
      → sheet_by (refused f n) table work queries numbers letters ≡ sheet_refused f n table work numbers letters
  refused_sheet queries numbers letters few l₁ l₂ =
      let k : ℕ = length (lines queries) in
      ap₂ (λ b c. sheet_of (unless b (cond c (refused too_long 0) (refused f n))))
      (ap₂ ◌||◌ enough (ap₂ ◌||◌ (not_ltb {m = length numbers} {n = k * 3} l₁) (not_ltb {m = length letters} {n = k * result_length} l₂)))
      (not_ltb {m = max_queries} {n = k} few)
      ∙ ap₂ {C = Sheet} (λ t w. record { refusal = some f; answer = refused_at f n; queries = 0; table = t; work = w; numbers = numbers; letters = letters }) no_table no_work
    where
      sheet_of : Verdict → Sheet
      sheet_of v =
          let rs : List RunAnswer = answers_to v (lines queries) in
          record {
            refusal = refusal_by v;
            answer = answer_of v;
            queries = length rs;
            table = table_after v table;
            work = work_after v work;
            numbers = numbers_after rs numbers;
            letters = letters_after rs letters;
          }

  pub refused_number : (i : ℕ) (value : List ℕ) → number_with (refused f n) table work i value ≡ number_refused f table work
  refused_number i value = ap numbered_by (refused_served (number_rows i value) (short table work) enough)

  pub refused_setting : (i k : ℕ) (result : List ℕ) → result_length ≤ length result → setting_with (refused f n) table work i k result ≡ setting_refused f table work result
  refused_setting i k result l =
      ap (lettered_by result) (refused_served (setting_rows i k) (short table work || ltb (length result) result_length) (both l))

  pub refused_overlap : (i j : ℕ) → overlap_with (refused f n) table work i j ≡ overlap_refused f n table work
  refused_overlap i j = ap overlapped_by (refused_served (overlap_rows i j) (short table work) enough)

  pub refused_bounds : (i : ℕ) → bounds_with (refused f n) table work i ≡ bounds_refused f table work
  refused_bounds i = ap bounds_by (refused_served (bounds_rows i) (short table work) enough)

  -- Turn, export and import, whatever is asked of the rows
  pub refused_output : (m : ℕ) (asked : List Row → Outcome (List ℕ)) (output : List ℕ) → m ≤ length output
      → output_with m asked (refused f n) table work output ≡ output_refused f n table work output
  refused_output m asked output l = ap (output_by output) (refused_served asked (short table work || ltb (length output) m) (both l))

  -- of a side there is a value to show
  pub refused_show : sided f ≡ false → (result : List ℕ) → result_length ≤ length result → show_with (refused f n) [] table work result ≡ show_refused f n table work result
  refused_show unseen result l =
      ap₂ (λ b c. show_of (unless b (cond c (refused too_large 0) (refused f n))) (cond b [] [])) (both {m = result_length} {k = length result} l) unseen
      ∙ ap₂ {C = Shown} (λ t w. record { refusal = some f; answer = refused_at f n; length = 0; table = t; work = w; result = result }) no_table no_work
    where
      show_of : Verdict → List ℕ → Shown
      show_of v ls =
          record { refusal = refusal_by v; answer = answer_of v; length = length ls; table = table_after v table; work = work_after v work; result = written ls result }

  pub refused_play : (us : Units) (script : List ℕ) (budget : ℕ) (t : Tally) → length us.types ≡ length us.settings
      → length us.types ≤ max_units → length (lines script) ≤ max_lines
      → play_with (refused f n) table work us script budget t ≡ play_refused f n table work us t
  refused_play us script budget t same few short_script =
      ap (λ v. play_by us t (serve (short table work || unequal us) v (play_rows us script budget) table work))
      (ap (λ b. cond b (refused too_long 0) (refused f n)) (ap₂ ◌||◌ (not_ltb {m = max_units} {n = length us.types} few) (not_ltb {m = max_lines} {n = length (lines script)} short_script)))
      ∙ ap (play_by us t) (refused_served (play_rows us script budget) (short table work || unequal us) (ap₂ ◌||◌ enough (ap not (eq_eqb same))))
