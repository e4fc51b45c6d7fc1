-- All services at once: by the file's verdict they are those of today, and by that of a refused file they refuse.
use Prim.Native.Nat.{ℕ, ◌≤◌}
use mathlib.Core.Path.{◌≡◌, refl, ap₂, ◌∙◌}
use mathlib.Core.Bool.{false}
use mathlib.Core.List.{List, []}
use lib.ListN.{length}
use Rattle.limits.specs.Limits.{export_length, import_length}
use Rattle.calculus.specs.Refusals.{Refusal, number}
use Rattle.format.specs.Lines.{Row}
use Rattle.model.specs.Services.{Verdict, refused, verdict, check, turn, run_service, Outcome, turned_rows}
use Rattle.model.specs.Sheet.{sheet}
use Rattle.law_ranking.specs.Numbering.{number_service, setting_service}
use Rattle.law_costs.specs.Bounds.{bounds_service}
use Rattle.law_witnesses.specs.Showing.{sided, showing, show_service}
use Rattle.law_pairlists.specs.PairLists.{export_rows, import_rows, export_service, import_service}
use Rattle.law_units.specs.Units.{play_service}
use Rattle.check_overlap.specs.Overlap.{overlap_service}
use Rattle.law_refused.specs.Services.{today, by_verdict, Refuses}
use Rattle.law_refused.proofs.Refused.{refused_check, refused_run, refused_sheet, refused_number, refused_setting, refused_overlap, refused_bounds}
use Rattle.law_refused.proofs.Refused.{refused_output, refused_show, refused_play}

pub today_by : (file : List ℕ) → by_verdict (verdict file) (showing file) (length file) import_rows ≡ today file
unfolding check turn run_service sheet number_service setting_service overlap_service bounds_service export_service import_service show_service play_service
today_by file = refl

-- where some verdict is that of today, and so are the letters that show the fault, every service is
pub same_services : (file : List ℕ) (v : Verdict) (shown : List ℕ) → v ≡ verdict file → shown ≡ showing file
    → by_verdict v shown (length file) import_rows ≡ today file
same_services file v shown e s = ap₂ (λ x ls. by_verdict x ls (length file) import_rows) e s ∙ today_by file

pub refuses : (f : Refusal) (n size : ℕ) (asked : List Row → ℕ → ℕ → List ℕ → Outcome (List ℕ)) → 3 ≤ number f → sided f ≡ false
    → Refuses f n size (by_verdict (refused f n) [] size asked)
refuses f n size asked high unseen =
    record {
      checks = λ t w l. refused_check f n high t w l.long l.wide;
      turns = λ t w output l. refused_output f n high t w l.long l.wide size turned_rows output;
      runs = λ t w i back budget value result l. refused_run f n high t w l.long l.wide i back budget value result;
      sheets = λ t w queries numbers letters l. refused_sheet f n high t w l.long l.wide queries numbers letters;
      numbers = λ t w i value l. refused_number f n high t w l.long l.wide i value;
      settings = λ t w i k result l. refused_setting f n high t w l.long l.wide i k result;
      overlaps = λ t w i j l. refused_overlap f n high t w l.long l.wide i j;
      bounds = λ t w i l. refused_bounds f n high t w l.long l.wide i;
      exports = λ t w i budget output l. refused_output f n high t w l.long l.wide export_length (λ rs. export_rows rs i budget) output;
      imports = λ t w i j list output l. refused_output f n high t w l.long l.wide import_length (λ rs. asked rs i j list) output;
      shows = λ t w result l. refused_show f n high t w l.long l.wide unseen result;
      plays = λ t w us script budget r l. refused_play f n high t w l.long l.wide us script budget r;
    }
