-- Export's contracts: on a checked table, and as a service.
use Rattle.std.specs.Prelude.{ℕ, ◌≤◌, ◌≡◌, List, length}
use Rattle.limits.specs.Limits.{export_length}
use Rattle.format.specs.Lines.{Row}
use Rattle.model.specs.Services.{written, Outcome, refusal_of, bytes_from}
use Rattle.format.specs.Code.{refusal_view, number_of}
use Rattle.law_pairlists.specs.PairLists.{export_rows, export_service}
use Rattle.exports.specs.declared.Listed as L
use Rattle.exports.specs.declared.Exported as E

-- refusal, length and every byte of the output area as an outcome says; o is the area at entry, o' at exit
pub record ListedAs (x : Outcome (List ℕ)) (o o' : List ℕ) (r : L.Listed) : Type 0 where
  pub refusal : refusal_view r.refusal ≡ refusal_of x
  pub bytes : r.length ≡ length (bytes_from x)
  pub output : o' ≡ written (bytes_from x) o

-- an output area with room for any list gets that of iso i of these rows
abbrev pub ListedInto : List Row → ℕ → ℕ → List ℕ → List ℕ → L.Listed → Type 0
ListedInto rs i budget o o' r = export_length ≤ length o → ListedAs (export_rows rs i budget) o o' r

-- the service; t, w and o are the areas at entry, t', w' and o' at exit
pub record ExportSays (file t w : List ℕ) (i budget : ℕ) (o t' w' o' : List ℕ) (r : E.Exported) : Type 0 where
  pub refusal : refusal_view r.answer.refusal ≡ (export_service file t w i budget o).refusal
  pub number : number_of r.answer.refusal ≡ (export_service file t w i budget o).answer.number
  pub line : r.answer.place ≡ (export_service file t w i budget o).answer.line
  pub bytes : r.length ≡ (export_service file t w i budget o).length
  pub table : t' ≡ (export_service file t w i budget o).table
  pub work : w' ≡ (export_service file t w i budget o).work
  pub output : o' ≡ (export_service file t w i budget o).output
