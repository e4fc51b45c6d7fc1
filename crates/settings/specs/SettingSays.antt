-- The contracts of settings as numbers: on a checked table, and as services.
use Rattle.std.specs.Prelude.{Option as CodeOption, ℕ, ◌≤◌, ◌<◌, ◌≡◌, cond, List, leb, ltb, length}
use Rattle.std.proofs.Math.Option.{Option, none, some}
use Rattle.limits.specs.Limits.{max_values}
use Rattle.calculus.specs.Trees.{Ty}
use Rattle.calculus.specs.Refusals.{Refusal, no_iso, too_many}
use Rattle.format.specs.Lines.{Row}
use Rattle.model.specs.Services.{accepted, written, Outcome, refusal_of, bytes_from}
use Rattle.law_ranking.specs.Numbering.{count, setting_on, number_from, number_service, setting_service}
use Rattle.format.specs.Code.{refusal_view, number_of}
use Rattle.format.specs.declared.Refusal as F
use Rattle.table_trees.specs.Unfolding.{type_of}
use Rattle.table_walks.specs.Walk.{FileIn}
use Rattle.settings.specs.declared.Numbered as N
use Rattle.settings.specs.declared.Lettered as L

-- 15, then 18, for T line i of so many, a being its type
abbrev pub type_fault : ℕ → ℕ → Ty → Option Refusal
type_fault types i a = cond (leb types i) (some no_iso) (cond (ltb max_values (count a)) (some too_many) none)

-- 15, 18 or 19, for T line i of so many and number n: as number to letters answers for a file in the table; no refusal tells that the line is
-- there, that its values are numbered, and that n is below their count
pub record FaultOf (t : List ℕ) (types i n : ℕ) (r : CodeOption F.Refusal) : Type 0 where
  pub refusal : (patterns lines : ℕ) (rs : List Row) → FileIn t types patterns lines rs → refusal_view r ≡ refusal_of (setting_on (accepted rs) i n)
  pub passed : refusal_view r ≡ none → (i < types) × (count (type_of t i) ≤ max_values) × (n < count (type_of t i))

-- refusal and setting as an outcome says
pub record NumberedAs (x : Outcome ℕ) (r : N.Numbered) : Type 0 where
  pub refusal : refusal_view r.refusal ≡ refusal_of x
  pub setting : r.setting ≡ number_from x

-- refusal, length and every byte of the result area as an outcome says; o is the area at entry, o' at exit
pub record LetteredAs (x : Outcome (List ℕ)) (o o' : List ℕ) (r : L.Lettered) : Type 0 where
  pub refusal : refusal_view r.refusal ≡ refusal_of x
  pub bytes : r.length ≡ length (bytes_from x)
  pub result : o' ≡ written (bytes_from x) o

-- the services; t, w and o are the areas at entry, t', w' and o' at exit
pub record NumberSays (file t w : List ℕ) (i : ℕ) (value t' w' : List ℕ) (r : N.Numbered) : Type 0 where
  pub refusal : refusal_view r.refusal ≡ (number_service file t w i value).refusal
  pub number : number_of r.refusal ≡ (number_service file t w i value).number
  pub setting : r.setting ≡ (number_service file t w i value).setting
  pub table : t' ≡ (number_service file t w i value).table
  pub work : w' ≡ (number_service file t w i value).work

pub record SettingSays (file t w : List ℕ) (i n : ℕ) (o t' w' o' : List ℕ) (r : L.Lettered) : Type 0 where
  pub refusal : refusal_view r.refusal ≡ (setting_service file t w i n o).refusal
  pub number : number_of r.refusal ≡ (setting_service file t w i n o).number
  pub bytes : r.length ≡ (setting_service file t w i n o).length
  pub table : t' ≡ (setting_service file t w i n o).table
  pub work : w' ≡ (setting_service file t w i n o).work
  pub result : o' ≡ (setting_service file t w i n o).result
