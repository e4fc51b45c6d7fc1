-- Import's contracts: on a checked table, and as a service.
use Rattle.std.specs.Prelude.{ℕ, ◌≤◌, ◌≡◌, cond, List, leb, ltb, length}
use Rattle.std.proofs.Math.Option.{Option, none, some}
use Rattle.limits.specs.Limits.{max_nodes, max_pairs, import_length}
use Rattle.calculus.specs.Trees.{Ty, type_nodes}
use Rattle.calculus.specs.Refusals.{Refusal, no_iso, too_many}
use Rattle.format.specs.Lines.{lines, Row}
use Rattle.format.specs.Code.{refusal_view, number_of}
use Rattle.law_ranking.specs.Numbering.{count}
use Rattle.law_pairlists.specs.PairLists.{on_lines, import_rows, import_service}
use Rattle.table_walks.specs.Walk.{FileIn}
use Rattle.list_file.specs.Filing.{FiledAs}
use Rattle.list_file.specs.declared.Filed as F
use Rattle.imports.specs.declared.Imported as I

-- 15 for either T line of so many, then 18 for either, a and b being their types
abbrev pub types_fault : ℕ → ℕ → ℕ → Ty → Ty → Option Refusal
types_fault types i j a b =
    cond (leb types i) (some no_iso) (cond (leb types j) (some no_iso) (cond (ltb max_pairs (count a)) (some too_many) (cond (ltb max_pairs (count b)) (some too_many) none)))

-- the list between two types of which the values can be listed; o is the output area at entry, o' at exit
pub record ListFiled (a b : Ty) (list o o' : List ℕ) (r : F.Filed) : Type 0 where
  pub does : type_nodes a ≤ max_nodes → type_nodes b ≤ max_nodes → count a ≤ max_pairs → count b ≤ max_pairs → import_length ≤ length o → FiledAs (on_lines a b (lines list)) o o' r

-- the list between T lines i and j of whatever file with so many T lines the table holds
abbrev pub ListImported : List ℕ → ℕ → ℕ → ℕ → List ℕ → List ℕ → List ℕ → F.Filed → Type 0
ListImported t types i j list o o' r =
    (patterns lines : ℕ) (rs : List Row) → FileIn t types patterns lines rs → import_length ≤ length o
    → FiledAs (import_rows rs i j list) o o' r

-- the service; t, w and o are the areas at entry, t', w' and o' at exit
pub record ImportSays (file t w : List ℕ) (i j : ℕ) (list o t' w' o' : List ℕ) (r : I.Imported) : Type 0 where
  pub refusal : refusal_view r.answer.refusal ≡ (import_service file t w i j list o).refusal
  pub number : number_of r.answer.refusal ≡ (import_service file t w i j list o).answer.number
  pub line : r.answer.place ≡ (import_service file t w i j list o).answer.line
  pub bytes : r.length ≡ (import_service file t w i j list o).length
  pub table : t' ≡ (import_service file t w i j list o).table
  pub work : w' ≡ (import_service file t w i j list o).work
  pub output : o' ≡ (import_service file t w i j list o).output
