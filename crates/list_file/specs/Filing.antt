-- A file written, or refusal 7: the contract of the writing.
use Rattle.std.specs.Prelude.{ℕ, ◌≤◌, ◌<◌, ◌≡◌, true, List, ◌∷◌, ◌++◌, length, take}
use Rattle.limits.specs.Limits.{max_nodes, max_tags, import_length, numeral_bound}
use Rattle.calculus.specs.Refusals.{type_line, pattern_line, clause_line}
use Rattle.calculus.specs.Trees.{Ty, type_nodes, most_tags}
use Rattle.model.specs.Services.{written, Outcome, refusal_of, bytes_from}
use Rattle.format.specs.Lines.{Row, print_rows}
use Rattle.format.specs.Code.{refusal_view}
use Rattle.law_pairlists.specs.PairLists.{pairs_up, settings, file_rows, writing, iso_row}
use Rattle.area_cells.specs.Areas.{Writes}
use Rattle.list_entries.specs.Entries.{entries_at}
use Rattle.list_file.specs.declared.Filed as F
use Rattle.list_file.specs.declared.Made as M

-- refusal, length and every byte of the output area as an outcome says; o is the area at entry, o' at exit
pub record FiledAs (x : Outcome (List ℕ)) (o o' : List ℕ) (r : F.Filed) : Type 0 where
  pub refusal : refusal_view r.refusal ≡ refusal_of x
  pub bytes : r.length ≡ length (bytes_from x)
  pub output : o' ≡ written (bytes_from x) o

-- the rows of a file: the T, P and C rows that stand in three areas, the I row between
abbrev pub rows_made : List ℕ → List ℕ → List ℕ → M.Made → List Row
rows_made ts ps cs m =
    entries_at type_line ts 0 m.types
    ++ (entries_at pattern_line ps 0 m.patterns ++ (iso_row m.from m.to ∷ entries_at clause_line cs 0 m.clauses))

-- … printed from the area's beginning up to place r, where the I row's numbers have at most 10 digits
abbrev pub FilePut : List ℕ → List ℕ → List ℕ → M.Made → List ℕ → List ℕ → ℕ → Type 0
FilePut ts ps cs m o o' r = m.from < numeral_bound → m.to < numeral_bound → Writes o o' 0 r (print_rows (rows_made ts ps cs m))

-- the file of the n pairs whose tos stand in an area
pub record FileMade (a b : Ty) (tos : List ℕ) (n : ℕ) (o o' : List ℕ) (r : F.Filed) : Type 0 where
  pub does : type_nodes a ≤ max_nodes → type_nodes b ≤ max_nodes → n ≤ length tos → pairs_up a b (take n tos) ≡ true → import_length ≤ length o
      → FiledAs (writing (file_rows a b (settings a b 0 (take n tos)))) o o' r

-- the same, where no value of either type has over 40 left and right nodes
pub record RowsMade (a b : Ty) (tos : List ℕ) (n : ℕ) (o o' : List ℕ) (r : F.Filed) : Type 0 where
  pub does : most_tags a ≤ max_tags → most_tags b ≤ max_tags → type_nodes a ≤ max_nodes → type_nodes b ≤ max_nodes → n ≤ length tos → pairs_up a b (take n tos) ≡ true
      → import_length ≤ length o → FiledAs (writing (file_rows a b (settings a b 0 (take n tos)))) o o' r
