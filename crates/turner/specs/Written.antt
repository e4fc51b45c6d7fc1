-- What the steps of Turn write of a table that holds a file's rows.
use Rattle.std.specs.Prelude.{ℕ, ◌≤◌, ◌<◌, ◌≡◌, List, map, reverse}
use Rattle.std.proofs.Math.Option.{some}
use Rattle.std.proofs.Math.ListN.{get_elem?}
use Rattle.std.proofs.Math.Seq.{slice}
use Rattle.limits.specs.Fields.{letter_field}
use Rattle.calculus.specs.Refusals.{let_line}
use Rattle.format.specs.Lines.{Row, letter, print, print_rows}
use Rattle.format.specs.Unfold.{exchange, turn_rows}
use Rattle.area_cells.specs.Areas.{Writes}
use Rattle.table_trees.specs.Unfolding.{cell_of}
use Rattle.table_walks.specs.Walk.{FileIn}

-- a row as the turned file has it
abbrev pub turned_row : Row → Row
turned_row r = exchange r.kind r

-- row n, from place `at` up to place `end`; l is the output area before, l' after
pub record RowWritten (t l l' : List ℕ) (n at end : ℕ) : Type 0 where
  pub bytes : (types patterns lines : ℕ) (rs : List Row) (r : Row) → FileIn t types patterns lines rs → get_elem? rs n ≡ some r
      → Writes l l' at end (print (turned_row r))

-- the rows from row `from` up to row `to`, last to first
pub record LetsWritten (t l l' : List ℕ) (from to at end : ℕ) : Type 0 where
  pub bytes : (types patterns lines : ℕ) (rs : List Row) → FileIn t types patterns lines rs → from ≤ to → to ≤ lines
      → Writes l l' at end (print_rows (reverse (map turned_row (slice from to rs))))

-- row m is the first one from row n on that is no L row, or the end of the table's `lines` rows
pub record LetsEnd (t : List ℕ) (n lines m : ℕ) : Type 0 where
  pub further : n ≤ m
  pub within : n ≤ lines → m ≤ lines
  pub lets : (k : ℕ) → n ≤ k → k < m → cell_of t k letter_field ≡ letter let_line
  pub stops : m < lines → cell_of t m letter_field ≡ letter let_line → ⊥

-- the turned file, from place 0 up to place `end`
pub record FileWritten (t l l' : List ℕ) (lines end : ℕ) : Type 0 where
  pub bytes : (types patterns : ℕ) (rs : List Row) → FileIn t types patterns lines rs → Writes l l' 0 end (print_rows (turn_rows rs))
