-- Rows of one letter in an area of table rows, from its first row on.
use Rattle.std.specs.Prelude.{ℕ, zero, suc, ◌+◌, ◌*◌, ◌%◌, ◌≤◌, ◌<◌, Bool, ◌&&◌, List, [], ◌∷◌, ◌≡◌, eqb, set, length}
use Rattle.limits.specs.Fields.{kind_field, first_field, second_field}
use Rattle.calculus.specs.Refusals.{Kind}
use Rattle.format.specs.Lines.{Row}
use Rattle.law_pairlists.specs.PairLists.{find, enter}
use Rattle.table_trees.specs.Unfolding.{cell_of}
use Rattle.limits.specs.Limits.{max_patterns, row_width, field_bound}

-- one row more than the ceiling of P lines, so that a file past it is told
abbrev pub max_entries : ℕ
max_entries = suc max_patterns

abbrev pub row_of : Kind → ℕ → ℕ → ℕ → Row
row_of k x y z = record { kind = k; x = x; y = y; z = z }

-- the row that an area holds, its letter being known; n rows from row `from` on
abbrev pub entry_at : Kind → List ℕ → ℕ → Row
entry_at k s row = row_of k (cell_of s row kind_field) (cell_of s row first_field) (cell_of s row second_field)

abbrev pub entries_at : Kind → List ℕ → ℕ → ℕ → List Row
entries_at k s from zero = []
entries_at k s from (suc n) = entry_at k s from ∷ entries_at k s (suc from) n

unfoldable pub same_entry : List ℕ → ℕ → ℕ → ℕ → ℕ → Bool
same_entry s row x y z = eqb x (cell_of s row kind_field) && (eqb y (cell_of s row first_field) && eqb z (cell_of s row second_field))

unfoldable pub store_entry : List ℕ → ℕ → ℕ → ℕ → ℕ → List ℕ
store_entry s row x y z = set (set (set s (row * row_width + 1) (x % field_bound)) (row * row_width + 2) (y % field_bound)) (row * row_width + 3) (z % field_bound)

-- An area follows the rows of the definition, up to 1,025 of them; from there on it says that there are more than 1,024.
pub record Tracks (k : Kind) (s : List ℕ) (to : ℕ) (rs : List Row) : Type 0 where
  pub few : to ≤ max_entries
  pub exact : length rs ≤ max_entries → entries_at k s 0 to ≡ rs
  pub full : max_entries < length rs → to ≡ max_entries

-- room for 1,025 rows
pub record Room (s : List ℕ) : Type 0 where
  pub words : max_entries * row_width ≤ length s

-- the area follows the rows `qs`, of which row number m is meant
pub record Follows (k : Kind) (s s' : List ℕ) (n e : ℕ) (qs : List Row) (m : ℕ) : Type 0 where
  pub tracks : Tracks k s' e qs
  pub number : length qs ≤ max_entries → n ≡ m
  pub bound : n ≤ max_entries
  pub long : length s' ≡ length s

-- a row entered among the rows `rs`: n is its number, e the end of the rows with it
pub record Entering (k : Kind) (s s' : List ℕ) (to x y z n e : ℕ) (rs : List Row) : Type 0 where
  pub does : x < field_bound → y < field_bound → z < field_bound → Room s → Tracks k s to rs → Follows k s s' n e (enter (row_of k x y z) rs) (find (row_of k x y z) rs)
