-- Areas that follow the rows of the definition while types, values and pairs are written.
use Rattle.std.specs.Prelude.{ℕ, ◌+◌, ◌≤◌, ◌<◌, ◌*◌, ◌≡◌, List, [], ◌∷◌, ◌++◌, length, take}
use Rattle.limits.specs.Limits.{max_values, max_clauses, row_width}
use Rattle.calculus.specs.Refusals.{type_line, pattern_line, clause_line}
use Rattle.calculus.specs.Trees.{Ty, Val}
use Rattle.format.specs.Lines.{Row}
use Rattle.law_ranking.specs.Numbering.{count, unrank}
use Rattle.law_pairlists.specs.PairLists.{Entry, write_type, write_value, clause_row, write_pairs, settings}
use Rattle.list_entries.specs.Entries.{entries_at, Tracks, Room, Follows, max_entries}

-- the rows of a type written: n is the number of its row, e the end of the rows with it
pub record TypeDone (a : Ty) (s s' : List ℕ) (to n e : ℕ) : Type 0 where
  pub does : (rs : List Row) → Room s → Tracks type_line s to rs → Follows type_line s s' n e (write_type a rs).rows (write_type a rs).number

-- the rows of a closed value written
pub record RowsOf (v : Val) (s s' : List ℕ) (to n e : ℕ) : Type 0 where
  pub does : (rs : List Row) → Room s → Tracks pattern_line s to rs → Follows pattern_line s s' n e (write_value v rs).rows (write_value v rs).number

-- … of the value of a type with a number, where the type's values are numbered
pub record ValueDone (a : Ty) (m : ℕ) (s s' : List ℕ) (to n e : ℕ) : Type 0 where
  pub does : count a ≤ max_values → RowsOf (unrank a m) s s' to n e

-- left before right: the rows with the left value of pair k, and with its right value, which has number m
abbrev pub left : Ty → ℕ → List Row → Entry
left a k rs = write_value (unrank a k) rs

abbrev pub right : Ty → Ty → ℕ → ℕ → List Row → Entry
right a b k m rs = write_value (unrank b m) (left a k rs).rows

-- the rows of a pair written: the P rows behind those up to row `to`, the C row as row k of the area q
pub record PairRows (a b : Ty) (k m : ℕ) (rs : List Row) (s' q q' : List ℕ) (e : ℕ) : Type 0 where
  pub tracks : Tracks pattern_line s' e (right a b k m rs).rows
  pub clause : length (right a b k m rs).rows ≤ max_entries → k < max_clauses → max_clauses * row_width ≤ length q
      → entries_at clause_line q' 0 (k + 1)
      ≡ entries_at clause_line q 0 k ++ (clause_row (left a k rs).number (right a b k m rs).number ∷ [])

pub record ClauseDone (a b : Ty) (k m : ℕ) (s s' : List ℕ) (to : ℕ) (q q' : List ℕ) (e : ℕ) : Type 0 where
  pub does : count a ≤ max_values → count b ≤ max_values → (rs : List Row) → Room s → Tracks pattern_line s to rs → PairRows a b k m rs s' q q' e

-- the rows of the first n pairs written, whose tos stand in an area: s holds the P rows, q the C rows
pub record PairsDone (a b : Ty) (tos : List ℕ) (n : ℕ) (s s' q q' : List ℕ) (e : ℕ) : Type 0 where
  pub does : count a ≤ max_values → count b ≤ max_values → n ≤ length tos → Room s → max_clauses * row_width ≤ length q
      → Tracks pattern_line s' e (write_pairs (settings a b 0 (take n tos)) []).patterns
      × (length (write_pairs (settings a b 0 (take n tos)) []).patterns ≤ max_entries → entries_at clause_line q' 0 n ≡ (write_pairs (settings a b 0 (take n tos)) []).clauses)
