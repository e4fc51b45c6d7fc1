-- The index as a walk over the rows, from the last to the first, holds it at some row.
use Rattle.std.specs.Prelude.{ℕ, suc, ◌+◌, ◌-◌, ◌≤◌, ◌<◌, ◌≡◌, List, [], ◌∷◌, length, take, drop}
use Rattle.limits.specs.Fields.{letter_field}
use Rattle.limits.specs.Limits.{max_isos}
use Rattle.calculus.specs.Refusals.{Kind, type_line, pattern_line, iso_line, clause_line, let_line}
use Rattle.format.specs.Lines.{Row, letter}
use Rattle.table_walks.specs.InTable.{lets_in}
use Rattle.table_walks.specs.Walk.{iso_rows, tail_at, FileIn}
use Rattle.format.specs.Unfold.{isos_of}
use Rattle.table_trees.specs.Unfolding.{cell_of}
use Rattle.run_index.specs.Index.{index_length, place_at, clauses_at, isos_at}
use Rattle.run_index.specs.declared.Left as L

-- how many of the rows are I or C lines
abbrev pub places_of : Kind → ℕ
places_of type_line = 0
places_of pattern_line = 0
places_of iso_line = 1
places_of clause_line = 1
places_of let_line = 0

abbrev pub places : List Row → ℕ
places [] = 0
places (r ∷ rs) = places_of r.kind + places rs

-- the index at row n, filled from place `first` on, with `left` isos above: room for the I and C rows above, the L rows from row n on, the
-- clauses from place `first` on, and the isos further down, all of which begin there
pub record Indexed (t : List ℕ) (base : ℕ) (rs : List Row) (n : ℕ) (index : List ℕ) (first left : ℕ) : Type 0 where
  pub long : index_length ≤ length index
  pub within : first < index_length
  pub room : suc max_isos + places (take n rs) ≤ first
  pub number : left ≡ length (iso_rows 0 (take n rs))
  pub few : left + length (tail_at rs n).isos ≤ max_isos
  pub further : n ≤ place_at index first
  pub lets : (tail_at rs n).lets ≡ lets_in t base n (place_at index first - n)
  pub begins : (i : ℕ) → left ≤ i → i ≤ left + length (tail_at rs n).isos → first ≤ place_at index i
  pub clauses : (tail_at rs n).clauses ≡ clauses_at t base index first (place_at index left - first)
  pub isos : (tail_at rs n).isos ≡ isos_at t base index left (length (tail_at rs n).isos)

-- ---- contracts: the index and what is left before, index' and r after

-- row n, a line of this kind, is put in front of the rows below it, whatever file it is of
abbrev pub KindIndexed : Kind → ℕ → List ℕ → L.Left → List ℕ → L.Left → Type 0
KindIndexed k n index l index' r =
    (t : List ℕ) (rs : List Row) (types patterns lines : ℕ) → FileIn t types patterns lines rs → n < lines → cell_of t n letter_field ≡ letter k
    → Indexed t types rs (suc n) index l.first l.isos → Indexed t types rs n index' r.first r.isos

-- row n, behind the T and P lines of a table
abbrev pub RowIndexed : List ℕ → ℕ → List ℕ → L.Left → List ℕ → L.Left → Type 0
RowIndexed t n index l index' r =
    (rs : List Row) (types patterns lines : ℕ) → FileIn t types patterns lines rs → n < lines → types + patterns ≤ n
    → Indexed t types rs (suc n) index l.first l.isos → Indexed t types rs n index' r.first r.isos

-- all isos of a table of `lines` rows, `above` of them T and P lines
abbrev pub IsosIndexed : List ℕ → ℕ → ℕ → ℕ → List ℕ → List ℕ → Type 0
IsosIndexed t above lines isos index index' =
    (rs : List Row) (types patterns : ℕ) → FileIn t types patterns lines rs → above ≡ types + patterns → isos ≡ length (isos_of rs)
    → index_length ≤ length index → isos_of rs ≡ isos_at t types index' 0 isos

-- behind the index's numbers the area is as it was
abbrev pub TailKept : List ℕ → L.Left → List ℕ → L.Left → Type 0
TailKept index l index' r =
    l.first < index_length → l.isos ≤ index_length → (drop index_length index' ≡ drop index_length index) × (r.first < index_length) × (r.isos ≤ index_length)
