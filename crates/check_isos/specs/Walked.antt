-- The rows of the I lines as the code collects them, and the walk over the rows as the code holds it.
use Rattle.std.specs.Prelude.{ℕ, suc, ◌+◌, ◌≤◌, ◌<◌, ◌≡◌, List, length, take, drop}
use Rattle.format.specs.Lines.{Row, letter}
use Rattle.table_walks.specs.Walk.{iso_rows, WalkAt, FileIn}
use Rattle.limits.specs.Limits.{max_isos, max_clauses}
use Rattle.calculus.specs.Refusals.{Kind}
use Rattle.calculus.specs.Clauses.{fault}
use Rattle.format.specs.Unfold.{isos_of}
use Rattle.format.specs.declared.Answer as A
use Rattle.table_trees.specs.Unfolding.{cell_of}
use Rattle.check_isos.specs.declared.Starts as S
use Rattle.check_isos.specs.declared.Walk as W
use Rattle.check_isos.specs.Answers.{as_fault}

-- the I lines among these rows, in a place each
pub record StartsOf (rs : List Row) (s : S.Starts) : Type 0 where
  pub places : length s.rows ≡ max_isos
  pub number : s.count ≡ length (iso_rows 0 rs)
  pub front : take s.count s.rows ≡ iso_rows 0 rs

-- the walk at row n, with the rows of an iso's C lines in a place each, filled from the last
pub record Walked (t : List ℕ) (base : ℕ) (rs : List Row) (n : ℕ) (w : W.Walk) : Type 0 where
  pub places : length w.clauses ≡ max_clauses
  pub within : w.first ≤ max_clauses
  pub holds : WalkAt t base rs n (drop w.first w.clauses) w.below w.last w.iso (as_fault w.pending) (as_fault w.found)

-- ---- contracts, for whatever file's rows the table holds

-- the I lines up to row n, with that row
abbrev pub LineCollected : List ℕ → ℕ → S.Starts → S.Starts → Type 0
LineCollected t n s r =
    (rs : List Row) (types patterns lines : ℕ) → FileIn t types patterns lines rs → n < lines → StartsOf (take n rs) s → StartsOf (take (suc n) rs) r

-- all I lines, among the rows behind the T and P lines
abbrev pub LinesCollected : List ℕ → ℕ → ℕ → S.Starts → Type 0
LinesCollected t from to r =
    (rs : List Row) (types patterns : ℕ) → FileIn t types patterns to rs → from ≡ types + patterns → StartsOf rs r

-- the walk goes on from row n + 1 to row n, a line of this kind
abbrev pub KindWalked : Kind → List ℕ → ℕ → ℕ → W.Walk → W.Walk → Type 0
KindWalked k t base n w r =
    (rs : List Row) (patterns lines : ℕ) → FileIn t base patterns lines rs → n < lines → cell_of t n 0 ≡ letter k
    → Walked t base rs (suc n) w → Walked t base rs n r

-- the same for a C line, where `starts` holds the rows of the I lines
abbrev pub ClauseWalked : Kind → List ℕ → ℕ → List ℕ → ℕ → W.Walk → W.Walk → Type 0
ClauseWalked k t base starts n w r =
    (rs : List Row) (patterns lines : ℕ) → FileIn t base patterns lines rs → starts ≡ iso_rows 0 rs → n < lines → cell_of t n 0 ≡ letter k
    → Walked t base rs (suc n) w → Walked t base rs n r

-- and for any row behind the T and P lines
abbrev pub RowWalked : List ℕ → ℕ → List ℕ → ℕ → W.Walk → W.Walk → Type 0
RowWalked t base starts n w r =
    (rs : List Row) (patterns lines : ℕ) → FileIn t base patterns lines rs → starts ≡ iso_rows 0 rs → n < lines → base + patterns ≤ n
    → Walked t base rs (suc n) w → Walked t base rs n r

-- the whole walk finds the first refusal of the isos
abbrev pub AllWalked : List ℕ → ℕ → List ℕ → ℕ → ℕ → ℕ → A.Answer → Type 0
AllWalked t base starts stop lines isos r =
    (rs : List Row) (patterns : ℕ) → FileIn t base patterns lines rs → starts ≡ iso_rows 0 rs → isos ≡ length (iso_rows 0 rs)
    → stop ≡ base + patterns → as_fault r ≡ fault (isos_of rs)
