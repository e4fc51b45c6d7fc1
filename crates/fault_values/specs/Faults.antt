-- The rows of an iso's clauses as they are collected, and what shows the fault of a side.
use Rattle.std.specs.Prelude.{ℕ, suc, ◌-◌, ◌≤◌, ◌<◌, ◌≡◌, true, List, map, length, drop, set}
use Rattle.std.proofs.Math.Option.{some}
use Rattle.limits.specs.Fields.{iso_from, iso_to, clause_left, clause_right}
use Rattle.calculus.specs.Trees.{Ty, Pat}
use Rattle.calculus.specs.Refusals.{Refusal, number}
use Rattle.format.specs.Lines.{Row}
use Rattle.format.specs.Unfold.{isos_of}
use Rattle.calculus.specs.Clauses.{fault}
use Rattle.model.specs.Services.{written}
use Rattle.model.proofs.Files.{InForm}
use Rattle.law_witnesses.specs.Showing.{sided, showing}
use Rattle.table_trees.specs.Unfolding.{cell_of, type_of}
use Rattle.table_walks.specs.InTable.{patterns_at}
use Rattle.table_walks.specs.Walk.{FileIn, tail_at}
use Rattle.fault_pairs.specs.Pairs.{OverlapValue}
use Rattle.fault_gaps.specs.Gaps.{GapValue}
use Rattle.fault_values.specs.declared.Clauses as C
use Rattle.limits.specs.Limits.{max_clauses, field_bound}

-- at row n: the C lines from there on that belong to an iso above, in 32 places, filled from the last
pub record Collected (t : List ℕ) (base : ℕ) (rs : List Row) (n : ℕ) (c : C.Clauses) : Type 0 where
  pub places : length c.rows ≡ max_clauses
  pub within : c.first ≤ max_clauses
  pub lefts : map (λ k. k.lhs) (tail_at rs n).clauses ≡ patterns_at t base clause_left (drop c.first c.rows)
  pub rights : map (λ k. k.rhs) (tail_at rs n).clauses ≡ patterns_at t base clause_right (drop c.first c.rows)

-- an iso from a to b with the left patterns ls and the right patterns rs, refused with this number
pub record SideShown (n : ℕ) (a b : Ty) (ls rs : List Pat) (out₀ out : List ℕ) (r : ℕ) : Type 0 where
  pub overlap_left : n ≡ 11 → OverlapValue a ls out₀ out r
  pub overlap_right : n ≡ 12 → OverlapValue b rs out₀ out r
  pub gap_left : n ≡ 13 → GapValue a ls out₀ out r
  pub gap_right : n ≡ 14 → GapValue b rs out₀ out r

-- a file whose first fault is at this line, with this number
pub record FaultShown (t : List ℕ) (base lines n place : ℕ) (out₀ out : List ℕ) (r : ℕ) : Type 0 where
  pub given : (s : List ℕ) (rs : List Row) (patterns : ℕ) → InForm s rs → FileIn t base patterns lines rs → (f : Refusal) → number f ≡ n
      → fault (isos_of rs) ≡ some (f, place) → sided f ≡ true → (r ≡ length (showing s)) × (out ≡ written (showing s) out₀)
  pub below : n < 11 → (r ≡ 0) × (out ≡ out₀)
  pub above : 14 < n → (r ≡ 0) × (out ≡ out₀)

-- ---- contracts: the rows c before, r after; out the output area at entry, out' at exit

-- row n put before the others, where there is room
abbrev pub ClauseCollected : ℕ → C.Clauses → C.Clauses → Type 0
ClauseCollected n c r =
    0 < c.first → c.first ≤ max_clauses → n < field_bound → (r.rows ≡ set c.rows (c.first - 1) n) × (r.first ≡ c.first - 1)

-- the rows from n on, out of those from n + 1 on, whatever file it is of
abbrev pub RowCollected : List ℕ → ℕ → C.Clauses → C.Clauses → Type 0
RowCollected t n c r =
    (rs : List Row) (types patterns lines : ℕ) → FileIn t types patterns lines rs → n < lines
    → Collected t types rs (suc n) c → Collected t types rs n r

-- the rows from `from` on
abbrev pub RowsCollected : List ℕ → ℕ → ℕ → C.Clauses → Type 0
RowsCollected t from lines r =
    (rs : List Row) (types patterns : ℕ) → FileIn t types patterns lines rs → from ≤ lines → Collected t types rs from r

-- refusal n of the iso with its I line in row `head` and its C lines in these rows
abbrev pub IsoShown : List ℕ → ℕ → ℕ → ℕ → List ℕ → List ℕ → List ℕ → ℕ → Type 0
IsoShown t base n head rows out out' r =
    SideShown n (type_of t (cell_of t head iso_from)) (type_of t (cell_of t head iso_to)) (patterns_at t base clause_left rows) (patterns_at t base clause_right rows) out out' r
