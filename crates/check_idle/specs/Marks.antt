-- The marks of the lines that the rows further down name, and the walk over the rows as the code holds it.
use Rattle.std.specs.Prelude.{ℕ, suc, ◌<◌, ◌≡◌, Bool, true, false, List, [], ◌∷◌, length, get_or, set, drop, replicate}
use Rattle.std.proofs.Math.Option.{Option, some}
use Rattle.std.proofs.Math.ListN.{get_elem?}
use Rattle.limits.specs.Limits.{max_lines}
use Rattle.calculus.specs.Refusals.{Kind, Refusal, idle}
use Rattle.calculus.specs.Clauses.{at}
use Rattle.format.specs.Lines.{Row}
use Rattle.format.specs.Idle.{reach, member, reach_from, idle_fault}
use Rattle.format.specs.Code.{refusal_view}
use Rattle.format.specs.declared.Answer as A
use Rattle.table_walks.specs.Walk.{FileIn}

-- these places marked
abbrev pub mark_all : List ℕ → List ℕ → List ℕ
mark_all [] m = m
mark_all (a ∷ ns) m = mark_all ns (set m a 1)

abbrev pub bit : Bool → ℕ
bit true = 1
bit false = 0

-- the line of this kind at place n is idle
abbrev pub idle_at : Kind → ℕ → Option (Refusal × ℕ)
idle_at k n = some (idle k, suc n)

-- the marks and the line found, where the walk has come to row n
pub record Marked (ts : ℕ) (rs : List Row) (n : ℕ) (m : List ℕ) (a : A.Answer) : Type 0 where
  pub places : length m ≡ max_lines
  pub named : (i : ℕ) → i < max_lines → get_or m i 0 ≡ bit (member i (reach_from ts n (drop n rs)).named)
  pub found : at a.place (refusal_view a.refusal) ≡ (reach_from ts n (drop n rs)).found

-- ---- contracts, for whatever file's rows the table holds

-- the lines that row n names are marked
abbrev pub RowMarked : List ℕ → ℕ → ℕ → List ℕ → List ℕ → Type 0
RowMarked t ts n m m' =
    (rs : List Row) (patterns lines : ℕ) → FileIn t ts patterns lines rs → (r : Row) → get_elem? rs n ≡ some r → m' ≡ mark_all (reach ts r.kind r) m

-- the walk goes on from row n + 1 to row n
abbrev pub RowWalked : List ℕ → ℕ → ℕ → List ℕ → List ℕ → A.Answer → A.Answer → Type 0
RowWalked t ts n m m' a a' =
    (rs : List Row) (patterns lines : ℕ) → FileIn t ts patterns lines rs → n < lines → Marked ts rs (suc n) m a → Marked ts rs n m' a'

-- the whole walk finds the first idle line
abbrev pub AllWalked : List ℕ → ℕ → ℕ → List ℕ → A.Answer → Type 0
AllWalked t ts lines m a =
    (rs : List Row) (patterns : ℕ) → FileIn t ts patterns lines rs → m ≡ replicate max_lines 0 → at a.place (refusal_view a.refusal) ≡ idle_fault rs
