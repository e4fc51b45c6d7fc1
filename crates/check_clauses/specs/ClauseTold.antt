-- What the code says of a clause in the table.
use Rattle.std.specs.Prelude.{ℕ, ◌<◌, ◌≡◌, cond, List, ltb}
use Rattle.std.proofs.Math.Option.{Option, none}
use Rattle.limits.specs.Limits.{max_lines}
use Rattle.calculus.specs.Refusals.{Refusal}
use Rattle.calculus.specs.Clauses.{clause_fault}
use Rattle.table_trees.specs.Unfolding.{type_of}
use Rattle.table_walks.specs.InTable.{sigs_in, clause_in}
use Rattle.check_typing.specs.Rules.{Slotted, tested_fault}

-- the lowest of 8 to 10 of the clause in a row of the table, where no variable is above 31; of any row what the code's tests come to, and
-- nothing past the table's rows
abbrev pub ClauseTold : List ℕ → ℕ → List ℕ → ℕ → ℕ → ℕ → ℕ → Option Refusal → Type 0
ClauseTold t base starts a b row end o =
    (row < max_lines → Slotted (clause_in t base row end) → o ≡ clause_fault (sigs_in t starts) (type_of t a) (type_of t b) (clause_in t base row end))
    × (o ≡ cond (ltb row max_lines) (tested_fault (sigs_in t starts) (type_of t a) (type_of t b) (clause_in t base row end)) none)
