-- The let steps of a clause in the turned file, as the table holds them: from the last row to the first, p and q exchanged.
use Rattle.std.specs.Prelude.{ℕ, zero, suc, ◌+◌, Bool, true, false, cond, List, [], ◌∷◌}
use Rattle.calculus.specs.Trees.{Let, Clause, invert_let, invert_clause}
use Rattle.table_walks.specs.InTable.{let_at, lets_in}

-- those in `count` rows from n on
abbrev pub lets_back : List ℕ → ℕ → ℕ → ℕ → List Let
lets_back t base n zero = []
lets_back t base n (suc count) = invert_let (let_at t base (n + count)) ∷ lets_back t base n count

-- in the direction of a run
abbrev pub lets_toward : Bool → List ℕ → ℕ → ℕ → ℕ → List Let
lets_toward true t base n count = lets_back t base n count
lets_toward false t base n count = lets_in t base n count

abbrev pub clause_toward : Bool → Clause → Clause
clause_toward true c = invert_clause c
clause_toward false c = c

-- how many clauses from the first on pass a test
abbrev pub kept_of : (Clause → Bool) → List Clause → ℕ
kept_of f [] = 0
kept_of f (c ∷ cs) = cond (f c) (suc (kept_of f cs)) 0
