-- Clauses and sides as the table holds them, and what the code's tests of them come to.
use Rattle.std.specs.Prelude.{ℕ, zero, suc, ◌-◌, ◌^◌, List, [], ◌∷◌, map}
use Rattle.std.proofs.Math.Option.{Option}
use Rattle.limits.specs.Fields.{let_p, let_iso, let_q, clause_left, clause_right, iso_from, iso_to}
use Rattle.limits.specs.Limits.{max_tags}
use Rattle.calculus.specs.Tools.{first_failing, or_else}
use Rattle.calculus.specs.Trees.{Pat, Let, Clause, Iso, left, right}
use Rattle.calculus.specs.Refusals.{Refusal, iso_line, overlap, gap}
use Rattle.calculus.specs.Clauses.{Sigs, apart, full_weight, recursion_fault, at}
use Rattle.table_trees.specs.Unfolding.{cell_of, type_of, pattern_of}

-- the L line in row n, and the L lines in `count` rows from n on
abbrev pub let_at : List ℕ → ℕ → ℕ → Let
let_at t base n = record { p = pattern_of t base (cell_of t n let_p); iso = cell_of t n let_iso; q = pattern_of t base (cell_of t n let_q) }

abbrev pub lets_in : List ℕ → ℕ → ℕ → ℕ → List Let
lets_in t base n zero = []
lets_in t base n (suc count) = let_at t base n ∷ lets_in t base (suc n) count

-- the clause whose C line is in a row, with the L lines up to row `end`
abbrev pub clause_in : List ℕ → ℕ → ℕ → ℕ → Clause
clause_in t base row end =
    record {
      line = suc row;
      lhs = pattern_of t base (cell_of t row clause_left);
      lets = lets_in t base (suc row) (end - suc row);
      rhs = pattern_of t base (cell_of t row clause_right);
    }

-- the clauses whose C lines are in these rows: the L lines of each stand before the next, those of the last one before row `last`
abbrev pub next_row : List ℕ → ℕ → ℕ
next_row [] last = last
next_row (c ∷ cs) last = c

abbrev pub clauses_in : List ℕ → ℕ → List ℕ → ℕ → List Clause
clauses_in t base [] last = []
clauses_in t base (c ∷ cs) last = clause_in t base c (next_row cs last) ∷ clauses_in t base cs last

-- the iso whose I line is in a row, with these clauses
abbrev pub iso_in : List ℕ → ℕ → ℕ → List ℕ → ℕ → Iso
iso_in t base row cs last =
    record { line = suc row; from = type_of t (cell_of t row iso_from); to = type_of t (cell_of t row iso_to); clauses = clauses_in t base cs last }

-- the types of the isos whose I lines are in these rows
abbrev pub sigs_in : List ℕ → List ℕ → Sigs
sigs_in t starts = map (λ r. (type_of t (cell_of t r iso_from), type_of t (cell_of t r iso_to))) starts

-- field k of the C lines in these rows, as patterns
abbrev pub patterns_at : List ℕ → ℕ → ℕ → List ℕ → List Pat
patterns_at t base k rows = map (λ r. pattern_of t base (cell_of t r k)) rows

-- the weight of a pattern with k left and right nodes
abbrev pub weight_at : ℕ → ℕ
weight_at k = 2 ^ (max_tags - k)

-- the lowest of 11 to 14 for the left and the right patterns of an iso
unfoldable pub sides_fault : List Pat → List Pat → Option Refusal
sides_fault ls rs =
    first_failing
    ((apart ls, overlap iso_line left) ∷ (apart rs, overlap iso_line right) ∷ (full_weight ls, gap iso_line left) ∷ (full_weight rs, gap iso_line right) ∷ [])

-- what is tested of iso i, its I line in a row, once all its clauses have passed: 23, then 11 to 14
abbrev pub whole_fault : List ℕ → ℕ → ℕ → ℕ → List ℕ → ℕ → Option (Refusal × ℕ)
whole_fault t base i row cs last =
    or_else (recursion_fault i (iso_in t base row cs last))
    (at (suc row) (sides_fault (patterns_at t base clause_left cs) (patterns_at t base clause_right cs)))
