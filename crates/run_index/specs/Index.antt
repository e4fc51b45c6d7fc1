-- The isos of a table by an index. Number i of the index is the place in it of iso i's I row, behind which stand the rows of its C lines; what
-- follows the last of these is the row where its L lines end.
use Rattle.std.specs.Prelude.{ℕ, zero, suc, ◌+◌, ◌*◌, ◌-◌, List, [], ◌∷◌, get_or}
use Rattle.limits.specs.Fields.{iso_from, iso_to}
use Rattle.limits.specs.Limits.{max_isos, max_clauses}
use Rattle.calculus.specs.Trees.{Clause, Iso}
use Rattle.table_trees.specs.Unfolding.{cell_of, type_of}
use Rattle.table_walks.specs.InTable.{clause_in}

-- a place for each iso and one behind the last, then the rows of the I and C lines; the number of rows stands behind them, at the end
abbrev pub index_end : ℕ
index_end = max_isos + 1 + max_isos * (max_clauses + 1)

abbrev pub index_length : ℕ
index_length = index_end + 1

-- number m of an index
abbrev pub place_at : List ℕ → ℕ → ℕ
place_at index m = get_or index m 0

-- the clause whose C row stands at place m, and those of `count` places from there on
abbrev pub clause_at : List ℕ → ℕ → List ℕ → ℕ → Clause
clause_at t base index m = clause_in t base (place_at index m) (place_at index (suc m))

abbrev pub clauses_at : List ℕ → ℕ → List ℕ → ℕ → ℕ → List Clause
clauses_at t base index m zero = []
clauses_at t base index m (suc count) = clause_at t base index m ∷ clauses_at t base index (suc m) count

-- the iso whose I row stands at place m, with the C rows up to place `end`
abbrev pub iso_between : List ℕ → ℕ → List ℕ → ℕ → ℕ → Iso
iso_between t base index m end =
    record {
      line = suc (place_at index m);
      from = type_of t (cell_of t (place_at index m) iso_from);
      to = type_of t (cell_of t (place_at index m) iso_to);
      clauses = clauses_at t base index (suc m) (end - suc m);
    }

abbrev pub iso_at : List ℕ → ℕ → List ℕ → ℕ → Iso
iso_at t base index i = iso_between t base index (place_at index i) (place_at index (suc i))

-- `count` isos from iso i on
abbrev pub isos_at : List ℕ → ℕ → List ℕ → ℕ → ℕ → List Iso
isos_at t base index i zero = []
isos_at t base index i (suc count) = iso_at t base index i ∷ isos_at t base index (suc i) count
