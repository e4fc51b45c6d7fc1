-- The table's numbers, and the trees that its T and P lines unfold to. A line names smaller lines; a name that is not smaller, and a line
-- past the table's rows, stand for a unit, so that unfolding is total.
use Rattle.std.specs.Prelude.{ℕ, zero, suc, ◌+◌, ◌*◌, cond, List, ltb, get_or}
use Rattle.limits.specs.Fields.{kind_field, first_field, second_field}
use Rattle.limits.specs.Limits.{max_lines, row_width}
use Rattle.calculus.specs.Trees.{Ty, tunit, Pat, pleaf, unit_leaf}
use Rattle.format.specs.Judge.{type_node, pattern_node}

-- number k of a row, 0 where there is none
abbrev pub cell_of : List ℕ → ℕ → ℕ → ℕ
cell_of t row k = cond (ltb row max_lines) (cond (ltb k row_width) (get_or t (row * row_width + k) 0) 0) 0

abbrev pub smaller_of : ℕ → ℕ → ℕ
smaller_of a i = cond (ltb a i) a max_lines

-- T line i, unfolded at most d deep
abbrev pub type_in : List ℕ → ℕ → ℕ → Ty
type_in t zero i = tunit
type_in t (suc d) i =
    type_node (cell_of t i kind_field) (type_in t d (smaller_of (cell_of t i first_field) i)) (type_in t d (smaller_of (cell_of t i second_field) i))

-- P line j, where the P lines begin at row `base`
abbrev pub pattern_in : List ℕ → ℕ → ℕ → ℕ → Pat
pattern_in t base zero j = pleaf unit_leaf
pattern_in t base (suc d) j =
    pattern_node (cell_of t (base + j) kind_field) (cell_of t (base + j) first_field)
    (pattern_in t base d (smaller_of (cell_of t (base + j) first_field) j)) (pattern_in t base d (smaller_of (cell_of t (base + j) second_field) j))

-- A line's number bounds how deep it unfolds.
unfoldable pub type_of : List ℕ → ℕ → Ty
type_of t i = type_in t (suc i) i

unfoldable pub pattern_of : List ℕ → ℕ → ℕ → Pat
pattern_of t base j = pattern_in t base (suc j) j
