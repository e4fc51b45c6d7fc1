-- What the table holds of a file, as request 10 has it: "A table line becomes five numbers, the fifth the unfolded size of a T or P line and 0 for other
-- letters".
use Rattle.std.specs.Prelude.{ℕ, List, [], ◌∷◌, ◌++◌}
use Rattle.calculus.specs.Trees.{type_nodes, nodes}
use Rattle.calculus.specs.Refusals.{Kind, type_line, pattern_line, iso_line, clause_line, let_line}
use Rattle.format.specs.Lines.{Row, letter}
use Rattle.format.specs.Judge.{Seen, start, type_tree, pattern_tree, after}

-- the size of a row of this kind, below the rows that `s` tells of: the nodes of the tree that a T or P line unfolds to
abbrev pub size_of : Kind → Seen → Row → ℕ
size_of type_line s r = type_nodes (type_tree s.types r)
size_of pattern_line s r = nodes (pattern_tree s.patterns r)
size_of iso_line s r = 0
size_of clause_line s r = 0
size_of let_line s r = 0

abbrev pub row_size : Seen → Row → ℕ
row_size s r = size_of r.kind s r

-- "the letter's ASCII code, then the fields, padded with 0", and the size
abbrev pub numbers : Row → ℕ → List ℕ
numbers r size = letter r.kind ∷ r.x ∷ r.y ∷ r.z ∷ size ∷ []

-- the numbers of some rows, below those that `s` tells of
abbrev pub table_from : Seen → List Row → List ℕ
table_from s [] = []
table_from s (r ∷ rs) = numbers r (row_size s r) ++ table_from (after s r) rs

-- what the table holds of a file, zeros behind it
abbrev pub table_of : List Row → List ℕ
table_of rs = table_from start rs
