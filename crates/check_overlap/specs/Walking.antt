-- What the walk over two P lines comes to: node pairs and a clash in one number, and how two nodes meet.
use Rattle.std.specs.Prelude.{◌≡◌, ℕ, zero, suc, ◌+◌, ◌*◌, ◌%◌, ◌^◌, ◌<◌, ◌≤◌, cond, List, length, ◌==◌}
use Rattle.limits.specs.Limits.{max_lines, table_length}
use Rattle.calculus.specs.Trees.{Pat}
use Rattle.format.specs.Judge.{pattern_node}
use Rattle.table_trees.specs.Unfolding.{cell_of, smaller_of, pattern_of}
use Rattle.check_overlap.specs.Comparison.{Compared, met, clashed, and_then, compare}

-- 2 for each node pair, and 1 for a clash
abbrev pub code : Compared → ℕ
code c = 2 * c.pairs + cond c.clash 1 0

-- what a count of 64 bits has come to behind a comparison
abbrev pub counted : ℕ → Compared → ℕ
counted n c = (n + code c) % 2 ^ 64

-- the field that names the last parts of two nodes is 3 where they are pairs, else 2: what is compared before them, and the last part of a node
abbrev pub opening : ℕ → Pat → Pat → Compared
opening m p u = cond (m == 3) (and_then met (compare p u)) met

abbrev pub last_part : ℕ → Pat → Pat → Pat
last_part m p q = cond (m == 3) q p

-- two nodes, p and q the parts of one, u and v those of the other: 0 where nothing below them is compared, 1 where they clash, else that field
abbrev pub onward : ℕ → Pat → Pat → Pat → Pat → Compared
onward zero p q u v = met
onward (suc zero) p q u v = clashed
onward (suc (suc k)) p q u v = and_then (opening (suc (suc k)) p u) (compare (last_part (suc (suc k)) p q) (last_part (suc (suc k)) u v))

-- nodes of kinds k and j meet so
pub record Meets (k j m : ℕ) : Type 0 where
  pub few : m < 4
  pub says : (a b : ℕ) (p q u v : Pat) → compare (pattern_node k a p q) (pattern_node j b u v) ≡ onward m p q u v

-- what field k of P line p names
abbrev pub part_of : List ℕ → ℕ → ℕ → ℕ → Pat
part_of t base p k = pattern_of t base (smaller_of (cell_of t (base + p) k) p)

-- the table is whole, and both lines are rows of it
pub record Within (t : List ℕ) (base p q : ℕ) : Type 0 where
  pub whole : table_length ≤ length t
  pub left : base + p < max_lines
  pub right : base + q < max_lines
