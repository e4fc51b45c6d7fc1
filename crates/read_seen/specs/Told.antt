-- The code's counts and table against what the rows above tell in the model.
use Rattle.std.specs.Prelude.{ℕ, ◌+◌, ◌<◌, ◌≡◌, List, length, get_or}
use Rattle.limits.specs.Fields.{size_field}
use Rattle.limits.specs.Limits.{field_bound}
use Rattle.calculus.specs.Trees.{Ty, tunit, Pat, pleaf, unit_leaf, type_nodes, nodes, tags}
use Rattle.calculus.specs.Refusals.{Kind, type_line, pattern_line, iso_line, clause_line, let_line}
use Rattle.format.specs.Judge.{Seen, stage, type_node, pattern_node}
use Rattle.table_trees.specs.Unfolding.{cell_of, type_of, pattern_of}
use Rattle.read_seen.specs.declared.Seen as C

abbrev pub start_seen : C.Seen
start_seen = record { stage = 0; types = 0; patterns = 0; isos = 0; clauses = 0; lets = 0 }

-- a row of a kind more
abbrev pub seen_after : Kind → C.Seen → C.Seen
seen_after type_line c = record { stage = 0; types = c.types + 1; patterns = c.patterns; isos = c.isos; clauses = c.clauses; lets = c.lets }
seen_after pattern_line c = record { stage = 1; types = c.types; patterns = c.patterns + 1; isos = c.isos; clauses = c.clauses; lets = c.lets }
seen_after iso_line c = record { stage = 2; types = c.types; patterns = c.patterns; isos = c.isos + 1; clauses = 0; lets = 0 }
seen_after clause_line c = record { stage = 3; types = c.types; patterns = c.patterns; isos = c.isos; clauses = c.clauses + 1; lets = 0 }
seen_after let_line c = record { stage = 4; types = c.types; patterns = c.patterns; isos = c.isos; clauses = c.clauses; lets = c.lets + 1 }

-- counts that one more does not carry past a word
pub record SmallCounts (c : C.Seen) : Type 0 where
  pub types : c.types < field_bound
  pub patterns : c.patterns < field_bound
  pub isos : c.isos < field_bound
  pub clauses : c.clauses < field_bound
  pub lets : c.lets < field_bound

-- the counts are those of the rows above
pub record Counts (c : C.Seen) (s : Seen) : Type 0 where
  pub stage : c.stage ≡ stage s.above
  pub types : c.types ≡ length s.types
  pub patterns : c.patterns ≡ length s.patterns
  pub isos : c.isos ≡ s.isos
  pub clauses : c.clauses ≡ s.clauses
  pub lets : c.lets ≡ s.lets

-- the table's T lines, and its P lines from a row on, unfold to these trees
abbrev pub TypesAt : List ℕ → List Ty → Type 0
TypesAt t ts = (i : ℕ) → i < length ts → type_of t i ≡ get_or ts i tunit

abbrev pub PatternsAt : List ℕ → ℕ → List Pat → Type 0
PatternsAt t base ps = (j : ℕ) → j < length ps → pattern_of t base j ≡ get_or ps j (pleaf unit_leaf)

-- the tree of a line that stands next, by its fields
abbrev pub next_type : List Ty → ℕ → ℕ → ℕ → Ty
next_type ts k a b = type_node k (get_or ts a tunit) (get_or ts b tunit)

abbrev pub next_pattern : List Pat → ℕ → ℕ → ℕ → Pat
next_pattern ps k a b = pattern_node k a (get_or ps a (pleaf unit_leaf)) (get_or ps b (pleaf unit_leaf))

-- and the table's lines unfold to their trees
pub record Told (t : List ℕ) (c : C.Seen) (s : Seen) : Type 0 where
  pub counts : Counts c s
  pub types : TypesAt t s.types
  pub patterns : PatternsAt t (length s.types) s.patterns

-- the sizes that the table holds of its T lines, and of its P lines from a row on; the nodes that count towards the 40, which an area holds of the P lines
abbrev pub TypeSizes : List ℕ → List Ty → Type 0
TypeSizes t ts = (i : ℕ) → i < length ts → cell_of t i size_field ≡ type_nodes (get_or ts i tunit)

abbrev pub PatternSizes : List ℕ → ℕ → List Pat → Type 0
PatternSizes t base ps = (j : ℕ) → j < length ps → cell_of t (base + j) size_field ≡ nodes (get_or ps j (pleaf unit_leaf))

abbrev pub TagsAt : List ℕ → List Pat → Type 0
TagsAt g ps = (j : ℕ) → j < length ps → get_or g j 0 ≡ tags (get_or ps j (pleaf unit_leaf))

-- what a row is judged by: the counts of the rows above, and what their trees weigh
pub record Weighed (t g : List ℕ) (c : C.Seen) (s : Seen) : Type 0 where
  pub counts : Counts c s
  pub types : TypeSizes t s.types
  pub patterns : PatternSizes t (length s.types) s.patterns
  pub tags : TagsAt g s.patterns
