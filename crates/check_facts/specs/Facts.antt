-- What is found once of each T and P line: the places of a type, and the nodes of a pattern that count towards the 40.
use Rattle.std.specs.Prelude.{ℕ, suc, ◌+◌, ◌<◌, min, max, ◌≡◌, List, length, get_or}
use Rattle.limits.specs.Limits.{many_tags, max_types, max_patterns}
use Rattle.calculus.specs.Trees.{Ty, tunit, tlist, tsum, tprod, tags}
use Rattle.table_trees.specs.Unfolding.{type_of, pattern_of}

-- how many places a type has at which a pattern of it may hold a left or a right: those below a left are the same as those below a right.
-- A list has none: its empty lists and elements stand at no place.
abbrev pub width : Ty → ℕ
width tunit = 0
width (tlist a) = 0
width (tsum a b) = suc (max (width a) (width b))
width (tprod a b) = width a + width b

-- the most places that are told apart, and what stands for more
abbrev pub places : ℕ
places = 64

abbrev pub many_places : ℕ
many_places = suc places

-- the most lines that facts are found of
abbrev pub facts_length : ℕ
facts_length = max_types + max_patterns

-- the facts hold the places of the T lines below n
pub record Widths (t : List ℕ) (f : List ℕ) (n : ℕ) : Type 0 where
  pub widths : (i : ℕ) → i < n → get_or f i 0 ≡ min many_places (width (type_of t i))

-- and, from place `base` on, the left, right, empty and element nodes of the P lines below n
pub record Tagged (t : List ℕ) (base : ℕ) (f : List ℕ) (n : ℕ) : Type 0 where
  pub tagged : (j : ℕ) → j < n → get_or f (base + j) 0 ≡ min many_tags (tags (pattern_of t base j))

-- the facts of all lines that they have a place for; of a table with more lines there are none
pub record Facts (t : List ℕ) (base : ℕ) (f : List ℕ) : Type 0 where
  pub widths : (i : ℕ) → i < base → i < length f → get_or f i 0 ≡ min many_places (width (type_of t i))
  pub tagged : (j : ℕ) → base + j < length f → get_or f (base + j) 0 ≡ min many_tags (tags (pattern_of t base j))
