-- Types, patterns, closed values, clauses and isos as trees: section 2.2 of the paper and the let steps of section 3.1. A line
-- of the file unfolds to one of these trees. Constructors of one number of parts are one constructor with a tag: unit and empty
-- list; the two injections; pair and element before a list.
use Rattle.std.specs.Prelude.{Bool, true, false, ◌&&◌, List, [], ◌∷◌, ◌++◌, map, reverse, ℕ, ◌+◌, suc, max}
use Rattle.std.proofs.Math.Option.{Option, none, some}

-- "unit, sum and product types", and request 14's lists
pub data Ty : Type 0 where
  tunit : Ty
  tlist : Ty → Ty
  tsum tprod : Ty → Ty → Ty

-- (), []
pub data Leaf : Type 0 where
  unit_leaf empty_leaf : Leaf

pub data Tag : Type 0 where
  left right : Tag

-- ⟨-, -⟩, - : -
pub data Node : Type 0 where
  pair_node element_node : Node

-- a P line, unfolded: the paper's values, which "also play the role of patterns"
pub data Pat : Type 0 where
  pvar : ℕ → Pat
  pleaf : Leaf → Pat
  pinj : Tag → Pat → Pat
  pnode : Node → Pat → Pat → Pat

-- "A closed value has no variable"
pub data Val : Type 0 where
  vleaf : Leaf → Val
  vinj : Tag → Val → Val
  vnode : Node → Val → Val → Val

-- an L line: p = iso i applied to q
pub record Let : Type 0 where
  pub p : Pat
  pub iso : ℕ
  pub q : Pat

-- a C line, with its place in the file and its L lines in order
pub record Clause : Type 0 where
  pub line : ℕ
  pub lhs : Pat
  pub lets : List Let
  pub rhs : Pat

-- an I line, with its place in the file and its clauses in order
pub record Iso : Type 0 where
  pub line : ℕ
  pub from : Ty
  pub to : Ty
  pub clauses : List Clause

abbrev pub same_leaf : Leaf → Leaf → Bool
same_leaf unit_leaf unit_leaf = true
same_leaf unit_leaf empty_leaf = false
same_leaf empty_leaf unit_leaf = false
same_leaf empty_leaf empty_leaf = true

abbrev pub same_node : Node → Node → Bool
same_node pair_node pair_node = true
same_node pair_node element_node = false
same_node element_node pair_node = false
same_node element_node element_node = true

abbrev pub same_tag : Tag → Tag → Bool
same_tag left left = true
same_tag left right = false
same_tag right left = false
same_tag right right = true

-- "Two types are the same when their trees are equal"
abbrev pub same_type : Ty → Ty → Bool
same_type tunit tunit = true
same_type tunit (tlist c) = false
same_type tunit (tsum c d) = false
same_type tunit (tprod c d) = false
same_type (tlist a) tunit = false
same_type (tlist a) (tlist c) = same_type a c
same_type (tlist a) (tsum c d) = false
same_type (tlist a) (tprod c d) = false
same_type (tsum a b) tunit = false
same_type (tsum a b) (tlist c) = false
same_type (tsum a b) (tsum c d) = same_type a c && same_type b d
same_type (tsum a b) (tprod c d) = false
same_type (tprod a b) tunit = false
same_type (tprod a b) (tlist c) = false
same_type (tprod a b) (tsum c d) = false
same_type (tprod a b) (tprod c d) = same_type a c && same_type b d

-- the type that stands below a left or a right
abbrev pub part : Tag → Ty → Ty → Ty
part left a b = a
part right a b = b

-- the types whose closed values have a leaf, a tag or a node at the top, and the types of what stands below it
abbrev pub leaf_fits : Leaf → Ty → Bool
leaf_fits unit_leaf tunit = true
leaf_fits unit_leaf (tlist a) = false
leaf_fits unit_leaf (tsum a b) = false
leaf_fits unit_leaf (tprod a b) = false
leaf_fits empty_leaf tunit = false
leaf_fits empty_leaf (tlist a) = true
leaf_fits empty_leaf (tsum a b) = false
leaf_fits empty_leaf (tprod a b) = false

abbrev pub beneath : Tag → Ty → Option Ty
beneath t tunit = none
beneath t (tlist a) = none
beneath t (tsum a b) = some (part t a b)
beneath t (tprod a b) = none

abbrev pub parts : Node → Ty → Option (Ty × Ty)
parts pair_node tunit = none
parts pair_node (tlist a) = none
parts pair_node (tsum a b) = none
parts pair_node (tprod a b) = some (a, b)
parts element_node tunit = none
parts element_node (tlist a) = some (a, tlist a)
parts element_node (tsum a b) = none
parts element_node (tprod a b) = none

-- "nodes in an unfolded T or P"
abbrev pub type_nodes : Ty → ℕ
type_nodes tunit = 1
type_nodes (tlist a) = 1 + type_nodes a
type_nodes (tsum a b) = 1 + type_nodes a + type_nodes b
type_nodes (tprod a b) = 1 + type_nodes a + type_nodes b

abbrev pub nodes : Pat → ℕ
nodes (pvar n) = 1
nodes (pleaf l) = 1
nodes (pinj t p) = 1 + nodes p
nodes (pnode k p q) = 1 + nodes p + nodes q

-- "left and right nodes in an unfolded P", and request 14: "Both P kinds count towards the 40"
abbrev pub leaf_tags : Leaf → ℕ
leaf_tags unit_leaf = 0
leaf_tags empty_leaf = 1

abbrev pub node_tags : Node → ℕ
node_tags pair_node = 0
node_tags element_node = 1

abbrev pub tags : Pat → ℕ
tags (pvar n) = 0
tags (pleaf l) = leaf_tags l
tags (pinj t p) = 1 + tags p
tags (pnode k p q) = node_tags k + (tags p + tags q)

-- the most of them that a closed value of a type has (request 13: with 128 pairs an imported value may pass the ceiling). A list has no
-- most; a type that holds one is refused (18) before this is asked.
abbrev pub most_tags : Ty → ℕ
most_tags tunit = 0
most_tags (tlist a) = 0
most_tags (tsum a b) = suc (max (most_tags a) (most_tags b))
most_tags (tprod a b) = most_tags a + most_tags b

-- the variables of a pattern, in prefix order
abbrev pub vars : Pat → List ℕ
vars (pvar n) = n ∷ []
vars (pleaf l) = []
vars (pinj t p) = vars p
vars (pnode k p q) = vars p ++ vars q

-- The inversion of section 3.2: sides exchanged, let steps last to first with p and q exchanged, types exchanged.
abbrev pub invert_let : Let → Let
invert_let l = record { p = l.q; iso = l.iso; q = l.p }

abbrev pub invert_clause : Clause → Clause
invert_clause c = record { line = c.line; lhs = c.rhs; lets = reverse (map invert_let c.lets); rhs = c.lhs }

abbrev pub invert : Iso → Iso
invert o = record { line = o.line; from = o.to; to = o.from; clauses = map invert_clause o.clauses }
