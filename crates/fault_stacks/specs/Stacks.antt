-- What is still to come of a value after some letters: T lines, and P lines beside them, from place `top` of an array on, the next one first.
use Rattle.std.specs.Prelude.{ℕ, ◌+◌, ◌-◌, ◌≤◌, ◌<◌, ◌≡◌, Bool, true, false, cond, List, [], ◌∷◌, map, ltb, eqb, drop, None, Some}
use Rattle.std.proofs.Math.Option.{Option, none, some}
use Rattle.std.specs.declared.option.Option as O
use Rattle.limits.specs.Limits.{max_nodes, lengths}
use Rattle.calculus.specs.Tools.{◌>>=◌}
use Rattle.calculus.specs.Trees.{Ty, unit_leaf, empty_leaf, left, right, pair_node, element_node, Pat, type_nodes}
use Rattle.law_witnesses.specs.Showing.{Move, leaf, tag, node}
use Rattle.law_witnesses.specs.Seeking.{how_many, ways, after}
use Rattle.fault_tallies.specs.Tallies.{part_of, Holds}
use Rattle.calculus.specs.Shapes.{Shape}
use Rattle.table_trees.specs.Unfolding.{type_of, pattern_of}
use Rattle.calculus.specs.Letters.{leaf_letter, letter_of, node_letter}

abbrev pub types_from : List ℕ → List ℕ → ℕ → List Ty
types_from t ts top = map (type_of t) (drop top ts)

abbrev pub row_from : List ℕ → ℕ → List ℕ → ℕ → List Pat
row_from t base ps top = map (pattern_of t base) (drop top ps)

-- each pattern fits the type beside it
pub data Shapes : List Pat → List Ty → Type 0 where
  ends : Shapes [] []
  also : {p : Pat} {a : Ty} {ps : List Pat} {ts : List Ty} → Shape p a → Shapes ps ts → Shapes (p ∷ ps) (a ∷ ts)

-- what a letter does
abbrev pub move_of : ℕ → Move
move_of c =
    cond (eqb c (leaf_letter unit_leaf)) (leaf unit_leaf)
    (cond (eqb c (leaf_letter empty_leaf)) (leaf empty_leaf)
    (cond (eqb c (letter_of left)) (tag left)
    (cond (eqb c (letter_of right)) (tag right)
    (cond (eqb c (node_letter element_node)) (node element_node) (node pair_node)))))

-- the kind of the P lines that begin with a letter
abbrev pub kind_on : ℕ → ℕ
kind_on c =
    cond (eqb c (leaf_letter unit_leaf)) 0
    (cond (eqb c (leaf_letter empty_leaf)) 5
    (cond (eqb c (letter_of left)) 2 (cond (eqb c (letter_of right)) 3 (cond (eqb c (node_letter element_node)) 6 4))))

-- a number that is no kind stands for a unit
abbrev pub plain_kind : ℕ → ℕ
plain_kind k = cond (ltb 6 k) 0 k

abbrev pub types_after : Move → List Ty → List Ty
types_after m [] = []
types_after (leaf l) (a ∷ ts) = ts
types_after (tag s) (a ∷ ts) = part_of s a ∷ ts
types_after (node k) (a ∷ ts) = part_of left a ∷ (part_of right a ∷ ts)

-- where the next line then stands
abbrev pub top_after : Move → ℕ → ℕ
top_after (leaf l) top = top + 1
top_after (tag s) top = top
top_after (node k) top = top - 1

-- after several letters
abbrev pub types_along : List ℕ → List Ty → List Ty
types_along [] ts = ts
types_along (c ∷ w) ts = types_along w (types_after (move_of c) ts)

abbrev pub row_along : List ℕ → List Pat → Option (List Pat)
row_along [] row = some row
row_along (c ∷ w) row = after (move_of c) row >>= λ r. row_along w r

-- types of which the values are counted: those with at most 127 nodes
pub data Countable : List Ty → Type 0 where
  none_left : Countable []
  one_more : {a : Ty} {ts : List Ty} → type_nodes a ≤ max_nodes → Countable ts → Countable (a ∷ ts)

-- ---- contracts: ts and ps are the lines still to come, ts' and ps' those one letter later

-- k holds what nothing is to come gives
abbrev pub NothingHeld : List ℕ → Type 0
NothingHeld k = (m : ℕ) → 1 < m → Holds m k (λ n. ways n [] [])

-- k holds the ways to go on, modulo m
abbrev pub TypesHold : ℕ → List ℕ → List ℕ → List ℕ → ℕ → Type 0
TypesHold m t ts k top = 1 < m → Countable (types_from t ts top) → Holds m k (λ n. how_many n (types_from t ts top))

-- those that the P lines match, where each fits the T line beside it
abbrev pub RowHolds : ℕ → List ℕ → ℕ → List ℕ → List ℕ → List ℕ → ℕ → Type 0
RowHolds m t base ps ts k top =
    1 < m → Shapes (row_from t base ps top) (types_from t ts top) → Countable (types_from t ts top) → Holds m k (λ n. ways n (types_from t ts top) (row_from t base ps top))

-- the T lines after the letter c, from place r on
abbrev pub TypesStepped : List ℕ → ℕ → List ℕ → List ℕ → ℕ → ℕ → Type 0
TypesStepped t c ts ts' top r = (r ≡ top_after (move_of c) top) × (types_from t ts' r ≡ types_after (move_of c) (types_from t ts top))

-- the P lines after the letter c, or none where the row does not begin with it
abbrev pub RowStepped : List ℕ → ℕ → ℕ → List ℕ → List ℕ → ℕ → Bool → Type 0
RowStepped t base c ps ps' top r =
    (r ≡ true → after (move_of c) (row_from t base ps top) ≡ some (row_from t base ps' (top_after (move_of c) top)))
    × (r ≡ false → after (move_of c) (row_from t base ps top) ≡ none)

-- the T lines after the letters w of a value of T line i, from place r on
abbrev pub TypesWalked : List ℕ → List ℕ → List ℕ → ℕ → ℕ → Type 0
TypesWalked t w ts i r = types_from t ts r ≡ types_along w (type_of t i ∷ [])

-- beside them the P lines after the letters w of a value that P line p matches, or none where none begins so
abbrev pub RowWalked : List ℕ → ℕ → List ℕ → List ℕ → List ℕ → ℕ → ℕ → O.Option ℕ → Type 0
RowWalked t base w ps ts p i (Some r) = (r ≤ lengths) × (row_along w (pattern_of t base p ∷ []) ≡ some (row_from t base ps r)) × TypesWalked t w ts i r
RowWalked t base w ps ts p i None = row_along w (pattern_of t base p ∷ []) ≡ none
