-- The counts of what no pattern matches, after some letters.
use Rattle.std.specs.Prelude.{ℕ, ◌-◌, ◌<◌, ◌≤◌, ◌≡◌, Bool, true, false, cond, leb, length, get_or, drop}
use Rattle.std.proofs.Math.Option.{Option, none, some}
use mathlib.Core.List.{List, [], ◌∷◌, ◌++◌, map, Memᴰ}
use Rattle.calculus.specs.Tools.{total}
use Rattle.calculus.specs.Trees.{Ty, tunit, tlist, tsum, tprod, unit_leaf, left, pair_node, element_node, Pat, Val}
use Rattle.calculus.specs.Letters.{letters}
use Rattle.model.specs.Services.{written}
use Rattle.calculus.specs.Paper.{Apart}
use Rattle.law_witnesses.specs.Showing.{Move, leaf, tag, node, letter_on, never, setting}
use Rattle.law_witnesses.specs.Shapes.{Side}
use Rattle.law_witnesses.specs.Seeking.{how_many, ways, or_zero, keep, alone, lacks, pick, gap_word}
use Rattle.law_witnesses.proofs.Gaps.{Once}
use Rattle.fault_tallies.specs.Tallies.{Holds}
use Rattle.fault_stacks.specs.Stacks.{Shapes, Countable, types_along, row_along}
use Rattle.table_trees.specs.Unfolding.{type_of, pattern_of}
use Rattle.table_walks.specs.InTable.{patterns_at}
use Rattle.limits.specs.Limits.{lengths}

abbrev pub minus_of : ℕ → ℕ → ℕ → ℕ
minus_of m x y = cond (leb y x) (x - y) (m - (y - x))

pub record Takes (m : ℕ) (k o l : List ℕ) : Type 0 where
  pub at : (j : ℕ) → j < lengths → get_or l j 0 ≡ minus_of m (get_or k j 0) (get_or o j 0)

-- a row that is left after some letters fits the types
abbrev pub Fitting : Option (List Pat) → List Ty → Type 0
Fitting x ts = (row : List Pat) → x ≡ some row → Shapes row ts

-- one row less
pub record TakesRow (m : ℕ) (k l : List ℕ) (ts : List Ty) (x : Option (List Pat)) : Type 0 where
  pub at : (W : ℕ → ℕ) → Fitting x ts → Countable ts → ((r : ℕ) → or_zero (ways r ts) x ≤ W r) → Holds m k W → Holds m l (λ r. W r - or_zero (ways r ts) x)

-- what the rows match together
abbrev pub matched_by : ℕ → List Ty → List (List Pat) → ℕ
matched_by r ts rows = total (map (ways r ts) rows)

-- all rows less, for patterns whose rows fit and match no more than there is
pub record TakesAll (m : ℕ) (l : List ℕ) (w : List ℕ) (ts : List Ty) (ps : List Pat) : Type 0 where
  pub at : 1 < m → ((p : Pat) → Memᴰ p ps → Fitting (row_along w (p ∷ [])) ts) → Countable ts → ((r : ℕ) → matched_by r ts (keep (row_along w) (alone ps)) ≤ how_many r ts)
      → Holds m l (λ r. how_many r ts - matched_by r ts (keep (row_along w) (alone ps)))

-- the types still to come after some letters of a value of a type, and the rows of the patterns that begin so
abbrev pub types_at : Ty → List ℕ → List Ty
types_at a w = types_along w (a ∷ [])

abbrev pub rows_at : List Pat → List ℕ → List (List Pat)
rows_at ps w = keep (row_along w) (alone ps)

-- no value is matched twice, the rows fit, and the types still to come are counted
pub record Good (a : Ty) (ps : List Pat) (w : List ℕ) : Type 0 where
  pub once : Once (types_at a w) (rows_at ps w)
  pub fits : (p : Pat) → Memᴰ p ps → Fitting (row_along w (p ∷ [])) (types_at a w)
  pub countable : Countable (types_at a w)

-- some value that begins with the letters w and has n more is matched by none
pub record Leaves (a : Ty) (ps : List Pat) (w : List ℕ) (n : ℕ) (r : Bool) : Type 0 where
  pub at : Good a ps w → r ≡ lacks n (types_at a w) (rows_at ps w)

-- the first letter that a value of a type can begin with, and the types of the values that follow it
abbrev pub first_move : Ty → Move × List Ty
first_move tunit = (leaf unit_leaf, [])
first_move (tlist a) = (node element_node, a ∷ (tlist a ∷ []))
first_move (tsum a b) = (tag left, a ∷ [])
first_move (tprod a b) = (node pair_node, a ∷ (b ∷ []))

abbrev pub first_letter : Ty → ℕ
first_letter a = letter_on (first_move a).0

-- the letter that a gap with n letters more goes on with, after letters v, the next value being of type b; w is v and b's first letter
pub record Picks (a : Ty) (ps : List Pat) (w : List ℕ) (b : Ty) (n r : ℕ) : Type 0 where
  pub at : (v : List ℕ) (ts : List Ty) → Good a ps v → w ≡ v ++ (first_letter b ∷ []) → types_at a v ≡ b ∷ ts → r ≡ letter_on (pick n b ts (rows_at ps v)).0

-- what is asked: a good start, and a gap with n letters
pub record Asked (a : Ty) (ps : List Pat) (n : ℕ) : Type 0 where
  pub good : Good a ps []
  pub lack : lacks n (a ∷ []) (rows_at ps []) ≡ true

-- what is written
pub record Writes (a : Ty) (ps : List Pat) (out₀ out : List ℕ) (n : ℕ) : Type 0 where
  pub at : Asked a ps n → out ≡ gap_word n (a ∷ []) (rows_at ps []) ++ drop n out₀

-- the fewest letters more with which a gap is left after the letters w; 128 where none of at most 127 is
pub record FirstLack (a : Ty) (ps : List Pat) (w : List ℕ) (r : ℕ) : Type 0 where
  pub before : Good a ps w → (j : ℕ) → j < r → lacks j (types_at a w) (rows_at ps w) ≡ false
  pub here : Good a ps w → r < lengths → lacks r (types_at a w) (rows_at ps w) ≡ true
  pub most : r ≤ lengths

-- the first place whose count is not 0
pub record FirstCount (k : List ℕ) (r : ℕ) : Type 0 where
  pub before : (j : ℕ) → j < r → get_or k j 0 ≡ 0
  pub here : (r < lengths → get_or k r 0 ≡ 0 → ⊥)
  pub most : r ≤ lengths

-- "the value matched … by none (13, 14), with the fewest letters, the first in byte order among those": its letters and their number where there
-- is one of at most 127 letters, for patterns that fit the type and are orthogonal; 0 elsewhere
pub record GapValue (a : Ty) (ps : List Pat) (out₀ out : List ℕ) (r : ℕ) : Type 0 where
  pub given : Side a ps → Apart ps → (v : Val) → setting a (never ps) ≡ some v → (r ≡ length (letters v)) × (out ≡ written (letters v) out₀)
  pub nothing : Side a ps → Apart ps → setting a (never ps) ≡ none → (r ≡ 0) × (out ≡ out₀)

-- ---- contracts: k holds the counts at entry, k' at exit

-- one row less, that of P line p after the letters w of a value of T line i
abbrev pub RowTaken : ℕ → List ℕ → ℕ → ℕ → ℕ → List ℕ → List ℕ → List ℕ → Type 0
RowTaken m t base p i w k k' = TakesRow m k k' (types_along w (type_of t i ∷ [])) (row_along w (pattern_of t base p ∷ []))

-- all ways to go on less those that the patterns in field f of the rows match
abbrev pub GapsCounted : ℕ → List ℕ → ℕ → ℕ → List ℕ → ℕ → List ℕ → List ℕ → Type 0
GapsCounted m t base f rows i w k' = TakesAll m k' w (types_along w (type_of t i ∷ [])) (patterns_at t base f rows)
