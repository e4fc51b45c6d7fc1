-- What the walk over a pattern comes to: the sets of clauses by places, before and after.
use Rattle.std.specs.Prelude.{ℕ, suc, ◌+◌, ◌*◌, ◌<◌, ◌≤◌, ◌≡◌, Bool, true, false, ◌||◌, List, [], ◌∷◌, length, Option, Some}
use Rattle.limits.specs.Limits.{table_length, max_lines}
use Rattle.calculus.specs.Trees.{Ty, Tag, left, right, Pat}
use Rattle.calculus.specs.Clauses.{clash, apart}
use Rattle.table_trees.specs.Unfolding.{type_of, pattern_of}
use Rattle.table_walks.specs.InTable.{patterns_at}
use Rattle.check_facts.specs.Facts.{Facts, places, width}
use Rattle.check_sets.specs.Sets.{gatherer, area, members, has}
use Rattle.check_places.specs.Places.{flip, Mark, marks, shaped, member}

-- the set of the clauses with a left at place n, and with a right
abbrev pub set_at : ℕ → Tag → ℕ
set_at n left = 2 * n
set_at n right = 2 * n + 1

-- whether clause k has a left where one of these marks is a right, or the other way round
abbrev pub met : List ℕ → ℕ → List Mark → Bool
met s k [] = false
met s k (x ∷ xs) = has s (set_at x.0 (flip x.1)) k || met s k xs

-- clause i has got these marks, and has gathered the clauses that it meets there
pub record Walked (s z : List ℕ) (i : ℕ) (xs : List Mark) : Type 0 where
  pub long : length z ≡ length s
  pub own : (n : ℕ) (t : Tag) → n < places → has z (set_at n t) i ≡ (has s (set_at n t) i || member n t xs)
  pub others : (n : ℕ) (t : Tag) (k : ℕ) → n < places → k < members → (k ≡ i → ⊥) → has z (set_at n t) k ≡ has s (set_at n t) k
  pub gathers : (k : ℕ) → k < members → (k ≡ i → ⊥) → has z gatherer k ≡ (has s gatherer k || met s k xs)

-- a mark by the kind of its P line
pub record Marked (s z : List ℕ) (n kind i : ℕ) : Type 0 where
  pub long : length z ≡ length s
  pub lefts : kind ≡ 2 → Walked s z i ((n, left) ∷ [])
  pub rights : (kind ≡ 2 → ⊥) → Walked s z i ((n, right) ∷ [])

-- what the walk needs
pub record Ready (t f : List ℕ) (base p a n i : ℕ) (s : List ℕ) : Type 0 where
  pub whole : table_length ≤ length t
  pub facts : Facts t base f
  pub few : length f ≤ max_lines
  pub line : base + p < length f
  pub type : a < base
  pub room : n + width (type_of t a) ≤ places
  pub one : i < members
  pub long : length s ≡ area

-- what it leaves: where it says yes, the marks of the pattern at the places of the type
pub record Told (t : List ℕ) (base p a n i : ℕ) (s z : List ℕ) (r : Bool) : Type 0 where
  pub long : length z ≡ length s
  pub fits : r ≡ true → shaped (pattern_of t base p) (type_of t a) ≡ true
  pub walked : r ≡ true → Walked s z i (marks (pattern_of t base p) (type_of t a) n)

-- the clauses below i, with these patterns, are in the sets, and clash two by two
pub record Sided (ty : Ty) (pat : ℕ → Pat) (i : ℕ) (s : List ℕ) : Type 0 where
  pub long : length s ≡ area
  pub shapes : (k : ℕ) → k < i → shaped (pat k) ty ≡ true
  pub held : (k : ℕ) → k < i → (n : ℕ) (t : Tag) → n < places → has s (set_at n t) k ≡ member n t (marks (pat k) ty 0)
  pub free : (k : ℕ) → i ≤ k → k < members → (n : ℕ) (t : Tag) → n < places → has s (set_at n t) k ≡ false
  pub clashes : (j k : ℕ) → j < k → k < i → clash (pat j) (pat k) ≡ true

-- what the test of one clause needs
pub record Ordered (t f : List ℕ) (base a i : ℕ) (s : List ℕ) : Type 0 where
  pub whole : table_length ≤ length t
  pub facts : Facts t base f
  pub few : length f ≤ max_lines
  pub long : length s ≡ area
  pub within : base ≤ length f
  pub type : a < base
  pub room : width (type_of t a) ≤ places
  pub one : i < members

-- what the tests of all clauses need: nothing is in the sets
pub record Started (t f : List ℕ) (base a : ℕ) (s : List ℕ) : Type 0 where
  pub whole : table_length ≤ length t
  pub facts : Facts t base f
  pub few : length f ≤ max_lines
  pub long : length s ≡ area
  pub within : base ≤ length f
  pub type : a < base
  pub room : width (type_of t a) ≤ places
  pub clear : (c k : ℕ) → has s c k ≡ false

-- what it comes to for patterns of which that of clause i is P line p
pub record Seen (t : List ℕ) (base p a i : ℕ) (s z : List ℕ) (r : Option Bool) : Type 0 where
  pub yes : r ≡ Some true → (pat : ℕ → Pat) → pattern_of t base p ≡ pat i → Sided (type_of t a) pat i s → Sided (type_of t a) pat (suc i) z
  pub no : r ≡ Some false → (pat : ℕ → Pat) → pattern_of t base p ≡ pat i → Sided (type_of t a) pat i s → (k : ℕ) × (k < i) × (clash (pat k) (pat i) ≡ false)
  pub long : length z ≡ length s

-- the answer for a side
pub record Separated (t : List ℕ) (base k : ℕ) (rows : List ℕ) (r : Option Bool) : Type 0 where
  pub yes : r ≡ Some true → apart (patterns_at t base k rows) ≡ true
  pub no : r ≡ Some false → apart (patterns_at t base k rows) ≡ false
