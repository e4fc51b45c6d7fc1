-- The fit of a P line to a T line, found once with no variable live, and what it tells of the same fit wherever others are live.
use Rattle.std.specs.Prelude.{ℕ, zero, suc, ◌+◌, ◌-◌, ◌*◌, ◌<◌, ◌≤◌, ◌≡◌, Bool, true, false, cond, ◌&&◌, ◌||◌, List, [], ◌∷◌, leb, eqb, length, get_or, replicate}
use Rattle.std.proofs.Math.Option.{Option, none, some}
use Rattle.limits.specs.Limits.{variables}
use Rattle.calculus.specs.Tools.{◌>>=◌, guard}
use Rattle.calculus.specs.Trees.{Ty, Pat, same_type}
use Rattle.calculus.specs.Slots.{Slots}
use Rattle.calculus.specs.Clauses.{learn}
use Rattle.table_trees.specs.Unfolding.{cell_of, type_of, pattern_of}
use Rattle.check_typing.specs.Fitting.{entry_view}
use Rattle.check_typing.specs.declared.Env as E

-- the types that a pattern's variables take where it fits a type
abbrev pub found : Pat → Ty → Option (Slots Ty)
found p a = learn p a (replicate variables none)

-- A slot, and what a pattern has for its variable: bound, it must not be live; used, it must be live with the same type.
abbrev pub meet : Bool → Option Ty → Option Ty → Option (Option Ty)
meet b x none = some x
meet true none (some a) = some (some a)
meet true (some c) (some a) = none
meet false none (some a) = none
meet false (some c) (some a) = guard (same_type c a) >>= λ _. some none

-- slot by slot, nothing where one gives nothing
abbrev pub zip_all : {A : Type 0} → (A → A → Option A) → List A → List A → Option (List A)
zip_all f [] w = some []
zip_all f (x ∷ s) [] = none
zip_all f (x ∷ s) (y ∷ w) = f x y >>= λ z. zip_all f s w >>= λ r. some (z ∷ r)

abbrev pub meet_all : Bool → Slots Ty → Slots Ty → Option (Slots Ty)
meet_all b s w = zip_all (meet b) s w

-- the types of the live variables, and those that a pattern's variables take where it fits
abbrev pub meeting : Bool → Option (Slots Ty) → Option (Slots Ty) → Option (Slots Ty)
meeting b x v = x >>= λ s. v >>= λ w. meet_all b s w

-- entries from place `at` on that are those of some slots
pub record Entries (t k : List ℕ) (at : ℕ) (w : Slots Ty) : Type 0 where
  pub long : length w ≡ variables
  pub each : (i : ℕ) → i < variables → get_or w i none ≡ entry_view t (get_or k (at + i) 0)

-- no entry from number `from` on and before i that is not 0
pub record Skipped (k : List ℕ) (at from i : ℕ) : Type 0 where
  pub onward : from ≤ i
  pub empty : (j : ℕ) → from ≤ j → j < i → get_or k (at + j) 0 ≡ 0

-- the first entry from number `from` on that is not 0
pub record NextEntry (k : List ℕ) (at from r : ℕ) : Type 0 where
  pub onward : from ≤ r
  pub empty : (j : ℕ) → from ≤ j → j < r → get_or k (at + j) 0 ≡ 0
  pub full : r < variables → 0 < get_or k (at + r) 0

-- entry n, and what a pattern has for its variable: the entry that they meet in, or a number that is none
pub record MetEntry (t : List ℕ) (b : Bool) (n x r : ℕ) : Type 0 where
  pub apart : r ≡ 65536 → meet b (entry_view t n) (entry_view t x) ≡ none
  pub met : r < 65536 → meet b (entry_view t n) (entry_view t x) ≡ some (entry_view t r)

-- The fit kept at place `at`: 32 entries, the T line, how it went, the P line. 1: it fits and has no variables; 2: it fits, and the entries
-- are the types of its variables; 3: it does not fit. 0: nothing is kept.
pub record Kept (t k : List ℕ) (at : ℕ) (v : Option (Slots Ty)) : Type 0 where
  pub closed : get_or k (at + 33) 0 ≡ 1 → v ≡ some (replicate variables none)
  pub types : get_or k (at + 33) 0 ≡ 2 → (w : Slots Ty) × (v ≡ some w) × Entries t k at w
  pub fails : get_or k (at + 33) 0 ≡ 3 → v ≡ none

-- the P line, in two bytes
abbrev pub line_at : List ℕ → ℕ → ℕ
line_at k at = get_or k (at + 34) 0 + get_or k (at + 35) 0 * 256

-- the T line
abbrev pub own_at : List ℕ → ℕ → ℕ
own_at k at = get_or k (at + 32) 0

-- what is kept is right
pub record Known (t : List ℕ) (base : ℕ) (k : List ℕ) : Type 0 where
  pub kept : (s : ℕ) → s * 36 + 35 < length k → Kept t k (s * 36) (found (pattern_of t base (line_at k (s * 36))) (type_of t (own_at k (s * 36))))

-- a place at which a slot begins
pub record Slot (k : List ℕ) (at : ℕ) : Type 0 where
  pub within : at + 35 < length k
  pub slot : ℕ
  pub begins : at ≡ slot * 36

-- a place for P line p on T line a: it is kept there, or nothing is
pub record Place (k : List ℕ) (p a at : ℕ) : Type 0 where
  pub within : at + 35 < length k
  pub slot : ℕ
  pub begins : at ≡ slot * 36
  pub line : (get_or k (at + 33) 0 ≡ 0 → ⊥) → line_at k at ≡ p
  pub own : (get_or k (at + 33) 0 ≡ 0 → ⊥) → own_at k at ≡ a

-- a place at which it is kept
pub record Full (k : List ℕ) (p a at : ℕ) : Type 0 where
  pub place : Place k p a at
  pub some : 0 < get_or k (at + 33) 0
  pub few : get_or k (at + 33) 0 < 4

-- how a fit went, as a number: 4 where an entry has no room in a byte
pub record Went (e : E.Env) (h : ℕ) : Type 0 where
  pub some : h ≡ 0 → ⊥
  pub closed : h ≡ 1 → (e.fits ≡ true) × ((i : ℕ) → i < variables → get_or e.line i 0 ≡ 0)
  pub types : h ≡ 2 → (e.fits ≡ true) × ((i : ℕ) → i < variables → get_or e.line i 0 < 256)
  pub fails : h ≡ 3 → e.fits ≡ false

-- entries stored at place `at`, all else stays
pub record Entered (k' k : List ℕ) (at : ℕ) (line : List ℕ) : Type 0 where
  pub long : length k' ≡ length k
  pub before : (m : ℕ) → m < at → get_or k' m 0 ≡ get_or k m 0
  pub after : (m : ℕ) → at + 32 ≤ m → get_or k' m 0 ≡ get_or k m 0
  pub entries : (i : ℕ) → i < variables → get_or line i 0 < 256 → get_or k' (at + i) 0 ≡ get_or line i 0

-- the four bytes behind them too
pub record Stored (k' k : List ℕ) (at : ℕ) (line : List ℕ) (p a h : ℕ) : Type 0 where
  pub long : length k' ≡ length k
  pub before : (m : ℕ) → m < at → get_or k' m 0 ≡ get_or k m 0
  pub after : (m : ℕ) → at + 36 ≤ m → get_or k' m 0 ≡ get_or k m 0
  pub entries : (i : ℕ) → i < variables → get_or line i 0 < 256 → get_or k' (at + i) 0 ≡ get_or line i 0
  pub own : own_at k' at ≡ a
  pub how : get_or k' (at + 33) 0 ≡ h
  pub row : line_at k' at ≡ p

-- ---- which rows are looked at; nothing but time rests on it

-- whether row n has a size of 16 nodes or more and no mark
abbrev pub large_row : List ℕ → List ℕ → ℕ → Bool
large_row t g n = leb 16 (cell_of t n 4) && eqb (get_or g n 0) 0

-- whether one of n rows, from a row on, does
abbrev pub any_large : List ℕ → List ℕ → ℕ → ℕ → Bool
any_large t g from zero = false
any_large t g from (suc n) = large_row t g from || any_large t g (suc from) n

-- the I row at or above row n, where `head` is the one above it
abbrev pub head_at : List ℕ → ℕ → ℕ → ℕ
head_at t n head = cond (eqb (cell_of t n 0) 73) n head

-- what is left of the rows decides
pub record LargeLeft (t g : List ℕ) (from to n : ℕ) : Type 0 where
  pub same : any_large t g from (to - from) ≡ any_large t g n (to - n)
