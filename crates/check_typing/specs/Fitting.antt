-- The types of live variables while patterns are fitted, as the code keeps them.
use Rattle.std.specs.Prelude.{ℕ, zero, suc, ◌+◌, ◌<◌, ◌≤◌, ◌≡◌, Bool, true, false, cond, List, map, eqb, length, replicate, MatchOption}
use Rattle.std.specs.Prelude as O
use Rattle.std.proofs.Math.Option.{Option, none, some}
use Rattle.limits.specs.Limits.{variables, max_lines, table_length}
use Rattle.calculus.specs.Tools.{◌>>=◌}
use Rattle.calculus.specs.Trees.{Ty, Pat}
use Rattle.calculus.specs.Slots.{Slots}
use Rattle.calculus.specs.Clauses.{learn, spend}
use Rattle.table_trees.specs.Unfolding.{cell_of, smaller_of, type_of, pattern_of}
use Rattle.check_bare.specs.Bare.{Bares}
use Rattle.table_parts.specs.declared.Lines.{Lines}
use Rattle.check_typing.specs.declared.Env as E

-- a pattern bound, or used, where it fits a type
abbrev pub fitting : Bool → Pat → Ty → Slots Ty → Option (Slots Ty)
fitting true p a e = learn p a e
fitting false p a e = spend p a e

-- on types that have fitted so far
abbrev pub fit_all : Bool → Pat → Ty → Option (Slots Ty) → Option (Slots Ty)
fit_all b p a x = x >>= λ e. fitting b p a e

-- an entry of the code's environment: 0 none, else one more than a T line
abbrev pub entry_view : List ℕ → ℕ → Option Ty
entry_view t zero = none
entry_view t (suc a) = some (type_of t a)

-- the entry of T line a
abbrev pub EntryOf : ℕ → ℕ → Type 0
EntryOf a r = (t : List ℕ) → entry_view t r ≡ some (type_of t a)

abbrev pub view_if : Bool → Slots Ty → Option (Slots Ty)
view_if true e = some e
view_if false e = none

-- entries as types, where all has fitted
abbrev pub view_of : List ℕ → Bool → List ℕ → Option (Slots Ty)
view_of t b l = view_if b (map (entry_view t) l)

abbrev pub env_view : List ℕ → E.Env → Option (Slots Ty)
env_view t e = view_of t e.fits e.line

-- the entries l once a pattern is fitted to a type: whether it fits, and the entries z
pub record Fitted (t : List ℕ) (b : Bool) (p : Pat) (a : Ty) (l : List ℕ) (r : Bool) (z : List ℕ) : Type 0 where
  pub long : length z ≡ length l
  pub fitted : view_of t r z ≡ fit_all b p a (view_of t true l)

unfoldable pub fresh_env : E.Env
fresh_env = record { fits = true; line = replicate variables 0 }

-- a left, a right or a pair
pub data HasParts : ℕ → Type 0 where
  of_left : HasParts 2
  of_right : HasParts 3
  of_pair : HasParts 4

-- the kinds of P line p, which has parts, and of T line a
pub record Parted (t : List ℕ) (base p a kp ka : ℕ) : Type 0 where
  pub pattern : kp ≡ cell_of t (base + p) 1
  pub type : ka ≡ cell_of t a 1
  pub parts : HasParts kp

-- P line p, which is an element, and the kind of T line a
pub record Element (t : List ℕ) (base p a ka : ℕ) : Type 0 where
  pub pattern : cell_of t (base + p) 1 ≡ 6
  pub type : ka ≡ cell_of t a 1

-- the T line that number i of an element fits on T line a, a list: number 2, the element, fits the line that it names, number 3 the list itself
abbrev pub list_part : List ℕ → ℕ → ℕ → ℕ
list_part t a i = cond (eqb i 2) (smaller_of (cell_of t a 2) a) a

-- P line p and T line a of a whole table, which have marks
pub record Ready (t g : List ℕ) (base p a : ℕ) : Type 0 where
  pub whole : table_length ≤ length t
  pub bares : Bares t base g
  pub few : length g ≤ max_lines
  pub line : base + p < length g
  pub type : a < base

-- P line q fits T line b as P line p fits T line a, whatever has fitted so far
pub record Alike (t : List ℕ) (base p a q b : ℕ) : Type 0 where
  pub alike : (c : Bool) (x : Option (Slots Ty)) → fit_all c (pattern_of t base q) (type_of t b) x ≡ fit_all c (pattern_of t base p) (type_of t a) x

-- earlier lines that do
pub record Earlier (t : List ℕ) (base p a q b : ℕ) : Type 0 where
  pub lower : q < p
  pub below : b < a
  pub same : Alike t base p a q b

-- where there are such
abbrev pub Stepped : List ℕ → ℕ → ℕ → ℕ → O.Option Lines → Type 0
Stepped t base p a r = MatchOption r (Unit {0}) (λ l. Earlier t base p a l.p l.a)

-- lines that do, these or earlier ones
pub record Reached (t : List ℕ) (base p a q b : ℕ) : Type 0 where
  pub within : p < max_lines → q ≤ p
  pub past : max_lines ≤ p → q ≡ p
  pub same : Alike t base p a q b
