-- Counts by letters, modulo a number: an array of 128 numbers stands for a function of the number of letters.
use Rattle.std.specs.Prelude.{ℕ, zero, suc, ◌+◌, ◌-◌, ◌%◌, ◌<◌, ◌≤◌, ◌≡◌, Bool, true, false, cond, List, ltb, eqb, get_or}
use Rattle.calculus.specs.Trees.{Ty, tunit, tlist, tsum, tprod, Tag, left, right, Pat, pvar, pleaf, pinj, pnode, type_nodes}
use Rattle.limits.specs.Limits.{max_nodes, lengths}
use Rattle.table_trees.proofs.Cases.{Joins}

-- two numbers of 64 bits: a number of at most 127 letters is 0 where both leave nothing over
abbrev pub modulus : ℕ
modulus = 18446744073709551615

abbrev pub other_modulus : ℕ
other_modulus = 18446744073709551614

-- the sum of two numbers below the modulus
abbrev pub plus_of : ℕ → ℕ → ℕ → ℕ
plus_of m x y = cond (ltb x (m - y)) (x + y) (x - (m - y))

-- the array holds the function's values
pub record Holds (m : ℕ) (k : List ℕ) (W : ℕ → ℕ) : Type 0 where
  pub wide : 1 < m
  pub at : (r : ℕ) → r < lengths → get_or k r 0 ≡ W r % m

-- l is k moved up by one place
pub record Shifts (k l : List ℕ) : Type 0 where
  pub first : get_or l 0 0 ≡ 0
  pub rest : (j : ℕ) → j + 1 < lengths → get_or l (j + 1) 0 ≡ get_or k j 0

-- the sum of k and o
pub record Adds (m : ℕ) (k o l : List ℕ) : Type 0 where
  pub at : (j : ℕ) → j < lengths → get_or l j 0 ≡ plus_of m (get_or k j 0) (get_or o j 0)

pub record Copies (k o : List ℕ) : Type 0 where
  pub same : (j : ℕ) → j < lengths → get_or o j 0 ≡ get_or k j 0

-- two lines, one way or the other
pub record Halved (l r few many : ℕ) : Type 0 where
  pub turned : Bool
  pub few_is : few ≡ cond turned r l
  pub many_is : many ≡ cond turned l r

-- one letter more
abbrev pub shifted : (ℕ → ℕ) → ℕ → ℕ
shifted W zero = 0
shifted W (suc r) = W r

-- n times what f puts before, or at once as W says, with one letter more each time
abbrev pub again : ((ℕ → ℕ) → ℕ → ℕ) → (ℕ → ℕ) → ℕ → ℕ → ℕ
again f W zero = λ r. 0
again f W (suc n) = shifted (λ r. W r + f (again f W n) r)

-- the ways to go on with r letters: a value of a type, then as W says
abbrev pub more : Ty → (ℕ → ℕ) → ℕ → ℕ
more tunit W = shifted W
more (tlist a) W = λ r. again (more a) W (suc r) r
more (tsum a b) W = shifted (λ r. more a W r + more b W r)
more (tprod a b) W = shifted (more a (more b W))

-- the parts of a type, of a list its element and itself; a unit where there are none
abbrev pub part_of : Tag → Ty → Ty
part_of t tunit = tunit
part_of left (tlist a) = a
part_of right (tlist a) = tlist a
part_of left (tsum a b) = a
part_of right (tsum a b) = b
part_of left (tprod a b) = a
part_of right (tprod a b) = b

-- the same for the values of a type that a pattern matches
abbrev pub more_in : Pat → Ty → (ℕ → ℕ) → ℕ → ℕ
more_in (pvar n) a W = more a W
more_in (pleaf l) a W = shifted W
more_in (pinj t p) a W = shifted (more_in p (part_of t a) W)
more_in (pnode k p q) a W = shifted (more_in p (part_of left a) (more_in q (part_of right a) W))

-- a P line of this kind has two parts, or it is neither a pair nor an element
pub record HasTwo (k : ℕ) (r : Bool) : Type 0 where
  pub joins : r ≡ true → Joins k
  pub no_pair : r ≡ false → k ≡ 4 → ⊥
  pub no_element : r ≡ false → k ≡ 6 → ⊥

-- ---- the nodes of a type at the places of an array, each with the places where a value can go on after its letter

-- `one` and `two` say so for the nodes of a type from a place on; behind it all goes on at `end`. A product's second part comes first
pub data Laid (one two : List ℕ) : Ty → ℕ → ℕ → Type 0 where
  of_unit : {at end : ℕ} → get_or one at 0 ≡ end → get_or two at 0 ≡ lengths → Laid one two tunit at end
  of_list : {a : Ty} {at end : ℕ} → get_or one at 0 ≡ at + 1 → get_or two at 0 ≡ end → Laid one two a (at + 1) at → Laid one two (tlist a) at end
  of_sum : {a b : Ty} {at end : ℕ} → get_or one at 0 ≡ at + 1 → get_or two at 0 ≡ at + 1 + type_nodes a → Laid one two a (at + 1) end
      → Laid one two b (at + 1 + type_nodes a) end → Laid one two (tsum a b) at end
  of_product : {a b : Ty} {at end : ℕ} → get_or one at 0 ≡ at + 1 + type_nodes b → get_or two at 0 ≡ lengths → Laid one two a (at + 1 + type_nodes b) (at + 1)
      → Laid one two b (at + 1) end → Laid one two (tprod a b) at end

-- a type laid where it fits, the places before it left; r is the place behind it
pub record Lays (a : Ty) (at end : ℕ) (one two one' two' : List ℕ) (r : ℕ) : Type 0 where
  pub laid : at + type_nodes a ≤ max_nodes → Laid one' two' a at end
  pub place : at + type_nodes a ≤ max_nodes → r ≡ at + type_nodes a
  pub kept : at + type_nodes a ≤ max_nodes → (j : ℕ) → j < at → (get_or one' j 0 ≡ get_or one j 0) × (get_or two' j 0 ≡ get_or two j 0)

-- one letter more: at each of n places the sum of the two that follow
pub record Steps (m : ℕ) (one two : List ℕ) (n : ℕ) (v u u' : List ℕ) : Type 0 where
  pub done : (x : ℕ) → x < n → get_or u' x 0 ≡ plus_of m (get_or v (get_or one x 0) 0) (get_or v (get_or two x 0) 0)
  pub kept : (x : ℕ) → n ≤ x → get_or u' x 0 ≡ get_or u x 0

-- the ways to go on from a place with r letters, those behind the type being W
abbrev pub flow : List ℕ → List ℕ → ℕ → (ℕ → ℕ) → ℕ → ℕ → ℕ
flow one two n W zero x = cond (eqb x max_nodes) (W 0) 0
flow one two n W (suc r) x =
    cond (eqb x max_nodes) (W (suc r)) (cond (ltb x n) (flow one two n W r (get_or one x 0) + flow one two n W r (get_or two x 0)) 0)

-- ---- contracts

-- the ways with a value of the type before, where it has at most 127 nodes
abbrev pub CountsType : ℕ → Ty → List ℕ → List ℕ → Type 0
CountsType m a k l = type_nodes a ≤ max_nodes → (W : ℕ → ℕ) → Holds m k W → Holds m l (more a W)

-- the same added to a sum
abbrev pub AddsType : ℕ → Ty → List ℕ → List ℕ → List ℕ → Type 0
AddsType m a w sum₀ sum = type_nodes a ≤ max_nodes → (W S : ℕ → ℕ) → Holds m w W → Holds m sum₀ S → Holds m sum (λ n. S n + more a W n)

-- the ways with a value before that a pattern matches
abbrev pub CountsIn : ℕ → Pat → Ty → List ℕ → List ℕ → Type 0
CountsIn m p a k l = type_nodes a ≤ max_nodes → (W : ℕ → ℕ) → Holds m k W → Holds m l (more_in p a W)

-- the ways from place 0
abbrev pub Flows : ℕ → List ℕ → List ℕ → ℕ → List ℕ → List ℕ → Type 0
Flows m one two n k l = (W : ℕ → ℕ) → Holds m k W → Holds m l (λ r. flow one two n W r 0)
