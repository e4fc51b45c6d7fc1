-- Patterns that hold only units and pairs: each fits one type only, which is found once.
use Rattle.std.specs.Prelude.{ℕ, suc, ◌+◌, ◌<◌, ◌≡◌, List, length, get_or}
use Rattle.calculus.specs.Trees.{Ty, tunit, tprod, Pat, pleaf, unit_leaf, pnode, pair_node}
use Rattle.table_trees.specs.Unfolding.{type_of, pattern_of}

-- a pattern of units and pairs, and its type
pub data Bare : Pat → Ty → Type 0 where
  unit : Bare (pleaf unit_leaf) tunit
  pair : {p q : Pat} {a b : Ty} → Bare p a → Bare q b → Bare (pnode pair_node p q) (tprod a b)

-- a number that is not 0 stands for a T line, one less, with this type
abbrev pub Stands : List ℕ → ℕ → Ty → Type 0
Stands t x a = (c : ℕ) → x ≡ suc c → type_of t c ≡ a

-- and for one with a type of units and pairs that a pattern has
abbrev pub Suits : List ℕ → ℕ → Pat → Type 0
Suits t x p = (c : ℕ) → x ≡ suc c → Bare p (type_of t c)

-- the marks of the T lines below n: 0, or an equal T line
pub record Types (t g : List ℕ) (n : ℕ) : Type 0 where
  pub types : (i : ℕ) → i < n → Stands t (get_or g i 0) (type_of t i)

-- and, from place `base` on, those of the P lines below n: 0, or the T line of their type
pub record Patterns (t : List ℕ) (base : ℕ) (g : List ℕ) (n : ℕ) : Type 0 where
  pub patterns : (j : ℕ) → j < n → Suits t (get_or g (base + j) 0) (pattern_of t base j)

-- the marks of all lines that they have a place for
pub record Bares (t : List ℕ) (base : ℕ) (g : List ℕ) : Type 0 where
  pub types : (i : ℕ) → i < base → i < length g → Stands t (get_or g i 0) (type_of t i)
  pub patterns : (j : ℕ) → base + j < length g → Suits t (get_or g (base + j) 0) (pattern_of t base j)

-- a T line that is the product of the lines that two marks stand for
abbrev pub Multiplies : List ℕ → Ty → ℕ → ℕ → Type 0
Multiplies t a x y = (c d : ℕ) → x ≡ suc c → y ≡ suc d → a ≡ tprod (type_of t c) (type_of t d)
