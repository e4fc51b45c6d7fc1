-- Flat patterns for the P lines of a table. Number 0 says for how many lines, number 1 + j what stands for line j: nothing, a variable, or the
-- place of its flat pattern, behind all of these numbers.
use Rattle.std.specs.Prelude.{ℕ, suc, ◌+◌, ◌≤◌, ◌<◌, ◌≡◌, Bool, cond, List, [], ◌∷◌, ◌++◌, Option, Some, None, ltb, length, get_or, set, take}
use Rattle.std.proofs.lemmas.List.Edits.{sets}
use Rattle.limits.specs.Limits.{max_patterns, variables, word_bound}
use Rattle.calculus.specs.Trees.{Pat, pvar, Val}
use Rattle.calculus.specs.Letters.{letters}
use Rattle.table_trees.specs.Unfolding.{pattern_of}
use Rattle.run_values.specs.Texts.{At, alike, ranges}
use Rattle.run_flat.specs.Flat.{flat, Few, stop, Stands}

-- the number for line j
abbrev pub entry_of : List ℕ → ℕ → ℕ
entry_of code j = cond (ltb j (get_or code 0 0)) (get_or code (suc j) 0) 0

-- what a number stands for
pub data Entry (code : List ℕ) (p : Pat) (d : ℕ) : Type 0 where
  uncoded : d ≡ 0 → Entry code p d
  variable : (n : ℕ) → n < variables → d ≡ suc n → p ≡ pvar n → Entry code p d
  coded : variables < d → Stands code d p → Entry code p d

pub record Coded (t : List ℕ) (base : ℕ) (code : List ℕ) : Type 0 where
  pub entries : (j : ℕ) → Entry code (pattern_of t base j) (entry_of code j)

-- ---- contracts of what writes them

-- the place behind the lines' numbers
abbrev pub listed : ℕ
listed = suc max_patterns

-- numbers stored one after the other from a place on, r being the place behind them
pub record Stored (bs code code' : List ℕ) (at r : ℕ) : Type 0 where
  pub before : take at code' ≡ take at code
  pub area : code' ≡ sets code at bs
  pub place : r ≡ at + length bs
  pub fits : r ≤ length code
  pub near : r < word_bound

-- one number stored at a place, where there is room
abbrev pub NumberPut : List ℕ → List ℕ → ℕ → ℕ → Option ℕ → Type 0
NumberPut code code' at v None = take at code' ≡ take at code
NumberPut code code' at v (Some r) = Stored (v ∷ []) code code' at r

-- a pattern's numbers, where there is room
abbrev pub Flattened : Pat → List ℕ → List ℕ → ℕ → Option ℕ → Type 0
Flattened p code code' at None = take at code' ≡ take at code
Flattened p code code' at (Some r) = Stored (flat p) code code' at r × Few p

-- and the number behind its last one
abbrev pub Stopped : Pat → List ℕ → List ℕ → ℕ → Option ℕ → Type 0
Stopped p code code' at None = take at code' ≡ take at code
Stopped p code code' at (Some r) = Stored (flat p ++ (stop ∷ [])) code code' at r × Few p

-- what a line's number stands for, by the numbers before a place
pub data Listed (code : List ℕ) (at : ℕ) (p : Pat) (d : ℕ) : Type 0 where
  nothing : d ≡ 0 → Listed code at p d
  one : (n : ℕ) → n < variables → d ≡ suc n → p ≡ pvar n → Listed code at p d
  many : listed ≤ d → Stands (take at code) d p → Listed code at p d

-- line j gets its number
pub record LineCoded (p : Pat) (j : ℕ) (code code' : List ℕ) (at next : ℕ) : Type 0 where
  pub onward : at ≤ next
  pub area : List ℕ
  pub value : ℕ
  pub before : take at area ≡ take at code
  pub stored : code' ≡ set area (suc j) value
  pub entry : Listed code' next p (get_or code' (suc j) 0)

-- ---- contract of what reads them

-- P line j matched with the value from a place up to `end`
abbrev pub MatchSays : List ℕ → ℕ → List ℕ → ℕ → List ℕ → ℕ → ℕ → List ℕ → List ℕ → Bool → Type 0
MatchSays t base code j s at end vars vars' r =
    Coded t base code → (v : Val) → At s at v → end ≡ at + length (letters v)
    → (r ≡ alike (pattern_of t base j) v) × (vars' ≡ ranges (pattern_of t base j) v at vars)
