-- The least value of any two patterns, kept as letters while the pairs are gone through.
use Rattle.std.specs.Prelude.{ℕ, ◌≤◌, ◌≡◌, length, take, drop}
use Rattle.std.proofs.Math.Option.{Option, none, some}
use mathlib.Core.List.{List, [], ◌∷◌, Memᴰ}
use Rattle.limits.specs.Limits.{max_nodes}
use Rattle.calculus.specs.Trees.{Ty, Pat, Val, type_nodes}
use Rattle.calculus.specs.Letters.{letters}
use Rattle.model.specs.Services.{written}
use Rattle.table_trees.specs.Unfolding.{type_of, pattern_of}
use Rattle.table_walks.specs.InTable.{patterns_at}
use Rattle.calculus.specs.Shapes.{Shape}
use Rattle.law_witnesses.specs.Shapes.{Side}
use Rattle.law_witnesses.specs.Showing.{twice, setting}
use Rattle.calculus.specs.Paper.{Of}
use Rattle.law_witnesses.specs.Seeking.{better, in_both, fitting}

-- the first `best` bytes of an area are the letters of a value of the type; 0 stands for none
pub data Stored (a : Ty) : Option Val → List ℕ → ℕ → Type 0 where
  nothing : {out : List ℕ} {best : ℕ} → best ≡ 0 → Stored a none out best
  text : {v : Val} {out : List ℕ} {best : ℕ} → Of v a → best ≡ length (letters v) → take best out ≡ letters v → Stored a (some v) out best

pub record Adds (a : Ty) (p q : Pat) (out out' : List ℕ) (best best' : ℕ) : Type 0 where
  pub by : Shape p a → Shape q a → type_nodes a ≤ max_nodes → (x : Option Val) → Stored a x out best → Stored a (better (fitting (in_both a p q)) x) out' best'

abbrev pub gather : Ty → Pat → List Pat → Option Val → Option Val
gather a p [] x = x
gather a p (q ∷ qs) x = better (fitting (in_both a p q)) (gather a p qs x)

abbrev pub gather_all : Ty → List Pat → Option Val
gather_all a [] = none
gather_all a (p ∷ ps) = gather a p ps (gather_all a ps)

pub record AddsAll (a : Ty) (p : Pat) (qs : List Pat) (out out' : List ℕ) (best best' : ℕ) : Type 0 where
  pub by : Shape p a → ((q : Pat) → Memᴰ q qs → Shape q a) → type_nodes a ≤ max_nodes → (x : Option Val) → Stored a x out best → Stored a (gather a p qs x) out' best'

pub record Keeps (a : Ty) (ps : List Pat) (out : List ℕ) (best : ℕ) : Type 0 where
  pub by : ((p : Pat) → Memᴰ p ps → Shape p a) → type_nodes a ≤ max_nodes → Stored a (gather_all a ps) out best

-- "the value matched by two or more patterns (11, 12) … with the fewest letters, the first in byte order among those": its letters and their
-- number, for patterns that fit the type; 0 where there is none of at most 127 letters. What lies behind stays
pub record OverlapValue (a : Ty) (ps : List Pat) (out₀ out : List ℕ) (r : ℕ) : Type 0 where
  pub given : Side a ps → (v : Val) → setting a (twice ps) ≡ some v → (r ≡ length (letters v)) × (out ≡ written (letters v) out₀)
  pub nothing : Side a ps → setting a (twice ps) ≡ none → (r ≡ 0) × (out ≡ out₀)

-- ---- contracts: out is the area at entry, out' at exit, with `best` and r letters kept there

-- the first n bytes copied, the others left
abbrev pub FrontCopied : List ℕ → ℕ → List ℕ → List ℕ → Type 0
FrontCopied from n out out' = (take n out' ≡ take n from) × (drop n out' ≡ drop n out)

-- P lines p and q put to those kept for T line i
abbrev pub PairAdded : List ℕ → ℕ → ℕ → ℕ → ℕ → List ℕ → List ℕ → ℕ → ℕ → Type 0
PairAdded t base p q i out out' best r = Adds (type_of t i) (pattern_of t base p) (pattern_of t base q) out out' best r

-- P line p with each pattern in field f of the rows
abbrev pub RowAdded : List ℕ → ℕ → ℕ → ℕ → List ℕ → ℕ → List ℕ → List ℕ → ℕ → ℕ → Type 0
RowAdded t base p f rows i out out' best r =
    AddsAll (type_of t i) (pattern_of t base p) (patterns_at t base f rows) out out' best r

-- any two of the patterns in field f of the rows
abbrev pub PairsKept : List ℕ → ℕ → ℕ → List ℕ → ℕ → List ℕ → ℕ → Type 0
PairsKept t base f rows i out' r = Keeps (type_of t i) (patterns_at t base f rows) out' r
