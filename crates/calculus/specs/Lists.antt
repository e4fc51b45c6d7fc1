-- Request 14: which types hold a list, and which isos have to do with one. "Reqs 02, 05, 07 and 12 refuse 18 where a type they are given, or a type
-- of the iso or of one it calls, holds a list."
use Rattle.std.specs.Prelude.{ℕ, ◌≡◌, Bool, true, false, ◌&&◌, List, [], ◌∷◌, ◌++◌, get_or}
use Rattle.std.proofs.Math.Option.{some}
use Rattle.std.proofs.Math.ListN.{get_elem?}
use Rattle.calculus.specs.Tools.{all}
use Rattle.calculus.specs.Trees.{Ty, tunit, tlist, tsum, tprod, unit_leaf, Tag, pair_node, Pat, pvar, pleaf, pinj, pnode, Iso}
use Rattle.calculus.specs.Paper.{Reaches}

-- the type holds no list
abbrev pub list_free : Ty → Bool
list_free tunit = true
list_free (tlist a) = false
list_free (tsum a b) = list_free a && list_free b
list_free (tprod a b) = list_free a && list_free b

-- no type of the iso, and none of an iso that it reaches, holds one: `known` says so of the earlier isos, and a let step that names its own iso adds
-- nothing
abbrev pub free_iso : List Bool → Iso → Bool
free_iso known o = (list_free o.from && list_free o.to) && all (λ c. all (λ l. get_or known l.iso true) c.lets) o.clauses

-- the isos in order, behind those known already
abbrev pub free_from : List Bool → List Iso → List Bool
free_from known [] = known
free_from known (o ∷ os) = free_from (known ++ (free_iso known o ∷ [])) os

unfoldable pub free_isos : List Iso → List Bool
free_isos os = free_from [] os

-- iso i of a file, by number
abbrev pub is_free : List Iso → ℕ → Bool
is_free os i = get_or (free_isos os) i true

-- the same as judgements
pub data Finite : Ty → Type 0 where
  unit : Finite tunit
  sum : {a b : Ty} → Finite a → Finite b → Finite (tsum a b)
  product : {a b : Ty} → Finite a → Finite b → Finite (tprod a b)

-- the pattern holds neither an empty list nor an element before a list
pub data Listless : Pat → Type 0 where
  var : {n : ℕ} → Listless (pvar n)
  unit : Listless (pleaf unit_leaf)
  inj : {t : Tag} {p : Pat} → Listless p → Listless (pinj t p)
  pair : {p q : Pat} → Listless p → Listless q → Listless (pnode pair_node p q)

abbrev pub ListFree : List Iso → ℕ → Type 0
ListFree os i = (j : ℕ) (o : Iso) → Reaches os i j → get_elem? os j ≡ some o → Finite o.from × Finite o.to
