-- Request 07's 20, "bad list", as a judgement: for each reason that the request gives, a list that has it.
use Rattle.std.specs.Prelude.{ℕ, ◌≤◌, ◌<◌, ◌≡◌, List, ◌∷◌, ◌++◌, length}
use Rattle.std.proofs.Math.Option.{some}
use Rattle.std.proofs.Math.ListN.{get_elem?}
use Rattle.limits.specs.Limits.{budget_bound, comma, max_clauses, max_pairs}
use Rattle.calculus.specs.Trees.{Ty}
use Rattle.format.specs.Lines.{Row, text, decimal}
use Rattle.law_ranking.specs.Numbering.{count, types_of}

-- a line `from,to`, with either ending: two decimal numbers of 32 bits
pub record Pair (l : List ℕ) (from to : ℕ) : Type 0 where
  pub printed : text l ≡ some (decimal from ++ (comma ∷ decimal to))
  pub from_fits : from < budget_bound
  pub to_fits : to < budget_bound

-- line k of a list, counted from 0, is such a line
pub record PairAt (ls : List (List ℕ)) (k from to : ℕ) : Type 0 where
  pub line : List ℕ
  pub there : get_elem? ls k ≡ some line
  pub pair : Pair line from to

-- "a line is of another form, the froms are not 0, 1, 2 and so on up to the counts of both types, or a to is repeated or too high"
pub data BadList (a b : Ty) (ls : List (List ℕ)) : Type 0 where
  form : (k : ℕ) → k < length ls → ((from to : ℕ) → PairAt ls k from to → ⊥) → BadList a b ls
  froms : (k from to : ℕ) → PairAt ls k from to → (from ≡ k → ⊥) → BadList a b ls
  counts : ((length ls ≡ count a) × (length ls ≡ count b) → ⊥) → BadList a b ls
  repeated : (j k from next to : ℕ) → j < k → PairAt ls j from to → PairAt ls k next to → BadList a b ls
  high : (k from to : ℕ) → PairAt ls k from to → count b ≤ to → BadList a b ls

-- where Import answers 20: both T lines are there (15), neither has over 4,096 values (18), the list has no more lines than an iso clauses (7), and it is bad
pub record BadImport (rs : List Row) (i j : ℕ) (ls : List (List ℕ)) : Type 0 where
  pub from : Ty
  pub to : Ty
  pub from_there : get_elem? (types_of rs) i ≡ some from
  pub to_there : get_elem? (types_of rs) j ≡ some to
  pub from_few : count from ≤ max_pairs
  pub to_few : count to ≤ max_pairs
  pub lines : length ls ≤ max_clauses
  pub bad : BadList from to ls
