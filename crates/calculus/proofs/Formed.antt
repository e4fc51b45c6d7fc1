-- What reading a file guarantees of the isos that its rows unfold to: every variable has a slot, no pattern passes the ceiling of left
-- and right nodes, and a let step names no later iso.
use Prim.Native.Nat.{ℕ, ◌<◌, ◌≤◌}
use mathlib.Core.Path.{◌≡◌}
use mathlib.Core.Option.{some}
use mathlib.Core.List.{List, Memᴰ}
use lib.ListN.{get_elem?}
use Rattle.limits.specs.Limits.{variables, max_tags}
use Rattle.calculus.specs.Trees.{Pat, Let, Clause, Iso, vars, tags}

pub record FormedPat (p : Pat) : Type 0 where
  pub slots : (n : ℕ) → Memᴰ n (vars p) → n < variables
  pub light : tags p ≤ max_tags

-- a let step of iso i
pub record FormedLet (i : ℕ) (l : Let) : Type 0 where
  pub p : FormedPat l.p
  pub q : FormedPat l.q
  pub earlier : l.iso ≤ i

pub record FormedClause (i : ℕ) (c : Clause) : Type 0 where
  pub lhs : FormedPat c.lhs
  pub lets : (l : Let) → Memᴰ l c.lets → FormedLet i l
  pub rhs : FormedPat c.rhs

abbrev pub Formed : List Iso → Type 0
Formed os = (i : ℕ) (o : Iso) → get_elem? os i ≡ some o → (c : Clause) → Memᴰ c o.clauses → FormedClause i c
