-- Document 01's typing, "some assignment of types to the clause's variables", as request 03 amends it: "Each binding has its own type".
use Rattle.std.specs.Prelude.{ℕ, ◌≡◌}
use Rattle.std.proofs.Math.Option.{some}
use mathlib.Core.List.{List, [], ◌∷◌, Memᴰ}
use Rattle.std.proofs.Math.ListN.{get_elem?}
use Rattle.calculus.specs.Trees.{Ty, tunit, tlist, tsum, tprod, Tag, Pat, pvar, pleaf, pinj, pnode, unit_leaf, empty_leaf, pair_node, element_node, Let, Clause, part, vars}
use Rattle.calculus.specs.Clauses.{Sigs}

-- a pattern fits a type where each number n has the type Γ n
pub data Under (Γ : ℕ → Ty) : Pat → Ty → Type 0 where
  unit : Under Γ (pleaf unit_leaf) tunit
  nil : {a : Ty} → Under Γ (pleaf empty_leaf) (tlist a)
  var : {n : ℕ} {a : Ty} → Γ n ≡ a → Under Γ (pvar n) a
  inj : {t : Tag} {p : Pat} {a b : Ty} → Under Γ p (part t a b) → Under Γ (pinj t p) (tsum a b)
  pair : {p q : Pat} {a b : Ty} → Under Γ p a → Under Γ q b → Under Γ (pnode pair_node p q) (tprod a b)
  cons : {p q : Pat} {a : Ty} → Under Γ p a → Under Γ q (tlist a) → Under Γ (pnode element_node p q) (tlist a)

-- Let steps and the right pattern, where Γ n is the type of the last binding of n: "each q and p" fits "the from- and to-type of its
-- iso", and Δ, after p is bound, has types of their own for the numbers of p and for every other number the one it had.
pub data Along (sigs : Sigs) : (ℕ → Ty) → List Let → Pat → Ty → Type 0 where
  value : {Γ : ℕ → Ty} {r : Pat} {b : Ty} → Under Γ r b → Along sigs Γ [] r b
  step : {Γ : ℕ → Ty} {l : Let} {ls : List Let} {r : Pat} {b : Ty} (s : Ty × Ty) (Δ : ℕ → Ty) → get_elem? sigs l.iso ≡ some s
      → Under Γ l.q s.0 → Under Δ l.p s.1 → ((n : ℕ) → (Memᴰ n (vars l.p) → ⊥) → Δ n ≡ Γ n)
      → Along sigs Δ ls r b → Along sigs Γ (l ∷ ls) r b

-- "some assignment of types": Γ to the bindings of the left pattern, and each Δ to those of its p
pub record Assigned (sigs : Sigs) (a b : Ty) (c : Clause) : Type 0 where
  pub Γ : ℕ → Ty
  pub lhs : Under Γ c.lhs a
  pub rest : Along sigs Γ c.lets c.rhs b
