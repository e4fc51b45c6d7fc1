-- The terms of section 3.1 and the reduction rules Cong, LetE and IsoApp of Table 3, with the number of IsoApp steps. An iso is named
-- by its number in the file.
use Rattle.std.specs.Prelude.{ℕ, ◌+◌, ◌≡◌, refl, cond, eqb}
use Rattle.std.proofs.Math.Option.{Option, none, some}
use mathlib.Core.List.{List, [], ◌∷◌, Memᴰ}
use Rattle.std.proofs.Math.ListN.{get_elem?}
use Rattle.calculus.specs.Trees.{Tag, Pat, pvar, pinj, Val, vinj, Let, Clause, Iso, vars, Leaf, unit_leaf, Node, pleaf, pnode, vleaf, vnode}
use Rattle.calculus.specs.Paper.{Valuation, Matches}

-- t ::= () | x | inj t | ⟨t₁, t₂⟩ | ω t | let p = t₁ in t₂, and [] | t₁ : t₂
pub data Term : Type 0 where
  evar : ℕ → Term
  eleaf : Leaf → Term
  einj : Tag → Term → Term
  enode : Node → Term → Term → Term
  eapp : ℕ → Term → Term
  elet : Pat → Term → Term → Term

abbrev pub pat_term : Pat → Term
pat_term (pvar n) = evar n
pat_term (pleaf l) = eleaf l
pat_term (pinj t p) = einj t (pat_term p)
pat_term (pnode k p q) = enode k (pat_term p) (pat_term q)

abbrev pub val_term : Val → Term
val_term (vleaf l) = eleaf l
val_term (vinj t v) = einj t (val_term v)
val_term (vnode k v w) = enode k (val_term v) (val_term w)

-- a clause's right side: let p₁ = ω₁ q₁ in … in v
abbrev pub chain : List Let → Pat → Term
chain [] r = pat_term r
chain (l ∷ ls) r = elet l.p (eapp l.iso (pat_term l.q)) (chain ls r)

-- the value of a variable under a valuation
abbrev pub look : Valuation → ℕ → Option Val
look [] n = none
look (b ∷ σ) n = cond (eqb n b.0) (some b.1) (look σ n)

abbrev pub or_var : ℕ → Option Val → Term
or_var n none = evar n
or_var n (some v) = val_term v

-- a valuation without the numbers that a let binds anew
abbrev pub without : List ℕ → (ℕ → Option Val) → ℕ → Option Val
without [] f n = f n
without (m ∷ ms) f n = cond (eqb n m) none (without ms f n)

-- σ(t): "the variables … have been replaced with the corresponding values". What stands behind a let under a number of its p is that let's
-- binding, another one than σ's (request 03: a number may be used again), and is not replaced. Values are closed, so no let captures what is put in.
abbrev pub replace : (ℕ → Option Val) → Term → Term
replace f (evar n) = or_var n (f n)
replace f (eleaf l) = eleaf l
replace f (einj t u) = einj t (replace f u)
replace f (enode k t u) = enode k (replace f t) (replace f u)
replace f (eapp i t) = eapp i (replace f t)
replace f (elet p t u) = elet p (replace f t) (replace (without (vars p) f) u)

-- let x = ω x in x: the x that ω gets is replaced, the x behind the let is not
used_again : replace (look ((0, vleaf unit_leaf) ∷ [])) (elet (pvar 0) (eapp 0 (evar 0)) (evar 0)) ≡ elet (pvar 0) (eapp 0 (eleaf unit_leaf)) (evar 0)
used_again = refl

-- Table 3. The number is 1 for IsoApp and 0 for LetE; "the value given is matched", not the right side. The other rules are Cong, one
-- for each applicative context C[-].
pub data Step (os : List Iso) : Term → Term → ℕ → Type 0 where
  iso_app : {i : ℕ} {t u : Term} (o : Iso) (c : Clause) (v : Val) (σ : Valuation) → get_elem? os i ≡ some o → Memᴰ c o.clauses
      → t ≡ val_term v → Matches σ c.lhs v → u ≡ replace (look σ) (chain c.lets c.rhs) → Step os (eapp i t) u 1
  let_e : {p : Pat} {t u u' : Term} (v : Val) (σ : Valuation) → t ≡ val_term v → Matches σ p v → u' ≡ replace (look σ) u → Step os (elet p t u) u' 0
  in_inj : {s : Tag} {t t' : Term} {k : ℕ} → Step os t t' k → Step os (einj s t) (einj s t') k
  in_fst : {m : Node} {t t' u : Term} {k : ℕ} (w : Val) → u ≡ val_term w → Step os t t' k → Step os (enode m t u) (enode m t' u) k
  in_snd : {m : Node} {t u u' : Term} {k : ℕ} (v : Val) → t ≡ val_term v → Step os u u' k → Step os (enode m t u) (enode m t u') k
  in_app : {i : ℕ} {t t' : Term} {k : ℕ} → Step os t t' k → Step os (eapp i t) (eapp i t') k
  in_let : {p : Pat} {t t' u : Term} {k : ℕ} → Step os t t' k → Step os (elet p t u) (elet p t' u) k

-- →* with the number of IsoApp steps
pub data Steps (os : List Iso) : Term → Term → ℕ → Type 0 where
  still : {t u : Term} {k : ℕ} → t ≡ u → k ≡ 0 → Steps os t u k
  more : {t u w : Term} {j k m : ℕ} → Step os t u j → Steps os u w k → m ≡ j + k → Steps os t w m
