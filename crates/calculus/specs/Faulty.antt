-- Refusals 8 to 14 and 23 as judgements, in the stated order ("Only then the isos in order: each clause in order, lowest of 8 to 10, then the iso",
-- 23 and the "lowest of 11 to 14."), and what is reached.
use Rattle.std.specs.Prelude.{ℕ, suc, ◌≡◌}
use mathlib.Core.List.{List, ◌∷◌, Memᴰ}
use Rattle.calculus.specs.Trees.{Ty, Val, Clause, Iso, left, right}
use Rattle.calculus.specs.Refusals.{Refusal, clause_line, iso_line, variable, let_shape, bad_type, overlap, gap, recursion}
use Rattle.calculus.specs.Terms.{Steps, eapp, val_term}
use Rattle.calculus.specs.Clauses.{Sigs, lefts, rights}
use Rattle.calculus.specs.Paper.{BoundThenUsed, LetProducts, Linear, Of, Apart, Covers, Zoned, ShowsThere, Recursion, ClauseOk, IsoOk}

-- 8 "variables rule broken", 9 "left or right in a let pattern", 10 "no such assignment" (of types to bindings: the crate `law_reuse`)
pub data ClauseFault (sigs : Sigs) (a b : Ty) (c : Clause) : Refusal → Type 0 where
  variables : ¬ BoundThenUsed c → ClauseFault sigs a b c (variable clause_line)
  shapes : BoundThenUsed c → ¬ LetProducts c → ClauseFault sigs a b c (let_shape clause_line)
  types : BoundThenUsed c → LetProducts c → ¬ Linear sigs a b c → ClauseFault sigs a b c (bad_type clause_line)

-- 11 and 12 "two left (right) patterns are not orthogonal", 13 and 14 "left (right) patterns do not cover"
pub data SideFault (o : Iso) : Refusal → Type 0 where
  overlap_left : ¬ Apart (lefts o) → SideFault o (overlap iso_line left)
  overlap_right : Apart (lefts o) → ¬ Apart (rights o) → SideFault o (overlap iso_line right)
  gap_left : Apart (lefts o) → Apart (rights o) → ¬ Covers o.from (lefts o) → SideFault o (gap iso_line left)
  gap_right : Apart (lefts o) → Apart (rights o) → Covers o.from (lefts o) → ¬ Covers o.to (rights o) → SideFault o (gap iso_line right)

-- the first faulty clause, at its C line
pub data FirstClause (sigs : Sigs) (a b : Ty) : List Clause → Refusal → ℕ → Type 0 where
  here : {c : Clause} {cs : List Clause} {f : Refusal} {n : ℕ} → ClauseFault sigs a b c f → n ≡ c.line → FirstClause sigs a b (c ∷ cs) f n
  later : {c : Clause} {cs : List Clause} {f : Refusal} {n : ℕ} → ClauseOk sigs a b c → FirstClause sigs a b cs f n → FirstClause sigs a b (c ∷ cs) f n

-- 23 "at the I line where the from-type is neither, otherwise at the first C line that breaks the rule as written"
pub data FirstBreach (i : ℕ) : List Clause → ℕ → Type 0 where
  here : {c : Clause} {cs : List Clause} {n : ℕ} → ¬ ShowsThere i c.lets c.lhs → n ≡ c.line → FirstBreach i (c ∷ cs) n
  later : {c : Clause} {cs : List Clause} {n : ℕ} → ShowsThere i c.lets c.lhs → FirstBreach i cs n → FirstBreach i (c ∷ cs) n

pub data Breach (i : ℕ) (o : Iso) : Refusal → ℕ → Type 0 where
  in_type : {n : ℕ} → ¬ Zoned o.from → n ≡ o.line → Breach i o (recursion iso_line) n
  in_clause : {n : ℕ} → Zoned o.from → FirstBreach i o.clauses n → Breach i o (recursion clause_line) n

-- a faulty iso: in its clauses, and only then in its recursion, and only then in its sides, at its I line
pub data IsoFault (sigs : Sigs) (i : ℕ) (o : Iso) : Refusal → ℕ → Type 0 where
  in_clause : {f : Refusal} {n : ℕ} → FirstClause sigs o.from o.to o.clauses f n → IsoFault sigs i o f n
  in_recursion : {f : Refusal} {n : ℕ} → ((c : Clause) → Memᴰ c o.clauses → ClauseOk sigs o.from o.to c) → ¬ Recursion i o → Breach i o f n
      → IsoFault sigs i o f n
  in_sides : {f : Refusal} {n : ℕ} → ((c : Clause) → Memᴰ c o.clauses → ClauseOk sigs o.from o.to c) → Recursion i o → SideFault o f
      → n ≡ o.line → IsoFault sigs i o f n

-- the first faulty iso, numbered from i on
pub data FirstIso (sigs : Sigs) : ℕ → List Iso → Refusal → ℕ → Type 0 where
  here : {i : ℕ} {o : Iso} {os : List Iso} {f : Refusal} {n : ℕ} → IsoFault sigs i o f n → FirstIso sigs i (o ∷ os) f n
  later : {i : ℕ} {o : Iso} {os : List Iso} {f : Refusal} {n : ℕ} → IsoOk sigs i o → FirstIso sigs (suc i) os f n → FirstIso sigs i (o ∷ os) f n

-- "every value of the to-type is reached from exactly one value of the from-type": w is what `source` reduces to, and no other closed value does
pub record ReachedOnce (os : List Iso) (i : ℕ) (o : Iso) (w : Val) : Type 0 where
  pub source : Val
  pub typed : Of source o.from
  pub count : ℕ
  pub reduces : Steps os (eapp i (val_term source)) (val_term w) count
  pub one : (v : Val) (k : ℕ) → Of v o.from → Steps os (eapp i (val_term v)) (val_term w) k → v ≡ source

-- "the reduction that way ends": the steps of Table 3, without ceilings, lead to a closed value of the to-type
pub record Ends (os : List Iso) (i : ℕ) (o : Iso) (v : Val) : Type 0 where
  pub result : Val
  pub count : ℕ
  pub reduces : Steps os (eapp i (val_term v)) (val_term result) count
  pub typed : Of result o.to
