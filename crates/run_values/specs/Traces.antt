-- A reduction as the code makes it, application by application, up to what it gives or to where it stops: the clause's place, its let steps in
-- order, and what is measured on the way.
use Rattle.std.specs.Prelude.{ℕ, zero, suc, ◌+◌, ◌≤◌, ◌<◌, ◌≡◌, false, List, [], ◌∷◌, length}
use Rattle.std.proofs.Math.Option.{Option, none, some}
use Rattle.std.proofs.Math.ListN.{get_elem?}
use Rattle.limits.specs.Limits.{max_lets, max_letters}
use Rattle.calculus.specs.Trees.{Pat, Val, Let, Clause, Iso}
use Rattle.calculus.specs.Slots.{Slots, empty}
use Rattle.calculus.specs.Letters.{letters}
use Rattle.calculus.specs.Reduction.{bind, build}
use Rattle.run_values.specs.Texts.{alike}

-- a value whose letters fit, and one that is too large
abbrev pub Fitting : Val → Type 0
Fitting v = length (letters v) ≤ max_letters

abbrev pub Over : Val → Type 0
Over v = max_letters < length (letters v)

-- what applications come to: an iso, its argument, what it gives or nothing where it stops, and the applications until then
abbrev pub Calls : Type 1
Calls = ℕ → Val → Option Val → ℕ → Type 0

-- a let step: its q builds a value; its iso gives another of it, which its p binds, or stops
pub data LetTrace (call : Calls) (l : Let) (e : Slots Val) : Option (Slots Val) → ℕ → Type 0 where
  gives : {f g : Slots Val} {u w : Val} {m : ℕ} → build l.q e ≡ some (u, f) → call l.iso u (some w) m → bind l.p w f ≡ some g
      → LetTrace call l e (some g) m
  stops : {f : Slots Val} {u : Val} {m : ℕ} → build l.q e ≡ some (u, f) → call l.iso u none m → LetTrace call l e none m

-- the let steps of a clause, up to the first that stops
pub data LetsTrace (call : Calls) : List Let → Slots Val → Option (Slots Val) → ℕ → Type 0 where
  done : {e : Slots Val} → LetsTrace call [] e (some e) 0
  step : {l : Let} {ls : List Let} {e g : Slots Val} {x : Option (Slots Val)} {j k : ℕ} → LetTrace call l e (some g) j → LetsTrace call ls g x k
      → LetsTrace call (l ∷ ls) e x (j + k)
  stop : {l : Let} {ls : List Let} {e : Slots Val} {j : ℕ} → LetTrace call l e none j → LetsTrace call (l ∷ ls) e none j

-- what a right pattern comes to behind its let steps: "its result when it is there" is measured
pub data EndTrace (p : Pat) : Option (Slots Val) → Option Val → Type 0 where
  stopped : EndTrace p none none
  large : {e f : Slots Val} {w : Val} → build p e ≡ some (w, f) → Over w → EndTrace p (some e) none
  gives : {e f : Slots Val} {w : Val} → build p e ≡ some (w, f) → Fitting w → EndTrace p (some e) (some w)

-- an iso applied to v: the first clause of v's shape, its let steps, its right pattern
pub record ClauseTrace (call : Calls) (o : Iso) (v : Val) (x : Option Val) (m : ℕ) : Type 0 where
  pub place : ℕ
  pub clause : Clause
  pub chosen : get_elem? o.clauses place ≡ some clause
  pub before : (k : ℕ) (c : Clause) → k < place → get_elem? o.clauses k ≡ some c → alike c.lhs v ≡ false
  pub few : length clause.lets ≤ max_lets
  pub first : Slots Val
  pub bound : bind clause.lhs v (empty Val) ≡ some first
  pub last : Option (Slots Val)
  pub count : ℕ
  pub lets : LetsTrace call clause.lets first last count
  pub ends : EndTrace clause.rhs last x
  pub counts : suc count ≡ m

-- "its argument" is measured before that
pub data Applies (call : Calls) (os : List Iso) (i : ℕ) (v : Val) : Option Val → ℕ → Type 0 where
  large : Over v → Applies call os i v none 1
  runs : {x : Option Val} {m : ℕ} → Fitting v → (o : Iso) → get_elem? os i ≡ some o → ClauseTrace call o v x m → Applies call os i v x m

-- with calls nested at most d deep
abbrev pub Runs : ℕ → List Iso → Calls
Runs zero os i v x m = (x ≡ none) × (m ≡ 1)
Runs (suc d) os i v x m = Applies (Runs d os) os i v x m
