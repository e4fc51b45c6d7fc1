-- "The reduction, given an iso and a closed value": what executes. `Paper` has the rules of Table 3, and a law says that they agree.
use Rattle.std.specs.Prelude.{ℕ, zero, suc, ◌+◌, Bool, true, List, [], ◌∷◌, length, leb}
use Rattle.std.proofs.Math.Option.{Option, none, some}
use Rattle.std.proofs.Math.ListN.{get_elem?}
use Rattle.calculus.specs.Tools.{◌>>=◌, guard, is_some, select}
use Rattle.calculus.specs.Trees.{Pat, pvar, pinj, Val, vinj, Let, Clause, Iso, same_tag, pleaf, pnode, vleaf, vnode, same_leaf, same_node}
use Rattle.calculus.specs.Slots.{Slots, put, get, empty, all_empty}
use Rattle.limits.specs.Limits.{max_depth, max_letters}
use Rattle.calculus.specs.Letters.{letters}

-- the variables of a pattern take their values from a closed value that the pattern matches
abbrev pub bind : Pat → Val → Slots Val → Option (Slots Val)
bind (pvar n) v e = put n v e
bind (pleaf l) (vleaf k) e = guard (same_leaf l k) >>= λ _. some e
bind (pleaf l) (vinj t v) e = none
bind (pleaf l) (vnode k v w) e = none
bind (pinj s p) (vleaf k) e = none
bind (pinj s p) (vinj t v) e = guard (same_tag s t) >>= λ _. bind p v e
bind (pinj s p) (vnode k v w) e = none
bind (pnode m p q) (vleaf k) e = none
bind (pnode m p q) (vinj t v) e = none
bind (pnode m p q) (vnode k v w) e = guard (same_node m k) >>= λ _. bind p v e >>= λ d. bind q w d

-- "put the values into" a pattern; each value is used up, those of a pair's second part first, so that this undoes `bind`
abbrev pub build : Pat → Slots Val → Option (Val × Slots Val)
build (pvar n) e = get n e
build (pleaf l) e = some (vleaf l, e)
build (pinj t p) e = build p e >>= λ r. some (vinj t r.0, r.1)
build (pnode k p q) e = build q e >>= λ r. build p r.1 >>= λ s. some (vnode k s.0 r.0, s.1)

-- what is given, if anything is, and the number of applications made until then
abbrev pub Counted : Type 0 → Type 0
Counted A = Option A × ℕ

abbrev pub given : {A : Type 0} → Option A → Counted A
given x = (x, 0)

abbrev pub going : {A B : Type 0} → Option A → ℕ → (A → Counted B) → Counted B
going none k f = (none, k)
going (some a) k f = let r = f a in (r.0, k + r.1)

infixl 20 ◌>>>◌
-- what f gives of what is given, with the applications of both; nothing, with those of the first, where it gives nothing
abbrev pub ◌>>>◌ : {A B : Type 0} → Counted A → (A → Counted B) → Counted B
x >>> f = going x.0 x.1 f

-- an iso applied to a closed value
abbrev pub Call : Type 0
Call = ℕ → Val → Counted Val

-- "For each L line in order, put the values into q, apply iso i to that, and match what comes out with p": the values then
abbrev pub run_lets : Call → List Let → Slots Val → Counted (Slots Val)
run_lets call [] e = (some e, 0)
run_lets call (l ∷ ls) e =
    given (build l.q e) >>> λ r.
    call l.iso r.0 >>> λ w.
    given (bind l.p w r.1) >>> λ d.
    run_lets call ls d

-- "What the iso gives is the right pattern with the values put in"
abbrev pub wholly : Val × Slots Val → Option Val
wholly r = guard (all_empty r.1) >>= λ _. some r.0

abbrev pub run_clause : Call → Clause → Val → Counted Val
run_clause call c v =
    given (bind c.lhs v (empty Val)) >>> λ e.
    run_lets call c.lets e >>> λ d.
    given (build c.rhs d >>= wholly)

-- "A clause matches a closed value"
abbrev pub hits : Val → Clause → Bool
hits v c = is_some (bind c.lhs v (empty Val))

-- "Take the clause that matches": the only one, so that nothing is given "where no clause matches, or several do"
abbrev pub only : List Clause → Option Clause
only [] = none
only (c ∷ []) = some c
only (c ∷ (d ∷ cs)) = none

abbrev pub apply : Call → Iso → Val → Counted Val
apply call o v = given (only (select (hits v) o.clauses)) >>> λ c. run_clause call c v

-- a value that a test lets pass
abbrev pub measured : (Val → Bool) → Val → Counted Val
measured fits v = given (guard (fits v) >>= λ _. some v)

abbrev pub applied : Call → List Iso → ℕ → Val → Counted Val
applied call os i v = given (get_elem? os i) >>> λ o. apply call o v

-- Iso i of a file applied to a closed value, with calls nested at most d deep and arguments and results that pass a test. "an application
-- is counted …, then its argument and depth are measured, its result when it is there"
abbrev pub reduce_to : (Val → Bool) → ℕ → List Iso → Call
reduce_to fits zero os i v = (none, 1)
reduce_to fits (suc d) os i v = (some v, 1) >>> measured fits >>> applied (reduce_to fits d os) os i >>> measured fits

-- "An argument or result of over 127 letters" does not pass
abbrev pub small : Val → Bool
small v = leb (length (letters v)) max_letters

-- the reduction of a run
unfoldable pub reduce : List Iso → Call
unfolding empty
reduce os = reduce_to small max_depth os

-- the reduction without ceilings, as far as calls nested d deep
unfoldable pub reduce_free : ℕ → List Iso → Call
unfolding empty
reduce_free d os = reduce_to (λ v. true) d os
