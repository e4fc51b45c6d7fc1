-- The state of each variable number while a clause is walked: 0 not live, 1 live, 2 out of order.
use Rattle.std.specs.Prelude.{ℕ, zero, suc, Bool, true, false, List, [], ◌∷◌, eqb, get_or, set}
use Rattle.calculus.specs.Tools.{all}
use Rattle.calculus.specs.Clauses.{Deed, binds, uses, Event}

abbrev pub deed_view : Bool → Deed
deed_view true = binds
deed_view false = uses

-- one deed more: bound where not live, used where live, else out of order
abbrev pub next_state : Deed → ℕ → ℕ
next_state binds zero = 1
next_state binds (suc s) = 2
next_state uses zero = 2
next_state uses (suc zero) = 0
next_state uses (suc (suc s)) = 2

abbrev pub mark_one : Deed → ℕ → List ℕ → List ℕ
mark_one d n m = set m n (next_state d (get_or m n 0))

-- the same deed for each number of a list
abbrev pub mark_all : Deed → List ℕ → List ℕ → List ℕ
mark_all d [] m = m
mark_all d (n ∷ ns) m = mark_all d ns (mark_one d n m)

-- a list of events
abbrev pub mark_events : List Event → List ℕ → List ℕ
mark_events [] m = m
mark_events (v ∷ vs) m = mark_events vs (mark_one v.deed v.name m)

-- every number is 0: no variable is live or out of order
abbrev pub settled_all : List ℕ → Bool
settled_all m = all (λ s. eqb s 0) m
