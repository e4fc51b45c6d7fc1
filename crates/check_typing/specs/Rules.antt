-- The variables rule, let shapes and typing of a clause, as the code tests them: by the state of each variable and by the types of
-- live variables. Laws say that these are the model's tests.
use Rattle.std.specs.Prelude.{◌<◌, Bool, true, false, ◌&&◌, replicate}
use Rattle.std.proofs.Math.Option.{Option, none, some}
use mathlib.Core.List.{List, [], ◌∷◌, Memᴰ}
use Rattle.std.proofs.Math.ListN.{get_elem?}
use Rattle.limits.specs.Limits.{variables}
use Rattle.calculus.specs.Tools.{all, first_failing}
use Rattle.calculus.specs.Trees.{Ty, Let, Clause}
use Rattle.calculus.specs.Refusals.{Refusal, clause_line, variable, let_shape, bad_type}
use Rattle.calculus.specs.Slots.{Slots}
use Rattle.calculus.specs.Clauses.{Event, events, plain, Sigs, used}
use Rattle.check_variables.specs.Marks.{mark_events, settled_all}
use Rattle.check_typing.specs.Fitting.{fit_all}

-- every variable of the clause has a slot
abbrev pub Slotted : Clause → Type 0
Slotted c = (v : Event) → Memᴰ v (events c) → v.name < variables

-- the variables rule, by the state of each number
unfoldable pub marked : Clause → Bool
marked c = settled_all (mark_events (events c) (replicate variables 0))

abbrev pub shaped : List Let → Bool
shaped ls = all (λ l. plain l.p && plain l.q) ls

-- typing, by the types of live variables
abbrev pub fit_let : Option (Ty × Ty) → Let → Option (Slots Ty) → Option (Slots Ty)
fit_let none l e = none
fit_let (some s) l e = fit_all true l.p s.1 (fit_all false l.q s.0 e)

abbrev pub fitted_lets : Sigs → List Let → Option (Slots Ty) → Option (Slots Ty)
fitted_lets sigs [] e = e
fitted_lets sigs (l ∷ ls) e = fitted_lets sigs ls (fit_let (get_elem? sigs l.iso) l e)

unfoldable pub fitted : Sigs → Ty → Ty → Clause → Bool
fitted sigs a b c = used (fit_all false c.rhs b (fitted_lets sigs c.lets (fit_all true c.lhs a (some (replicate variables none)))))

-- the lowest of 8 to 10 by these tests: the model's where every variable has a slot
abbrev pub tested_fault : Sigs → Ty → Ty → Clause → Option Refusal
tested_fault sigs a b c =
    first_failing ((marked c, variable clause_line) ∷ (shaped c.lets, let_shape clause_line) ∷ (fitted sigs a b c, bad_type clause_line) ∷ [])
