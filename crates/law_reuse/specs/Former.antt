-- The rule as it stood before request 03: "Within one clause each number is bound once and, after that, used once", and "some assignment
-- of types to the clause's variables", one for each number.
use Rattle.std.specs.Prelude.{ℕ, suc, Bool, true, false, cond, not, ◌||◌, List, [], ◌∷◌, ◌++◌, eqb}
use Rattle.std.proofs.Math.Option.{Option, none, some}
use Rattle.std.proofs.Math.ListN.{get_elem?}
use Rattle.calculus.specs.Tools.{◌>>=◌, guard, all, first_failing, first_of, or_else}
use Rattle.calculus.specs.Trees.{Ty, Pat, pvar, pleaf, pinj, pnode, Let, Clause, Iso, same_type, leaf_fits, beneath, parts}
use Rattle.calculus.specs.Refusals.{Refusal, clause_line, variable, let_shape, bad_type, too_long}
use Rattle.calculus.specs.Clauses.{Deed, binds, uses, events, history, let_shapes, Sigs, sigs_of, recursion_fault, side_fault, at}
use Rattle.format.specs.Lines.{lines}
use Rattle.format.specs.Judge.{Reading, rows, faulty, start, judge, read_from}
use Rattle.format.specs.Unfold.{isos_of}
use Rattle.format.specs.Idle.{idle_fault}
use Rattle.model.specs.Services.{Verdict, refused, judged, over}

-- 8. "each number is bound once and, after that, used once"
abbrev pub once : List Deed → Bool
once [] = false
once (uses ∷ ds) = false
once (binds ∷ []) = false
once (binds ∷ (binds ∷ ds)) = false
once (binds ∷ (uses ∷ [])) = true
once (binds ∷ (uses ∷ (d ∷ ds))) = false

unfoldable pub once_rule : Clause → Bool
once_rule c = all (λ v. once (history v.name (events c))) (events c)

-- 10. The type that each variable of a pattern must have if the pattern is to fit a type: nothing where it cannot.
abbrev pub Demands : Type 0
Demands = List (ℕ × Ty)

abbrev pub joined : Option Demands → Option Demands → Option Demands
joined a b = a >>= λ xs. b >>= λ ys. some (xs ++ ys)

abbrev pub fit : Pat → Ty → Option Demands
fit (pvar n) a = some ((n, a) ∷ [])
fit (pleaf l) a = guard (leaf_fits l a) >>= λ _. some []
fit (pinj t p) a = beneath t a >>= λ b. fit p b
fit (pnode k p q) a = parts k a >>= λ s. joined (fit p s.0) (fit q s.1)

-- "each q and p the from- and to-type of its iso"
abbrev pub fit_lets : Sigs → List Let → Option Demands
fit_lets sigs [] = some []
fit_lets sigs (l ∷ ls) =
    get_elem? sigs l.iso >>= λ s. joined (fit l.q s.0) (joined (fit l.p s.1) (fit_lets sigs ls))

abbrev pub demands : Sigs → Ty → Ty → Clause → Option Demands
demands sigs a b c = joined (fit c.lhs a) (joined (fit_lets sigs c.lets) (fit c.rhs b))

-- one type for each number
abbrev pub alike : ℕ × Ty → ℕ × Ty → Bool
alike d e = not (eqb d.0 e.0) || same_type d.1 e.1

abbrev pub agree : Demands → Bool
agree ds = all (λ d. all (alike d) ds) ds

abbrev pub agreeing : Option Demands → Bool
agreeing none = false
agreeing (some ds) = agree ds

unfoldable pub typed_once : Sigs → Ty → Ty → Clause → Bool
typed_once sigs a b c = agreeing (demands sigs a b c)

-- the refusals of clauses, isos and files by these tests; 9, 11 to 14 and 23 are those of today
unfoldable pub clause_fault : Sigs → Ty → Ty → Clause → Option Refusal
unfolding once_rule let_shapes typed_once
clause_fault sigs a b c =
    first_failing ((once_rule c, variable clause_line) ∷ (let_shapes c, let_shape clause_line) ∷ (typed_once sigs a b c, bad_type clause_line) ∷ [])

unfoldable pub iso_fault : Sigs → ℕ → Iso → Option (Refusal × ℕ)
unfolding clause_fault recursion_fault side_fault
iso_fault sigs i o =
    or_else (first_of (λ c. at c.line (clause_fault sigs o.from o.to c)) o.clauses) (or_else (recursion_fault i o) (at o.line (side_fault o)))

abbrev pub fault_from : Sigs → ℕ → List Iso → Option (Refusal × ℕ)
fault_from sigs i [] = none
fault_from sigs i (o ∷ os) = or_else (iso_fault sigs i o) (fault_from sigs (suc i) os)

unfoldable pub fault : List Iso → Option (Refusal × ℕ)
unfolding iso_fault
fault os = fault_from (sigs_of os) 0 os

-- all else is as it is today, idle lines included
abbrev pub after_reading : Reading → Verdict
after_reading (faulty f n) = refused f n
after_reading (rows rs) = judged rs (or_else (idle_fault rs) (fault (isos_of rs)))

unfoldable pub former : List ℕ → Verdict
unfolding over start judge idle_fault isos_of fault
former bs = cond (over bs) (refused too_long 0) (after_reading (read_from start 1 (lines bs)))
