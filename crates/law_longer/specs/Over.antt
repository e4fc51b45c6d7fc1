-- "meets a file that only the new ceiling admits with 7": at the first C line that is the 33rd of its iso.
use Rattle.std.specs.Prelude.{ℕ, suc, Bool, false, cond, List, [], ◌∷◌, eqb}
use Rattle.std.proofs.Math.Option.{Option, none, some}
use Rattle.calculus.specs.Refusals.{Kind, type_line, pattern_line, iso_line, clause_line, let_line}
use Rattle.format.specs.Lines.{Row}
use Rattle.law_longer.specs.Former.{former_clauses}

-- whether a line below c C lines of its iso is the 33rd
abbrev pub is_over : Kind → ℕ → Bool
is_over type_line c = false
is_over pattern_line c = false
is_over iso_line c = false
is_over clause_line c = eqb c former_clauses
is_over let_line c = false

-- the C lines of an iso, with one line more: an I line begins another iso
abbrev pub clauses_after : Kind → ℕ → ℕ
clauses_after type_line c = c
clauses_after pattern_line c = c
clauses_after iso_line c = 0
clauses_after clause_line c = suc c
clauses_after let_line c = c

-- of the lines from number n on, below c C lines of the iso that is open
abbrev pub over_from : ℕ → ℕ → List Row → Option ℕ
over_from c n [] = none
over_from c n (r ∷ rs) = cond (is_over r.kind c) (some n) (over_from (clauses_after r.kind c) (suc n) rs)

-- its line, counted from 1
abbrev pub first_over : List Row → Option ℕ
first_over rs = over_from 0 1 rs
