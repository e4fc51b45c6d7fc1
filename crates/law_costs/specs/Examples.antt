-- Request 05 by computation: file S of document 01, and numbers at 4,294,967,295, one below and one above.
use Rattle.std.specs.Prelude.{ℕ, zero, suc, ◌≡◌, refl, true, false, List, [], ◌∷◌, ◌++◌, map}
use Rattle.std.proofs.Math.Option.{some}
use Rattle.std.proofs.Math.ListN.{get_elem?}
use Rattle.calculus.specs.Trees.{tunit, pleaf, unit_leaf, Clause, Iso}
use Rattle.calculus.specs.Lists.{free_isos}
use Rattle.model.specs.Cases.{file_s}
use Rattle.law_costs.specs.Costs.{least_of, greatest_of, clause_cost, least_costs, greatest_costs}
use Rattle.law_costs.specs.Bounds.{Bounds, bounds_from, on_iso, bounds}

-- S's first iso takes one application, its second one or two, and it has no third.
bounds_of_S : (bounds file_s 0 ≡ record { number = 0; least = 1; greatest = 1; least_over = false; greatest_over = false })
    × (bounds file_s 1 ≡ record { number = 0; least = 1; greatest = 2; least_over = false; greatest_over = false })
    × (bounds file_s 2 ≡ record { number = 15; least = 0; greatest = 0; least_over = false; greatest_over = false })
unfolding bounds
bounds_of_S = (refl, refl, refl)

-- a clause and an iso from unit to unit, whose let steps name these isos
abbrev calling : List ℕ → Clause
calling js = record { line = 0; lhs = pleaf unit_leaf; lets = map (λ j. record { p = pleaf unit_leaf; iso = j; q = pleaf unit_leaf }) js; rhs = pleaf unit_leaf }

abbrev one : List ℕ → Iso
one js = record { line = 0; from = tunit; to = tunit; clauses = calling js ∷ [] }

-- the first 31 isos: iso 0 has no let steps, each other calls the one before it twice, so that iso i needs 2^(i+1) - 1
abbrev doubling : ℕ → List Iso
doubling zero = []
doubling (suc zero) = one [] ∷ []
doubling (suc (suc n)) = doubling (suc n) ++ (one (n ∷ n ∷ []) ∷ [])

-- the answer for iso 31 behind them, whose let steps name these
abbrev asked : List ℕ → Bounds
asked js = bounds_from (on_iso (doubling 31 ++ (one js ∷ [])) 31 (get_elem? (doubling 31 ++ (one js ∷ [])) 31))

one_below : asked (30 ∷ 29 ∷ 29 ∷ []) ≡ record { number = 0; least = 4294967294; greatest = 4294967294; least_over = false; greatest_over = false }
unfolding least_costs greatest_costs free_isos
one_below = refl

exactly : asked (30 ∷ 30 ∷ []) ≡ record { number = 0; least = 4294967295; greatest = 4294967295; least_over = false; greatest_over = false }
unfolding least_costs greatest_costs free_isos
exactly = refl

one_above : asked (30 ∷ 30 ∷ 0 ∷ []) ≡ record { number = 0; least = 4294967295; greatest = 4294967295; least_over = true; greatest_over = true }
unfolding least_costs greatest_costs free_isos
one_above = refl

-- clauses of 1 and of 2 below an iso that calls them twice: 1 + 1 + 1 and 1 + 2 + 2
two_clauses : bounds_from (on_iso
    (one [] ∷ record { line = 0; from = tunit; to = tunit; clauses = calling [] ∷ calling (0 ∷ []) ∷ [] } ∷ one (1 ∷ 1 ∷ []) ∷ [])
    2
    (get_elem? (one [] ∷ []) 0))
    ≡ record { number = 0; least = 3; greatest = 5; least_over = false; greatest_over = false }
unfolding least_costs greatest_costs free_isos
two_clauses = refl

-- the least and the greatest of some numbers; "A clause needs 1 plus the sum over its let steps"; 0 stands where there is no number
of_numbers : (map least_of ([] ∷ (4 ∷ []) ∷ (4 ∷ 2 ∷ 3 ∷ []) ∷ (2 ∷ 4 ∷ 3 ∷ []) ∷ []) ≡ 0 ∷ 4 ∷ 2 ∷ 2 ∷ [])
    × (map greatest_of ([] ∷ (4 ∷ []) ∷ (3 ∷ 4 ∷ 2 ∷ []) ∷ (2 ∷ 3 ∷ 4 ∷ []) ∷ []) ≡ 0 ∷ 4 ∷ 4 ∷ 4 ∷ [])
    × (clause_cost (5 ∷ 7 ∷ []) (calling (1 ∷ 0 ∷ 1 ∷ 2 ∷ [])) ≡ 20)
of_numbers = (refl, refl, refl)

no_number : bounds_from (on_iso [] 0 (some (one []))) ≡ record { number = 0; least = 0; greatest = 0; least_over = false; greatest_over = false }
unfolding least_costs greatest_costs free_isos
no_number = refl
