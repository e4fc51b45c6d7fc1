-- The inverted isos, and so the turned file, have the same numbers.
use Prim.Native.Nat.{ℕ, suc, ◌+◌}
use native.Mathlib.Omega.{arith}
use mathlib.Core.Path.{◌≡◌, refl, sym, ap, ◌∙◌}
use mathlib.Core.Bool.{Bool, true, false}
use mathlib.Core.Option.{some}
use mathlib.Core.List.{List, [], ◌∷◌, ◌++◌, map, reverse, reverse-cons, map-map}
use lib.ListN.{get_elem?}
use Rattle.calculus.specs.Tools.{total}
use Rattle.calculus.specs.Trees.{Clause, Iso, invert_let, invert_clause, invert}
use Rattle.format.specs.Lines.{Row}
use Rattle.format.specs.Unfold.{isos_of}
use Rattle.model.specs.Services.{toward}
use Rattle.calculus.proofs.Basic.{index_of_map, map_reverse}
use Rattle.format.proofs.Turning.{isos_turn}
use Rattle.model.proofs.Runs.{GoodRows}
use Rattle.law_costs.specs.Costs.{least_of, greatest_of, let_cost, clause_cost, iso_cost, costs_from, least_costs, greatest_costs}
use Rattle.law_costs.proofs.Between.{map_each}

total_append : (xs ys : List ℕ) → total (xs ++ ys) ≡ total xs + total ys
total_append [] ys = omega arith
total_append (x ∷ xs) ys = let h = total_append xs ys in omega arith

total_reverse : (xs : List ℕ) → total (reverse xs) ≡ total xs
total_reverse [] = refl
total_reverse (x ∷ xs) =
    let h = total_reverse xs in
    let a : total (reverse xs ++ (x ∷ [])) ≡ total (reverse xs) + (x + 0) = total_append (reverse xs) (x ∷ []) in
    ap total (reverse-cons x xs) ∙ a ∙ omega arith

clause_cost_invert : (known : List ℕ) (c : Clause) → clause_cost known (invert_clause c) ≡ clause_cost known c
clause_cost_invert known c =
    ap (λ ns. suc (total ns)) (map_reverse (let_cost known) (map invert_let c.lets) ∙ ap reverse (map-map (let_cost known) invert_let c.lets))
    ∙ ap suc (total_reverse (map (let_cost known) c.lets))

iso_cost_invert : (pick : List ℕ → ℕ) (known : List ℕ) (o : Iso) → iso_cost pick known (invert o) ≡ iso_cost pick known o
iso_cost_invert pick known o =
    ap pick (map-map (clause_cost known) invert_clause o.clauses
    ∙ map_each (λ c. clause_cost known (invert_clause c)) (clause_cost known) o.clauses (λ c m. clause_cost_invert known c))

pub costs_from_invert : (pick : List ℕ → ℕ) (known : List ℕ) (os : List Iso) → costs_from pick known (map invert os) ≡ costs_from pick known os
costs_from_invert pick known [] = refl
costs_from_invert pick known (o ∷ os) =
    ap (λ s. costs_from pick (known ++ (s ∷ [])) (map invert os)) (iso_cost_invert pick known o) ∙ costs_from_invert pick (known ++ (iso_cost pick known o ∷ [])) os

pub least_invert : (os : List Iso) → least_costs (map invert os) ≡ least_costs os
unfolding least_costs
least_invert os = costs_from_invert least_of [] os

pub greatest_invert : (os : List Iso) → greatest_costs (map invert os) ≡ greatest_costs os
unfolding greatest_costs
greatest_invert os = costs_from_invert greatest_of [] os

pub least_toward : (back : Bool) (rs : List Row) → GoodRows rs → least_costs (isos_of (toward back rs)) ≡ least_costs (isos_of rs)
least_toward true rs g = ap least_costs (isos_turn rs g.passes) ∙ least_invert (isos_of rs)
least_toward false rs g = refl

pub greatest_toward : (back : Bool) (rs : List Row) → GoodRows rs → greatest_costs (isos_of (toward back rs)) ≡ greatest_costs (isos_of rs)
greatest_toward true rs g = ap greatest_costs (isos_turn rs g.passes) ∙ greatest_invert (isos_of rs)
greatest_toward false rs g = refl

-- an iso stands in a file exactly where it stands in the turned file
pub present : (back : Bool) (rs : List Row) → GoodRows rs → (i : ℕ) {o : Iso} → get_elem? (isos_of (toward back rs)) i ≡ some o → (n : Iso) × (get_elem? (isos_of rs) i ≡ some n)
present true rs g i e = let r = index_of_map invert (isos_of rs) i (ap (λ os. get_elem? os i) (sym (isos_turn rs g.passes)) ∙ e) in (r.0, r.1)
present false rs g i {o} e = (o, e)
