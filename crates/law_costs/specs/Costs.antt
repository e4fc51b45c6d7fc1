-- Request 05, "Steps known beforehand": "a lower and an upper bound on the count of any run, without a run", as plain naturals without any cap.
-- The cost of an iso is how many applications a run of it makes. An iso that has to do with lists is refused before (`Bounds.on_iso`); any other calls
-- earlier isos only.
use Rattle.std.specs.Prelude.{ℕ, suc, min, max, List, [], ◌∷◌, ◌++◌, map, get_or}
use Rattle.calculus.specs.Tools.{total}
use Rattle.calculus.specs.Trees.{Let, Clause, Iso}

-- the least and the greatest of some numbers; an accepted iso has a clause, and 0 stands where there is none
abbrev pub least_of : List ℕ → ℕ
least_of [] = 0
least_of (n ∷ []) = n
least_of (n ∷ (m ∷ ns)) = min n (least_of (m ∷ ns))

abbrev pub greatest_of : List ℕ → ℕ
greatest_of [] = 0
greatest_of (n ∷ ns) = max n (greatest_of ns)

-- "A clause needs 1 plus the sum over its let steps", each as much as the iso that it names; `known` has the numbers of the earlier isos
abbrev pub let_cost : List ℕ → Let → ℕ
let_cost known l = get_or known l.iso 0

abbrev pub clause_cost : List ℕ → Clause → ℕ
clause_cost known c = suc (total (map (let_cost known) c.lets))

-- "the iso takes the least and greatest over its clauses"
abbrev pub iso_cost : (List ℕ → ℕ) → List ℕ → Iso → ℕ
iso_cost pick known o = pick (map (clause_cost known) o.clauses)

-- the numbers of the isos in order, behind those known already
abbrev pub costs_from : (List ℕ → ℕ) → List ℕ → List Iso → List ℕ
costs_from pick known [] = known
costs_from pick known (o ∷ os) = costs_from pick (known ++ (iso_cost pick known o ∷ [])) os

unfoldable pub least_costs : List Iso → List ℕ
least_costs os = costs_from least_of [] os

unfoldable pub greatest_costs : List Iso → List ℕ
greatest_costs os = costs_from greatest_of [] os
