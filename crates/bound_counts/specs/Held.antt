-- Numbers as an area holds them: each up to 4,294,967,296, which stands for all above 4,294,967,295.
use Rattle.std.specs.Prelude.{ℕ, min, max, ◌≤◌, ◌≡◌, Bool, cond, List, [], get_or, length}
use Rattle.limits.specs.Limits.{budget_bound}
use Rattle.law_costs.specs.Costs.{least_of, greatest_of, costs_from}
use Rattle.run_index.specs.Index.{isos_at}

abbrev pub cap : ℕ
cap = budget_bound

abbrev pub Holds : List ℕ → List ℕ → Type 0
Holds area ns = (j : ℕ) → get_or area j 0 ≡ min (get_or ns j 0) cap

-- the least of a list or, where the most is asked for, the greatest; the same of two numbers
abbrev pub pick_of : Bool → List ℕ → ℕ
pick_of most = cond most greatest_of least_of

abbrev pub pick_two : Bool → ℕ → ℕ → ℕ
pick_two most = cond most max min

-- a number is what f makes of the numbers known, wherever the P lines begin
abbrev pub ReckonedFrom : List ℕ → (ℕ → List ℕ → ℕ) → ℕ → Type 0
ReckonedFrom known f r = (base : ℕ) (ks : List ℕ) → Holds known ks → r ≡ min (f base ks) cap

-- the least or the greatest numbers of all isos, in an area of zeros
abbrev pub AllReckoned : (List ℕ → ℕ) → List ℕ → List ℕ → ℕ → List ℕ → List ℕ → Type 0
AllReckoned pick t index isos area area' =
    (base : ℕ) → isos ≤ length area → Holds area [] → Holds area' (costs_from pick [] (isos_at t base index 0 isos))
