-- Examples of request 14. Each holds by computation.
use Rattle.std.specs.Prelude.{ℕ, ◌≡◌, refl, true, false, cond, List, ◌++◌, leb, replicate}
use Rattle.calculus.specs.Tools.{concat}
use Rattle.calculus.specs.Refusals.{spent, too_large}
use Rattle.model.specs.Services.{fails, run}
use Rattle.model.specs.Desk.{desk}
use Rattle.model.specs.Cases.{bytes}

-- "S with line 17 as L,4,1,3 is now `10,16`"
own_iso : desk (bytes "T,0,0,0\nT,1,0,0\nT,2,1,1\nP,0,0,0\nP,2,0,0\nP,3,0,0\nP,1,0,0\nP,1,1,0\nP,4,1,3\nP,4,1,4\nP,4,2,3\nI,1,1\nC,1,2\nC,2,1\nI,2,2\nC,5,6\nL,4,1,3\nC,7,7\n")
    ≡ bytes "10,16\n"
unfolding desk
own_iso = refl

-- the paper's `map not` over lists of two-valued elements: iso 1, which calls itself
abbrev map_not : List ℕ
map_not = bytes "T,0,0,0\nT,1,0,0\nT,3,1,0\nP,0,0,0\nP,2,0,0\nP,3,0,0\nP,1,0,0\nP,1,1,0\nP,1,2,0\nP,1,3,0\nP,5,0,0\nP,6,3,4\nP,6,5,6\nI,1,1\nC,1,2\nC,2,1\nI,2,2\nC,7,7\nC,8,9\nL,5,0,3\nL,6,1,4\n"

map_not_lem : desk (map_not ++ bytes "Q,1,0,9,KLUKRUN\nQ,1,1,9,KRUKLUN\nQ,1,0,4,KLUKRUN\nQ,1,0,9,N\nQ,1,0,9,KLU\n") ≡ bytes "0,0\n0,5,KRUKLUN\n0,5,KLUKRUN\n17,0,\n0,1,N\n16,0,\n"
unfolding desk
map_not_lem = refl

-- 44 elements
long_list : List ℕ
long_list = concat (replicate 44 (bytes "KLU")) ++ bytes "N"

-- Lists of units, as numbers: iso 0 exchanges 0 and 1, iso 1 takes 0 to 0 and n + 1 to 1 plus iso 0 of iso 1 of n. Iso 1 meets the rule as
-- written. Nothing is taken to 1: back from there the reduction does not end, and it is 17 or 24 under every budget.
abbrev missing : List ℕ
missing = bytes "T,0,0,0\nT,3,0,0\nP,0,0,0\nP,5,0,0\nP,1,0,0\nP,1,1,0\nP,6,2,3\nP,6,0,1\nP,1,2,0\nP,6,3,6\nP,6,2,7\nP,1,3,0\nP,6,2,9\n"
    ++ bytes "I,1,1\nC,1,5\nC,5,1\nC,8,8\nI,1,1\nC,1,1\nC,4,10\nL,6,1,3\nL,9,0,6\n"

not_reached : desk (missing ++ bytes "Q,1,0,99,N\nQ,1,0,99,KUN\nQ,1,0,99,KUKUN\nQ,1,1,99,KUKUN\nQ,1,1,80,KUN\nQ,1,1,79,KUN\n")
    ≡ bytes "0,0\n0,1,N\n0,3,KUKUN\n0,5,KUKUKUN\n0,3,KUN\n24,0,\n17,0,\n"
unfolding desk
not_reached = refl

-- the same with iso 0 on both sides of the call, the number 1 bound again: what is called on is not the tail as the left pattern bound it,
-- in neither direction
bound_again : desk (bytes
    "T,0,0,0\nT,3,0,0\nP,0,0,0\nP,5,0,0\nP,1,0,0\nP,1,1,0\nP,6,2,3\nP,6,0,1\nP,1,2,0\nP,6,3,6\nP,6,2,7\nI,1,1\nC,1,5\nC,5,1\nC,8,8\nI,1,1\nC,1,1\nC,4,4\nL,3,0,3\nL,3,1,3\nL,3,0,3\n")
    ≡ bytes "23,18\n"
unfolding desk
bound_again = refl

-- a product whose second part is the list: refused at the I line
not_zoned : desk (bytes "T,0,0,0\nT,3,0,0\nT,2,0,1\nP,0,0,0\nP,5,0,0\nP,1,0,0\nP,1,1,0\nP,6,2,3\nP,4,0,1\nP,4,0,4\nP,4,0,3\nI,2,2\nC,5,5\nC,6,6\nL,7,0,7\n") ≡ bytes "23,12\n"
unfolding desk
not_zoned = refl

-- the answer there under every budget
under_every_budget : (b : ℕ) → run missing 1 true b (bytes "KUN") ≡ cond (leb 80 b) (fails too_large) (fails spent)
unfolding run
under_every_budget b = refl

-- "an application is counted against the budget, then its argument … measured": 133 letters, with no budget and with one application
long_argument : (run map_not 1 false 0 long_list ≡ fails spent) × (run map_not 1 false 1 long_list ≡ fails too_large)
unfolding run long_list
long_argument = (refl, refl)
