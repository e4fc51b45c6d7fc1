-- Examples that shut out the wrong readings of document 01. Each holds by computation.
use Rattle.std.specs.Prelude.{ℕ, ◌≡◌, refl, List, [], ◌∷◌, ◌++◌}
use Rattle.std.proofs.Math.Option.{none}
use Rattle.calculus.specs.Trees.{tunit, pvar, Clause, vleaf, unit_leaf}
use Rattle.calculus.specs.Reduction.{reduce}
use Rattle.model.specs.Services.{turned}
use Rattle.model.specs.Desk.{desk}
use Rattle.model.specs.Cases.{bytes, file_s}

abbrev identity : ℕ → Clause
identity n = record { line = n; lhs = pvar 0; lets = []; rhs = pvar 0 }

-- First match does not win: where several clauses match, nothing is given.
several_match : reduce (record { line = 1; from = tunit; to = tunit; clauses = identity 2 ∷ (identity 3 ∷ []) } ∷ []) 0 (vleaf unit_leaf) ≡ (none, 1)
unfolding reduce
several_match = refl

-- Types are compared by their trees: lines 1 and 2 are the same type.
one_tree_two_lines : desk (bytes "T,0,0,0\nT,0,0,0\nP,1,0,0\nI,0,1\nC,0,0\nQ,0,0,1,U\n") ≡ bytes "0,0\n0,1,U\n"
unfolding desk
one_tree_two_lines = refl

-- Let steps are turned last to first: x goes through iso 0 to y, and y through iso 1 to z.
two_steps : turned (bytes "T,0,0,0\nP,1,0,0\nP,1,1,0\nP,1,2,0\nI,0,0\nC,0,0\nI,0,0\nC,0,0\nI,0,0\nC,0,2\nL,1,0,0\nL,2,1,1\n")
    ≡ bytes "T,0,0,0\nP,1,0,0\nP,1,1,0\nP,1,2,0\nI,0,0\nC,0,0\nI,0,0\nC,0,0\nI,0,0\nC,2,0\nL,1,1,2\nL,0,0,1\n"
unfolding turned
two_steps = refl

-- The applications of let steps count: three isos, three applications.
steps_count : desk (bytes "T,0,0,0\nP,1,0,0\nP,1,1,0\nP,1,2,0\nI,0,0\nC,0,0\nI,0,0\nC,0,0\nI,0,0\nC,0,2\nL,1,0,0\nL,2,1,1\nQ,2,0,9,U\nQ,2,1,9,U\n")
    ≡ bytes "0,0\n0,3,U\n0,3,U\n"
unfolding desk
steps_count = refl

-- 17 is tied to the count of the run at hand: S's second clause takes one application, and a budget of 1 is enough for it.
budget_of_the_run : desk (file_s ++ bytes "Q,1,0,1,PRULU\nQ,1,0,0,PRULU\n") ≡ bytes "0,0\n0,1,PRULU\n17,0,\n"
unfolding desk
budget_of_the_run = refl

-- The paper's controlled-not has three clauses on a type of four values, and is accepted.
controlled_not : desk (bytes "T,0,0,0\nT,1,0,0\nT,2,1,1\nP,0,0,0\nP,2,0,0\nP,3,0,0\nP,1,0,0\nP,4,2,3\nP,4,1,1\nP,4,1,2\nI,2,2\nC,4,4\nC,6,5\nC,5,6\nQ,0,0,1,PLURU\nQ,0,0,1,PRURU\n")
    ≡ bytes "0,0\n0,1,PLULU\n0,1,PRURU\n"
unfolding desk
controlled_not = refl

-- Request 03: a number that is used up may be bound again, and each binding has its own type: x at 1 + 1 goes through iso 0 to an x at
-- (1 + 1) × 1.
abbrev pub retyped : List ℕ
retyped = bytes "T,0,0,0\nT,1,0,0\nT,2,1,0\nP,1,0,0\nP,0,0,0\nP,4,0,1\nI,1,2\nC,0,2\nI,1,2\nC,0,0\nL,0,0,0\nQ,1,0,9,LU\nQ,1,1,9,PLUU\n"

bound_again : desk retyped ≡ bytes "0,0\n0,2,PLUU\n0,2,LU\n"
unfolding desk
bound_again = refl

-- Request 06: either ending on each line; what is written ends with a line feed alone.
either_ending : desk (bytes "T,0,0,0\r\nP,1,0,0\nI,0,0\r\nC,0,0\nQ,0,0,1,U\r\nQ,0,0,1,U\n") ≡ bytes "0,0\n0,1,U\n0,1,U\n"
unfolding desk
either_ending = refl

turned_ending : turned (bytes "T,0,0,0\r\nP,1,0,0\nI,0,0\r\nC,0,0\n") ≡ bytes "T,0,0,0\nP,1,0,0\nI,0,0\nC,0,0\n"
unfolding turned
turned_ending = refl

-- A carriage return elsewhere is a wrong byte, also before another one and where no line feed follows.
return_twice : desk (bytes "T,0,0,0\r\r\n") ≡ bytes "3,1\n"
unfolding desk
return_twice = refl

return_last : desk (bytes "T,0,0,0\r") ≡ bytes "3,1\n"
unfolding desk
return_last = refl

return_first : desk (bytes "\rT,0,0,0\n") ≡ bytes "3,1\n"
unfolding desk
return_first = refl

-- In a query's letters field it is a letter, so that there is no such value; before the fourth comma it is a wrong byte.
return_letter : desk (bytes "T,0,0,0\nP,1,0,0\nI,0,0\nC,0,0\nQ,0,0,1,U\r\r\nQ,0,0,1,\rU\nQ,0,0,1\r,U\nQ,0,0,1,U\r") ≡ bytes "0,0\n16,0,\n16,0,\n3,0,\n3,0,\n"
unfolding desk
return_letter = refl
