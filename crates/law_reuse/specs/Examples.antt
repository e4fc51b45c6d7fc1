-- Files from raw bytes, by the rule of today and by the former one. Each holds by computation.
use Rattle.std.specs.Prelude.{ℕ, ◌≡◌, refl, true, false, List, [], ◌∷◌, ◌++◌, map, replicate}
use Prim.Native.String.{String}
use Rattle.std.proofs.Math.Option.{none, some}
use Rattle.calculus.specs.Trees.{Ty, tunit, tsum, tprod, left, right, Pat, pleaf, unit_leaf, pvar, pinj, pnode, pair_node}
use Rattle.calculus.specs.Refusals.{clause_line, iso_line, variable, let_shape, bad_type, recursion}
use Rattle.calculus.specs.Clauses.{binds, uses}
use Rattle.model.specs.Services.{answer_of}
use Rattle.model.specs.Desk.{desk, desk_by, file_part}
use Rattle.model.specs.Cases.{bytes, file_s, prints, Case, AllHold}
use Rattle.model.specs.Readings.{retyped}
use Rattle.law_reuse.specs.Former as Former
use Rattle.law_reuse.specs.Former.{once, fit, demands, agreeing, former}

-- what the desk program printed by the former rule
abbrev pub formerly : List ℕ → List ℕ
formerly bs = desk_by (former (file_part bs)) bs

-- a swap of the two values of 1 + 1, and an iso that sends x through it to another x, and this one once more
abbrev pub chained : List ℕ
chained =
    bytes "T,0,0,0\nT,1,0,0\nP,0,0,0\nP,2,0,0\nP,3,0,0\nP,1,0,0\nI,1,1\nC,1,2\nC,2,1\nI,1,1\nC,3,3\nL,3,0,3\nL,3,0,3\nQ,1,0,9,LU\nQ,1,1,9,RU\n"

-- "it may have been used up earlier in the clause"; the former rule refused it
used_again : (desk chained ≡ bytes "0,0\n0,3,LU\n0,3,RU\n") × (formerly chained ≡ bytes "8,11\n")
unfolding desk former
used_again = (refl, refl)

-- "Each binding has its own type": accepted (`Readings.bound_again`), and refused by the former rule
one_type : formerly retyped ≡ bytes "8,10\n"
unfolding desk former
one_type = refl

-- "S without line 17 keeps its answer"
abbrev pub file_s_without_17 : List ℕ
file_s_without_17 =
    bytes "T,0,0,0\nT,1,0,0\nT,2,1,1\nP,0,0,0\nP,2,0,0\nP,3,0,0\nP,1,0,0\nP,1,1,0\nP,4,1,3\nP,4,1,4\nP,4,2,3\nI,1,1\nC,1,2\nC,2,1\nI,2,2\nC,5,6\nC,7,7\n"

keeps_answer : (desk file_s_without_17 ≡ bytes "8,16\n") × (formerly file_s_without_17 ≡ bytes "8,16\n")
unfolding desk former
keeps_answer = (refl, refl)

-- Near misses, each with the one fault named, all 8 at line 13. Patterns: 0 is x, 1 is y, 2 is z, 3 is ⟨x, y⟩, 4 is ⟨x, x⟩, 5 is (), 6 is ⟨y, z⟩. Iso 0
-- is the identity on the unit, and the last iso names what the others do not, so that no line is idle.
abbrev near_miss : String → Case
near_miss iso =
    prints
    (bytes "T,0,0,0\nT,2,0,0\nP,1,0,0\nP,1,1,0\nP,1,2,0\nP,4,0,1\nP,4,0,0\nP,0,0,0\nP,4,1,2\nI,0,0\nC,0,0\n" ++ (bytes iso ++ bytes "I,1,1\nC,2,3\nC,4,5\nC,6,6\n"))
    (bytes "8,13\n")

-- bound while live, by the left pattern and a p, by two ps, by one p, by the left pattern alone
abbrev pub bound_live : List Case
bound_live =
    near_miss "I,1,0\nC,3,1\nL,1,0,0\n"
    ∷ near_miss "I,1,0\nC,3,2\nL,2,0,0\nL,2,0,1\n"
    ∷ near_miss "I,0,0\nC,0,0\nL,4,0,0\n"
    ∷ near_miss "I,1,0\nC,4,0\n"
    ∷ []

bound_live_lem : AllHold bound_live
unfolding desk
bound_live_lem = (refl, (refl, (refl, (refl, tt))))

-- used while not live: twice by the right pattern, by a q and the right pattern, by two qs; by the q of the L line that binds it, by a q above that
abbrev pub used_free : List Case
used_free =
    near_miss "I,0,1\nC,0,4\n"
    ∷ near_miss "I,0,1\nC,0,3\nL,1,0,0\n"
    ∷ near_miss "I,0,1\nC,0,6\nL,1,0,0\nL,2,0,0\n"
    ∷ near_miss "I,0,1\nC,0,3\nL,1,0,1\n"
    ∷ near_miss "I,0,1\nC,0,3\nL,2,0,1\nL,1,0,2\n"
    ∷ []

used_free_lem : AllHold used_free
unfolding desk
used_free_lem = (refl, (refl, (refl, (refl, (refl, tt)))))

-- live at the end, bound by the left pattern, and bound again
abbrev pub live_last : List Case
live_last = near_miss "I,1,0\nC,3,0\n" ∷ near_miss "I,0,0\nC,0,5\nL,0,0,0\n" ∷ []

live_last_lem : AllHold live_last
unfolding desk
live_last_lem = (refl, (refl, tt))

-- ---- the former rule, case by case

-- "each number is bound once and, after that, used once"
once_each : map once
    ([] ∷ (uses ∷ []) ∷ (binds ∷ []) ∷ (binds ∷ binds ∷ []) ∷ (binds ∷ uses ∷ []) ∷ (binds ∷ uses ∷ binds ∷ []) ∷ (binds ∷ uses ∷ uses ∷ []) ∷ (binds ∷ uses ∷ binds ∷ uses ∷ []) ∷ [])
    ≡ false ∷ false ∷ false ∷ false ∷ true ∷ false ∷ false ∷ false ∷ []
once_each = refl

abbrev bit : Ty
bit = tsum tunit tunit

-- unit, variable, left, right and pair against a unit, a sum and a product: the types that the variables must have
fits_former : map (λ p. map (fit p) (tunit ∷ tsum tunit bit ∷ tprod tunit bit ∷ []))
    (pleaf unit_leaf ∷ pvar 0 ∷ pinj left (pvar 1) ∷ pinj right (pvar 1) ∷ pnode pair_node (pvar 2) (pvar 3) ∷ pnode pair_node (pleaf unit_leaf) (pleaf unit_leaf) ∷ [])
    ≡ (some [] ∷ none ∷ none ∷ [])
    ∷ (some ((0, tunit) ∷ []) ∷ some ((0, tsum tunit bit) ∷ []) ∷ some ((0, tprod tunit bit) ∷ []) ∷ [])
    ∷ (none ∷ some ((1, tunit) ∷ []) ∷ none ∷ [])
    ∷ (none ∷ some ((1, bit) ∷ []) ∷ none ∷ [])
    ∷ (none ∷ none ∷ some ((2, tunit) ∷ (3, bit) ∷ []) ∷ [])
    ∷ (none ∷ none ∷ none ∷ [])
    ∷ []
fits_former = refl

-- one type for each number
agreeing_types : map agreeing
    (none ∷ some [] ∷ some ((0, tunit) ∷ (1, bit) ∷ (0, tunit) ∷ []) ∷ some ((0, tunit) ∷ (1, bit) ∷ (0, bit) ∷ []) ∷ some ((1, tunit) ∷ (0, tunit) ∷ (0, bit) ∷ []) ∷ [])
    ≡ false ∷ true ∷ true ∷ false ∷ false ∷ []
agreeing_types = refl

-- left, let steps and right: q at the from-type of its iso, p at the to-type
demanded : demands ((tunit, bit) ∷ []) (tprod tunit tunit) bit
    (record { line = 1; lhs = pnode pair_node (pvar 0) (pvar 1); lets = record { p = pvar 2; iso = 0; q = pvar 0 } ∷ record { p = pvar 3; iso = 0; q = pvar 1 } ∷ []; rhs = pvar 4 })
    ≡ some ((0, tunit) ∷ (1, tunit) ∷ (0, tunit) ∷ (2, bit) ∷ (1, tunit) ∷ (3, bit) ∷ (4, bit) ∷ [])
demanded = refl

-- "lowest of 8 to 10": 8, 9 and 10; 9 and 10; 10; none
former_order : map (λ (c : Pat × Pat). Former.clause_fault ((tunit, tunit) ∷ []) tunit tunit (record { line = 0; lhs = pvar 0; lets = record { p = c.0; iso = 0; q = pvar 0 } ∷ []; rhs = c.1 }))
    ((pinj left (pvar 1), pinj left (pvar 2)) ∷ (pinj left (pvar 1), pvar 1) ∷ (pnode pair_node (pvar 1) (pvar 2), pnode pair_node (pvar 1) (pvar 2)) ∷ (pvar 1, pvar 1) ∷ [])
    ≡ some (variable clause_line) ∷ some (let_shape clause_line) ∷ some (bad_type clause_line) ∷ none ∷ []
unfolding Former.clause_fault
former_order = refl

-- a file with a line that is no line, one with an idle line, one with a fault of its side, and S, at their lines
former_files : formerly (bytes "X\n") ∷ formerly (bytes "T,0,0,0\n") ∷ formerly (bytes "T,0,0,0\nT,1,0,0\nP,0,0,0\nP,2,0,0\nI,0,1\nC,0,1\n") ∷ formerly file_s ∷ []
    ≡ bytes "3,1\n" ∷ bytes "21,1\n" ∷ bytes "14,5\n" ∷ bytes "0,0\n" ∷ []
unfolding desk former
former_files = refl

-- "over 65,536 bytes or 4,096 lines", at line 0
former_long : answer_of (former (replicate 4097 10)) ≡ record { number = 2; line = 0 }
unfolding former
former_long = refl

-- the isos numbered from 0, so that a call of itself is told: of the second of two isos its own number, and the first's, which is none
former_calls : map
    (λ n. Former.fault
    (record { line = 1; from = tunit; to = tunit; clauses = record { line = 2; lhs = pvar 0; lets = []; rhs = pvar 0 } ∷ [] }
    ∷ record { line = 3; from = tunit; to = tunit; clauses = record { line = 4; lhs = pvar 0; lets = record { p = pvar 1; iso = n; q = pvar 0 } ∷ []; rhs = pvar 1 } ∷ [] }
    ∷ []))
    (0 ∷ 1 ∷ [])
    ≡ none ∷ some (recursion iso_line, 3) ∷ []
unfolding Former.fault
former_calls = refl
