-- Request 12: examples that shut out wrong readings, on file S. Each holds by computation.
use Rattle.std.specs.Prelude.{ℕ, ◌≡◌, refl, true, false, List, [], ◌∷◌, map}
use Rattle.std.proofs.Math.Option.{Option, none, some}
use Rattle.calculus.specs.Trees.{Ty, tunit, tlist, tsum, pleaf, unit_leaf, Clause, Iso}
use Rattle.calculus.specs.Lists.{free_isos}
use Rattle.calculus.specs.Refusals.{Refusal, iso_line, short_area, no_iso, too_many, too_high, bad_script}
use Rattle.format.specs.Lines.{lines, decimal}
use Rattle.model.specs.Services.{verdict, Outcome, gives, fails, refusal_of, go_on}
use Rattle.model.specs.Cases.{bytes, file_s}
use Rattle.law_units.specs.Units.{Planned, planned_of, names, script_of, Units, done, skipped, spent, matches, end_of, other_end, moved, Tally, nothing_yet}
use Rattle.law_units.specs.Units.{counted, Played, play_rows, unequal, tally_from, play_served}
use Rattle.law_units.specs.Faults.{visit_text}
use Rattle.law_units.specs.Backward.{backward}

-- unit 0 holds number 0 of T line 1, unit 1 number 1 of T line 2
abbrev two : Units
two = record { types = 1 ∷ 2 ∷ []; settings = 0 ∷ 1 ∷ [] }

abbrev play_s : Units → List ℕ → ℕ → Outcome Played
play_s us script budget = go_on (verdict file_s) (play_rows us script budget)

-- a visit of another type is skipped, and the others go on
play_skips : play_s two (bytes "S,0,0,0\nS,0,1,0\nS,1,1,0\n") 2
    ≡ gives (record { units = record { types = 1 ∷ 2 ∷ []; settings = 1 ∷ 0 ∷ [] }; visits = done 1 1 ∷ skipped ∷ done 2 0 ∷ [] })
unfolding verdict play_rows
play_skips = refl

-- types are compared as trees: a unit with another T line of the same tree is visited, and then holds the one that the I line names
play_matches : go_on (verdict (bytes "T,0,0,0\nT,1,0,0\nT,1,0,0\nP,0,0,0\nP,2,0,0\nP,3,0,0\nI,1,2\nC,1,2\nC,2,1\n"))
    (play_rows (record { types = 2 ∷ []; settings = 0 ∷ [] }) (bytes "S,0,0,0\nS,0,0,1\n") 1)
    ≡ gives (record { units = record { types = 1 ∷ []; settings = 0 ∷ [] }; visits = done 2 1 ∷ done 1 0 ∷ [] })
unfolding verdict play_rows
play_matches = refl

-- one budget a visit: unit 1 needs two applications, and is left as it was
play_spends : play_s two (bytes "S,1,1,0\nS,0,0,1\n") 1
    ≡ gives (record { units = record { types = 1 ∷ 2 ∷ []; settings = 1 ∷ 1 ∷ [] }; visits = spent ∷ done 1 1 ∷ [] })
unfolding verdict play_rows
play_spends = refl

-- the tests precede the first visit, the units before the script
play_high : play_s (record { types = 1 ∷ 1 ∷ []; settings = 0 ∷ 2 ∷ [] }) (bytes "S,9,0,0\n") 1 ≡ fails too_high
unfolding verdict play_rows
play_high = refl

play_absent : play_s (record { types = 3 ∷ 1 ∷ []; settings = 0 ∷ 2 ∷ [] }) (bytes "") 1 ≡ fails no_iso
unfolding verdict play_rows
play_absent = refl

-- an absent unit, an absent iso, a direction that is none, a last line without a line feed
play_no_unit : play_s two (bytes "S,0,0,0\nS,2,0,0\n") 1 ≡ fails bad_script
unfolding verdict play_rows
play_no_unit = refl

play_no_iso : play_s two (bytes "S,0,2,0\n") 1 ≡ fails bad_script
unfolding verdict play_rows
play_no_iso = refl

play_no_direction : play_s two (bytes "S,0,0,2\n") 1 ≡ fails bad_script
unfolding verdict play_rows
play_no_direction = refl

play_unended : play_s two (bytes "S,0,0,0\nS,0,0,1") 1 ≡ fails bad_script
unfolding verdict play_rows
play_unended = refl

-- the first unit at fault: 18 of the first before 19 of the second
play_order : go_on (verdict (bytes "T,0,0,0\nT,1,0,0\nT,2,1,1\nT,2,2,2\nT,2,3,3\nT,2,4,4\nT,2,5,5\nP,1,0,0\nI,6,6\nC,0,0\n"))
    (play_rows (record { types = 1 ∷ 6 ∷ 1 ∷ []; settings = 1 ∷ 0 ∷ 2 ∷ [] }) [] 1) ≡ fails too_many
unfolding verdict play_rows
play_order = refl

-- ---- case by case

abbrev planned : ℕ → ℕ → Planned
planned u i = record { unit = u; iso = i; back = true }

-- `S,unit,iso,direction`
visit_texts : map visit_text (planned 10 2 ∷ record { unit = 1; iso = 20; back = false } ∷ []) ≡ bytes "S,10,2,1" ∷ bytes "S,1,20,0" ∷ []
unfolding decimal
visit_texts = refl

-- "naming an absent unit or iso"
named_visits : map (names 3 4) (planned 2 3 ∷ planned 3 3 ∷ planned 2 4 ∷ []) ≡ true ∷ false ∷ false ∷ []
named_visits = refl

-- Request 14: "18 where … a type of the iso or of one it calls, holds a list". Iso 0 has to do with none; iso 1 goes from a list and iso 2 to one; iso 3 calls iso 2, iso 4
-- calls iso 3, and iso 5 only itself.
abbrev through : Ty → Ty → List ℕ → Iso
through a b js =
    let c : Clause = record { line = 0; lhs = pleaf unit_leaf; lets = map (λ j. record { p = pleaf unit_leaf; iso = j; q = pleaf unit_leaf }) js; rhs = pleaf unit_leaf } in
    record { line = 0; from = a; to = b; clauses = c ∷ [] }

abbrev zones : List Iso
zones =
    through tunit tunit [] ∷ through (tlist tunit) tunit [] ∷ through tunit (tsum tunit (tlist tunit)) [] ∷ through tunit tunit (0 ∷ 2 ∷ []) ∷ through tunit tunit (3 ∷ [])
    ∷ through tunit tunit (5 ∷ 0 ∷ []) ∷ []

abbrev test_of : List ℕ → Option Refusal
test_of script = refusal_of (script_of 1 zones (lines script))

line_tests : map test_of (bytes "S,0,0,0\n" ∷ bytes "S,0,1,1\n" ∷ bytes "S,0,2,0\n" ∷ bytes "S,0,3,0\n" ∷ bytes "S,0,4,0\n" ∷ bytes "S,0,5,0\n" ∷ bytes "S,0,6,0\n" ∷ [])
    ≡ none ∷ some too_many ∷ some too_many ∷ some too_many ∷ some too_many ∷ none ∷ some bad_script ∷ []
unfolding planned_of free_isos
line_tests = refl

-- "a script is tested line by line, on each 22 before 18"
order_tests : map test_of (bytes "S,0,1,0\nS,1,0,0\n" ∷ bytes "S,1,0,0\nS,0,1,0\n" ∷ bytes "S,1,1,0\n" ∷ bytes "S,0,1,2\n" ∷ bytes "S,0,0,0\nS,0,1,0\nS\n" ∷ [])
    ≡ some too_many ∷ some bad_script ∷ some bad_script ∷ some bad_script ∷ some too_many ∷ []
unfolding planned_of free_isos
order_tests = refl

-- "last line first with directions exchanged"
backward_visits : backward (planned 1 2 ∷ planned 3 4 ∷ []) ≡ record { unit = 3; iso = 4; back = false } ∷ record { unit = 1; iso = 2; back = false } ∷ []
backward_visits = refl

-- "A visit whose type does not match the unit": the iso's from-type
abbrev across : Iso
across = record { line = 2; from = tunit; to = tsum tunit tunit; clauses = [] }

matching : matches none none ∷ matches none (some across) ∷ matches (some tunit) none ∷ matches (some tunit) (some across) ∷ matches (some (tsum tunit tunit)) (some across) ∷ []
    ≡ false ∷ false ∷ false ∷ true ∷ false ∷ []
matching = refl

-- "the T line that the iso's I line names at the other end": the second field forward, the first back; 0 stands where there is no line
other_ends : map (λ b. end_of b none ∷ end_of b (some (record { kind = iso_line; x = 5; y = 6; z = 7 })) ∷ other_end [] b none ∷ []) (false ∷ true ∷ []) ≡ (0 ∷ 6 ∷ 0 ∷ []) ∷ (0 ∷ 5 ∷ 0 ∷ []) ∷ []
other_ends = refl

ends_by_line : other_end (record { kind = iso_line; x = 1; y = 2; z = 0 } ∷ record { kind = iso_line; x = 3; y = 4; z = 0 } ∷ record { kind = iso_line; x = 5; y = 6; z = 0 } ∷ []) false
    (some across) ≡ 4
ends_by_line = refl

-- "the unit then holds …"; "both leave the unit"
moved_units : map (λ v. moved v 1 two) (done 7 8 ∷ skipped ∷ spent ∷ []) ≡ record { types = 1 ∷ 7 ∷ []; settings = 0 ∷ 8 ∷ [] } ∷ two ∷ two ∷ []
moved_units = refl

-- "visits done, skipped and spent", "counted from 0 in each play"; "a refusal leaves units and record unchanged"
abbrev tally : ℕ → ℕ → ℕ → Tally
tally d k n = record { done = d; skipped = k; spent = n }

counted_visits : counted (done 0 0 ∷ skipped ∷ skipped ∷ spent ∷ spent ∷ spent ∷ []) (tally 10 20 30) ∷ nothing_yet ∷ tally_from
    (gives (record { units = two; visits = done 0 0 ∷ spent ∷ [] })) (tally 4 5 6) ∷ tally_from (fails bad_script) (tally 4 5 6) ∷ []
    ≡ tally 11 22 33 ∷ tally 0 0 0 ∷ tally 1 0 1 ∷ tally 4 5 6 ∷ []
counted_visits = refl

-- "Unit areas of unequal length are 1", as are a short table and work area
unequal_areas : unequal two ∷ unequal (record { types = 1 ∷ []; settings = [] }) ∷ unequal (record { types = []; settings = 1 ∷ [] }) ∷ [] ≡ false ∷ true ∷ true ∷ []
unequal_areas = refl

play_areas : refusal_of (play_served [] [] [] (record { types = []; settings = [] }) [] 0).outcome ≡ some short_area
unfolding verdict play_rows
play_areas = refl
