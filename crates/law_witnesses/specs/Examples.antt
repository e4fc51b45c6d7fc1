-- Request 09 on files of document 01, by computation.
use Rattle.std.specs.Prelude.{ℕ, zero, suc, ◌≡◌, refl, true, false, List, [], ◌∷◌, ◌++◌, map}
use Rattle.std.proofs.Math.Option.{Option, none, some}
use Prim.Native.String.{String}
use Rattle.calculus.specs.Tools.{is_some}
use Rattle.calculus.specs.Trees.{Ty, tunit, tlist, tsum, tprod, unit_leaf, empty_leaf, left, right, pair_node, element_node, Pat, pvar, pleaf, pinj, pnode, Val}
use Rattle.calculus.specs.Trees.{vleaf, vinj, vnode, Iso}
use Rattle.calculus.specs.Refusals.{Kind, type_line, pattern_line, iso_line, clause_line, let_line, bad_type, overlap, gap, no_iso, too_large}
use Rattle.calculus.specs.Letters.{letters}
use Rattle.model.specs.Cases.{bytes, file_s}
use Rattle.format.specs.Lines.{Row}
use Rattle.format.specs.Judge.{rows}
use Rattle.model.specs.Services.{accepted, refused, answer_of}
use Rattle.law_witnesses.specs.Showing.{sooner, Move, leaf, tag, node, letter_on, moves, made, values_with, count_up, setting, never, measured, sided, shown_by, letters_of?, shown_of, showing}
use Rattle.law_witnesses.specs.Served.{side_answer, large_answer}
use Rattle.law_witnesses.specs.Seeking.{shorter, least, least_in, meet, better, overlap_in, fitting, after, how_many, ways, alone, gap_in, gap_length, gap_word}

abbrev head : String
head = "T,0,0,0\nT,1,0,0\nT,2,1,1\nP,0,0,0\nP,2,0,0\nP,3,0,0\nP,1,0,0\nP,1,1,0\nP,4,1,3\nP,4,1,4\n"

-- S without lines 11 and 18 is 13,14; S with line 18 twice is 11,15; the file refused 14,5; S itself is accepted, and S without line 18 is 21,11
pub gap_left_lem : showing (bytes head ++ bytes "I,1,1\nC,1,2\nC,2,1\nI,2,2\nC,5,6\nL,4,0,3\n") ≡ bytes "PRULU"
unfolding showing
gap_left_lem = refl

pub idle_line : showing (bytes head ++ bytes "P,4,2,3\nI,1,1\nC,1,2\nC,2,1\nI,2,2\nC,5,6\nL,4,0,3\n") ≡ []
unfolding showing
idle_line = refl

pub overlap_left_lem : showing (file_s ++ bytes "C,7,7\n") ≡ bytes "PRULU"
unfolding showing
overlap_left_lem = refl

pub gap_right_lem : showing (bytes "T,0,0,0\nT,1,0,0\nP,0,0,0\nP,2,0,0\nI,0,1\nC,0,1\n") ≡ bytes "RU"
unfolding showing
gap_right_lem = refl

pub nothing_shown : showing file_s ≡ []
unfolding showing
nothing_shown = refl

-- Bool × Bool × Bool with 000, 01x, x01, 1x0: only 111 is left, which no pattern with one tag changed and the rest least reaches
pub three_cycle : showing
    (bytes "T,0,0,0\nT,1,0,0\nT,2,1,1\nT,2,1,2\nP,0,0,0\nP,2,0,0\nP,3,0,0\nP,1,0,0\nP,4,1,1\nP,4,1,4\n"
    ++ bytes "P,4,2,3\nP,4,1,6\nP,4,1,2\nP,4,3,8\nP,4,3,1\nP,4,2,10\nI,3,3\nC,5,5\nC,7,7\nC,9,9\nC,11,11\n")
    ≡ bytes "PRUPRURU"
unfolding showing
three_cycle = refl

-- ---- case by case

abbrev bit : Ty
bit = tsum tunit tunit

-- "the value with the fewest letters, the first in byte order among those"
sooner_letters : map (λ v. map (sooner v) (bytes "U" ∷ bytes "LU" ∷ bytes "RU" ∷ [])) (bytes "U" ∷ bytes "LU" ∷ bytes "RU" ∷ [])
    ≡ (false ∷ true ∷ true ∷ []) ∷ (false ∷ false ∷ true ∷ []) ∷ (false ∷ false ∷ false ∷ []) ∷ []
sooner_letters = refl

abbrev all_moves : List Move
all_moves = leaf unit_leaf ∷ leaf empty_leaf ∷ tag left ∷ tag right ∷ node pair_node ∷ node element_node ∷ []

move_letters : map letter_on all_moves ≡ bytes "UNLRPK"
move_letters = refl

-- the letters that a value can begin with, in byte order, and the values that follow
first_moves : map moves (tunit ∷ tlist bit ∷ tsum tunit bit ∷ tprod tunit bit ∷ [])
    ≡ ((leaf unit_leaf, []) ∷ [])
    ∷ ((node element_node, bit ∷ tlist bit ∷ []) ∷ (leaf empty_leaf, []) ∷ [])
    ∷ ((tag left, tunit ∷ []) ∷ (tag right, bit ∷ []) ∷ [])
    ∷ ((node pair_node, tunit ∷ bit ∷ []) ∷ [])
    ∷ []
first_moves = refl

made_values : map (λ m. map (made m) ([] ∷ (vinj left (vleaf unit_leaf) ∷ []) ∷ (vleaf unit_leaf ∷ vinj left (vleaf unit_leaf) ∷ vinj right (vleaf unit_leaf) ∷ []) ∷ [])) all_moves
    ≡ ((vleaf unit_leaf ∷ []) ∷ (vleaf unit_leaf ∷ vinj left (vleaf unit_leaf) ∷ []) ∷ (vleaf unit_leaf ∷ vleaf unit_leaf ∷ vinj left (vleaf unit_leaf) ∷ vinj right (vleaf unit_leaf) ∷ []) ∷ [])
    ∷ ((vleaf empty_leaf ∷ []) ∷ (vleaf empty_leaf ∷ vinj left (vleaf unit_leaf) ∷ []) ∷ (vleaf empty_leaf ∷ vleaf unit_leaf ∷ vinj left (vleaf unit_leaf) ∷ vinj right (vleaf unit_leaf) ∷ []) ∷ [])
    ∷ ([] ∷ (vinj left (vinj left (vleaf unit_leaf)) ∷ []) ∷ (vinj left (vleaf unit_leaf) ∷ vinj left (vleaf unit_leaf) ∷ vinj right (vleaf unit_leaf) ∷ []) ∷ [])
    ∷ ([] ∷ (vinj right (vinj left (vleaf unit_leaf)) ∷ []) ∷ (vinj right (vleaf unit_leaf) ∷ vinj left (vleaf unit_leaf) ∷ vinj right (vleaf unit_leaf) ∷ []) ∷ [])
    ∷ ([] ∷ [] ∷ (vnode pair_node (vleaf unit_leaf) (vinj left (vleaf unit_leaf)) ∷ vinj right (vleaf unit_leaf) ∷ []) ∷ [])
    ∷ ([] ∷ [] ∷ (vnode element_node (vleaf unit_leaf) (vinj left (vleaf unit_leaf)) ∷ vinj right (vleaf unit_leaf) ∷ []) ∷ [])
    ∷ []
made_values = refl

-- the values of a type with so many letters, in byte order
spelled_values : map (λ n. map letters (values_with n (tprod bit (tsum tunit bit)))) (4 ∷ 5 ∷ 6 ∷ 7 ∷ [])
    ≡ [] ∷ (bytes "PLULU" ∷ bytes "PRULU" ∷ []) ∷ (bytes "PLURLU" ∷ bytes "PLURRU" ∷ bytes "PRURLU" ∷ bytes "PRURRU" ∷ []) ∷ [] ∷ []
spelled_values = refl

spelled_lists : map (λ n. map letters (values_with n (tlist bit))) (0 ∷ 1 ∷ 2 ∷ 4 ∷ 7 ∷ [])
    ≡ [] ∷ (bytes "N" ∷ []) ∷ [] ∷ (bytes "KLUN" ∷ bytes "KRUN" ∷ []) ∷ (bytes "KLUKLUN" ∷ bytes "KLUKRUN" ∷ bytes "KRUKLUN" ∷ bytes "KRUKRUN" ∷ []) ∷ []
spelled_lists = refl

count_up_lem : count_up 3 5 ≡ 5 ∷ 6 ∷ 7 ∷ []
count_up_lem = refl

-- n units in pairs: 2n + 1 letters
abbrev units : ℕ → Ty
units zero = tunit
units (suc n) = tprod tunit (units n)

-- the first value that passes a test, of at most 127 letters
first_setting : (letters_of? (setting (tsum bit tunit) (λ v. true)) ∷ letters_of? (setting (tsum bit bit) (λ v. never (pinj left (pinj left (pleaf unit_leaf)) ∷ []) v)) ∷ [] ≡ bytes "RU" ∷
    bytes "LRU" ∷ [])
    × (map (λ n. is_some (setting (units n) (λ v. true))) (63 ∷ 64 ∷ []) ≡ true ∷ false ∷ [])
    × (is_some (setting (tsum (units 63) (units 63)) (λ v. true)) ≡ false)
unfolding setting
first_setting = (refl, refl, refl)

-- a list of elements of 63 letters: the empty list and one of one element are matched, and one of two elements has 129 letters
abbrev zones : List Pat
zones = pleaf empty_leaf ∷ pnode element_node (pvar 0) (pleaf empty_leaf) ∷ []

list_setting : (map (λ (ps : List Pat). letters_of? (setting (tlist bit) (never ps))) ([] ∷ (pleaf empty_leaf ∷ []) ∷ zones ∷ []) ≡ bytes "N" ∷ bytes "KLUN" ∷ bytes "KLUKLUN" ∷ [])
    × (map (λ n. is_some (setting (tlist (units n)) (never zones))) (30 ∷ 31 ∷ []) ≡ true ∷ false ∷ [])
unfolding setting
list_setting = (refl, refl)

-- 24 where a side is refused and nothing is shown; any other verdict stands
measured_verdicts : map (λ v. measured v []) (accepted [] ∷ refused no_iso 3 ∷ refused (gap iso_line left) 7 ∷ []) ∷ map (λ v. measured v (bytes "N"))
    (accepted [] ∷ refused (gap iso_line left) 7 ∷ []) ∷ []
    ≡ (accepted [] ∷ refused no_iso 3 ∷ refused too_large 0 ∷ []) ∷ (accepted [] ∷ refused (gap iso_line left) 7 ∷ []) ∷ []
measured_verdicts = refl

-- matched by two or more, and by none: of an iso whose sides differ, with each refusal
abbrev faulty_iso : Iso
faulty_iso = record {
  line = 1;
  from = tsum tunit bit;
  to = tsum bit tunit;
  clauses = record { line = 2; lhs = pinj left (pleaf unit_leaf); lets = []; rhs = pinj left (pinj right (pleaf unit_leaf)) } ∷ record
      { line = 3; lhs = pvar 0; lets = []; rhs = pinj left (pvar 0) } ∷ [];
}

shown_values : map (λ n. letters_of? (shown_by n faulty_iso)) (10 ∷ 11 ∷ 12 ∷ 13 ∷ 14 ∷ 15 ∷ []) ≡ [] ∷ bytes "LU" ∷ bytes "LRU" ∷ [] ∷ bytes "RU" ∷ [] ∷ []
unfolding setting
shown_values = refl

-- "With refusals 11 to 14", by the refusal and by the answer
sides_alone : map sided (bad_type clause_line ∷ overlap iso_line left ∷ gap iso_line right ∷ no_iso ∷ []) ∷ map (λ n. side_answer (record { number = n; line = 0 })) (10 ∷ 11 ∷ 14 ∷ 15 ∷ []) ∷ []
    ≡ (false ∷ true ∷ true ∷ false ∷ []) ∷ (false ∷ true ∷ true ∷ false ∷ []) ∷ []
sides_alone = refl

-- ---- how it is found, case by case

shorter_values : map (λ (v : Val × Val). letters (shorter v.0 v.1))
    ((vleaf unit_leaf, (vleaf unit_leaf)) ∷ (vinj left (vleaf unit_leaf), (vleaf unit_leaf)) ∷ (vleaf unit_leaf, vinj left (vleaf unit_leaf)) ∷ []) ≡ bytes "LU" ∷ bytes "RU" ∷ bytes "LU" ∷ []
shorter_values = refl

least_values : map (λ a. letters (least a)) (tunit ∷ tlist bit ∷ bit ∷ tsum bit tunit ∷ tprod bit (tsum bit tunit) ∷ [])
    ≡ bytes "U" ∷ bytes "N" ∷ bytes "LU" ∷ bytes "RU" ∷ bytes "PLURU" ∷ []
least_values = refl

-- the least value that a pattern matches; of a type that it does not fit, a unit stands there
least_matched : map (λ p. map (λ a. letters (least_in p a)) (tunit ∷ tlist bit ∷ tsum tunit bit ∷ tprod tunit bit ∷ []))
    (pleaf unit_leaf ∷ pleaf empty_leaf ∷ pvar 0 ∷ pinj left (pvar 0) ∷ pinj right (pvar 0) ∷ pnode pair_node (pvar 0) (pvar 1) ∷ pnode element_node (pvar 0) (pvar 1) ∷ [])
    ≡ (bytes "U" ∷ bytes "U" ∷ bytes "U" ∷ bytes "U" ∷ [])
    ∷ (bytes "N" ∷ bytes "N" ∷ bytes "N" ∷ bytes "N" ∷ [])
    ∷ (bytes "U" ∷ bytes "N" ∷ bytes "LU" ∷ bytes "PULU" ∷ [])
    ∷ (bytes "U" ∷ bytes "U" ∷ bytes "LU" ∷ bytes "U" ∷ [])
    ∷ (bytes "U" ∷ bytes "U" ∷ bytes "RLU" ∷ bytes "U" ∷ [])
    ∷ (bytes "U" ∷ bytes "U" ∷ bytes "U" ∷ bytes "PULU" ∷ [])
    ∷ (bytes "U" ∷ bytes "KLUN" ∷ bytes "U" ∷ bytes "U" ∷ [])
    ∷ []
least_matched = refl

-- the pattern of the values that two patterns match
abbrev forms : List Pat
forms = pleaf unit_leaf ∷ pvar 1 ∷ pinj left (pvar 2) ∷ pinj right (pleaf unit_leaf) ∷ pnode pair_node (pvar 3) (pleaf unit_leaf) ∷ pnode pair_node (pleaf unit_leaf) (pvar 4) ∷ []

meetings : map (λ p. map (meet p) forms) forms
    ≡ (some (pleaf unit_leaf) ∷ some (pleaf unit_leaf) ∷ none ∷ none ∷ none ∷ none ∷ [])
    ∷ (some (pleaf unit_leaf) ∷ some (pvar 1) ∷ some (pinj left (pvar 2)) ∷ some (pinj right (pleaf unit_leaf)) ∷ some (pnode pair_node (pvar 3) (pleaf unit_leaf)) ∷ some
    (pnode pair_node (pleaf unit_leaf) (pvar 4)) ∷ [])
    ∷ (none ∷ some (pinj left (pvar 2)) ∷ some (pinj left (pvar 2)) ∷ none ∷ none ∷ none ∷ [])
    ∷ (none ∷ some (pinj right (pleaf unit_leaf)) ∷ none ∷ some (pinj right (pleaf unit_leaf)) ∷ none ∷ none ∷ [])
    ∷ (none ∷ some (pnode pair_node (pvar 3) (pleaf unit_leaf)) ∷ none ∷ none ∷ some (pnode pair_node (pvar 3) (pleaf unit_leaf)) ∷ some (pnode pair_node (pleaf unit_leaf) (pleaf unit_leaf)) ∷ [])
    ∷ (none ∷ some (pnode pair_node (pleaf unit_leaf) (pvar 4)) ∷ none ∷ none ∷ some (pnode pair_node (pleaf unit_leaf) (pleaf unit_leaf)) ∷ some (pnode pair_node (pleaf unit_leaf) (pvar 4)) ∷ [])
    ∷ []
meetings = refl

-- the same with lists
abbrev list_forms : List Pat
list_forms = pleaf unit_leaf ∷ pleaf empty_leaf ∷ pvar 1 ∷ pnode pair_node (pvar 2) (pvar 3) ∷ pnode element_node (pvar 4) (pleaf empty_leaf) ∷ pnode element_node (pleaf unit_leaf) (pvar 5) ∷ []

list_meetings : map (λ p. map (meet p) list_forms) (pleaf empty_leaf ∷ pnode element_node (pvar 4) (pleaf empty_leaf) ∷ [])
    ≡ (none ∷ some (pleaf empty_leaf) ∷ some (pleaf empty_leaf) ∷ none ∷ none ∷ none ∷ [])
    ∷ (none ∷ none ∷ some (pnode element_node (pvar 4) (pleaf empty_leaf)) ∷ none ∷ some (pnode element_node (pvar 4) (pleaf empty_leaf)) ∷ some
    (pnode element_node (pleaf unit_leaf) (pleaf empty_leaf)) ∷ [])
    ∷ []
list_meetings = refl

better_values : map (λ (v : Option Val × Option Val). better v.0 v.1)
    ((none, some (vleaf unit_leaf)) ∷ (some (vleaf unit_leaf), none) ∷ (some (vleaf unit_leaf), some (vinj left (vleaf unit_leaf))) ∷
    (some (vinj right (vleaf unit_leaf)), some (vinj left (vleaf unit_leaf))) ∷ [])
    ≡ some (vleaf unit_leaf) ∷ some (vleaf unit_leaf) ∷ some (vleaf unit_leaf) ∷ some (vinj left (vleaf unit_leaf)) ∷ []
better_values = refl

-- the least value of any two patterns of a side
overlaps_in : map (overlap_in (tsum bit tunit))
    ([] ∷ (pvar 0 ∷ []) ∷ (pinj left (pleaf unit_leaf) ∷ pinj right (pleaf unit_leaf) ∷ []) ∷ (pinj left (pinj right (pleaf unit_leaf)) ∷ pinj right (pleaf unit_leaf) ∷ pinj left (pvar 0) ∷ []) ∷
    (pinj left (pinj right (pleaf unit_leaf)) ∷ pvar 0 ∷ pinj right (pleaf unit_leaf) ∷ []) ∷ [])
    ≡ none ∷ none ∷ none ∷ some (vinj left (vinj right (vleaf unit_leaf))) ∷ some (vinj right (vleaf unit_leaf)) ∷ []
overlaps_in = refl

list_overlaps : map (overlap_in (tlist bit))
    ((pleaf empty_leaf ∷ pnode element_node (pvar 0) (pvar 1) ∷ []) ∷ (pleaf empty_leaf ∷ pvar 0 ∷ []) ∷ (pnode element_node (pvar 0) (pvar 1) ∷ pvar 0 ∷ []) ∷ [])
    ≡ none ∷ some (vleaf empty_leaf) ∷ some (vnode element_node (vinj left (vleaf unit_leaf)) (vleaf empty_leaf)) ∷ []
list_overlaps = refl

-- what a row of patterns asks of the values after a letter
after_moves : map (λ m. map (λ p. after m (p ∷ pvar 9 ∷ []))
    (pleaf unit_leaf ∷ pleaf empty_leaf ∷ pvar 1 ∷ pinj left (pvar 2) ∷ pinj right (pvar 3) ∷ pnode pair_node (pvar 4) (pvar 5) ∷ pnode element_node (pvar 6) (pvar 7) ∷ [])) all_moves
    ≡ (some (pvar 9 ∷ []) ∷ none ∷ some (pvar 9 ∷ []) ∷ none ∷ none ∷ none ∷ none ∷ [])
    ∷ (none ∷ some (pvar 9 ∷ []) ∷ some (pvar 9 ∷ []) ∷ none ∷ none ∷ none ∷ none ∷ [])
    ∷ (none ∷ none ∷ some (pvar 1 ∷ pvar 9 ∷ []) ∷ some (pvar 2 ∷ pvar 9 ∷ []) ∷ none ∷ none ∷ none ∷ [])
    ∷ (none ∷ none ∷ some (pvar 1 ∷ pvar 9 ∷ []) ∷ none ∷ some (pvar 3 ∷ pvar 9 ∷ []) ∷ none ∷ none ∷ [])
    ∷ (none ∷ none ∷ some (pvar 1 ∷ pvar 1 ∷ pvar 9 ∷ []) ∷ none ∷ none ∷ some (pvar 4 ∷ pvar 5 ∷ pvar 9 ∷ []) ∷ none ∷ [])
    ∷ (none ∷ none ∷ some (pvar 1 ∷ pvar 1 ∷ pvar 9 ∷ []) ∷ none ∷ none ∷ none ∷ some (pvar 6 ∷ pvar 7 ∷ pvar 9 ∷ []) ∷ [])
    ∷ []
after_moves = refl

-- how many values side by side have so many letters, and how many of them a row matches
how_many_lem : map (λ n. how_many n (bit ∷ tsum tunit bit ∷ [])) (0 ∷ 3 ∷ 4 ∷ 5 ∷ 6 ∷ []) ∷ (how_many 0 [] ∷ how_many 1 [] ∷ []) ∷ [] ≡ (0 ∷ 0 ∷ 2 ∷ 4 ∷ 0 ∷ []) ∷ (1 ∷ 0 ∷ []) ∷ []
how_many_lem = refl

ways_matched : map (λ n. ways n (bit ∷ tsum tunit bit ∷ []) (pinj left (pleaf unit_leaf) ∷ pvar 0 ∷ [])) (0 ∷ 3 ∷ 4 ∷ 5 ∷ 6 ∷ [])
    ∷ (ways 0 [] [] ∷ ways 0 [] (pvar 0 ∷ []) ∷ ways 0 (tunit ∷ []) [] ∷ ways 1 [] [] ∷ ways 1 (tunit ∷ []) [] ∷ ways 1 (tunit ∷ []) (pvar 0 ∷ pvar 1 ∷ []) ∷ [])
    ∷ []
    ≡ (0 ∷ 0 ∷ 1 ∷ 2 ∷ 0 ∷ []) ∷ (1 ∷ 0 ∷ 0 ∷ 0 ∷ 0 ∷ 0 ∷ []) ∷ []
ways_matched = refl

-- of lists of bits: one of one letter, two of four, four of seven; of one element, and of a right first
list_counts : map (λ n. how_many n (tlist bit ∷ [])) (0 ∷ 1 ∷ 2 ∷ 4 ∷ 7 ∷ [])
    ∷ map (λ n. ways n (tlist bit ∷ []) (pnode element_node (pvar 0) (pleaf empty_leaf) ∷ [])) (1 ∷ 4 ∷ 7 ∷ [])
    ∷ map (λ n. ways n (tlist bit ∷ []) (pnode element_node (pinj right (pvar 0)) (pvar 1) ∷ [])) (1 ∷ 4 ∷ 7 ∷ [])
    ∷ []
    ≡ (0 ∷ 1 ∷ 0 ∷ 2 ∷ 4 ∷ []) ∷ (0 ∷ 2 ∷ 0 ∷ []) ∷ (0 ∷ 1 ∷ 2 ∷ []) ∷ []
list_counts = refl

-- the first gap, by its length, its letters, and letter by letter: the lefts are matched, and of 1 × (1 + 1) the pair with a left
gaps_found : map (λ ps. gap_in (tsum bit (tprod tunit bit)) ps)
    ((pvar 0 ∷ []) ∷ (pinj left (pvar 0) ∷ []) ∷ (pinj left (pvar 0) ∷ pinj right (pnode pair_node (pleaf unit_leaf) (pinj left (pleaf unit_leaf))) ∷ []) ∷
    (pinj right (pvar 0) ∷ pinj left (pinj left (pleaf unit_leaf)) ∷ []) ∷ [])
    ≡ none ∷ some (bytes "RPULU") ∷ some (bytes "RPURU") ∷ some (bytes "LRU") ∷ []
gaps_found = refl

gap_lengths : map (λ ps. gap_length (tsum bit (tprod tunit bit)) ps) ((pvar 0 ∷ []) ∷ (pinj left (pvar 0) ∷ []) ∷ (pinj right (pvar 0) ∷ pinj left (pinj left (pleaf unit_leaf)) ∷ []) ∷ [])
    ≡ none ∷ some
    5 ∷ some 3 ∷ []
gap_lengths = refl

gap_words : map (λ (c : ℕ × List Pat). gap_word c.0 (tsum bit (tprod tunit bit) ∷ []) (alone c.1))
    ((5, pinj left (pvar 0) ∷ []) ∷ (5, pinj left (pvar 0) ∷ pinj right (pnode pair_node (pleaf unit_leaf) (pinj left (pleaf unit_leaf))) ∷ []) ∷
    (3, pinj right (pvar 0) ∷ pinj left (pinj left (pleaf unit_leaf)) ∷ []) ∷ [])
    ≡ bytes "RPULU" ∷ bytes "RPURU" ∷ bytes "LRU" ∷ []
gap_words = refl

-- a gap of 127 letters is found, one of 128 is none
longest_gap : map (λ a. is_some (gap_in a []) ∷ is_some (gap_length a []) ∷ []) (units 63 ∷ tsum (units 63) (units 63) ∷ []) ≡ (true ∷ true ∷ []) ∷ (false ∷ false ∷ []) ∷ []
longest_gap = refl

-- of lists: the empty one, one element, an element before another; and two elements of 63 letters, which are 129
list_gaps : map (gap_in (tlist bit)) ([] ∷ (pleaf empty_leaf ∷ []) ∷ zones ∷ (pleaf empty_leaf ∷ pnode element_node (pinj left (pvar 0)) (pvar 1) ∷ []) ∷ [])
    ≡ some (bytes "N") ∷ some (bytes "KLUN") ∷ some (bytes "KLUKLUN") ∷ some (bytes "KRUN") ∷ []
list_gaps = refl

list_gap_words : map (λ (c : ℕ × List Pat). gap_word c.0 (tlist bit ∷ []) (alone c.1)) ((1, []) ∷ (4, pleaf empty_leaf ∷ []) ∷ (7, zones) ∷ []) ≡ bytes "N" ∷ bytes "KLUN" ∷ bytes "KLUKLUN" ∷ []
list_gap_words = refl

large_gaps : map (λ n. gap_length (tlist (units n)) zones) (30 ∷ 31 ∷ []) ≡ some 125 ∷ none ∷ []
large_gaps = refl

-- "and it goes into 127 lent bytes": 127 letters fit, 128 do not
fitted : map (λ v. is_some (fitting (some v))) (least (units 63) ∷ vinj left (least (units 63)) ∷ []) ≡ true ∷ false ∷ []
fitted = refl

-- `24,0`
large_answer_lem : answer_of (measured (refused (gap iso_line left) 7) []) ≡ large_answer
large_answer_lem = refl

-- the isos of a file are numbered from 0: of rows whose iso calls itself nothing is shown, 23 standing before its overlap
abbrev row : Kind → ℕ → ℕ → ℕ → Row
row k x y z = record { kind = k; x = x; y = y; z = z }

own_call : shown_of
    (rows
    (row type_line 0 0 0 ∷ row type_line 1 0 0 ∷ row pattern_line 1 0 0 ∷ row pattern_line 1 1 0 ∷ row iso_line 1 1 0 ∷ row clause_line 0 1 0 ∷ row let_line 1 0 0 ∷ row clause_line 0 0 0 ∷ []))
    ≡ []
unfolding showing
own_call = refl
