-- What is left in lent areas, and answers without a line, by computation. `Pins` of `demands` has the lengths of the areas.
use Rattle.std.specs.Prelude.{ℕ, ◌≡◌, refl, true, false, List, [], ◌∷◌, ◌++◌, map, replicate, take}
use Rattle.std.proofs.Math.Option.{none, some}
use Rattle.calculus.specs.Trees.{right}
use Rattle.calculus.specs.Refusals.{iso_line, short_area, too_long, bad_line, gap}
use Rattle.model.specs.Services.{accepted, refused, verdict, filled, written, table_after, work_after, RunAnswer, unless, answer_of, line_of, refusal_of, turn_served, run_served, run_rows}
use Rattle.model.specs.Desk.{query_of}
use Rattle.model.specs.Sheet.{letters_after, narrow_sheet, sheet_by}

-- "over 65,536 bytes or 4,096 lines", at line 0
too_many_lines : answer_of (verdict (replicate 4097 10)) ≡ record { number = 2; line = 0 }
unfolding verdict
too_many_lines = refl

-- "Bytes beyond these lengths … keep their contents"
fills : (filled 3 (1 ∷ []) (7 ∷ 7 ∷ 7 ∷ 8 ∷ 9 ∷ []) ≡ 1 ∷ 0 ∷ 0 ∷ 8 ∷ 9 ∷ []) × (written (1 ∷ 2 ∷ []) (7 ∷ 7 ∷ 8 ∷ 9 ∷ []) ≡ 1 ∷ 2 ∷ 8 ∷ 9 ∷ [])
fills = (refl, refl)

-- "On refusals 3 to 14 those are all zero. … Refusals 1 and 2 change nothing"
areas_left : map (λ v. take 1 (table_after v (7 ∷ [])) ++ take 1 (work_after v (7 ∷ []))) (refused short_area 0 ∷ refused too_long 0 ∷ refused bad_line 1 ∷ refused (gap iso_line right) 1 ∷ [])
    ≡ (7 ∷ 7 ∷ []) ∷ (7 ∷ 7 ∷ []) ∷ (0 ∷ 0 ∷ []) ∷ (0 ∷ 0 ∷ []) ∷ []
areas_left = refl

-- "a lent area is shorter than stated", though the output area is long enough
short_areas : map refusal_of ((turn_served (accepted []) 2 [] [] (0 ∷ 0 ∷ [])).outcome ∷ []) ++ map refusal_of ((run_served (accepted []) [] [] 0 false 0 [] (replicate 127 0)).outcome ∷ [])
    ≡ some short_area ∷ some short_area ∷ []
unfolding run_rows
short_areas = refl

-- "Where no line is named for a refusal, it is 0"
no_lines : (map answer_of (unless true (accepted []) ∷ accepted [] ∷ unless false (refused bad_line 3) ∷ [])
    ≡ record { number = 1; line = 0 } ∷ record { number = 0; line = 0 } ∷ record { number = 3; line = 3 } ∷ [])
    × (map line_of (accepted [] ∷ refused bad_line 3 ∷ []) ≡ 0 ∷ 3 ∷ [])
no_lines = (refl, refl)

-- request 01: "its letters stand in 127 bytes of its own in one lent area. A refused query leaves its 127 bytes unchanged"
abbrev answered : List ℕ → RunAnswer
answered ls = record { refusal = none; number = 0; count = 1; letters = ls }

sheet_letters : letters_after (answered (1 ∷ 2 ∷ []) ∷ answered [] ∷ answered (3 ∷ []) ∷ []) (replicate 382 7)
    ≡ (1 ∷ 2 ∷ replicate 125 7) ++ (replicate 127 7 ++ ((3 ∷ replicate 126 7) ++ (7 ∷ [])))
sheet_letters = refl

-- "A lent area too short for the queries given is 1": three numbers and 127 bytes a query
sheet_areas : narrow_sheet 2 (replicate 6 0) (replicate 254 0) ∷ narrow_sheet 2 (replicate 5 0) (replicate 254 0) ∷ narrow_sheet 2 (replicate 6 0) (replicate 253 0) ∷ [] ≡ false ∷ true ∷ true ∷ []
sheet_areas = refl

sheet_short : (sheet_by (accepted []) [] [] [] [] []).answer ≡ record { number = 1; line = 0 }
unfolding query_of
sheet_short = refl
