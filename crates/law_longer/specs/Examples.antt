-- Request 13: examples that shut out wrong readings. Each holds by computation.
use Rattle.std.specs.Prelude.{ℕ, ◌≡◌, refl, true, false, List, [], ◌∷◌, ◌++◌, map, replicate}
use Rattle.std.proofs.Math.Option.{none, some}
use Rattle.calculus.specs.Tools.{concat}
use Rattle.calculus.specs.Trees.{left}
use Rattle.calculus.specs.Refusals.{Kind, type_line, pattern_line, iso_line, clause_line, let_line, ceiling, overlap}
use Rattle.format.specs.Lines.{Row, print_rows}
use Rattle.format.specs.Judge.{Seen}
use Rattle.model.specs.Services.{refused, verdict, answer_of}
use Rattle.model.specs.Cases.{bytes}
use Rattle.law_witnesses.specs.Showing.{count_up}
use Rattle.law_pairlists.specs.PairLists.{type_row, pattern_row, iso_row, clause_row}
use Rattle.law_longer.specs.Former.{within_former, former}
use Rattle.law_longer.specs.Over.{first_over}

abbrev row : Kind → Row
row k = record { kind = k; x = 0; y = 0; z = 0 }

abbrev seen : ℕ → Seen
seen c = record { above = none; types = []; patterns = []; isos = 1; clauses = c; lets = 0 }

-- the 32nd C line passed, the 33rd did not
old_ceiling : map (λ c. within_former (seen c) clause_line (row clause_line)) (31 ∷ 32 ∷ []) ≡ true ∷ false ∷ []
old_ceiling = refl

-- two isos of 32 are within it; the 33rd of the second is the line, and not the 34th; L lines between them count as lines alone
over_lines : map first_over
    ((row type_line ∷ row pattern_line ∷ row iso_line ∷ (replicate 32 (row clause_line) ++ (row iso_line ∷ replicate 32 (row clause_line))))
    ∷ (row iso_line ∷ (replicate 20 (row clause_line) ++ (row iso_line ∷ replicate 40 (row clause_line))))
    ∷ (row iso_line ∷ concat (replicate 40 (row clause_line ∷ row let_line ∷ [])))
    ∷ [])
    ≡ none ∷ some 55 ∷ some 66 ∷ []
over_lines = refl

-- a file of so many equal C lines: refused 11 today, and 7 at its 33rd C line by the former checker
abbrev equal_clauses : ℕ → List ℕ
equal_clauses k = bytes "T,0,0,0\nP,0,0,0\nI,0,0\n" ++ concat (replicate k (bytes "C,0,0\n"))

former_verdicts : map former (equal_clauses 32 ∷ equal_clauses 34 ∷ []) ≡ refused (overlap iso_line left) 3 ∷ refused (ceiling clause_line) 36 ∷ []
unfolding former
former_verdicts = refl

verdict_today : verdict (equal_clauses 34) ≡ refused (overlap iso_line left) 3
unfolding verdict
verdict_today = refl

-- a file that only the new ceiling admits: 33 closed values, each to itself
abbrev longer : List ℕ
longer =
    print_rows
    (type_row 0 0 0 ∷ (map (λ k. type_row 1 0 k) (count_up 32 0)
    ++ (pattern_row 0 0 0 ∷ pattern_row 2 0 0 ∷ (map (λ k. pattern_row 3 k 0) (count_up 31 1)
    ++ (pattern_row 3 0 0 ∷ (map (λ k. pattern_row 3 k 0) (count_up 31 33)
    ++ (iso_row 32 32 ∷ (map (λ k. clause_row k k) (count_up 32 1) ++ (clause_row 64 64 ∷ [])))))))))

only_today : map answer_of (verdict longer ∷ former longer ∷ []) ≡ record { number = 0; line = 0 } ∷ record { number = 7; line = 132 } ∷ []
unfolding verdict former print_rows
only_today = refl
