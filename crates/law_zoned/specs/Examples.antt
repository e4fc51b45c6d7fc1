-- Request 14's former files: examples that shut out wrong readings. Each holds by computation.
use Rattle.std.specs.Prelude.{ℕ, ◌≡◌, refl, true, false, List, [], ◌∷◌, map}
use Rattle.std.proofs.Math.Option.{none}
use Rattle.calculus.specs.Refusals.{Kind, type_line, pattern_line, iso_line, clause_line, let_line}
use Rattle.format.specs.Lines.{Row}
use Rattle.format.specs.Judge.{Seen, within_ceilings}
use Rattle.model.specs.Services.{verdict, answer_of}
use Rattle.model.specs.Cases.{bytes, file_s}
use Rattle.law_zoned.specs.Before.{of_lists, calls_itself, before}

abbrev row : Kind → ℕ → ℕ → Row
row k x y = record { kind = k; x = x; y = y; z = 0 }

-- T kind 3, P kinds 5 and 6, and no other line
of_lists_lem : map (λ r. of_lists r.kind r)
    (row type_line 2 0 ∷ row type_line 3 0 ∷ row type_line 5 0 ∷ row pattern_line 3 0 ∷ row pattern_line 4 0 ∷ row pattern_line 5 0 ∷ row pattern_line 6 0 ∷ row pattern_line 7 0
    ∷ row iso_line 3 5 ∷ row clause_line 5 6 ∷ row let_line 3 5 ∷ [])
    ≡ false ∷ true ∷ false ∷ false ∷ false ∷ true ∷ true ∷ false ∷ false ∷ false ∷ false ∷ []
of_lists_lem = refl

-- below three I lines, iso 2 is an L line's own
abbrev seen : Seen
seen = record { above = none; types = []; patterns = []; isos = 3; clauses = 1; lets = 0 }

own_iso : map (λ r. calls_itself seen r.kind r) (row let_line 0 1 ∷ row let_line 0 2 ∷ row let_line 0 3 ∷ row clause_line 0 2 ∷ row iso_line 0 2 ∷ []) ≡ false ∷ true ∷ false ∷ false ∷ false ∷ []
own_iso = refl

-- S is accepted then as now; a list is 5 at its line; S with line 17 as L,4,1,3 is 6 there, and 10 at line 16 now
abbrev own_s : List ℕ
own_s = bytes "T,0,0,0\nT,1,0,0\nT,2,1,1\nP,0,0,0\nP,2,0,0\nP,3,0,0\nP,1,0,0\nP,1,1,0\nP,4,1,3\nP,4,1,4\nP,4,2,3\nI,1,1\nC,1,2\nC,2,1\nI,2,2\nC,5,6\nL,4,1,3\nC,7,7\n"

abbrev lists : List ℕ
lists = bytes "T,0,0,0\nT,3,0,0\nP,1,0,0\nI,1,1\nC,0,0\n"

then_and_now : map answer_of (before within_ceilings file_s ∷ before within_ceilings lists ∷ verdict lists ∷ before within_ceilings own_s ∷ verdict own_s ∷ [])
    ≡ record { number = 0; line = 0 } ∷ record { number = 5; line = 2 } ∷ record { number = 0; line = 0 } ∷ record { number = 6; line = 17 } ∷ record { number = 10; line = 16 } ∷ []
unfolding verdict before
then_and_now = refl
