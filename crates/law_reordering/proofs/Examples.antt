-- How far the relation reaches, shown on files from raw bytes: any permutation and several isos at once belong to it; an L line moved to another clause, let
-- steps exchanged within a clause and clauses moved between isos do not. Each answer holds by computation.
use Prim.Native.Nat.{ℕ}
use native.Mathlib.Omega.{arith}
use mathlib.Core.Path.{◌≡◌, refl, sym, ap, ◌∙◌}
use mathlib.Core.Bool.{false}
use mathlib.Core.List.{List, [], ◌∷◌, ◌++◌}
use lib.ListN.{get_or}
use Rattle.format.specs.Lines.{lines}
use Rattle.model.specs.Services.{verdict, answer_of, gives, Ran, run}
use Rattle.model.specs.Desk.{desk}
use Rattle.model.specs.Cases.{bytes, file_s}
use Rattle.model.proofs.Files.{answer_zero}
use Rattle.model.proofs.Outcomes.{gives_inj}
use Rattle.law_reordering.specs.Reordered.{SameButOrder, keep, swap, then, Shuffled}
use Rattle.law_reordering.proofs.Orders.{every_order}
use Rattle.law_reordering.proofs.Services.{run_rows_lem}

-- ---- not too narrow

-- S with the clauses of both isos exchanged, the let step with its clause
abbrev pub other_s : List ℕ
other_s =
    bytes "T,0,0,0\nT,1,0,0\nT,2,1,1\nP,0,0,0\nP,2,0,0\nP,3,0,0\nP,1,0,0\nP,1,1,0\nP,4,1,3\nP,4,1,4\nP,4,2,3\nI,1,1\nC,2,1\nC,1,2\nI,2,2\nC,7,7\nC,5,6\nL,4,0,3\n"

several_isos : SameButOrder file_s other_s
several_isos =
    every_order
    (Shuffled.more {i = bytes "I,1,1\n"} {bs = (bytes "C,1,2\n" ∷ []) ∷ ((bytes "C,2,1\n" ∷ []) ∷ [])} refl refl (swap refl refl refl)
    (Shuffled.more {i = bytes "I,2,2\n"} {bs = (bytes "C,5,6\n" ∷ (bytes "L,4,0,3\n" ∷ [])) ∷ ((bytes "C,7,7\n" ∷ []) ∷ [])} refl refl (swap refl refl refl)
    Shuffled.none))
    (lines (bytes "T,0,0,0\nT,1,0,0\nT,2,1,1\nP,0,0,0\nP,2,0,0\nP,3,0,0\nP,1,0,0\nP,1,1,0\nP,4,1,3\nP,4,1,4\nP,4,2,3\n"))

-- both answer document 01's first query alike
several_answers : (desk (file_s ++ bytes "Q,1,0,9,PLURU\n") ≡ bytes "0,0\n0,2,PLULU\n") × (desk (other_s ++ bytes "Q,1,0,9,PLURU\n") ≡ bytes "0,0\n0,2,PLULU\n")
unfolding desk
several_answers = (refl, refl)

-- three values turned round: the last clause first, the others behind it, which no one exchange of neighbours gives
abbrev head : List ℕ
head = bytes "T,0,0,0\nT,1,0,0\nT,1,0,1\nP,0,0,0\nP,2,0,0\nP,3,1,0\nP,3,0,0\nP,3,3,0\nP,1,0,0\n"

any_permutation : SameButOrder (head ++ bytes "I,2,2\nC,1,2\nC,2,4\nC,4,1\n") (head ++ bytes "I,2,2\nC,4,1\nC,1,2\nC,2,4\n")
any_permutation =
    every_order
    (Shuffled.more {i = bytes "I,2,2\n"} {bs = (bytes "C,1,2\n" ∷ []) ∷ ((bytes "C,2,4\n" ∷ []) ∷ ((bytes "C,4,1\n" ∷ []) ∷ []))} refl refl
    (then (keep refl (swap refl refl refl)) (swap refl refl refl))
    Shuffled.none)
    (lines head)

-- ---- not too wide: each pair is accepted, and answers differently

-- an L line moved to another clause
abbrev pub lets_here : List ℕ
lets_here =
    bytes "T,0,0,0\nT,1,0,0\nT,2,1,1\nP,0,0,0\nP,2,0,0\nP,3,0,0\nP,1,0,0\nP,4,1,3\nP,4,2,3\nI,1,1\nC,1,2\nC,2,1\nI,2,2\nC,4,4\nL,3,0,3\nC,5,5\n"

abbrev pub lets_there : List ℕ
lets_there =
    bytes "T,0,0,0\nT,1,0,0\nT,2,1,1\nP,0,0,0\nP,2,0,0\nP,3,0,0\nP,1,0,0\nP,4,1,3\nP,4,2,3\nI,1,1\nC,1,2\nC,2,1\nI,2,2\nC,4,4\nC,5,5\nL,3,0,3\n"

-- let steps exchanged within a clause: the first and the second value exchanged, then the second and the third
abbrev pub first_then_second : List ℕ
first_then_second = head ++ bytes "I,2,2\nC,1,2\nC,2,1\nC,4,4\nI,2,2\nC,1,1\nC,2,4\nC,4,2\nI,2,2\nC,5,5\nL,5,0,5\nL,5,1,5\n"

abbrev pub second_then_first : List ℕ
second_then_first = head ++ bytes "I,2,2\nC,1,2\nC,2,1\nC,4,4\nI,2,2\nC,1,1\nC,2,4\nC,4,2\nI,2,2\nC,5,5\nL,5,1,5\nL,5,0,5\n"

-- clauses moved between isos: those of the first two isos exchanged
abbrev pub clauses_there : List ℕ
clauses_there = head ++ bytes "I,2,2\nC,1,1\nC,2,4\nC,4,2\nI,2,2\nC,1,2\nC,2,1\nC,4,4\nI,2,2\nC,5,5\nL,5,0,5\nL,5,1,5\n"

-- what each gives
moved_answers :
    (run lets_here 1 false 9 (bytes "PLULU") ≡ gives (2, bytes "PLURU"))
    × (run lets_there 1 false 9 (bytes "PLULU") ≡ gives (1, bytes "PLULU"))
    × (run first_then_second 2 false 9 (bytes "LU") ≡ gives (3, bytes "RRU"))
    × (run second_then_first 2 false 9 (bytes "LU") ≡ gives (3, bytes "RLU"))
    × (run clauses_there 2 false 9 (bytes "LU") ≡ gives (3, bytes "RLU"))
unfolding run
moved_answers = (refl, refl, refl, refl, refl)

accepted_here : ((answer_of (verdict lets_here)).number ≡ 0) × ((answer_of (verdict first_then_second)).number ≡ 0)
unfolding verdict
accepted_here = (refl, refl)

gave : {p q : ℕ × List ℕ} → ◌≡◌ {A = Ran} (gives p) (gives q) → (p.0 ≡ q.0) × (p.1 ≡ q.1)
gave e = let same = gives_inj e in (ap (λ p. p.0) same, ap (λ p. p.1) same)

no_let_moved : SameButOrder lets_here lets_there → ⊥
no_let_moved r =
    let (rs, e) = answer_zero (verdict lets_here) accepted_here.0 in
    let one_is_two : ◌≡◌ {A = ℕ} 2 1 = (gave (sym moved_answers.0 ∙ run_rows_lem lets_here lets_there r rs e 1 false 9 (bytes "PLULU") ∙ moved_answers.1)).0 in
    absurd (omega arith)

no_steps_exchanged : SameButOrder first_then_second second_then_first → ⊥
no_steps_exchanged r =
    let (rs, e) = answer_zero (verdict first_then_second) accepted_here.1 in
    let one_letter : ◌≡◌ {A = ℕ} 82 76 =
    ap (λ ls. get_or ls 1 0) (gave (sym moved_answers.2 ∙ run_rows_lem first_then_second second_then_first r rs e 2 false 9 (bytes "LU") ∙ moved_answers.3)).1 in
    absurd (omega arith)

no_clauses_moved : SameButOrder first_then_second clauses_there → ⊥
no_clauses_moved r =
    let (rs, e) = answer_zero (verdict first_then_second) accepted_here.1 in
    let one_letter : ◌≡◌ {A = ℕ} 82 76 =
    ap (λ ls. get_or ls 1 0) (gave (sym moved_answers.2 ∙ run_rows_lem first_then_second clauses_there r rs e 2 false 9 (bytes "LU") ∙ moved_answers.4)).1 in
    absurd (omega arith)

-- ---- refused files

-- "and the number too where a file has two faults": of two clauses of one iso, the one with 10, the other with 8
two_faults : (desk (bytes "T,0,0,0\nT,1,0,0\nP,0,0,0\nP,1,0,0\nI,1,1\nC,0,0\nC,1,0\n") ≡ bytes "10,6\n")
    × (desk (bytes "T,0,0,0\nT,1,0,0\nP,0,0,0\nP,1,0,0\nI,1,1\nC,1,0\nC,0,0\n") ≡ bytes "8,6\n")
unfolding desk
two_faults = (refl, refl)

-- "the line may differ": one fault, in a clause that moved
one_fault : (desk (bytes "T,0,0,0\nP,0,0,0\nP,1,0,0\nI,0,0\nC,1,0\nC,0,0\n") ≡ bytes "8,5\n")
    × (desk (bytes "T,0,0,0\nP,0,0,0\nP,1,0,0\nI,0,0\nC,0,0\nC,1,0\n") ≡ bytes "8,6\n")
unfolding desk
one_fault = (refl, refl)

-- one fault of 3, 6 and 7, in a line that moved with its clause: a C line of another form, an L line that names a later iso, a ninth L line
abbrev two_isos : List ℕ
two_isos = bytes "T,0,0,0\nP,0,0,0\nP,1,0,0\nI,0,0\nC,1,1\nI,0,0\n"

abbrev nine_steps : List ℕ
nine_steps = bytes "C,0,0\nL,1,0,1\nL,1,0,1\nL,1,0,1\nL,1,0,1\nL,1,0,1\nL,1,0,1\nL,1,0,1\nL,1,0,1\nL,1,0,1\n"

moved_fault : (desk (two_isos ++ bytes "C,0\nC,0,0\n") ≡ bytes "3,7\n")
    × (desk (two_isos ++ bytes "C,0,0\nC,0\n") ≡ bytes "3,8\n")
    × (desk (two_isos ++ bytes "C,0,0\nL,1,2,1\nC,0,0\n") ≡ bytes "6,8\n")
    × (desk (two_isos ++ bytes "C,0,0\nC,0,0\nL,1,2,1\n") ≡ bytes "6,9\n")
    × (desk (two_isos ++ (nine_steps ++ bytes "C,0,0\n")) ≡ bytes "7,16\n")
    × (desk (two_isos ++ (bytes "C,0,0\n" ++ nine_steps)) ≡ bytes "7,17\n")
unfolding desk
moved_fault = (refl, refl, refl, refl, refl, refl)
