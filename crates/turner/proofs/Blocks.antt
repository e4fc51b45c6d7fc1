-- The turned rows of a row that is no L row, the L rows below it, and the rest.
use Prim.Native.Nat.{ℕ, zero, suc, ◌≤◌}
use native.Mathlib.Nat.{not-suc-le-zero, le_of_suc-le-suc}
use mathlib.Core.Path.{◌≡◌, refl, sym, ap, ap₂, ◌∙◌}
use mathlib.Core.Option.{some}
use mathlib.Core.List.{List, [], ◌∷◌, ◌++◌, map, reverse, append-nil, append_assoc, reverse-cons}
use lib.ListN.{get_elem?, drop, take-append-drop}
use lib.Seq.{slice}
use Rattle.calculus.specs.Refusals.{Kind, type_line, pattern_line, iso_line, clause_line, let_line}
use Rattle.format.specs.Lines.{Row, print, print_rows}
use Rattle.format.specs.Unfold.{exchange, turn_row, turn_from, turn_rows}
use Rattle.format.proofs.Printing.{print_rows_cons, print_append, print_one}
use Rattle.turner.specs.Written.{turned_row}

-- ---- printed rows

-- one row more in front stands behind in the new order
pub print_more : (r : Row) (ls : List Row) → print_rows (reverse (map turned_row ls)) ++ print (turned_row r) ≡ print_rows (reverse (map turned_row (r ∷ ls)))
print_more r ls =
    ap (λ bs. print_rows (reverse (map turned_row ls)) ++ bs) (sym (print_one (turned_row r)))
    ∙ sym (print_append (reverse (map turned_row ls)) (turned_row r ∷ []))
    ∙ ap print_rows (sym (reverse-cons (turned_row r) (map turned_row ls)))

-- ---- turned rows

-- only L rows
abbrev pub AllLets : List Row → Type 0
AllLets [] = Unit {0}
AllLets (r ∷ rs) = (r.kind ≡ let_line) × AllLets rs

-- no L row in front
abbrev pub NoLet : List Row → Type 0
NoLet [] = Unit {0}
NoLet (r ∷ rs) = r.kind ≡ let_line → ⊥

-- L rows in front are held last to first
held_lets : (ls rest : List Row) → AllLets ls → (turn_from (ls ++ rest)).held ≡ (turn_from rest).held ++ reverse (map turned_row ls)
held_lets [] rest u = sym (append-nil (turn_from rest).held)
held_lets (l ∷ ls) rest u =
    ap (λ k. (turn_row k l (turn_from (ls ++ rest))).held) u.0
    ∙ ap (λ hs. hs ++ (exchange let_line l ∷ [])) (held_lets ls rest u.1)
    ∙ append_assoc (turn_from rest).held (reverse (map turned_row ls)) (exchange let_line l ∷ [])
    ∙ ap (λ k. (turn_from rest).held ++ (reverse (map turned_row ls) ++ (exchange k l ∷ []))) (sym u.0)
    ∙ ap (λ hs. (turn_from rest).held ++ hs) (sym (reverse-cons (turned_row l) (map turned_row ls)))

-- and leave the rest
rest_lets : (ls rest : List Row) → AllLets ls → (turn_from (ls ++ rest)).rest ≡ (turn_from rest).rest
rest_lets [] rest u = refl
rest_lets (l ∷ ls) rest u = ap (λ k. (turn_row k l (turn_from (ls ++ rest))).rest) u.0 ∙ rest_lets ls rest u.1

none_held : (rest : List Row) → NoLet rest → (turn_from rest).held ≡ []
none_held [] h = refl
none_held (r ∷ rest) h = go r.kind h
  where
    go : (k : Kind) → (k ≡ let_line → ⊥) → (turn_row k r (turn_from rest)).held ≡ []
    go type_line u = refl
    go pattern_line u = refl
    go iso_line u = refl
    go clause_line u = refl
    go let_line u = absurd (u refl)

turn_first : (r : Row) (rs : List Row) → (r.kind ≡ let_line → ⊥) → turn_rows (r ∷ rs) ≡ turned_row r ∷ ((turn_from rs).held ++ (turn_from rs).rest)
unfolding turn_rows
turn_first r rs h = go r.kind h
  where
    go : (k : Kind) → (k ≡ let_line → ⊥)
        → (turn_row k r (turn_from rs)).held ++ (turn_row k r (turn_from rs)).rest ≡ exchange k r ∷ ((turn_from rs).held ++ (turn_from rs).rest)
    go type_line u = refl
    go pattern_line u = refl
    go iso_line u = refl
    go clause_line u = refl
    go let_line u = absurd (u refl)

turn_rest : (rest : List Row) → NoLet rest → turn_rows rest ≡ (turn_from rest).rest
unfolding turn_rows
turn_rest rest h = ap (λ hs. hs ++ (turn_from rest).rest) (none_held rest h)

-- a row that is no L row, the L rows below it, and the rest
turn_block : (r : Row) (ls rest : List Row) → (r.kind ≡ let_line → ⊥) → AllLets ls → NoLet rest
    → turn_rows (r ∷ (ls ++ rest)) ≡ turned_row r ∷ (reverse (map turned_row ls) ++ turn_rows rest)
turn_block r ls rest h u n =
    turn_first r (ls ++ rest) h
    ∙ ap (λ qs. turned_row r ∷ qs)
    (ap₂ ◌++◌ (held_lets ls rest u ∙ ap (λ hs. hs ++ reverse (map turned_row ls)) (none_held rest n)) (rest_lets ls rest u ∙ sym (turn_rest rest n)))

pub print_block : (r : Row) (ls rest : List Row) → (r.kind ≡ let_line → ⊥) → AllLets ls → NoLet rest
    → (print (turned_row r) ++ print_rows (reverse (map turned_row ls))) ++ print_rows (turn_rows rest) ≡ print_rows (turn_rows (r ∷ (ls ++ rest)))
print_block r ls rest h u n =
    append_assoc (print (turned_row r)) (print_rows (reverse (map turned_row ls))) (print_rows (turn_rows rest))
    ∙ ap (λ bs. print (turned_row r) ++ bs) (sym (print_append (reverse (map turned_row ls)) (turn_rows rest)))
    ∙ sym (print_rows_cons (turned_row r) (reverse (map turned_row ls) ++ turn_rows rest))
    ∙ ap print_rows (sym (turn_block r ls rest h u n))

-- ---- rows by their place

-- the rows from one place on are those up to another and those behind it
module _ {A : Type 0} where
  pub drop_slice : (f t : ℕ) (l : List A) → f ≤ t → drop f l ≡ slice f t l ++ drop t l
  drop_slice zero t l h = sym (take-append-drop t l)
  drop_slice (suc f) zero l h = absurd (not-suc-le-zero h)
  drop_slice (suc f) (suc t) [] h = refl
  drop_slice (suc f) (suc t) (x ∷ l) h = drop_slice f t l (le_of_suc-le-suc h)

-- by the row at that place
pub no_let : (rs : List Row) (n : ℕ) → ((r : Row) → get_elem? rs n ≡ some r → r.kind ≡ let_line → ⊥) → NoLet (drop n rs)
no_let [] zero h = tt
no_let [] (suc n) h = tt
no_let (r ∷ rs) zero h = h r refl
no_let (r ∷ rs) (suc n) h = no_let rs n h
