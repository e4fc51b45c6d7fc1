-- What the table holds of a file: its length, its last row, the number of a cell, and the sizes.
use Prim.Native.Nat.{ℕ, zero, suc, ◌+◌, ◌*◌, ◌<◌, ◌≤◌}
use native.Mathlib.Nat.{zero-add, zero-mul}
use native.Mathlib.Omega.{arith}
use mathlib.Core.Path.{◌≡◌, refl, sym, ap, ap₂, ◌∙◌}
use mathlib.Core.Option.{some}
use mathlib.Core.List.{List, [], ◌∷◌, ◌++◌, append_assoc}
use lib.ListN.{get_elem?, length, get_or, take, length-append, get_or-append}
use lib.Seq.{get_or-append-add}
use Rattle.limits.specs.Limits.{row_width, max_nodes}
use Rattle.calculus.specs.Refusals.{Kind, type_line, pattern_line, iso_line, clause_line, let_line}
use Rattle.format.specs.Lines.{Row}
use Rattle.format.specs.Judge.{Seen, start, after, after_all}
use Rattle.format.specs.Table.{size_of, numbers, row_size, table_from, table_of}
use Rattle.format.proofs.Passing.{Fit, type_fit, pattern_fit}
use Rattle.calculus.proofs.Basic.{none≢some, some_inj}

-- "five numbers"
length_from : (s : Seen) (rs : List Row) → length (table_from s rs) ≡ length rs * row_width
length_from s [] = refl
length_from s (r ∷ rs) = omega (arith, length-append (numbers r (row_size s r)) (table_from (after s r) rs), length_from (after s r) rs)

pub length_table : (rs : List Row) → length (table_of rs) ≡ length rs * row_width
length_table rs = length_from start rs

-- one row more at the end
snoc_from : (s : Seen) (rs : List Row) (r : Row) → table_from s (rs ++ (r ∷ [])) ≡ table_from s rs ++ numbers r (row_size (after_all s rs) r)
snoc_from s [] r = refl
snoc_from s (q ∷ rs) r =
    ap (λ l. numbers q (row_size s q) ++ l) (snoc_from (after s q) rs r)
    ∙ sym (append_assoc (numbers q (row_size s q)) (table_from (after s q) rs) (numbers r (row_size (after_all (after s q) rs) r)))

pub table_snoc : (rs : List Row) (r : Row) → table_of (rs ++ (r ∷ [])) ≡ table_of rs ++ numbers r (row_size (after_all start rs) r)
table_snoc rs r = snoc_from start rs r

further : (k m : ℕ) → suc k * row_width + m ≡ row_width + (k * row_width + m)
further k m = omega arith

-- the numbers of the first row
front : (q : Row) (n : ℕ) (more rest : List ℕ) (m : ℕ) → m < row_width → get_or (numbers q n ++ more ++ rest) m 0 ≡ get_or (numbers q n) m 0
front q n more rest m h = ap (λ l. get_or l m 0) (append_assoc (numbers q n) more rest) ∙ get_or-append (numbers q n) (more ++ rest) 0 m h

-- number m of the k-th of some rows
cell_from : (s : Seen) (rs : List Row) (rest : List ℕ) (k m : ℕ) (r : Row) → get_elem? rs k ≡ some r → m < row_width
    → get_or (table_from s rs ++ rest) (k * row_width + m) 0 ≡ get_or (numbers r (row_size (after_all s (take k rs)) r)) m 0
cell_from s [] rest k m r e h = absurd (none≢some e)
cell_from s (q ∷ rs) rest zero m r e h =
    ap (λ n. get_or (numbers q (row_size s q) ++ table_from (after s q) rs ++ rest) n 0) (ap (λ z. z + m) (zero-mul row_width) ∙ zero-add m)
    ∙ front q (row_size s q) (table_from (after s q) rs) rest m h
    ∙ ap (λ z. get_or (numbers z (row_size s z)) m 0) (some_inj e)
cell_from s (q ∷ rs) rest (suc k) m r e h =
    ap₂ (λ l n. get_or l n 0) (append_assoc (numbers q (row_size s q)) (table_from (after s q) rs) rest) (further k m)
    ∙ get_or-append-add (numbers q (row_size s q)) (table_from (after s q) rs ++ rest) (k * row_width + m) 0
    ∙ cell_from (after s q) rs rest k m r e h

pub table_cell : (rs : List Row) (rest : List ℕ) (k m : ℕ) (r : Row) → get_elem? rs k ≡ some r → m < row_width
    → get_or (table_of rs ++ rest) (k * row_width + m) 0 ≡ get_or (numbers r (row_size (after_all start (take k rs)) r)) m 0
table_cell rs rest k m r e h = cell_from start rs rest k m r e h

-- ---- sizes

-- the size of a row that passes is within the ceiling
pub size_fits : (s : Seen) (k : Kind) (r : Row) → Fit s k r → size_of k s r ≤ max_nodes
size_fits s type_line r f = (type_fit s r f).1
size_fits s pattern_line r f = (pattern_fit s r f).1
size_fits s iso_line r f = omega arith
size_fits s clause_line r f = omega arith
size_fits s let_line r f = omega arith
