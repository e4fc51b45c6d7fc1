-- A row of the table, read and written as the turned file has it.
use Prim.Native.Nat.{ℕ, ◌%◌, ◌<◌}
use native.Mathlib.Omega.{arith}
use mathlib.Core.Path.{◌≡◌, refl, sym, ap, ap₂, ◌∙◌, subst}
use mathlib.Core.Option.{some}
use mathlib.Core.List.{List}
use lib.ListN.{get_elem?}
use Rattle.limits.specs.Limits.{numeral_bound}
use Rattle.calculus.specs.Refusals.{Kind, type_line, pattern_line, iso_line, clause_line, let_line}
use Rattle.format.specs.Lines.{Row, letter, kind_of, print}
use Rattle.format.specs.Unfold.{exchange}
use Rattle.format.specs.Code.{kind_view}
use Rattle.format.specs.declared.Kind as K
use Rattle.calculus.proofs.Basic.{none≢some, some_inj}
use Rattle.format.proofs.Printing.{kind_of_letter}
use Rattle.read_forms.specs.Views.{as_letter}
use Rattle.std.specs.Prelude as P
use Rattle.std.specs.Prelude.{Some, None}
use Rattle.area_cells.specs.Areas.{Writes}
use Rattle.table_trees.specs.Unfolding.{cell_of}
use Rattle.table_walks.specs.Walk.{FileIn}
use Rattle.turner.specs.Written.{turned_row, RowWritten}

abbrev row : Kind → ℕ → ℕ → ℕ → Row
row k x y z = record { kind = k; x = x; y = y; z = z }

-- ---- exchanged fields

-- T and P rows are kept, I and C rows exchange the first two fields, L rows the first and the third
pub kept_type : (k : Kind) (x y z : ℕ) → k ≡ type_line → row k x y z ≡ exchange k (row k x y z)
kept_type k x y z e = sym (ap (λ j. exchange j (row k x y z)) e)

pub kept_pattern : (k : Kind) (x y z : ℕ) → k ≡ pattern_line → row k x y z ≡ exchange k (row k x y z)
kept_pattern k x y z e = sym (ap (λ j. exchange j (row k x y z)) e)

pub exchanged_iso : (k : Kind) (x y z : ℕ) → k ≡ iso_line → row k y x z ≡ exchange k (row k x y z)
exchanged_iso k x y z e = sym (ap (λ j. exchange j (row k x y z)) e)

pub exchanged_clause : (k : Kind) (x y z : ℕ) → k ≡ clause_line → row k y x z ≡ exchange k (row k x y z)
exchanged_clause k x y z e = sym (ap (λ j. exchange j (row k x y z)) e)

pub exchanged_let : (k : Kind) (x y z : ℕ) → k ≡ let_line → row k z y x ≡ exchange k (row k x y z)
exchanged_let k x y z e = sym (ap (λ j. exchange j (row k x y z)) e)

-- a row whose fields are below a bound
record Below (bound : ℕ) (r : Row) : Type 0 where
  x : r.x < bound
  y : r.y < bound
  z : r.z < bound

exchange_below : (bound : ℕ) (k : Kind) (r : Row) → Below bound r → Below bound (exchange k r)
exchange_below bound type_line r h = h
exchange_below bound pattern_line r h = h
exchange_below bound iso_line r h = record { x = h.y; y = h.x; z = h.z }
exchange_below bound clause_line r h = record { x = h.y; y = h.x; z = h.z }
exchange_below bound let_line r h = record { x = h.z; y = h.y; z = h.x }

-- ---- the row that the table holds

letter_byte : (k : Kind) → letter k % 256 ≡ letter k
letter_byte type_line = refl
letter_byte pattern_line = refl
letter_byte iso_line = refl
letter_byte clause_line = refl
letter_byte let_line = refl

module _ {t : List ℕ} {types patterns lines : ℕ} (rs : List Row) (n : ℕ) (r : Row) (l : P.Option K.Kind) (f : FileIn t types patterns lines rs)
    (at : get_elem? rs n ≡ some r) {a b : ℕ} (cell : a ≡ cell_of t n 0) (byte : b ≡ a % 256) (read : as_letter l ≡ kind_of b) where
  -- the letter that the code reads is the row's
  read_letter : as_letter l ≡ some r.kind
  read_letter =
      let there : a ≡ letter r.kind = cell ∙ f.letters n r at in
      read ∙ ap kind_of (byte ∙ ap (λ c. c % 256) there ∙ letter_byte r.kind) ∙ kind_of_letter r.kind

  -- a row's letter is one of the five
  no_letter : l ≡ None → ⊥
  no_letter e = none≢some (sym (ap as_letter e) ∙ read_letter)

  kind_read : (k : K.Kind) → l ≡ Some k → kind_view k ≡ r.kind
  kind_read k e = some_inj (sym (ap as_letter e) ∙ read_letter)

-- fields that are equal, as one row
same_row : (r : Row) {k : Kind} {x y z : ℕ} → k ≡ r.kind → x ≡ r.x → y ≡ r.y → z ≡ r.z → row k x y z ≡ r
same_row r p q s u = λ i. row (p i) (q i) (s i) (u i)

-- what writing a row says of it
abbrev Puts : List ℕ → List ℕ → ℕ → ℕ → Row → Type 0
Puts l l' at end r = r.x < numeral_bound → r.y < numeral_bound → r.z < numeral_bound → Writes l l' at end (print r)

-- a row read from the table and written exchanged
pub row_written : {t l l' : List ℕ} {n at end a b x y z : ℕ} {c : P.Option K.Kind} (k : K.Kind) (q : Row)
    → a ≡ cell_of t n 0 → b ≡ a % 256 → as_letter c ≡ kind_of b → c ≡ Some k
    → (x ≡ cell_of t n 1) × (x < 65536) → (y ≡ cell_of t n 2) × (y < 65536) → (z ≡ cell_of t n 3) × (z < 65536)
    → q ≡ exchange (kind_view k) (row (kind_view k) x y z) → Puts l l' at end q → RowWritten t l l' n at end
row_written {t} {l} {l'} {n} {at} {end} {a} {b} {x} {y} {z} {c} k q cell byte read of hx hy hz made puts =
    record {
      bytes = λ types patterns lines rs r f there.
          let kind : kind_view k ≡ r.kind = kind_read rs n r c f there cell byte read k of in
          let below : Below numeral_bound (row (kind_view k) x y z) = record { x = omega arith; y = omega arith; z = omega arith } in
          let ex : Below numeral_bound q = subst (Below numeral_bound) (sym made) (exchange_below numeral_bound (kind_view k) (row (kind_view k) x y z) below) in
          let same : row (kind_view k) x y z ≡ r =
          same_row r kind (hx.0 ∙ f.xs n r there) (hy.0 ∙ f.ys n r there) (hz.0 ∙ f.zs n r there)
          in
          let is : q ≡ turned_row r = made ∙ ap₂ exchange kind same in
          subst (λ s. Writes l l' at end (print s)) is (puts ex.x ex.y ex.z);
    }

-- no row of a file has another letter
pub row_unwritten : {t l l' : List ℕ} {n at end a b : ℕ} {c : P.Option K.Kind}
    → a ≡ cell_of t n 0 → b ≡ a % 256 → as_letter c ≡ kind_of b → c ≡ None → RowWritten t l l' n at end
row_unwritten {n = n} {c = c} cell byte read e = record { bytes = λ types patterns lines rs r f there. absurd (no_letter rs n r c f there cell byte read e) }
