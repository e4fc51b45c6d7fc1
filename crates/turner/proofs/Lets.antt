-- Where the L rows below a row end, and what is written of them from the last one on.
use Prim.Native.Nat.{ℕ, zero, suc, ◌+◌, ◌-◌, ◌≤◌, ◌<◌}
use native.Mathlib.Omega.{arith}
use mathlib.Core.Path.{◌≡◌, refl, sym, ap, ◌∙◌, subst}
use mathlib.Core.Logic.{◌⊎◌, inl, inr}
use mathlib.Core.Option.{some}
use mathlib.Core.List.{List, ◌∷◌, map, reverse}
use lib.ListN.{length, get_or, get_elem?}
use lib.Seq.{slice, slice_empty, slice-cons}
use Rattle.calculus.specs.Refusals.{Kind, type_line, pattern_line, iso_line, clause_line, let_line}
use Rattle.format.specs.Lines.{Row, letter, print_rows}
use Rattle.format.proofs.Printing.{print_rows_nil}
use Rattle.area_cells.specs.Areas.{Writes}
use Rattle.area_cells.proofs.Writing.{writes_none, writes_both, writes_as}
use Rattle.table_trees.specs.Unfolding.{cell_of}
use Rattle.table_walks.specs.Walk.{FileIn}
use Rattle.table_walks.proofs.Rows.{get_row}
use Rattle.turner.specs.Written.{turned_row, RowWritten, LetsWritten, LetsEnd}
use Rattle.turner.proofs.Blocks.{print_more, AllLets}

-- ---- where the L rows end

-- the rows from row n up to row m are L rows
pub record LetsUpTo (t : List ℕ) (n lines m : ℕ) : Type 0 where
  pub further : n ≤ m
  pub within : n ≤ lines → m ≤ lines
  pub lets : (k : ℕ) → n ≤ k → k < m → cell_of t k 0 ≡ letter let_line

pub lets_none : (t : List ℕ) (n lines : ℕ) → LetsUpTo t n lines n
lets_none t n lines = record { further = omega arith; within = λ h. h; lets = λ k h j. absurd (omega arith) }

at_last : (k m : ℕ) → k < m + 1 → (k < m) ⊎ (k ≡ m)
at_last zero zero h = inr refl
at_last zero (suc m) h = inl (omega arith)
at_last (suc k) zero h = absurd (omega arith)
at_last (suc k) (suc m) h = go (at_last k m (omega arith))
  where
    go : (k < m) ⊎ (k ≡ m) → (suc k < suc m) ⊎ (suc k ≡ suc m)
    go (inl j) = inl (omega arith)
    go (inr e) = inr (ap suc e)

pub lets_more : {t : List ℕ} {n lines m c : ℕ} → LetsUpTo t n lines m → m < lines → c ≡ cell_of t m 0 → c ≡ 76 → LetsUpTo t n lines (m + 1)
lets_more {t} {n} {lines} {m} u h e l =
    let f = u.further in
    record { further = omega arith; within = λ w. omega arith; lets = λ k j b. go k j (at_last k m b) }
  where
    go : (k : ℕ) → n ≤ k → (k < m) ⊎ (k ≡ m) → cell_of t k 0 ≡ letter let_line
    go k j (inl b) = u.lets k j b
    go k j (inr p) = ap (λ i. cell_of t i 0) p ∙ sym e ∙ l

-- a row that is no L row
pub lets_stop : {t : List ℕ} {n lines m c : ℕ} → LetsUpTo t n lines m → c ≡ cell_of t m 0 → (c ≡ 76 → ⊥) → LetsEnd t n lines m
lets_stop u e s = record { further = u.further; within = u.within; lets = u.lets; stops = λ h l. s (e ∙ l) }

-- the end of the rows
pub lets_all : {t : List ℕ} {n lines m : ℕ} → LetsUpTo t n lines m → lines ≤ m → LetsEnd t n lines m
lets_all u h = record { further = u.further; within = u.within; lets = u.lets; stops = λ j l. absurd (omega arith) }

-- ---- L rows by their letter

letter_let : (k : Kind) → letter k ≡ letter let_line → k ≡ let_line
letter_let type_line e = absurd (omega arith)
letter_let pattern_line e = absurd (omega arith)
letter_let iso_line e = absurd (omega arith)
letter_let clause_line e = absurd (omega arith)
letter_let let_line e = refl

pub is_let : {t : List ℕ} {types patterns lines : ℕ} {rs : List Row} (n : ℕ) (r : Row) → FileIn t types patterns lines rs
    → get_elem? rs n ≡ some r → cell_of t n 0 ≡ letter let_line → r.kind ≡ let_line
is_let n r f e c = letter_let r.kind (sym (f.letters n r e) ∙ c)

pub let_cell : {t : List ℕ} {types patterns lines : ℕ} {rs : List Row} (n : ℕ) (r : Row) → FileIn t types patterns lines rs
    → get_elem? rs n ≡ some r → r.kind ≡ let_line → cell_of t n 0 ≡ letter let_line
let_cell n r f e k = f.letters n r e ∙ ap letter k

abbrev no_row : Row
no_row = record { kind = type_line; x = 0; y = 0; z = 0 }

-- the first of the rows from n on
slice_first : (rs : List Row) (n to : ℕ) → n < to → to ≤ length rs → (r : Row) × (get_elem? rs n ≡ some r) × (slice n to rs ≡ r ∷ slice (suc n) to rs)
slice_first rs n to h j = (get_or rs n no_row, get_row rs n no_row (omega arith), slice-cons n to rs no_row h j)

-- rows with the letter L are L rows
lets_count : (count n : ℕ) (rs : List Row) (to : ℕ) → n + count ≡ to → to ≤ length rs
    → ((k : ℕ) (r : Row) → n ≤ k → k < to → get_elem? rs k ≡ some r → r.kind ≡ let_line) → AllLets (slice n to rs)
lets_count zero n rs to e h u =
    let same : n ≡ to = omega arith in
    subst AllLets (sym (ap (λ m. slice m to rs) same ∙ slice_empty to rs)) tt
lets_count (suc count) n rs to e h u =
    let below : n < to = omega arith in
    let f = slice_first rs n to below h in
    subst AllLets (sym f.2)
    (u n f.0 (omega arith) below f.1, lets_count count (suc n) rs to (omega arith) h (λ k r a b g. u k r (omega arith) b g))

pub all_lets : (n : ℕ) (rs : List Row) (to : ℕ) → n ≤ to → to ≤ length rs
    → ((k : ℕ) (r : Row) → n ≤ k → k < to → get_elem? rs k ≡ some r → r.kind ≡ let_line) → AllLets (slice n to rs)
all_lets n rs to h j u = lets_count (to - n) n rs to (omega arith) j u

-- ---- last to first

-- what is written once the rows from row n up to row `to` are; l₀ is the output area at the start
pub record LetsState (t l₀ l : List ℕ) (from to at n end : ℕ) : Type 0 where
  pub wide : length l ≡ length l₀
  pub above : n ≤ to
  pub below : from ≤ to → from ≤ n
  pub bytes : (types patterns lines : ℕ) (rs : List Row) → FileIn t types patterns lines rs → to ≤ lines
      → Writes l₀ l at end (print_rows (reverse (map turned_row (slice n to rs))))

pub lets_start : (t l : List ℕ) (from to at : ℕ) → LetsState t l l from to at to at
lets_start t l from to at =
    record {
      wide = refl;
      above = omega arith;
      below = λ h. h;
      bytes = λ types patterns lines rs f h.
          writes_as (sym (ap (λ ls. print_rows (reverse (map turned_row ls))) (slice_empty to rs) ∙ print_rows_nil)) (writes_none l at);
    }

pub lets_step : {t l₀ l l' : List ℕ} {from to at n end end' : ℕ} → LetsState t l₀ l from to at n end → from < n → length l' ≡ length l
    → RowWritten t l l' (n - 1) end end' → LetsState t l₀ l' from to at (n - 1) end'
lets_step {t} {l₀} {l} {l'} {from} {to} {at} {n} {end} {end'} s h w row =
    let below : n ≤ to = s.above in
    record {
      wide = w ∙ s.wide;
      above = omega arith;
      below = λ j. omega arith;
      bytes = λ types patterns lines rs f j.
          let count = f.count in
          let first = slice_first rs (n - 1) to (omega arith) (omega arith) in
          let same : suc (n - 1) ≡ n = omega arith in
          let split : first.0 ∷ slice n to rs ≡ slice (n - 1) to rs = ap (λ m. first.0 ∷ slice m to rs) (sym same) ∙ sym first.2 in
          writes_as (print_more first.0 (slice n to rs) ∙ ap (λ ls. print_rows (reverse (map turned_row ls))) split)
          (writes_both (s.bytes types patterns lines rs f j) (row.bytes types patterns lines rs first.0 f first.1));
    }

pub lets_done : {t l₀ l : List ℕ} {from to at n end : ℕ} → LetsState t l₀ l from to at n end → n ≤ from → LetsWritten t l₀ l from to at end
lets_done {t} {l₀} {l} {from} {to} {at} {n} {end} s h =
    record {
      bytes = λ types patterns lines rs f j b.
          let g = s.below j in
          let same : n ≡ from = omega arith in
          writes_as (ap (λ m. print_rows (reverse (map turned_row (slice m to rs)))) same) (s.bytes types patterns lines rs f b);
    }
