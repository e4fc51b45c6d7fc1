-- The rows of an area printed one after the other.
use Prim.Native.Nat.{ℕ, ◌+◌, ◌≤◌, ◌<◌}
use native.Mathlib.Numerals.{add-one}
use native.Mathlib.Omega.{arith}
use mathlib.Core.Path.{◌≡◌, refl, sym, ap, ◌∙◌}
use mathlib.Core.List.{List, [], ◌∷◌, ◌++◌, append_assoc}
use lib.ListN.{length}
use Rattle.limits.specs.Limits.{numeral_bound}
use Rattle.calculus.specs.Refusals.{Kind}
use Rattle.format.specs.Lines.{Row, print, print_rows}
use Rattle.format.proofs.Printing.{print_rows_nil, print_rows_cons, print_append, print_one}
use Rattle.area_cells.specs.Areas.{Writes}
use Rattle.area_cells.proofs.Writing.{writes_none, writes_both, writes_as}
use Rattle.table_trees.specs.Unfolding.{cell_of}
use Rattle.list_entries.specs.Entries.{row_of, entry_at, entries_at}
use Rattle.list_entries.proofs.Tracking.{entries_snoc}

-- one row, its numbers being those of the area
pub entry_printed : (k : Kind) (s : List ℕ) (row : ℕ) {x y z : ℕ} {l l' : List ℕ} {at end : ℕ} → (x ≡ cell_of s row 1) × (x < 65536) → (y ≡ cell_of s row 2) × (y < 65536) →
    (z ≡ cell_of s row 3) × (z < 65536)
    → (x < numeral_bound → y < numeral_bound → z < numeral_bound → Writes l l' at end (print (row_of k x y z))) → Writes l l' at end (print (entry_at k s row))
entry_printed k s row p q r w =
    let a = p.1 in
    let b = q.1 in
    let c = r.1 in
    writes_as (λ i. print (row_of k (p.0 i) (q.0 i) (r.0 i))) (w (omega arith) (omega arith) (omega arith))

-- what is written once the first i rows are; l₀ is the output area at the start
pub record Printed (k : Kind) (s l₀ l : List ℕ) (at n i end : ℕ) : Type 0 where
  pub wide : length l ≡ length l₀
  pub within : i ≤ n
  pub bytes : Writes l₀ l at end (print_rows (entries_at k s 0 i))

pub printed_start : (k : Kind) (s l : List ℕ) (at n : ℕ) → Printed k s l l at n 0 at
printed_start k s l at n = record { wide = refl; within = omega arith; bytes = writes_as (sym print_rows_nil) (writes_none l at) }

pub printed_next : {k : Kind} {s l₀ l l' : List ℕ} {at n i end end' : ℕ} → Printed k s l₀ l at n i end → i < n → Writes l l' end end' (print (entry_at k s i)) → length l' ≡ length l
    → Printed k s l₀ l' at n (i + 1) end'
printed_next {k} {s} {i = i} p h w e =
    let z : 0 + i ≡ i = omega arith in
    record {
      wide = e ∙ p.wide;
      within = omega arith;
      bytes = writes_as
          (ap (λ bs. print_rows (entries_at k s 0 i) ++ bs) (sym (print_one (entry_at k s i)))
          ∙ sym (print_append (entries_at k s 0 i) (entry_at k s i ∷ []))
          ∙ ap print_rows (sym (ap (entries_at k s 0) (add-one i) ∙ entries_snoc k s 0 i ∙ ap (λ j. entries_at k s 0 i ++ (entry_at k s j ∷ [])) z)))
          (writes_both p.bytes w);
    }

pub printed_end : {k : Kind} {s l₀ l : List ℕ} {at n i end : ℕ} → Printed k s l₀ l at n i end → n ≤ i → Writes l₀ l at end (print_rows (entries_at k s 0 n))
printed_end {k} {s} {n = n} {i = i} p h = let e : i ≡ n = let w = p.within in omega arith in writes_as (ap (λ m. print_rows (entries_at k s 0 m)) e) p.bytes

-- the four parts of a file
pub file_printed : (rs qs cs : List Row) (x : Row) {l l₁ l₂ l₃ l₄ : List ℕ} {a b c d : ℕ} → Writes l l₁ 0 a (print_rows rs) → Writes l₁ l₂ a b (print_rows qs) → Writes l₂ l₃ b c (print x)
    → Writes l₃ l₄ c d (print_rows cs) → Writes l l₄ 0 d (print_rows (rs ++ (qs ++ (x ∷ cs))))
file_printed rs qs cs x f g h k =
    writes_as
    (append_assoc (print_rows rs ++ print_rows qs) (print x) (print_rows cs)
    ∙ append_assoc (print_rows rs) (print_rows qs) (print x ++ print_rows cs)
    ∙ ap (λ bs. print_rows rs ++ (print_rows qs ++ bs)) (sym (print_rows_cons x cs))
    ∙ ap (λ bs. print_rows rs ++ bs) (sym (print_append qs (x ∷ cs)))
    ∙ sym (print_append rs (qs ++ (x ∷ cs))))
    (writes_both (writes_both (writes_both f g) h) k)
