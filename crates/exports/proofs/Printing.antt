-- The bytes of pairs, line by line.
use Prim.Native.Nat.{ℕ, suc, ◌+◌, ◌≤◌, ◌<◌}
use native.Mathlib.Nat.{zero-add, add-zero, add-suc, suc-add}
use native.Mathlib.Omega.{arith}
use mathlib.Core.Path.{◌≡◌, refl, sym, ap, ◌∙◌}
use mathlib.Core.Bool.{cond}
use mathlib.Core.List.{List, [], ◌∷◌, ◌++◌, append_assoc, append-nil}
use lib.Dec.{ltb}
use lib.ListN.{length, get_or, set, take}
use lib.Seq.{take-suc, length-take-le}
use Rattle.limits.specs.Limits.{line_feed, numeral_bound}
use Rattle.format.specs.Lines.{decimal, print_field}
use Rattle.law_pairlists.specs.PairLists.{pair_line, pair_lines}
use Rattle.law_pairlists.proofs.List.{pair_line_shape}
use Rattle.area_cells.specs.Areas.{Writes}
use Rattle.area_cells.proofs.Writing.{writes_none, writes_one, writes_both, writes_as}

-- ---- one pair

pub pair_bytes : {l l₁ l₂ l₃ : List ℕ} {at x y end : ℕ} (k t : ℕ) → Writes l l₁ at x (decimal k) → Writes l₁ l₂ x y (print_field t)
    → l₃ ≡ set l₂ y line_feed → end ≡ cond (ltb y (length l₂)) (suc y) y → Writes l l₃ at end (pair_line k t)
pair_bytes k t w u s p =
    writes_as (append_assoc (decimal k) (print_field t) (line_feed ∷ []) ∙ sym (pair_line_shape k t)) (writes_both (writes_both w u) (writes_one s p))

-- ---- one pair more

lines_snoc : (j : ℕ) (ts : List ℕ) (t : ℕ) → pair_lines j (ts ++ (t ∷ [])) ≡ pair_lines j ts ++ pair_line (j + length ts) t
lines_snoc j [] t = append-nil (pair_line j t) ∙ ap (λ k. pair_line k t) (sym (add-zero j))
lines_snoc j (u ∷ us) t =
    ap (λ l. pair_line j u ++ l) (lines_snoc (suc j) us t)
    ∙ ap (λ k. pair_line j u ++ (pair_lines (suc j) us ++ pair_line k t)) (suc-add j (length us) ∙ sym (add-suc j (length us)))
    ∙ sym (append_assoc (pair_line j u) (pair_lines (suc j) us) (pair_line (j + length (u ∷ us)) t))

lines_next : (tos : List ℕ) (k : ℕ) → k < length tos → pair_lines 0 (take k tos) ++ pair_line k (get_or tos k 0) ≡ pair_lines 0 (take (suc k) tos)
lines_next tos k h =
    ap (λ j. pair_lines 0 (take k tos) ++ pair_line j (get_or tos k 0)) (sym (zero-add (length (take k tos)) ∙ length-take-le k tos (omega arith)))
    ∙ sym (ap (pair_lines 0) (take-suc tos k 0 h) ∙ lines_snoc 0 (take k tos) (get_or tos k 0))

-- ---- the loop

-- before pair k: the lines of those before it are written
pub record Printed (l₀ tos : List ℕ) (n : ℕ) (l : List ℕ) (at k : ℕ) : Type 0 where
  pub within : k ≤ n
  pub wide : length l ≡ length l₀
  pub so : n ≤ length tos → n < numeral_bound → Writes l₀ l 0 at (pair_lines 0 (take k tos))

pub printed_start : (l tos : List ℕ) (n : ℕ) → Printed l tos n l 0 0
printed_start l tos n = record { within = omega arith; wide = refl; so = λ a b. writes_none l 0 }

pub printed_next : {l₀ tos : List ℕ} {n : ℕ} {l l' : List ℕ} {at at' k : ℕ} {u w : ℕ} → Printed l₀ tos n l at k → k < n → u ≡ get_or tos k 0 → w ≡ u → w < 65536
    → (k < numeral_bound → w < numeral_bound → Writes l l' at at' (pair_line k w)) → length l' ≡ length l → Printed l₀ tos n l' at' (k + 1)
printed_next {l₀} {tos} {n} {l} {l'} {at} {at'} {k} x h e f s w kept =
    let one : suc k ≡ k + 1 = omega arith in
    record {
      within = omega arith;
      wide = kept ∙ x.wide;
      so = λ a b.
          writes_as (ap (λ t. pair_lines 0 (take k tos) ++ pair_line k t) (f ∙ e) ∙ lines_next tos k (omega arith) ∙ ap (λ j. pair_lines 0 (take j tos)) one)
          (writes_both (x.so a b) (w (omega arith) (omega arith)));
    }

pub printed_end : {l₀ tos : List ℕ} {n : ℕ} {l : List ℕ} {at k : ℕ} → Printed l₀ tos n l at k → n ≤ k → n ≤ length tos → n < numeral_bound
    → Writes l₀ l 0 at (pair_lines 0 (take n tos))
printed_end {tos = tos} {n = n} {k = k} x h a b =
    let w = x.within in let same : k ≡ n = omega (arith, w) in writes_as (ap (λ j. pair_lines 0 (take j tos)) same) (x.so a b)
