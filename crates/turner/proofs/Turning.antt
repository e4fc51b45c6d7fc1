-- The turned file, written block by block: a row that is no L row, and the L rows below it.
use Prim.Native.Nat.{ℕ, suc, ◌+◌, ◌≤◌, ◌<◌}
use native.Mathlib.Omega.{arith}
use mathlib.Core.Path.{◌≡◌, refl, sym, ap, ◌∙◌}
use mathlib.Core.Bool.{false≢true}
use mathlib.Core.Option.{some}
use mathlib.Core.List.{List, [], ◌∷◌, ◌++◌, map, reverse, append-nil, append_assoc}
use lib.ListN.{length, get_elem?, drop, drop_of_length-le}
use lib.Seq.{slice}
use Rattle.calculus.specs.Refusals.{let_line}
use Rattle.format.specs.Lines.{Row, print, print_rows}
use Rattle.format.specs.Judge.{start, in_order}
use Rattle.format.specs.Unfold.{turn_rows}
use Rattle.calculus.proofs.Basic.{index_below}
use Rattle.format.proofs.Passing.{Passes}
use Rattle.format.proofs.Printing.{print_rows_nil}
use Rattle.area_cells.specs.Areas.{Writes}
use Rattle.area_cells.proofs.Writing.{writes_none, writes_both, writes_as}
use Rattle.table_walks.specs.Walk.{FileIn}
use Rattle.table_walks.proofs.Rows.{drop_row, row_at, row_fit}
use Rattle.turner.specs.Written.{turned_row, RowWritten, LetsWritten, LetsEnd, FileWritten}
use Rattle.turner.proofs.Blocks.{no_let, print_block, drop_slice}
use Rattle.turner.proofs.Lets.{is_let, let_cell, all_lets}

-- what is written at row n, where the rows from n on are still to be turned
pub record Half (l₀ l : List ℕ) (n end : ℕ) (rs : List Row) : Type 0 where
  pub within : n ≤ length rs
  pub ready : (r : Row) → get_elem? rs n ≡ some r → r.kind ≡ let_line → ⊥
  pub bytes : List ℕ
  pub written : Writes l₀ l 0 end bytes
  pub whole : bytes ++ print_rows (turn_rows (drop n rs)) ≡ print_rows (turn_rows rs)

-- the output area at row n; l₀ is the area at the start
pub record Turning (t l₀ l : List ℕ) (lines n end : ℕ) : Type 0 where
  pub wide : length l ≡ length l₀
  pub half : (types patterns : ℕ) (rs : List Row) → FileIn t types patterns lines rs → Half l₀ l n end rs

-- ---- the start

-- no file begins with an L row
first_row : (rs : List Row) → Passes start rs → (r : Row) → get_elem? rs 0 ≡ some r → r.kind ≡ let_line → ⊥
unfolding start
first_row rs p r e k = false≢true (sym (ap (in_order start.above) k) ∙ (row_fit p 0 e).order)

pub turning_start : (t l : List ℕ) (lines : ℕ) → Turning t l l lines 0 0
turning_start t l lines =
    record {
      wide = refl;
      half = λ types patterns rs f. record { within = omega arith; ready = first_row rs f.passes; bytes = []; written = writes_none l 0; whole = refl };
    }

-- ---- a block

module _ (l₀ l l₁ l₂ t : List ℕ) (n next end e₁ e₂ types patterns lines : ℕ) (rs : List Row) (f : FileIn t types patterns lines rs)
    (h : Half l₀ l n end rs) (below : n < lines) (ends : LetsEnd t (n + 1) lines next)
    (row : RowWritten t l l₁ n end e₁) (lets : LetsWritten t l₁ l₂ (n + 1) next e₁ e₂) where
  further : n + 1 ≤ next
  further = ends.further

  reaches : next ≤ lines
  reaches = ends.within (omega arith)

  inside : next ≤ length rs
  inside = let c = f.count in let w = reaches in omega arith

  ready : (r : Row) → get_elem? rs next ≡ some r → r.kind ≡ let_line → ⊥
  ready r e k = let c = f.count in let b = index_below rs next e in ends.stops (omega arith) (let_cell next r f e k)

  here : (r : Row) × (get_elem? rs n ≡ some r)
  here = let c = f.count in row_at rs n (omega arith)

  block : drop n rs ≡ here.0 ∷ (slice (n + 1) next rs ++ drop next rs)
  block =
      let s : suc n ≡ n + 1 = omega arith in
      drop_row rs n here.1 ∙ ap (λ m. here.0 ∷ drop m rs) s ∙ ap (λ qs. here.0 ∷ qs) (drop_slice (n + 1) next rs further)

  half_next : Half l₀ l₂ next e₂ rs
  half_next =
      let bs : List ℕ = print (turned_row here.0) ++ print_rows (reverse (map turned_row (slice (n + 1) next rs))) in
      let w : Writes l l₂ end e₂ bs = writes_both (row.bytes types patterns lines rs here.0 f here.1) (lets.bytes types patterns lines rs f further reaches) in
      let rest : bs ++ print_rows (turn_rows (drop next rs)) ≡ print_rows (turn_rows (drop n rs)) =
      print_block here.0 (slice (n + 1) next rs) (drop next rs) (h.ready here.0 here.1)
      (all_lets (n + 1) rs next further inside (λ k r a b g. is_let k r f g (ends.lets k a b)))
      (no_let rs next ready)
      ∙ ap (λ qs. print_rows (turn_rows qs)) (sym block)
      in
      record {
        within = inside;
        ready = ready;
        bytes = h.bytes ++ bs;
        written = writes_both h.written w;
        whole = append_assoc h.bytes bs (print_rows (turn_rows (drop next rs))) ∙ ap (λ cs. h.bytes ++ cs) rest ∙ h.whole;
      }

pub turning_step : {t l₀ l l₁ l₂ : List ℕ} {lines n next end e₁ e₂ : ℕ} → Turning t l₀ l lines n end → n < lines → LetsEnd t (n + 1) lines next
    → RowWritten t l l₁ n end e₁ → LetsWritten t l₁ l₂ (n + 1) next e₁ e₂ → length l₂ ≡ length l → Turning t l₀ l₂ lines next e₂
turning_step {t} {l₀} {l} {l₁} {l₂} {lines} {n} {next} {end} {e₁} {e₂} u b ends row lets w =
    record {
      wide = w ∙ u.wide;
      half = λ types patterns rs f. half_next l₀ l l₁ l₂ t n next end e₁ e₂ types patterns lines rs f (u.half types patterns rs f) b ends row lets;
    }

-- ---- the end

no_rows : print_rows (turn_rows []) ≡ []
unfolding turn_rows
no_rows = print_rows_nil

pub turning_done : {t l₀ l : List ℕ} {lines n end : ℕ} → Turning t l₀ l lines n end → lines ≤ n → FileWritten t l₀ l lines end
turning_done {t} {l₀} {l} {lines} {n} {end} u b =
    record {
      bytes = λ types patterns rs f.
          let h = u.half types patterns rs f in
          let c = f.count in
          let past : drop n rs ≡ [] = drop_of_length-le rs {i = n} (omega arith) in
          writes_as
          (sym (append-nil h.bytes)
          ∙ ap (λ bs. h.bytes ++ bs) (sym (ap (λ qs. print_rows (turn_rows qs)) past ∙ no_rows))
          ∙ h.whole)
          h.written;
    }
