-- The rows of the I lines, collected row by row.
use Prim.Native.Nat.{ℕ, suc, ◌+◌, ◌-◌, ◌≤◌, ◌<◌}
use native.Mathlib.Nat.{sub-zero}
use native.Mathlib.Numerals.{add-one}
use native.Mathlib.Omega.{arith}
use mathlib.Core.Path.{◌≡◌, sym, ap, ap₂, ◌∙◌, subst}
use mathlib.Core.List.{List, [], ◌∷◌, ◌++◌}
use lib.ListN.{length, take, drop, set, length-set}
use lib.Seq.{take-suc-set}
use Rattle.limits.specs.Limits.{max_isos, max_lines}
use Rattle.format.specs.Lines.{Row, letter}
use Rattle.calculus.specs.Refusals.{iso_line}
use Rattle.table_trees.specs.Unfolding.{cell_of}
use Rattle.table_walks.specs.Walk.{FileIn, iso_rows}
use Rattle.table_walks.proofs.Walking.{row_of, lines_few, whole_file, head_few, letter_iso, iso_letter, iso_rows_few, iso_rows_iso, iso_rows_other, iso_rows_longer, iso_rows_room, iso_rows_early}
use Rattle.check_isos.specs.declared.Starts as S
use Rattle.check_isos.specs.Walked.{StartsOf}

-- what with_start ensures
abbrev OneMore : S.Starts → ℕ → S.Starts → Type 0
OneMore s n r = s.count < max_isos → n < 65536 → (r.rows ≡ set s.rows s.count n) × (r.count ≡ s.count + 1)

module _ {t : List ℕ} {types patterns lines : ℕ} {rs : List Row} (f : FileIn t types patterns lines rs) where
  -- none among the T and P lines
  pub starts_none : {from : ℕ} {s : S.Starts} → from ≡ types + patterns → length s.rows ≡ max_isos → s.count ≡ 0 → StartsOf (take from rs) s
  starts_none {from} {s} e places number =
      let early : iso_rows 0 (take from rs) ≡ [] = iso_rows_early f from (omega arith) in
      record {
        places = places;
        number = number ∙ sym (ap length early);
        front = ap (λ k. take k s.rows) number ∙ sym early;
      }

  -- an I line
  pub starts_iso : (n : ℕ) {s r : S.Starts} → n < lines → cell_of t n 0 ≡ letter iso_line → OneMore s n r → StartsOf (take n rs) s → StartsOf (take (suc n) rs) r
  starts_iso n {s} {r} h c more w =
      let e = row_of f n h in
      let k = letter_iso f n e.1 c in
      let room : s.count < max_isos = omega (arith, w.number, iso_rows_room f n e.1 k) in
      let m = more room (omega (arith, lines_few f)) in
      let last : s.count < length s.rows = omega (arith, w.places) in
      record {
        places = ap length m.0 ∙ length-set s.rows s.count n ∙ w.places;
        number = m.1 ∙ add-one s.count ∙ ap suc w.number ∙ sym (iso_rows_longer f n e.1 k);
        front =
            ap₂ take (m.1 ∙ add-one s.count) m.0
            ∙ take-suc-set s.rows s.count n last
            ∙ ap (λ xs. xs ++ (n ∷ [])) w.front
            ∙ sym (iso_rows_iso f n e.1 k);
      }

  -- any other line
  pub starts_other : (n : ℕ) {s : S.Starts} → n < lines → (cell_of t n 0 ≡ letter iso_line → ⊥) → StartsOf (take n rs) s → StartsOf (take (suc n) rs) s
  starts_other n {s} h c w =
      let e = row_of f n h in
      let same = iso_rows_other f n e.1 (λ k. c (iso_letter f n e.1 k)) in
      record {
        places = w.places;
        number = w.number ∙ sym (ap length same);
        front = w.front ∙ sym same;
      }

-- what the loop knows at row n, whatever file the table holds
pub record Collected (t : List ℕ) (from to n : ℕ) (s : S.Starts) : Type 0 where
  pub within : (rs : List Row) (types patterns : ℕ) → FileIn t types patterns to rs → from ≡ types + patterns → n ≤ to
  pub holds : (rs : List Row) (types patterns : ℕ) → FileIn t types patterns to rs → from ≡ types + patterns → StartsOf (take n rs) s

pub collected_start : (t : List ℕ) (from to : ℕ) (s : S.Starts) → length s.rows ≡ max_isos → s.count ≡ 0 → Collected t from to from s
collected_start t from to s places number =
    record {
      within = λ rs types patterns f e. omega (arith, head_few f);
      holds = λ rs types patterns f e. starts_none f e places number;
    }

pub collected_step : {t : List ℕ} {from to n : ℕ} {s r : S.Starts} → Collected t from to n s → n < to
    → ((rs : List Row) (types patterns lines : ℕ) → FileIn t types patterns lines rs → n < lines → StartsOf (take n rs) s → StartsOf (take (suc n) rs) r)
    → Collected t from to (n + 1) r
collected_step {t} {from} {to} {n} {s} {r} w h more =
    record {
      within = λ rs types patterns f e. omega arith;
      holds = λ rs types patterns f e. subst (λ m. StartsOf (take m rs) r) (sym (add-one n)) (more rs types patterns to f h (w.holds rs types patterns f e));
    }

pub collected_all : {t : List ℕ} {from to n : ℕ} {s : S.Starts} → Collected t from to n s → to ≤ n
    → (rs : List Row) (types patterns : ℕ) → FileIn t types patterns to rs → from ≡ types + patterns → StartsOf rs s
collected_all {t} {from} {to} {n} {s} w h rs types patterns f e =
    let end : n ≡ to = omega (arith, w.within rs types patterns f e) in
    subst (λ q. StartsOf q s) (ap (λ m. take m rs) end ∙ whole_file f) (w.holds rs types patterns f e)

-- ---- what the file's limits tell

pub head_small : {t : List ℕ} {types patterns lines : ℕ} {rs : List Row} → FileIn t types patterns lines rs → types + patterns ≤ max_lines
head_small f = omega (arith, head_few f, lines_few f)

pub starts_few : {t : List ℕ} {types patterns lines : ℕ} {rs : List Row} {s : S.Starts} → FileIn t types patterns lines rs → StartsOf rs s → s.count ≤ max_isos
starts_few f w = omega (arith, w.number, iso_rows_few f)

-- the part that is lent holds the rows of the I lines
pub front_part : {rs : List Row} {s : S.Starts} → StartsOf rs s → take (s.count - 0) (drop 0 s.rows) ≡ iso_rows 0 rs
front_part {rs} {s} w = ap (λ k. take k s.rows) (sub-zero s.count) ∙ w.front
