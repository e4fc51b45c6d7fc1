-- A table that a file was read into holds the rows of the lines that pass, and all of an accepted file's.
use Prim.Native.Nat.{ℕ, suc, ◌+◌, ◌*◌, ◌≤◌, ◌<◌}
use native.Mathlib.Omega.{arith}
use mathlib.Core.Path.{◌≡◌, refl, sym, ap, ap₂, ◌∙◌, subst}
use mathlib.Core.Option.{Option, none, some}
use mathlib.Core.List.{List, [], ◌∷◌}
use lib.ListN.{length, get_or, get_elem?, take, drop}
use lib.Dec.{lit<}
use Rattle.limits.specs.Limits.{max_lines, row_width}
use Rattle.calculus.specs.Refusals.{Refusal}
use Rattle.format.specs.Lines.{Row, row_of, lines}
use Rattle.format.specs.Table.{numbers, row_size}
use Rattle.format.specs.Judge.{Seen, start, judge, after, after_all, Reading, rows, faulty, with_row, on_row, on_judged, read_from}
use Rattle.format.specs.Code.{refusal_view}
use Rattle.calculus.proofs.Basic.{index_below, none≢some, some_inj}
use Rattle.format.proofs.Printing.{read_rows, read_count}
use Rattle.format.proofs.Tables.{table_cell}
use Rattle.table_trees.specs.Unfolding.{cell_of, pattern_of}
use Rattle.table_walks.specs.Walk.{FileIn}
use Rattle.table_trees.proofs.Unfolding.{cell_within}
use Rattle.read_seen.specs.Told.{Told}
use Rattle.read_lines.specs.Reads.{Verdict, passes, refused, judged_row, judged_form, judged_line, ahead, passing, refusal_in, line_in, rows_over, ReadSays}
use Rattle.read_lines.specs.declared.read.Read as R

-- ---- the rows that pass

-- they are no more than the lines
pub passing_few : (s : Seen) (ls : List (List ℕ)) → length (passing s ls) ≤ length ls
passing_few s [] = omega arith
passing_few s (l ∷ ls) = go (λ r. passing_few (after s r) ls) (judged_line s l)
  where
    go : ((r : Row) → length (passing (after s r) ls) ≤ length ls) → (v : Verdict) → length (ahead v (λ r. passing (after s r) ls)) ≤ suc (length ls)
    go h (passes r) = omega (arith, h r)
    go h (refused f) = omega arith

-- and the file's rows where none is refused
abbrev Agree : Reading → List Row → Type 0
Agree (rows rs) qs = qs ≡ rs
Agree (faulty f n) qs = Unit {0}

agree_more : (r : Row) (x : Reading) (qs : List Row) → Agree x qs → Agree (with_row r x) (r ∷ qs)
agree_more r (rows rs) qs e = ap (λ os. r ∷ os) e
agree_more r (faulty f n) qs e = tt

agree : (s : Seen) (n : ℕ) (ls : List (List ℕ)) → Agree (read_from s n ls) (passing s ls)
agree s n [] = refl
agree s n (l ∷ ls) = go (λ r. agree (after s r) (suc n) ls) (row_of l)
  where
    on : (r : Row) → Agree (read_from (after s r) (suc n) ls) (passing (after s r) ls) → (x : Option Refusal) → Agree (on_judged n x (λ _. with_row r (read_from (after s r) (suc n) ls)))
        (ahead (judged_row r x) (λ q. passing (after s q) ls))
    on r h none = agree_more r (read_from (after s r) (suc n) ls) (passing (after s r) ls) h
    on r h (some f) = tt

    go : ((r : Row) → Agree (read_from (after s r) (suc n) ls) (passing (after s r) ls))
        → (o : Option Row) → Agree (on_row n o (λ r. on_judged n (judge s r) (λ _. with_row r (read_from (after s r) (suc n) ls)))) (ahead (judged_form s o) (λ r. passing (after s r) ls))
    go h none = tt
    go h (some r) = on r (h r) (judge s r)

pub passing_rows : (s : Seen) (n : ℕ) (ls : List (List ℕ)) (rs : List Row) → read_from s n ls ≡ rows rs → passing s ls ≡ rs
passing_rows s n ls rs e = subst (λ x. Agree x (passing s ls)) e (agree s n ls)

-- ---- a reading, accepted or refused

-- accepted: the table holds the file's rows, and is as it was behind them
pub record Holds (s t₀ t : List ℕ) (r : R.Read) : Type 0 where
  pub file : List Row
  pub reads : read_from start 1 (lines s) ≡ rows file
  pub table : t ≡ rows_over file t₀
  pub told : Told t r.seen (after_all start file)
  pub count : r.lines ≡ length file

module _ {s t₀ t : List ℕ} {r : R.Read} (says : ReadSays s t₀ t r) where
  holds_rows : (rs : List Row) → read_from start 1 (lines s) ≡ rows rs → Holds s t₀ t r
  holds_rows rs e =
      let p = passing_rows start 1 (lines s) rs e in
      record {
        file = rs;
        reads = e;
        table = says.table ∙ ap (λ qs. rows_over qs t₀) p;
        told = subst (λ qs. Told t r.seen (after_all start qs)) p says.told;
        count = says.count ∙ ap length p;
      }

  pub holds : refusal_view r.refusal ≡ none → Holds s t₀ t r
  holds k = go (read_from start 1 (lines s)) refl
    where
      go : (x : Reading) → read_from start 1 (lines s) ≡ x → Holds s t₀ t r
      go (rows rs) e = holds_rows rs e
      go (faulty f n) e = absurd (none≢some (sym k ∙ says.refusal ∙ ap refusal_in e))

  pub refuses : (f : Refusal) → refusal_view r.refusal ≡ some f → read_from start 1 (lines s) ≡ faulty f r.place
  refuses f k = go (read_from start 1 (lines s)) refl
    where
      go : (x : Reading) → read_from start 1 (lines s) ≡ x → read_from start 1 (lines s) ≡ faulty f r.place
      go (rows rs) e = absurd (none≢some (sym (says.refusal ∙ ap refusal_in e) ∙ k))
      go (faulty g n) e = e ∙ ap₂ faulty (some_inj (sym (says.refusal ∙ ap refusal_in e) ∙ k)) (sym (says.place ∙ ap line_in e))

-- ---- the rows of an accepted one

module _ {s t₀ t : List ℕ} {r : R.Read} (h : Holds s t₀ t r) (few : length (lines s) ≤ max_lines) where
  pub rows_few : length h.file ≤ max_lines
  rows_few =
      subst (λ n. n ≤ max_lines) (read_count start 1 (lines s) h.file h.reads) few

  cell_of_lem : (k m : ℕ) (row : Row) → get_elem? h.file k ≡ some row → m < row_width → cell_of t k m ≡ get_or (numbers row (row_size (after_all start (take k h.file)) row)) m 0
  cell_of_lem k m row e below =
      let within : k < max_lines = omega (arith, index_below h.file k e, rows_few) in
      cell_within t k m within below
      ∙ ap (λ l. get_or l (k * row_width + m) 0) h.table
      ∙ table_cell h.file (drop (length h.file * row_width) t₀) k m row e below

  pub filed : FileIn t r.seen.types r.seen.patterns r.lines h.file
  filed =
      record {
        passes = (read_rows start 1 (lines s) h.file h.reads).2;
        count = h.count;
        few = rows_few;
        type_count = h.told.counts.types;
        pattern_count = h.told.counts.patterns;
        type_trees = λ i b. h.told.types i (subst (λ n. i < n) h.told.counts.types b);
        pattern_trees = λ j b.
            ap (λ n. pattern_of t n j) h.told.counts.types ∙ h.told.patterns j (subst (λ n. j < n) h.told.counts.patterns b);
        letters = λ k row e. cell_of_lem k 0 row e (lit< tt);
        xs = λ k row e. cell_of_lem k 1 row e (lit< tt);
        ys = λ k row e. cell_of_lem k 2 row e (lit< tt);
        zs = λ k row e. cell_of_lem k 3 row e (lit< tt);
      }
