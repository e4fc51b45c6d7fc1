-- A whole file, line by line: the rows so far in front of what the rest reads as, the table that holds them, and what they tell.
use Rattle.std.specs.Prelude.{Option as CodeOption, None, Some}
use Prim.Native.Nat.{ℕ, suc, ◌+◌, ◌*◌, ◌<◌, ◌≤◌}
use native.Mathlib.Numerals.{add-one}
use native.Mathlib.Omega.{arith}
use mathlib.Core.Path.{◌≡◌, refl, sym, ap, ap₂, ◌∙◌, subst}
use mathlib.Core.Option.{Option, none, some}
use mathlib.Core.List.{List, [], ◌∷◌, ◌++◌, append-nil, append_assoc}
use lib.Dec.{lit<}
use lib.ListN.{length, get_or, take, drop, length-append, drop_of_length-le}
use lib.Seq.{sets, sets-eq, length-sets, take_at, drop-append-add, drop-drop}
use Rattle.limits.specs.Limits.{table_length, max_lines, max_patterns, max_nodes, row_width}
use Rattle.calculus.specs.Refusals.{Refusal, bad_line}
use Rattle.format.specs.Lines.{Row, row_of, lines}
use Rattle.format.specs.Table.{numbers, row_size, table_of}
use Rattle.format.specs.Judge.{Seen, start, judge, after, after_all, Reading, rows, faulty, with_row, read_from}
use Rattle.format.specs.declared.Row as R
use Rattle.format.specs.declared.Refusal as F
use Rattle.format.specs.Code.{kind_view, row_view, refusal_view}
use Rattle.format.proofs.Passing.{Passes, done, judge_fit, passes_append}
use Rattle.format.specs.Judge.{next as one_more}
use Rattle.format.proofs.Printing.{WellFormed, read_print}
use Rattle.format.proofs.Sizes.{Stands, stands_start, stands_kept, type_size_at, pattern_size_at}
use Rattle.format.proofs.Tables.{length_table, table_snoc, size_fits}
use Rattle.read_fields.specs.declared.Cursor as P
use Rattle.table_trees.proofs.Unfolding.{cell_within}
use Rattle.read_ceilings.specs.Reckoned.{SizeTold, TagsKept}
use Rattle.read_seen.specs.declared.Seen as C
use Rattle.std.specs.Prelude.{Result, Ok, Err}
use Rattle.read_seen.specs.Told.{start_seen, seen_after, SmallCounts, TagsAt, Told, Weighed}
use Rattle.read_lines.specs.Reads.{passes, refused, as_judged, judged_row, judged_form, judged_line, ahead, passing, refusal_in, line_in, rows_over, Behind, JudgedAt, LineSays, ReadSays}
use Rattle.read_lines.proofs.Keeping.{counts_small, told_start, told_kept}

-- ---- one row more at the end

-- rows in front of a reading
abbrev pub in_front : List Row → Reading → Reading
in_front [] o = o
in_front (r ∷ rs) o = with_row r (in_front rs o)

front_snoc : (rs : List Row) (r : Row) (o : Reading) → in_front rs (with_row r o) ≡ in_front (rs ++ (r ∷ [])) o
front_snoc [] r o = refl
front_snoc (q ∷ rs) r o = ap (with_row q) (front_snoc rs r o)

front_rows : (rs : List Row) → in_front rs (rows []) ≡ rows rs
front_rows [] = refl
front_rows (r ∷ rs) = ap (with_row r) (front_rows rs)

front_faulty : (rs : List Row) (f : Refusal) (n : ℕ) → in_front rs (faulty f n) ≡ faulty f n
front_faulty [] f n = refl
front_faulty (r ∷ rs) f n = ap (with_row r) (front_faulty rs f n)

after_snoc : (s : Seen) (rs : List Row) (r : Row) → after_all s (rs ++ (r ∷ [])) ≡ after (after_all s rs) r
after_snoc s [] r = refl
after_snoc s (q ∷ rs) r = after_snoc (after s q) rs r

length_snoc : (rs : List Row) (r : Row) → length (rs ++ (r ∷ [])) ≡ length rs + 1
length_snoc rs r = length-append rs (r ∷ [])

-- ---- the table

-- rows in front of what a table held behind them
module _ (a t₀ : List ℕ) (n : ℕ) (e : length a ≡ n * row_width) where
  -- one row more is stored behind them
  table_more : {t t' : List ℕ} (r : Row) (size : ℕ) → t ≡ a ++ drop (n * row_width) t₀ → n * row_width + row_width ≤ length t
      → t' ≡ sets t (n * row_width) (numbers r size) → t' ≡ (a ++ numbers r size) ++ drop ((n + 1) * row_width) t₀
  table_more {t} {t'} r size p w q =
      let rest : List ℕ = drop (n * row_width) t₀ in
      let place : n * row_width + row_width ≡ (n + 1) * row_width = omega arith in
      q
      ∙ sets-eq (numbers r size) t (n * row_width) w
      ∙ ap (λ u. (take (n * row_width) u ++ numbers r size) ++ drop (n * row_width + row_width) u) p
      ∙ ap₂ (λ u v. (u ++ numbers r size) ++ v) (take_at a rest (n * row_width) e)
      (ap (λ k. drop (k + row_width) (a ++ rest)) (sym e) ∙ drop-append-add a rest row_width ∙ drop-drop row_width (n * row_width) t₀ ∙ ap (λ k. drop k t₀) place)

-- ---- one line

good_row : (q r : Row) (x : Option Refusal) → passes r ≡ judged_row q x → (q ≡ r) × (x ≡ none)
good_row q r none e = (cc, refl)
good_row q r (some f) e = absurd (let z : ◌≡◌ {A = ℕ} 0 1 = cc in omega arith)

good_form : (m : Seen) (r : Row) (o : Option Row) → passes r ≡ judged_form m o → (o ≡ some r) × (judge m r ≡ none)
good_form m r none e = absurd (let z : ◌≡◌ {A = ℕ} 0 1 = cc in omega arith)
good_form m r (some q) e = let d = good_row q r (judge m q) e in (ap some d.0, ap (judge m) (sym d.0) ∙ d.1)

bad_row : (q : Row) (x y : Option Refusal) → refused x ≡ judged_row q y → (f : Refusal) × (x ≡ some f) × (y ≡ some f)
bad_row q x none e = absurd (let z : ◌≡◌ {A = ℕ} 0 1 = cc in omega arith)
bad_row q x (some f) e = (f, cc, refl)

read_refused : (m : Seen) (n : ℕ) (r : Row) (f : Refusal) (l : List ℕ) (ls : List (List ℕ)) → row_of l ≡ some r → judge m r ≡ some f → read_from m n (l ∷ ls) ≡ faulty f n
read_refused m n r f l ls p q = rw (p, q)

read_bad : (m : Seen) (n : ℕ) (x : Option Refusal) (l : List ℕ) (ls : List (List ℕ)) → refused x ≡ judged_line m l → (f : Refusal) × (x ≡ some f) × (read_from m n (l ∷ ls) ≡ faulty f n)
read_bad m n x l ls e = go (row_of l) refl e
  where
    go : (o : Option Row) → row_of l ≡ o → refused x ≡ judged_form m o → (f : Refusal) × (x ≡ some f) × (read_from m n (l ∷ ls) ≡ faulty f n)
    go none p q = (bad_line, cc, rw p)
    go (some r) p q = let (f, u, v) = bad_row r x (judge m r) q in (f, u, read_refused m n r f l ls p v)

read_good : (m : Seen) (n : ℕ) (r : Row) (l : List ℕ) (ls : List (List ℕ)) → row_of l ≡ some r → judge m r ≡ none → read_from m n (l ∷ ls) ≡ with_row r (read_from (after m r) (suc n) ls)
read_good m n r l ls p q = rw (p, q)

-- the rows that pass, with a line more
passing_good : (m : Seen) (r : Row) (l : List ℕ) (ls : List (List ℕ)) → passes r ≡ judged_line m l → passing m (l ∷ ls) ≡ r ∷ passing (after m r) ls
passing_good m r l ls e = ap (λ v. ahead v (λ q. passing (after m q) ls)) (sym e)

passing_bad : (m : Seen) (x : Option Refusal) (l : List ℕ) (ls : List (List ℕ)) → refused x ≡ judged_line m l → passing m (l ∷ ls) ≡ []
passing_bad m x l ls e = ap (λ v. ahead v (λ q. passing (after m q) ls)) (sym e)

-- ---- the rows so far

-- t₀ is the table at first, t the table now, g keeps the tags of P lines; n rows are read, the next line begins at `at`
pub record SoFar (s t₀ t g : List ℕ) (at n : ℕ) (c : C.Seen) : Type 0 where
  pub file : List Row
  pub count : n ≡ length file
  pub reads : read_from start 1 (lines s) ≡ in_front file (read_from (after_all start file) (suc n) (lines (drop at s)))
  pub front : passing start (lines s) ≡ file ++ passing (after_all start file) (lines (drop at s))
  pub left : n + length (lines (drop at s)) ≤ max_lines
  pub table : t ≡ table_of file ++ drop (n * row_width) t₀
  pub wide : length t ≡ length t₀
  pub told : Told t c (after_all start file)
  pub stands : Stands n (after_all start file)
  pub passed : Passes start file
  pub tags : TagsAt g (after_all start file).patterns
  pub held : max_patterns ≤ length g

pub so_far_start : (s t₀ g : List ℕ) {c : C.Seen} → c ≡ start_seen → length (lines s) ≤ max_lines → max_patterns ≤ length g → SoFar s t₀ t₀ g 0 0 c
unfolding start
so_far_start s t₀ g {c} e h w =
    record {
      file = [];
      count = refl;
      reads = refl;
      front = refl;
      left = omega arith;
      table = refl;
      wide = refl;
      told = subst (λ x. Told t₀ x start) (sym e) (told_start t₀);
      stands = stands_start;
      passed = done;
      tags = λ j l. absurd (omega arith);
      held = w;
    }

module _ {s t₀ t g : List ℕ} {at n : ℕ} {c : C.Seen} (d : SoFar s t₀ t g at n c) where
  filled : length (table_of d.file) ≡ n * row_width
  filled = length_table d.file ∙ ap (λ k. k * row_width) (sym d.count)

  -- what the rows so far weigh
  weighed : Weighed t g c (after_all start d.file)
  weighed =
      record {
        counts = d.told.counts;
        types = λ i h.
            cell_within t i 4 (omega (arith, d.left, d.stands.behind)) (lit< tt)
            ∙ ap (λ l. get_or l (i * row_width + 4) 0) d.table
            ∙ type_size_at d.passed (drop (n * row_width) t₀) i h;
        patterns = λ j h.
            cell_within t (length (after_all start d.file).types + j) 4 (omega (arith, d.left, d.stands.behind)) (lit< tt)
            ∙ ap (λ l. get_or l ((length (after_all start d.file).types + j) * row_width + 4) 0) d.table
            ∙ pattern_size_at d.passed (drop (n * row_width) t₀) j h;
        tags = d.tags;
      }

  -- where the rows so far are all that pass
  ends_here : passing (after_all start d.file) (lines (drop at s)) ≡ [] → (x : CodeOption F.Refusal) (p : ℕ) → refusal_view x ≡ refusal_in (read_from start 1 (lines s))
      → p ≡ line_in (read_from start 1 (lines s)) → ReadSays s t₀ t (record { refusal = x; place = p; seen = c; lines = n })
  ends_here e x p ex ep =
      let all : passing start (lines s) ≡ d.file = d.front ∙ ap (λ rs. d.file ++ rs) e ∙ append-nil d.file in
      record {
        refusal = ex;
        place = ep;
        table = d.table ∙ ap (λ k. table_of d.file ++ drop (k * row_width) t₀) d.count ∙ ap (λ rs. rows_over rs t₀) (sym all);
        told = subst (λ rs. Told t c (after_all start rs)) (sym all) d.told;
        count = d.count ∙ ap length (sym all);
      }

  -- at the end of the file
  pub so_far_end : length s ≤ at → ReadSays s t₀ t (record { refusal = None; place = 0; seen = c; lines = n })
  so_far_end h =
      let none_left = drop_of_length-le s h in
      let r : read_from start 1 (lines s) ≡ rows d.file =
      d.reads ∙ ap (λ bs. in_front d.file (read_from (after_all start d.file) (suc n) (lines bs))) none_left ∙ front_rows d.file in
      ends_here (ap (λ bs. passing (after_all start d.file) (lines bs)) none_left) None 0 (ap refusal_in (sym r)) (ap line_in (sym r))

  -- a line more, with the verdict j
  module _ (inside : at < length s) (j : Result (R.Row × P.Cursor) F.Refusal) (says : LineSays t g c s at j) where
    now_told : Seen
    now_told = after_all start d.file

    here : JudgedAt s at now_told j
    unfolding now_told
    here = says (after_all start d.file) weighed inside

    -- there is room for its row
    pub room : n < max_lines
    room = let e = ap length here.splits in omega (arith, d.left)

    next_reads : read_from start 1 (lines s) ≡ in_front d.file (read_from now_told (suc n) (here.line ∷ here.others))
    unfolding now_told
    next_reads = d.reads ∙ ap (λ ls. in_front d.file (read_from (after_all start d.file) (suc n) ls)) here.splits

    module _ (r : R.Row) (next : P.Cursor) (good : j ≡ Ok (r, next)) where
      others_are : here.others ≡ lines (drop next.at s)
      others_are = subst (λ k. Behind s k here.others) good here.behind

      splits_are : lines (drop at s) ≡ here.line ∷ lines (drop next.at s)
      splits_are = here.splits ∙ ap (λ ls. here.line ∷ ls) others_are

      -- fewer lines are left
      pub fewer : length (lines (drop next.at s)) < length (lines (drop at s))
      fewer = let e = ap length splits_are in omega arith

      good_line : (row_of here.line ≡ some (row_view r)) × (judge now_told (row_view r) ≡ none)
      good_line = good_form now_told (row_view r) (row_of here.line) (sym (ap as_judged good) ∙ here.says)

      -- the size that is reckoned for its row is the row's
      sized : {size : ℕ} → SizeTold (kind_view r.kind) t c r size → (size ≡ row_size now_told (row_view r)) × (size ≤ max_nodes)
      unfolding now_told
      sized e =
          let m : Seen = after_all start d.file in
          let f = judge_fit m (row_view r) good_line.1 in
          let k = size_fits m (kind_view r.kind) (row_view r) f in
          let h = e g m weighed f.names in
          (h, omega arith)

      pub fields_small : table_length ≤ length t₀ → {size : ℕ} → SizeTold (kind_view r.kind) t c r size
          → (table_length ≤ length t) × (n < max_lines) × (r.x < 65536) × (r.y < 65536) × (r.z < 65536) × (size < 65536)
      fields_small enough e =
          let f : WellFormed (row_view r) = (read_print here.line good_line.0).1 in
          let k = (sized e).1 in
          (omega (arith, d.wide), room, f.x, f.y, f.z, omega arith)

      pub small_counts : SmallCounts c
      small_counts = counts_small room d.told.counts d.stands

      pub so_far_more :
          table_length ≤ length t₀ →
          {size : ℕ} →
          SizeTold (kind_view r.kind) t c r size →
          {t' g' : List ℕ} {c' : C.Seen} →
          t' ≡ sets t (n * row_width) (numbers (row_view r) size) →
          TagsKept (kind_view r.kind) g g' c r →
          c' ≡ seen_after (kind_view r.kind) c →
          SoFar s t₀ t' g' next.at (n + 1) c'
      unfolding now_told
      so_far_more enough {size} e {t'} {g'} {c'} p kept q =
          let row : Row = row_view r in
          let m : Seen = after_all start d.file in
          let fit = judge_fit m row good_line.1 in
          let rest : length (lines (drop at s)) ≡ suc (length (lines (drop next.at s))) = ap length splits_are in
          let w : n * row_width + row_width ≤ length t = omega (arith, room, d.wide) in
          record {
            file = d.file ++ (row ∷ []);
            count = ap (λ k. k + 1) d.count ∙ sym (length_snoc d.file row);
            reads =
                next_reads
                ∙ ap (λ ls. in_front d.file (read_from m (suc n) (here.line ∷ ls))) others_are
                ∙ ap (in_front d.file) (read_good m (suc n) row here.line (lines (drop next.at s)) good_line.0 good_line.1)
                ∙ front_snoc d.file row (read_from (after m row) (suc (suc n)) (lines (drop next.at s)))
                ∙ ap₂ (λ u k. in_front (d.file ++ (row ∷ [])) (read_from u (suc k) (lines (drop next.at s)))) (sym (after_snoc start d.file row)) (sym (add-one n));
            front =
                d.front
                ∙ ap (λ ls. d.file ++ passing m ls) splits_are
                ∙ ap (λ rs. d.file ++ rs) (passing_good m row here.line (lines (drop next.at s)) (sym (ap as_judged good) ∙ here.says))
                ∙ sym (append_assoc d.file (row ∷ []) (passing (after m row) (lines (drop next.at s))))
                ∙ ap (λ u. (d.file ++ (row ∷ [])) ++ passing u (lines (drop next.at s))) (sym (after_snoc start d.file row));
            left = omega (arith, d.left);
            table =
                table_more (table_of d.file) t₀ n filled row size d.table w p
                ∙ ap (λ z. (table_of d.file ++ numbers row z) ++ drop ((n + 1) * row_width) t₀) (sized e).0
                ∙ ap (λ u. u ++ drop ((n + 1) * row_width) t₀) (sym (table_snoc d.file row));
            wide = ap length p ∙ length-sets t (n * row_width) (numbers row size) ∙ d.wide;
            told =
                subst (λ u. Told t' c' u) (sym (after_snoc start d.file row))
                (subst (λ x. Told t' x (after m row)) (sym q) (told_kept t t' n row size p room w m good_line.1 d.stands d.told));
            stands =
                subst (λ u. Stands (n + 1) u) (sym (after_snoc start d.file row))
                (subst (λ k. Stands k (after m row)) (sym (add-one n)) (stands_kept n m row good_line.1 d.stands));
            passed = passes_append d.passed (one_more good_line.1 done);
            tags = subst (λ u. TagsAt g' u.patterns) (sym (after_snoc start d.file row)) (kept.kept t m weighed fit.names fit.ceilings d.held);
            held = let l = kept.long in omega (arith, d.held);
          }

    -- the line is refused
    pub so_far_refused : (f : F.Refusal) → j ≡ Err f → ReadSays s t₀ t (record { refusal = Some f; place = n + 1; seen = c; lines = n })
    unfolding now_told
    so_far_refused f bad =
        let m : Seen = after_all start d.file in
        let v = sym (ap as_judged bad) ∙ here.says in
        let (k, p, q) = read_bad m (suc n) (refusal_view (Some f)) here.line here.others v in
        let r : read_from start 1 (lines s) ≡ faulty k (suc n) = next_reads ∙ ap (in_front d.file) q ∙ front_faulty d.file k (suc n) in
        ends_here (ap (passing m) here.splits ∙ passing_bad m (refusal_view (Some f)) here.line here.others v) (Some f) (n + 1)
        (p ∙ ap refusal_in (sym r)) (add-one n ∙ ap line_in (sym r))
