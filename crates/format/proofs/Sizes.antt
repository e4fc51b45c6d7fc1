-- Where the rows of a file stand, and the sizes that the table holds of them: the fifth number of T line i stands in row i, that of P line j in row j behind the T
-- lines.
use Prim.Native.Nat.{ℕ, suc, ◌+◌, ◌*◌, ◌<◌, ◌≤◌}
use native.Mathlib.Omega.{arith}
use native.Mathlib.Decide.{dec_lt}
use mathlib.Core.Path.{◌≡◌, refl, sym, ap, ◌∙◌, subst}
use mathlib.Core.Bool.{true}
use mathlib.Core.Option.{none, some}
use mathlib.Core.List.{List, [], ◌∷◌, ◌++◌, append-nil, append_assoc}
use lib.Dec.{lit<}
use lib.ListN.{length, get_or, get_elem?, take, length-append, get_or-append}
use lib.Seq.{get_or_at, get_or-append-add}
use borrow.Author.Tests.{leb-true}
use Rattle.limits.specs.Limits.{row_width}
use Rattle.calculus.specs.Trees.{tunit, type_nodes, pleaf, unit_leaf, nodes}
use Rattle.calculus.specs.Refusals.{Kind, type_line, pattern_line, iso_line, clause_line, let_line}
use Rattle.format.specs.Lines.{Row}
use Rattle.format.specs.Judge.{Seen, start, stage, in_order, type_tree, pattern_tree, judge, after_kind, after, after_all}
use Rattle.format.specs.Table.{size_of, numbers, row_size, table_from, table_of}
use Rattle.format.proofs.Passing.{Passes, done, next, Fit, judge_fit}
use Rattle.format.proofs.Tables.{table_cell}

-- ---- where rows stand

-- after n rows: T lines alone are the first rows, T and P lines alone are all of them, and no count is above n
pub record Stands (n : ℕ) (s : Seen) : Type 0 where
  pub only_types : stage s.above ≤ 0 → (n ≡ length s.types) × (length s.patterns ≡ 0)
  pub no_isos : stage s.above ≤ 1 → n ≡ length s.types + length s.patterns
  pub behind : length s.types + length s.patterns ≤ n
  pub isos : s.isos ≤ n
  pub clauses : s.clauses ≤ n
  pub lets : s.lets ≤ n

pub stands_start : Stands 0 start
unfolding start
stands_start = record { only_types = λ h. (refl, refl); no_isos = λ h. omega arith; behind = omega arith; isos = omega arith; clauses = omega arith; lets = omega arith }

length_snoc : {A : Type 0} (xs : List A) (x : A) → length (xs ++ (x ∷ [])) ≡ length xs + 1
length_snoc xs x = length-append xs (x ∷ [])

stands_after : (n : ℕ) (s : Seen) (k : Kind) (r : Row) → in_order s.above k ≡ true → Stands n s → Stands (suc n) (after_kind k s r)
stands_after n s type_line r o d =
    let here = d.only_types (leb-true (stage s.above) 0 o) in
    let more = length_snoc s.types (type_tree s.types r) in
    record {
      only_types = λ h. (omega arith, here.1);
      no_isos = λ h. omega arith;
      behind = omega arith;
      isos = omega (arith, d.isos);
      clauses = omega (arith, d.clauses);
      lets = omega (arith, d.lets);
    }
stands_after n s pattern_line r o d =
    let here = d.no_isos (leb-true (stage s.above) 1 o) in
    let more = length_snoc s.patterns (pattern_tree s.patterns r) in
    record {
      only_types = λ h. absurd (omega arith);
      no_isos = λ h. omega arith;
      behind = omega arith;
      isos = omega (arith, d.isos);
      clauses = omega (arith, d.clauses);
      lets = omega (arith, d.lets);
    }
stands_after n s iso_line r o d =
    record {
      only_types = λ h. absurd (omega arith);
      no_isos = λ h. absurd (omega arith);
      behind = omega (arith, d.behind);
      isos = omega (arith, d.isos);
      clauses = omega arith;
      lets = omega arith;
    }
stands_after n s clause_line r o d =
    record {
      only_types = λ h. absurd (omega arith);
      no_isos = λ h. absurd (omega arith);
      behind = omega (arith, d.behind);
      isos = omega (arith, d.isos);
      clauses = omega (arith, d.clauses);
      lets = omega arith;
    }
stands_after n s let_line r o d =
    record {
      only_types = λ h. absurd (omega arith);
      no_isos = λ h. absurd (omega arith);
      behind = omega (arith, d.behind);
      isos = omega (arith, d.isos);
      clauses = omega (arith, d.clauses);
      lets = omega (arith, d.lets);
    }

pub stands_kept : (n : ℕ) (s : Seen) (r : Row) → judge s r ≡ none → Stands n s → Stands (suc n) (after s r)
stands_kept n s r j d = stands_after n s r.kind r (judge_fit s r j).order d

-- ---- sizes

-- l holds the numbers of n rows, which tell s
pub record Sized (s : Seen) (n : ℕ) (l : List ℕ) : Type 0 where
  pub stands : Stands n s
  pub long : length l ≡ n * row_width
  pub types : (i : ℕ) → i < length s.types → get_or l (i * row_width + 4) 0 ≡ type_nodes (get_or s.types i tunit)
  pub patterns : (j : ℕ) → j < length s.patterns → get_or l ((length s.types + j) * row_width + 4) 0 ≡ nodes (get_or s.patterns j (pleaf unit_leaf))

sized_start : Sized start 0 []
unfolding start
sized_start = record { stands = stands_start; long = refl; types = λ i h. absurd (omega arith); patterns = λ j h. absurd (omega arith) }

-- a number of the rows before, and the last number of the row behind them
before : (n : ℕ) (l m : List ℕ) → length l ≡ n * row_width → (k : ℕ) → k < n → get_or (l ++ m) (k * row_width + 4) 0 ≡ get_or l (k * row_width + 4) 0
before n l m e k h = get_or-append l m 0 (k * row_width + 4) (omega arith)

behind : (n : ℕ) (l : List ℕ) → length l ≡ n * row_width → (r : Row) (size k : ℕ) → k ≡ n → get_or (l ++ numbers r size) (k * row_width + 4) 0 ≡ size
behind n l e r size k h =
    let f : k * row_width + 4 ≡ length l + 4 = omega arith in
    ap (λ i. get_or (l ++ numbers r size) i 0) f ∙ get_or-append-add l (numbers r size) 4 0

module _ {s : Seen} {n : ℕ} {l : List ℕ} (d : Sized s n l) (r : Row) where
  -- the rows before keep theirs
  longer : (size : ℕ) → length (l ++ numbers r size) ≡ suc n * row_width
  longer size = let a = length-append l (numbers r size) in omega (arith, d.long)

  kept_types : (size i : ℕ) → i < length s.types → get_or (l ++ numbers r size) (i * row_width + 4) 0 ≡ type_nodes (get_or s.types i tunit)
  kept_types size i b = before n l (numbers r size) d.long i (omega (arith, d.stands.behind)) ∙ d.types i b

  kept_patterns : (size j : ℕ) → j < length s.patterns
      → get_or (l ++ numbers r size) ((length s.types + j) * row_width + 4) 0 ≡ nodes (get_or s.patterns j (pleaf unit_leaf))
  kept_patterns size j b = before n l (numbers r size) d.long (length s.types + j) (omega (arith, d.stands.behind)) ∙ d.patterns j b

  -- with a row more of a kind
  sized_kind : (k : Kind) → Fit s k r → Sized (after_kind k s r) (suc n) (l ++ numbers r (size_of k s r))
  sized_kind type_line f =
      let here = d.stands.only_types (leb-true (stage s.above) 0 f.order) in
      let more = length_snoc s.types (type_tree s.types r) in
      record {
        stands = stands_after n s type_line r f.order d.stands;
        long = longer (size_of type_line s r);
        types = λ i h. go i h (dec_lt i (length s.types));
        patterns = λ j h. absurd (omega arith);
      }
    where
      go : (i : ℕ) → i < length (s.types ++ (type_tree s.types r ∷ [])) → Dec (i < length s.types)
          → get_or (l ++ numbers r (size_of type_line s r)) (i * row_width + 4) 0 ≡ type_nodes (get_or (s.types ++ (type_tree s.types r ∷ [])) i tunit)
      go i h (yes b) =
          let here = d.stands.only_types (leb-true (stage s.above) 0 f.order) in
          before n l (numbers r (size_of type_line s r)) d.long i (omega arith)
          ∙ d.types i b
          ∙ ap type_nodes (sym (get_or-append s.types (type_tree s.types r ∷ []) tunit i b))
      go i h (no b) =
          let here = d.stands.only_types (leb-true (stage s.above) 0 f.order) in
          let last : i ≡ length s.types = omega (arith, length_snoc s.types (type_tree s.types r)) in
          behind n l d.long r (size_of type_line s r) i (omega arith)
          ∙ ap type_nodes (sym (get_or_at s.types (type_tree s.types r) [] tunit i (sym last)))
  sized_kind pattern_line f =
      record {
        stands = stands_after n s pattern_line r f.order d.stands;
        long = longer (size_of pattern_line s r);
        types = kept_types (size_of pattern_line s r);
        patterns = λ j h. go j h (dec_lt j (length s.patterns));
      }
    where
      go : (j : ℕ) → j < length (s.patterns ++ (pattern_tree s.patterns r ∷ [])) → Dec (j < length s.patterns)
          → get_or (l ++ numbers r (size_of pattern_line s r)) ((length s.types + j) * row_width + 4) 0
          ≡ nodes (get_or (s.patterns ++ (pattern_tree s.patterns r ∷ [])) j (pleaf unit_leaf))
      go j h (yes b) =
          let here = d.stands.no_isos (leb-true (stage s.above) 1 f.order) in
          before n l (numbers r (size_of pattern_line s r)) d.long (length s.types + j) (omega arith)
          ∙ d.patterns j b
          ∙ ap nodes (sym (get_or-append s.patterns (pattern_tree s.patterns r ∷ []) (pleaf unit_leaf) j b))
      go j h (no b) =
          let here = d.stands.no_isos (leb-true (stage s.above) 1 f.order) in
          let last : j ≡ length s.patterns = omega (arith, length_snoc s.patterns (pattern_tree s.patterns r)) in
          behind n l d.long r (size_of pattern_line s r) (length s.types + j) (omega arith)
          ∙ ap nodes (sym (get_or_at s.patterns (pattern_tree s.patterns r) [] (pleaf unit_leaf) j (sym last)))
  sized_kind iso_line f =
      record { stands = stands_after n s iso_line r f.order d.stands; long = longer 0; types = kept_types 0; patterns = kept_patterns 0 }
  sized_kind clause_line f =
      record { stands = stands_after n s clause_line r f.order d.stands; long = longer 0; types = kept_types 0; patterns = kept_patterns 0 }
  sized_kind let_line f =
      record { stands = stands_after n s let_line r f.order d.stands; long = longer 0; types = kept_types 0; patterns = kept_patterns 0 }

-- the sizes of rows that pass
sized_rows : {s : Seen} {n : ℕ} {l : List ℕ} {rs : List Row} → Sized s n l → Passes s rs → Sized (after_all s rs) (n + length rs) (l ++ table_from s rs)
sized_rows {s} {n} {l} d done =
    let e : n ≡ n + 0 = omega arith in
    subst (λ k. Sized s k (l ++ [])) e (subst (λ m. Sized s n m) (sym (append-nil l)) d)
sized_rows {s} {n} {l} d (next {r = r} {rs = rs} j p) =
    let e : suc n + length rs ≡ n + suc (length rs) = omega arith in
    let more : Sized (after s r) (suc n) (l ++ numbers r (row_size s r)) = sized_kind d r r.kind (judge_fit s r j) in
    subst (λ k. Sized (after_all (after s r) rs) k (l ++ (numbers r (row_size s r) ++ table_from (after s r) rs))) e
    (subst (λ m. Sized (after_all (after s r) rs) (suc n + length rs) m) (append_assoc l (numbers r (row_size s r)) (table_from (after s r) rs))
    (sized_rows more p))

pub sized : {rs : List Row} → Passes start rs → Sized (after_all start rs) (length rs) (table_of rs)
sized {rs} p =
    let e : 0 + length rs ≡ length rs = omega arith in
    subst (λ k. Sized (after_all start rs) k (table_of rs)) e (sized_rows sized_start p)

-- ---- in a table that begins with the rows of a file

module _ {rs : List Row} (p : Passes start rs) (rest : List ℕ) where
  pub type_size_at : (i : ℕ) → i < length (after_all start rs).types
      → get_or (table_of rs ++ rest) (i * row_width + 4) 0 ≡ type_nodes (get_or (after_all start rs).types i tunit)
  type_size_at i h = let d = sized p in before (length rs) (table_of rs) rest d.long i (omega (arith, d.stands.behind)) ∙ d.types i h

  pub pattern_size_at : (j : ℕ) → j < length (after_all start rs).patterns
      → get_or (table_of rs ++ rest) ((length (after_all start rs).types + j) * row_width + 4) 0 ≡ nodes (get_or (after_all start rs).patterns j (pleaf unit_leaf))
  pattern_size_at j h =
      let d = sized p in
      before (length rs) (table_of rs) rest d.long (length (after_all start rs).types + j) (omega (arith, d.stands.behind)) ∙ d.patterns j h

no_tree : (k : Kind) (s : Seen) (r : Row) → (k ≡ type_line → ⊥) → (k ≡ pattern_line → ⊥) → size_of k s r ≡ 0
no_tree type_line s r f g = absurd (f refl)
no_tree pattern_line s r f g = absurd (g refl)
no_tree iso_line s r f g = refl
no_tree clause_line s r f g = refl
no_tree let_line s r f g = refl

pub no_size_at : (rs : List Row) (rest : List ℕ) (k : ℕ) (r : Row) → get_elem? rs k ≡ some r → (r.kind ≡ type_line → ⊥) → (r.kind ≡ pattern_line → ⊥)
    → get_or (table_of rs ++ rest) (k * row_width + 4) 0 ≡ 0
no_size_at rs rest k r e f g = table_cell rs rest k 4 r e (lit< tt) ∙ no_tree r.kind (after_all start (take k rs)) r f g
