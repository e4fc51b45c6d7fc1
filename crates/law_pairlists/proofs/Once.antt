-- Request 07: "no equal line twice". No two rows of a file that import writes are equal, and no two of its lines.
use Prim.Native.Nat.{ℕ, zero, suc, ◌+◌, ◌≤◌}
use native.Mathlib.Omega.{arith}
use mathlib.Core.Path.{◌≡◌, refl, sym, ap, ◌∙◌, subst}
use mathlib.Core.Logic.{◌⊎◌, inl, inr}
use mathlib.Core.Option.{some}
use mathlib.Core.List.Memᴰ
use mathlib.Core.List.{List, [], ◌∷◌, ◌++◌, Memᴰ}
use lib.ListN.{length, get_elem?}
use Rattle.limits.specs.Limits.{max_nodes, max_clauses}
use Rattle.calculus.specs.Trees.{Ty, Pat, Val, type_nodes}
use Rattle.calculus.specs.Refusals.{Kind, type_line, pattern_line, iso_line, clause_line}
use Rattle.format.specs.Lines.{Row, letter, lines, row_of, print, print_rows}
use Rattle.format.specs.Judge.{type_tree, pattern_tree}
use Rattle.calculus.specs.Slots.{empty}
use Rattle.calculus.specs.Reduction.{build}
use Rattle.calculus.proofs.Basic.{none≢some, some_inj, index_mem, mem_index, index_of_map, each_cons, each_append}
use Rattle.format.proofs.Printing.{print_read, lines_print}
use Rattle.law_pairlists.specs.PairLists.{write_type, write_pairs, clause_row, iso_row, settings, file_rows}
use Rattle.law_pairlists.proofs.Rows.{nothing, once, ok_at}
use Rattle.law_pairlists.proofs.File.{TypeOk, type_keep, type_mono, SmallType, type_written, PatternOk, pattern_keep, pattern_mono, SmallPattern, closed, Named, unnamed, one, pairs_written}
use Rattle.law_pairlists.proofs.Iso.{Differ, beside, firsts, closed_build}
use Rattle.law_pairlists.proofs.List.{Taken, lefts_all, rights_all}
use Rattle.law_pairlists.proofs.Imports.{wide, Light, whole}

-- each row at one place
abbrev Once : List Row → Type 0
Once rs = (i j : ℕ) (r : Row) → get_elem? rs i ≡ some r → get_elem? rs j ≡ some r → i ≡ j

-- a row of two lists behind each other is in the one or in the other
index_split : (xs ys : List Row) (i : ℕ) {r : Row} → get_elem? (xs ++ ys) i ≡ some r → (get_elem? xs i ≡ some r) ⊎ ((k : ℕ) × (i ≡ length xs + k) × (get_elem? ys k ≡ some r))
index_split [] ys i e = inr (i, omega arith, e)
index_split (x ∷ xs) ys zero e = inl e
index_split (x ∷ xs) ys (suc i) {r} e = go (index_split xs ys i e)
  where
    go : (get_elem? xs i ≡ some r) ⊎ ((k : ℕ) × (i ≡ length xs + k) × (get_elem? ys k ≡ some r))
        → (get_elem? (x ∷ xs) (suc i) ≡ some r) ⊎ ((k : ℕ) × (suc i ≡ length (x ∷ xs) + k) × (get_elem? ys k ≡ some r))
    go (inl h) = inl h
    go (inr h) = let p = h.1 in inr (h.0, omega arith, h.2)

once_append : (xs ys : List Row) → Once xs → Once ys → ((r : Row) → Memᴰ r xs → Memᴰ r ys → ⊥) → Once (xs ++ ys)
once_append xs ys f g d i j r p q = go (index_split xs ys i p) (index_split xs ys j q)
  where
    go : (get_elem? xs i ≡ some r) ⊎ ((k : ℕ) × (i ≡ length xs + k) × (get_elem? ys k ≡ some r))
        → (get_elem? xs j ≡ some r) ⊎ ((k : ℕ) × (j ≡ length xs + k) × (get_elem? ys k ≡ some r)) → i ≡ j
    go (inl a) (inl b) = f i j r a b
    go (inl a) (inr b) = absurd (d r (index_mem xs i a) (index_mem ys b.0 b.2))
    go (inr a) (inl b) = absurd (d r (index_mem xs j b) (index_mem ys a.0 a.2))
    go (inr a) (inr b) = let s = a.1 in let t = b.1 in let e = g a.0 b.0 r a.2 b.2 in omega arith

once_cons : (x : Row) (xs : List Row) → (Memᴰ x xs → ⊥) → Once xs → Once (x ∷ xs)
once_cons x xs h f zero zero r p q = refl
once_cons x xs h f zero (suc j) r p q = absurd (h (subst (λ y. Memᴰ y xs) (sym (some_inj p)) (index_mem xs j q)))
once_cons x xs h f (suc i) zero r p q = absurd (h (subst (λ y. Memᴰ y xs) (sym (some_inj q)) (index_mem xs i p)))
once_cons x xs h f (suc i) (suc j) r p q = ap suc (f i j r p q)

-- ---- C rows

closed_inj : {v w : Val} → closed v ≡ closed w → v ≡ w
closed_inj {v} {w} e = let h = some_inj (sym (closed_build v (empty Val)) ∙ ap (λ p. build p (empty Val)) e ∙ closed_build w (empty Val)) in ap (λ z. z.0) h

-- the pair of a C row
named_of : {ps : List Pat} {rs : List Row} {cs : List (Val × Val)} → Named ps rs cs → (r : Row) → Memᴰ r rs
    → (r.kind ≡ clause_line) × ((v : Val) × Memᴰ v (firsts cs) × (get_elem? ps r.x ≡ some (closed v)))
named_of unnamed r m = absurd (Memᴰ.not-nil m)
named_of {ps} (one i j c p q h) r (Memᴰ.head e) = (ap (λ (z : Row). z.kind) e, (c.0, Memᴰ.head refl, ap (λ (z : Row). get_elem? ps z.x) e ∙ p))
named_of (one i j c p q h) r (Memᴰ.tail m) = let n = named_of h r m in (n.0, (n.1.0, Memᴰ.tail n.1.1, n.1.2))

named_once : {ps : List Pat} {rs : List Row} {cs : List (Val × Val)} → Named ps rs cs → Differ (firsts cs) → Once rs
named_once unnamed d = λ i j r p q. absurd (none≢some p)
named_once (one {rs} {cs} i j c p q h) (beside f d) =
    once_cons (clause_row i j) rs (λ m. let n = (named_of h (clause_row i j) m).1 in f n.0 n.1 (closed_inj (some_inj (sym p ∙ n.2)))) (named_once h d)

-- ---- the file

-- a row has one kind
other_kind : {k l : Kind} (r : Row) → r.kind ≡ k → (letter k ≡ letter l → ⊥) → r.kind ≡ l → ⊥
other_kind r p f q = f (ap letter (sym p ∙ q))

module _ (a b : Ty) (ts : List ℕ) (ha : type_nodes a ≤ max_nodes) (hb : type_nodes b ≤ max_nodes) (l : length ts ≤ max_clauses) (t : Taken a b ts) where
  abbrev types : List Row
  types = (write_type b (write_type a []).rows).rows

  abbrev patterns : List Row
  patterns = (write_pairs (settings a b 0 ts) []).patterns

  abbrev clauses : List Row
  clauses = (write_pairs (settings a b 0 ts) []).clauses

  abbrev iso : Row
  iso = iso_row (write_type a []).number (write_type b (write_type a []).rows).number

  types_are : Once types × ((r : Row) → Memᴰ r types → r.kind ≡ type_line)
  types_are =
      let f = type_written a (lefts_all t).finite nothing ha in
      let g = type_written b (rights_all t).finite f.stored hb in (
        once type_tree TypeOk SmallType type_keep type_mono g.stored,
        λ r m. let i = mem_index m in (ok_at type_tree TypeOk SmallType type_keep type_mono g.stored i.0 r i.1).kind,
      )

  patterns_are : Once patterns × ((r : Row) → Memᴰ r patterns → r.kind ≡ pattern_line)
  patterns_are =
      let o = pairs_written max_nodes (settings a b 0 ts) (wide a b ts ha hb l t) nothing in (
        once pattern_tree PatternOk (SmallPattern max_nodes) pattern_keep pattern_mono o.stored,
        λ r m. let i = mem_index m in (ok_at pattern_tree PatternOk (SmallPattern max_nodes) pattern_keep pattern_mono o.stored i.0 r i.1).kind,
      )

  clauses_are : Once clauses × ((r : Row) → Memᴰ r clauses → r.kind ≡ clause_line)
  clauses_are =
      let o = pairs_written max_nodes (settings a b 0 ts) (wide a b ts ha hb l t) nothing in
      (named_once o.rows (lefts_all t).differ, λ r m. (named_of o.rows r m).0)

  iso_once : Once (iso ∷ clauses)
  iso_once = once_cons iso clauses (λ m. other_kind iso (clauses_are.1 iso m) (λ e. omega arith) refl) clauses_are.0

  -- the rows behind others are of other kinds
  behind : (k : Kind) → (letter clause_line ≡ letter k → ⊥) → (letter iso_line ≡ letter k → ⊥) → (r : Row) → Memᴰ r (iso ∷ clauses) → r.kind ≡ k → ⊥
  behind k f g = each_cons (λ r. r.kind ≡ k → ⊥) (other_kind iso refl g) (λ r m. other_kind r (clauses_are.1 r m) f)

  -- "no equal line twice", of rows
  pub rows_once : Once (file_rows a b (settings a b 0 ts))
  unfolding file_rows
  rows_once =
      once_append types (patterns ++ (iso ∷ clauses)) types_are.0
      (once_append patterns (iso ∷ clauses) patterns_are.0 iso_once
      (λ r m n. behind pattern_line (λ e. omega arith) (λ e. omega arith) r n (patterns_are.1 r m)))
      (λ r m n.
      each_append (λ q. q.kind ≡ type_line → ⊥) patterns (λ q o. other_kind q (patterns_are.1 q o) (λ e. omega arith))
      (behind type_line (λ e. omega arith) (λ e. omega arith)) r n (types_are.1 r m))

  -- and of lines
  pub lines_once : Light a b ts → (i j : ℕ) (line : List ℕ) → get_elem? (lines (print_rows (file_rows a b (settings a b 0 ts)))) i ≡ some line
      → get_elem? (lines (print_rows (file_rows a b (settings a b 0 ts)))) j ≡ some line → i ≡ j
  lines_once few i j line d e =
      let rs : List Row = file_rows a b (settings a b 0 ts) in
      let w = whole a b ts ha hb l t few in
      let p = index_of_map print rs i (ap (λ z. get_elem? z i) (sym (lines_print rs)) ∙ d) in
      let q = index_of_map print rs j (ap (λ z. get_elem? z j) (sym (lines_print rs)) ∙ e) in
      let same : p.0 ≡ q.0 =
      some_inj (sym (print_read (w.formed p.0 (index_mem rs i p.1))) ∙ ap row_of (p.2 ∙ sym q.2) ∙ print_read (w.formed q.0 (index_mem rs j q.1))) in
      rows_once i j p.0 p.1 (q.1 ∙ ap some (sym same))
