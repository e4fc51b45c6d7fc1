-- What the rows tell, with a row more that passes and is stored behind them: where rows stand, the counts, and the trees of the table's lines.
use Prim.Native.Nat.{ℕ, ◌+◌, ◌*◌, ◌<◌, ◌≤◌}
use native.Mathlib.Numerals.{add-one}
use native.Mathlib.Omega.{arith}
use native.Mathlib.Decide.{dec_lt}
use mathlib.Core.Path.{◌≡◌, refl, sym, ap, ap₂, ◌∙◌}
use mathlib.Core.Bool.{true}
use mathlib.Core.Option.{none}
use mathlib.Core.List.{List, [], ◌∷◌, ◌++◌}
use lib.ListN.{length, get_or, length-append, get_or-append}
use lib.Seq.{sets, get_or_at}
use borrow.Author.Tests.{leb-true}
use Rattle.limits.specs.Limits.{max_lines, row_width}
use Rattle.calculus.specs.Trees.{Ty, tunit, Pat, pleaf, unit_leaf}
use Rattle.calculus.specs.Refusals.{Kind, type_line, pattern_line, iso_line, clause_line, let_line}
use Rattle.format.specs.Lines.{Row}
use Rattle.format.specs.Table.{numbers}
use Rattle.format.specs.Judge.{Seen, start, stage, type_node, type_tree, type_names, pattern_node, pattern_tree, pattern_names, judge, after_kind, after}
use Rattle.format.specs.Kinds.{type_kind, pattern_kind}
use Rattle.format.proofs.Naming.{type_by_names, pattern_by_names}
use Rattle.format.proofs.Passing.{Fit, judge_fit}
use Rattle.format.proofs.Sizes.{Stands}
use Rattle.table_trees.specs.Unfolding.{cell_of, smaller_of, type_of, pattern_of}
use Rattle.table_trees.proofs.Unfolding.{smaller_less, type_node_lem, type_same, pattern_node_lem, pattern_same}
use Rattle.read_seen.specs.declared.Seen as C
use Rattle.read_seen.specs.Told.{start_seen, seen_after, SmallCounts, Counts, TypesAt, PatternsAt, Told}
use Rattle.read_lines.proofs.Storing.{rows_before, row_stored}

-- ---- counts

length_snoc : {A : Type 0} (xs : List A) (x : A) → length (xs ++ (x ∷ [])) ≡ length xs + 1
length_snoc xs x = length-append xs (x ∷ [])

pub counts_start : Counts start_seen start
unfolding start
counts_start = record { stage = refl; types = refl; patterns = refl; isos = refl; clauses = refl; lets = refl }

counts_after : {c : C.Seen} (s : Seen) (k : Kind) (r : Row) → Counts c s → Counts (seen_after k c) (after_kind k s r)
counts_after s type_line r d =
    record {
      stage = refl;
      types = ap (λ n. n + 1) d.types ∙ sym (length_snoc s.types (type_tree s.types r));
      patterns = d.patterns;
      isos = d.isos;
      clauses = d.clauses;
      lets = d.lets;
    }
counts_after s pattern_line r d =
    record {
      stage = refl;
      types = d.types;
      patterns = ap (λ n. n + 1) d.patterns ∙ sym (length_snoc s.patterns (pattern_tree s.patterns r));
      isos = d.isos;
      clauses = d.clauses;
      lets = d.lets;
    }
counts_after s iso_line r d =
    record { stage = refl; types = d.types; patterns = d.patterns; isos = ap (λ n. n + 1) d.isos ∙ add-one s.isos; clauses = refl; lets = refl }
counts_after s clause_line r d =
    record {
      stage = refl;
      types = d.types;
      patterns = d.patterns;
      isos = d.isos;
      clauses = ap (λ n. n + 1) d.clauses ∙ add-one s.clauses;
      lets = refl;
    }
counts_after s let_line r d =
    record {
      stage = refl;
      types = d.types;
      patterns = d.patterns;
      isos = d.isos;
      clauses = d.clauses;
      lets = ap (λ n. n + 1) d.lets ∙ add-one s.lets;
    }

pub counts_small : {n : ℕ} {c : C.Seen} {s : Seen} → n < max_lines → Counts c s → Stands n s → SmallCounts c
counts_small l d h =
    record {
      types = omega (arith, d.types, h.behind);
      patterns = omega (arith, d.patterns, h.behind);
      isos = omega (arith, d.isos, h.isos);
      clauses = omega (arith, d.clauses, h.clauses);
      lets = omega (arith, d.lets, h.lets);
    }

-- ---- the trees of the table's lines

module _ (t t' : List ℕ) (n : ℕ) (r : Row) (size : ℕ) (e : t' ≡ sets t (n * row_width) (numbers r size)) (h : n < max_lines) (w : n * row_width + row_width ≤ length t) where
  -- lines before row n keep their trees
  types_kept : (ts : List Ty) → TypesAt t ts → length ts ≤ n → TypesAt t' ts
  types_kept ts at l i b = type_same t t' n (rows_before t t' n r size e) i (omega arith) ∙ at i b

  patterns_kept : (base : ℕ) (ps : List Pat) → PatternsAt t base ps → base + length ps ≤ n → PatternsAt t' base ps
  patterns_kept base ps at l j b = pattern_same t t' n (rows_before t t' n r size e) base j (omega arith) ∙ at j b

  stored_at : (k : ℕ) → k < row_width → cell_of t' n k ≡ get_or (numbers r size) k 0
  stored_at k l = row_stored t t' n r size e k h w l

  module _ (ts : List Ty) (at : TypesAt t ts) (here : n ≡ length ts) (names : type_names (length ts) r.x r.y r.z ≡ true) where
    -- a line that row n names
    named_type : (a : ℕ) → a < length ts → type_of t' (smaller_of a n) ≡ get_or ts a tunit
    named_type a l = ap (type_of t') (smaller_less a n (omega arith)) ∙ types_kept ts at (omega arith) a l

    -- the tree of row n
    type_new : type_of t' n ≡ type_tree ts r
    type_new =
        type_node_lem t' n
        ∙ ap (λ k. type_node k (type_of t' (smaller_of (cell_of t' n 2) n)) (type_of t' (smaller_of (cell_of t' n 3) n))) (stored_at 1 (omega arith))
        ∙ ap₂ (λ a b. type_node r.x (type_of t' (smaller_of a n)) (type_of t' (smaller_of b n))) (stored_at 2 (omega arith)) (stored_at 3 (omega arith))
        ∙ type_by_names (length ts) (type_kind r.x) r.y r.z names (named_type r.y) (named_type r.z)

    types_more : TypesAt t' (ts ++ (type_tree ts r ∷ []))
    types_more i b = go (dec_lt i (length ts))
      where
        go : Dec (i < length ts) → type_of t' i ≡ get_or (ts ++ (type_tree ts r ∷ [])) i tunit
        go (yes l) = types_kept ts at (omega arith) i l ∙ sym (get_or-append ts (type_tree ts r ∷ []) tunit i l)
        go (no l) =
            let last : i ≡ length ts = omega (arith, length_snoc ts (type_tree ts r)) in
            ap (type_of t') (last ∙ sym here) ∙ type_new ∙ sym (get_or_at ts (type_tree ts r) [] tunit i (sym last))

  module _ (base : ℕ) (ps : List Pat) (at : PatternsAt t base ps) (here : n ≡ base + length ps) (names : pattern_names (length ps) r.x r.y r.z ≡ true) where
    named_pattern : (a : ℕ) → a < length ps → pattern_of t' base (smaller_of a (length ps)) ≡ get_or ps a (pleaf unit_leaf)
    named_pattern a l = ap (pattern_of t' base) (smaller_less a (length ps) l) ∙ patterns_kept base ps at (omega arith) a l

    stored_here : (k : ℕ) → k < row_width → cell_of t' (base + length ps) k ≡ get_or (numbers r size) k 0
    stored_here k l = ap (λ row. cell_of t' row k) (sym here) ∙ stored_at k l

    pattern_new : pattern_of t' base (length ps) ≡ pattern_tree ps r
    pattern_new =
        let j : ℕ = length ps in
        pattern_node_lem t' base j
        ∙ ap
        (λ k. pattern_node k (cell_of t' (base + j) 2) (pattern_of t' base (smaller_of (cell_of t' (base + j) 2) j)) (pattern_of t' base (smaller_of (cell_of t' (base + j) 3) j)))
        (stored_here 1 (omega arith))
        ∙ ap₂
        (λ a b. pattern_node r.x a (pattern_of t' base (smaller_of a j)) (pattern_of t' base (smaller_of b j)))
        (stored_here 2 (omega arith))
        (stored_here 3 (omega arith))
        ∙ pattern_by_names j (pattern_kind r.x) r.y r.z names (named_pattern r.y) (named_pattern r.z)

    patterns_more : PatternsAt t' base (ps ++ (pattern_tree ps r ∷ []))
    patterns_more j b = go (dec_lt j (length ps))
      where
        go : Dec (j < length ps) → pattern_of t' base j ≡ get_or (ps ++ (pattern_tree ps r ∷ [])) j (pleaf unit_leaf)
        go (yes l) = patterns_kept base ps at (omega arith) j l ∙ sym (get_or-append ps (pattern_tree ps r ∷ []) (pleaf unit_leaf) j l)
        go (no l) =
            let last : j ≡ length ps = omega (arith, length_snoc ps (pattern_tree ps r)) in
            ap (pattern_of t' base) last ∙ pattern_new ∙ sym (get_or_at ps (pattern_tree ps r) [] (pleaf unit_leaf) j (sym last))

  -- ---- what the rows tell

  told_after : {c : C.Seen} (s : Seen) (k : Kind) → Fit s k r → Stands n s → Told t c s → Told t' (seen_after k c) (after_kind k s r)
  told_after s type_line f d told =
      let here = d.only_types (leb-true (stage s.above) 0 f.order) in
      record {
        counts = counts_after s type_line r told.counts;
        types = types_more s.types told.types here.0 f.names;
        patterns = λ j l. absurd (omega arith);
      }
  told_after s pattern_line f d told =
      let here = d.no_isos (leb-true (stage s.above) 1 f.order) in
      record {
        counts = counts_after s pattern_line r told.counts;
        types = types_kept s.types told.types (omega arith);
        patterns = patterns_more (length s.types) s.patterns told.patterns here f.names;
      }
  told_after s iso_line f d told =
      record {
        counts = counts_after s iso_line r told.counts;
        types = types_kept s.types told.types (omega (arith, d.behind));
        patterns = patterns_kept (length s.types) s.patterns told.patterns d.behind;
      }
  told_after s clause_line f d told =
      record {
        counts = counts_after s clause_line r told.counts;
        types = types_kept s.types told.types (omega (arith, d.behind));
        patterns = patterns_kept (length s.types) s.patterns told.patterns d.behind;
      }
  told_after s let_line f d told =
      record {
        counts = counts_after s let_line r told.counts;
        types = types_kept s.types told.types (omega (arith, d.behind));
        patterns = patterns_kept (length s.types) s.patterns told.patterns d.behind;
      }

  pub told_kept : {c : C.Seen} (s : Seen) → judge s r ≡ none → Stands n s → Told t c s → Told t' (seen_after r.kind c) (after s r)
  told_kept s j d told = told_after s r.kind (judge_fit s r j) d told

pub told_start : (t : List ℕ) → Told t start_seen start
unfolding start
told_start t = record { counts = counts_start; types = λ i l. absurd (omega arith); patterns = λ j l. absurd (omega arith) }
