-- Request 13: "… and pair lists within the old ceiling keep their bytes and answers": import, which has a ceiling of its own.
use Prim.Native.Nat.{ℕ, suc, ◌+◌, ◌≤◌}
use native.Mathlib.Omega.{arith}
use mathlib.Core.Path.{◌≡◌, refl, sym, ap, ap₂, ◌∙◌, subst}
use mathlib.Core.Bool.{true, cond, ◌&&◌, ◌||◌}
use mathlib.Core.Option.{Option, none, some}
use mathlib.Core.List.{List, [], ◌∷◌, ◌++◌, Memᴰ}
use lib.Dec.{ltb}
use lib.ListN.{length, get_elem?}
use Rattle.limits.specs.Limits.{max_clauses, max_pairs, import_length}
use Rattle.calculus.specs.Tools.{◌>>=◌, guard}
use Rattle.calculus.specs.Trees.{Ty, tunit, tlist, tsum, tprod, left, right, Val, vleaf, unit_leaf, empty_leaf, vinj, vnode, pair_node, element_node}
use Rattle.calculus.specs.Refusals.{Kind, type_line, pattern_line, iso_line, clause_line, let_line, ceiling, too_many}
use Rattle.format.specs.Lines.{Row, lines, print_rows}
use Rattle.format.specs.Judge.{Seen, start, within_ceilings, after_kind, after, after_all, rows, read_from}
use Rattle.law_ranking.specs.Numbering.{count, types_of}
use Rattle.model.specs.Services.{Verdict, accepted, refused, verdict, gives, fails, go_on, served, short, unless, output_by}
use Rattle.law_pairlists.specs.PairLists.{tos_of, pairs_up, list_of, enter, Entry, type_row, pattern_row, iso_row, write_type, write_value, write_pairs, settings}
use Rattle.law_pairlists.specs.PairLists.{file_rows, within_all, on_list, on_lines, on_types, import_rows, import_service}
use Rattle.calculus.proofs.Basic.{bind_some, some_inj, and_true, true_and, ltb_lt, lt_ltb, not_ltb, each_nil, each_cons, each_append}
use Rattle.law_pairlists.proofs.Rows.{Finding, there, fresh, finding}
use Rattle.law_pairlists.proofs.List.{tos_length, settings_length}
use Rattle.law_longer.specs.Former.{former_clauses, within_former, former, FewClauses, within_all_former, former_on_list, former_on_lines, former_on_types, former_import_rows, former_import}
use Rattle.law_longer.proofs.Former.{kind_few, few_rows, same_verdict}

-- ---- rows within the old ceiling

within_same : (s : Seen) (rs : List Row) → few_rows s rs ≡ true → within_all_former s rs ≡ within_all s rs
within_same s [] h = refl
within_same s (r ∷ rs) h = step r.kind h (λ z. within_same z rs)
  where
    step : (k : Kind) → (kind_few k s && few_rows (after_kind k s r) rs) ≡ true → ((z : Seen) → few_rows z rs ≡ true → within_all_former z rs ≡ within_all z rs)
        → (within_former s k r && within_all_former (after_kind k s r) rs) ≡ (within_ceilings s k r && within_all (after_kind k s r) rs)
    step type_line h below = ap (λ b. within_ceilings s type_line r && b) (below (after_kind type_line s r) h)
    step pattern_line h below = ap (λ b. within_ceilings s pattern_line r && b) (below (after_kind pattern_line s r) h)
    step iso_line h below = ap (λ b. within_ceilings s iso_line r && b) (below (after_kind iso_line s r) h)
    step clause_line h below =
        let b = and_true (ltb s.clauses former_clauses) (few_rows (after_kind clause_line s r) rs) h in
        let l = ltb_lt s.clauses former_clauses b.0 in
        ap₂ ◌&&◌ (b.0 ∙ sym (lt_ltb {m = s.clauses} {n = max_clauses} (omega arith))) (below (after_kind clause_line s r) b.1)
    step let_line h below = ap (λ b. within_ceilings s let_line r && b) (below (after_kind let_line s r) h)

-- ---- the rows of a written file

abbrev AllKind : Kind → List Row → Type 0
AllKind k rs = (r : Row) → Memᴰ r rs → r.kind ≡ k

kind_enter : {k : Kind} (r : Row) (rs : List Row) → r.kind ≡ k → AllKind k rs → AllKind k (enter r rs)
kind_enter {k} r rs e h = go (finding r rs)
  where
    go : Finding r rs → AllKind k (enter r rs)
    go (there g q) = subst (AllKind k) (sym q) h
    go (fresh f n q) = subst (AllKind k) (sym q) (each_append (λ (s : Row). s.kind ≡ k) rs h (each_cons (λ (s : Row). s.kind ≡ k) e (each_nil (λ (s : Row). s.kind ≡ k))))

type_kinds : (a : Ty) (rs : List Row) → AllKind type_line rs → AllKind type_line (write_type a rs).rows
type_kinds tunit rs h = kind_enter (type_row 0 0 0) rs refl h
type_kinds (tlist a) rs h = let f : Entry = write_type a rs in kind_enter (type_row 3 f.number 0) f.rows refl (type_kinds a rs h)
type_kinds (tsum a b) rs h =
    let f : Entry = write_type a rs in
    let s : Entry = write_type b f.rows in
    kind_enter (type_row 1 f.number s.number) s.rows refl (type_kinds b f.rows (type_kinds a rs h))
type_kinds (tprod a b) rs h =
    let f : Entry = write_type a rs in
    let s : Entry = write_type b f.rows in
    kind_enter (type_row 2 f.number s.number) s.rows refl (type_kinds b f.rows (type_kinds a rs h))

value_kinds : (v : Val) (rs : List Row) → AllKind pattern_line rs → AllKind pattern_line (write_value v rs).rows
value_kinds (vleaf unit_leaf) rs h = kind_enter (pattern_row 0 0 0) rs refl h
value_kinds (vleaf empty_leaf) rs h = kind_enter (pattern_row 5 0 0) rs refl h
value_kinds (vinj left v) rs h = let f : Entry = write_value v rs in kind_enter (pattern_row 2 f.number 0) f.rows refl (value_kinds v rs h)
value_kinds (vinj right v) rs h = let f : Entry = write_value v rs in kind_enter (pattern_row 3 f.number 0) f.rows refl (value_kinds v rs h)
value_kinds (vnode pair_node v w) rs h =
    let f : Entry = write_value v rs in
    let s : Entry = write_value w f.rows in
    kind_enter (pattern_row 4 f.number s.number) s.rows refl (value_kinds w f.rows (value_kinds v rs h))
value_kinds (vnode element_node v w) rs h =
    let f : Entry = write_value v rs in
    let s : Entry = write_value w f.rows in
    kind_enter (pattern_row 6 f.number s.number) s.rows refl (value_kinds w f.rows (value_kinds v rs h))

pattern_kinds : (cs : List (Val × Val)) (rs : List Row) → AllKind pattern_line rs → AllKind pattern_line (write_pairs cs rs).patterns
pattern_kinds [] rs h = h
pattern_kinds (c ∷ cs) rs h =
    let l : Entry = write_value c.0 rs in
    let r : Entry = write_value c.1 l.rows in
    pattern_kinds cs r.rows (value_kinds c.1 l.rows (value_kinds c.0 rs h))

clause_kinds : (cs : List (Val × Val)) (rs : List Row) → AllKind clause_line (write_pairs cs rs).clauses
clause_kinds [] rs = each_nil (λ (s : Row). s.kind ≡ clause_line)
clause_kinds (c ∷ cs) rs = each_cons (λ (s : Row). s.kind ≡ clause_line) refl (clause_kinds cs (write_value c.1 (write_value c.0 rs).rows).rows)

clause_length : (cs : List (Val × Val)) (rs : List Row) → length (write_pairs cs rs).clauses ≡ length cs
clause_length [] rs = refl
clause_length (c ∷ cs) rs = ap suc (clause_length cs (write_value c.1 (write_value c.0 rs).rows).rows)

-- rows that are no C lines
few_front : (k : Kind) → ((s : Seen) → kind_few k s ≡ true) → (s : Seen) (rs qs : List Row) → AllKind k rs → few_rows (after_all s rs) qs ≡ true → few_rows s (rs ++ qs) ≡ true
few_front k h s [] qs a e = e
few_front k h s (r ∷ rs) qs a e =
    true_and (ap (λ κ. kind_few κ s) (a r (Memᴰ.head refl)) ∙ h s) (few_front k h (after s r) rs qs (λ q m. a q (Memᴰ.tail m)) e)

-- C rows
few_clause_rows : (s : Seen) (rs : List Row) → AllKind clause_line rs → s.clauses + length rs ≤ former_clauses → few_rows s rs ≡ true
few_clause_rows s [] a l = refl
few_clause_rows s (r ∷ rs) a l =
    let e = a r (Memᴰ.head refl) in
    let n : (after s r).clauses ≡ suc s.clauses = ap (λ κ. (after_kind κ s r).clauses) e in
    true_and (ap (λ κ. kind_few κ s) e ∙ lt_ltb {m = s.clauses} {n = former_clauses} (omega arith))
    (few_clause_rows (after s r) rs (λ q m. a q (Memᴰ.tail m)) (omega arith))

few_file : (a b : Ty) (cs : List (Val × Val)) → length cs ≤ former_clauses → few_rows start (file_rows a b cs) ≡ true
unfolding file_rows
few_file a b cs l =
    let f : Entry = write_type a [] in
    let e : Entry = write_type b f.rows in
    let n = clause_length cs [] in
    few_front type_line (λ s. refl) start e.rows _ (type_kinds b f.rows (type_kinds a [] (each_nil (λ (s : Row). s.kind ≡ type_line))))
    (few_front pattern_line (λ s. refl) (after_all start e.rows) (write_pairs cs []).patterns _ (pattern_kinds cs [] (each_nil (λ (s : Row). s.kind ≡ pattern_line)))
    (few_clause_rows (after (after_all (after_all start e.rows) (write_pairs cs []).patterns) (iso_row f.number e.number)) (write_pairs cs []).clauses (clause_kinds cs []) (omega arith)))

-- ---- import

module _ (list : List ℕ) (short_list : length (lines list) ≤ former_clauses) where
  same_list : (a b : Ty) → former_on_list a b (list_of a b (lines list)) ≡ on_list a b (list_of a b (lines list))
  unfolding list_of
  same_list a b = go (list_of a b (lines list)) refl
    where
      go : (x : Option (List ℕ)) → list_of a b (lines list) ≡ x → former_on_list a b x ≡ on_list a b x
      go none e = refl
      go (some ts) e =
          let f = bind_some (tos_of 0 (lines list)) (λ us. guard (pairs_up a b us) >>= λ _. some us) e in
          let g = bind_some (guard (pairs_up a b f.0)) (λ _. some f.0) f.2 in
          let n = tos_length 0 (lines list) ts (f.1 ∙ ap some (some_inj g.2)) in
          let m = settings_length a b 0 ts in
          ap (λ c. cond c (gives (print_rows (file_rows a b (settings a b 0 ts)))) (fails (ceiling pattern_line)))
          (within_same start (file_rows a b (settings a b 0 ts)) (few_file a b (settings a b 0 ts) (omega arith)))

  same_lines : (a b : Ty) → former_on_lines a b (lines list) ≡ on_lines a b (lines list)
  same_lines a b =
      ap (λ c. cond c (fails (ceiling clause_line)) (former_on_list a b (list_of a b (lines list)))) (not_ltb {m = former_clauses} {n = length (lines list)} short_list)
      ∙ same_list a b
      ∙ sym (ap (λ c. cond c (fails (ceiling clause_line)) (on_list a b (list_of a b (lines list)))) (not_ltb {m = max_clauses} {n = length (lines list)} (omega arith)))

  -- a list of at most 32 lines is imported as it was, between the types of any rows
  pub same_import : (rs : List Row) (i j : ℕ) → former_import_rows rs i j list ≡ import_rows rs i j list
  unfolding import_rows former_import_rows
  same_import rs i j = go (get_elem? (types_of rs) i) (get_elem? (types_of rs) j)
    where
      go : (x y : Option Ty) → former_on_types x y (lines list) ≡ on_types x y (lines list)
      go none y = refl
      go (some a) none = refl
      go (some a) (some b) = ap (cond (ltb max_pairs (count a) || ltb max_pairs (count b)) (fails too_many)) (same_lines a b)

  -- the service, for a file within the old ceiling: the same bytes, answer and areas
  pub same_import_service : (file : List ℕ) (rs : List Row) → read_from start 1 (lines file) ≡ rows rs → FewClauses rs → (table work : List ℕ) (i j : ℕ) (output : List ℕ)
      → former_import (former file) table work i j list output ≡ import_service file table work i j list output
  unfolding import_service
  same_import_service file rs e h table work i j output =
      ap (λ v. former_import v table work i j list output) (same_verdict file rs e h)
      ∙ ap (output_by output) (on (unless (short table work || ltb (length output) import_length) (verdict file)))
    where
      on : (v : Verdict) → served v (go_on v (λ qs. former_import_rows qs i j list)) table work ≡ served v (go_on v (λ qs. import_rows qs i j list)) table work
      on (accepted qs) = ap (λ o. served (accepted qs) o table work) (same_import qs i j)
      on (refused f n) = refl
