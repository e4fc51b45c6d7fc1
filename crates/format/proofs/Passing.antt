-- Rows that pass the judge one after another: what each passing row guarantees, and that the isos of passing rows are well formed.
use Prim.Native.Nat.{ℕ, zero, suc, ◌+◌, ◌<◌, ◌≤◌}
use native.Mathlib.Nat.{add-zero, add-suc, suc-add, zero-add}
use native.Mathlib.Omega.{arith}
use mathlib.Core.Path.{◌≡◌, refl, sym, ◌∙◌, subst}
use mathlib.Core.Bool.{true, ◌&&◌, false≢true}
use mathlib.Core.Option.{none, some}
use mathlib.Core.List.Memᴰ
use mathlib.Core.List.{List, [], ◌∷◌, ◌++◌, Memᴰ}
use lib.Dec.{leb, ltb, eqb}
use lib.ListN.{length, get_or, get_elem?}
use Rattle.limits.specs.Limits.{max_types, max_patterns, max_isos, max_clauses, max_lets, max_nodes, max_tags, variables}
use Rattle.calculus.specs.Trees.{Ty, Pat, pleaf, unit_leaf, Let, Clause, Iso, type_nodes, nodes, tags, vars}
use Rattle.calculus.specs.Refusals.{Kind, type_line, pattern_line, iso_line, clause_line, let_line, misplaced, bad_field, bad_name, ceiling}
use Rattle.format.specs.Lines.{Row}
use Rattle.format.specs.Judge.{Seen, start, in_order, fields_fit, pattern_fields, named, within_ceilings, judge, type_tree, pattern_tree, pattern_node, after_kind, after, after_all}
pub use Rattle.format.specs.Judge.{Passes, done, next}
use Rattle.format.specs.Unfold.{Tail, place, tail_from, isos_of}
use Rattle.calculus.proofs.Basic.{none≢some, some_inj, and_true, ltb_lt, leb_le, none_failing, failing_none, each_nil, each_append}
use Rattle.calculus.proofs.Formed.{FormedPat, FormedLet, FormedClause, Formed}

-- ---- what the judge tells

-- the four tests of a row of kind k
pub record Fit (s : Seen) (k : Kind) (r : Row) : Type 0 where
  pub order : in_order s.above k ≡ true
  pub fields : fields_fit k r ≡ true
  pub names : named s k r ≡ true
  pub ceilings : within_ceilings s k r ≡ true

pub judge_fit : (s : Seen) (r : Row) → judge s r ≡ none → Fit s r.kind r
unfolding judge
judge_fit s r e =
    let k : Kind = r.kind in
    let e₁ = none_failing (in_order s.above k) (misplaced k) _ e in
    let e₂ = none_failing (fields_fit k r) (bad_field k) _ e₁.1 in
    let e₃ = none_failing (named s k r) (bad_name k) _ e₂.1 in
    let e₄ = none_failing (within_ceilings s k r) (ceiling k) _ e₃.1 in
    record { order = e₁.0; fields = e₂.0; names = e₃.0; ceilings = e₄.0 }

pub fit_judge : (s : Seen) (r : Row) → Fit s r.kind r → judge s r ≡ none
unfolding judge
fit_judge s r f =
    let k : Kind = r.kind in
    failing_none (misplaced k) f.order
    (failing_none (bad_field k) f.fields (failing_none (bad_name k) f.names (failing_none (ceiling k) f.ceilings refl)))

-- The tests kind by kind. The fields and names of T and P lines depend on the first field: `Fit` computes them there.

pub type_fit : (s : Seen) (r : Row) → Fit s type_line r → (length s.types < max_types) × (type_nodes (type_tree s.types r) ≤ max_nodes)
type_fit s r f =
    let c = and_true (ltb (length s.types) max_types) (leb (type_nodes (type_tree s.types r)) max_nodes) f.ceilings in
    (ltb_lt (length s.types) max_types c.0, leb_le (type_nodes (type_tree s.types r)) max_nodes c.1)

pub pattern_fit : (s : Seen) (r : Row) → Fit s pattern_line r
    → (length s.patterns < max_patterns) × (nodes (pattern_tree s.patterns r) ≤ max_nodes) × (tags (pattern_tree s.patterns r) ≤ max_tags)
pattern_fit s r f =
    let n : ℕ = length s.patterns in
    let t : Pat = pattern_tree s.patterns r in
    let c = and_true (ltb n max_patterns && leb (nodes t) max_nodes) (leb (tags t) max_tags) f.ceilings in
    let d = and_true (ltb n max_patterns) (leb (nodes t) max_nodes) c.0 in
    (ltb_lt n max_patterns d.0, leb_le (nodes t) max_nodes d.1, leb_le (tags t) max_tags c.1)

pub iso_fit : (s : Seen) (r : Row) → Fit s iso_line r → (r.x < length s.types) × (r.y < length s.types) × (s.isos < max_isos)
iso_fit s r f =
    let n : ℕ = length s.types in
    let c = and_true (ltb r.x n) (ltb r.y n) f.names in
    (ltb_lt r.x n c.0, ltb_lt r.y n c.1, ltb_lt s.isos max_isos f.ceilings)

pub clause_fit : (s : Seen) (r : Row) → Fit s clause_line r
    → (r.x < length s.patterns) × (r.y < length s.patterns) × (s.clauses < max_clauses)
clause_fit s r f =
    let n : ℕ = length s.patterns in
    let c = and_true (ltb r.x n) (ltb r.y n) f.names in
    (ltb_lt r.x n c.0, ltb_lt r.y n c.1, ltb_lt s.clauses max_clauses f.ceilings)

pub let_fit : (s : Seen) (r : Row) → Fit s let_line r
    → (r.x < length s.patterns) × (r.z < length s.patterns) × (r.y < s.isos) × (s.lets < max_lets)
let_fit s r f =
    let n : ℕ = length s.patterns in
    let c = and_true (ltb r.x n && ltb r.z n) (ltb r.y s.isos) f.names in
    let d = and_true (ltb r.x n) (ltb r.z n) c.0 in
    (ltb_lt r.x n d.0, ltb_lt r.z n d.1, ltb_lt r.y s.isos c.1, ltb_lt s.lets max_lets f.ceilings)

-- ---- patterns

-- whatever a number names is formed; one that names nothing gives the unit pattern
abbrev pub AllFormed : List Pat → Type 0
AllFormed ps = (i : ℕ) → FormedPat (get_or ps i (pleaf unit_leaf))

pub formed_unit : FormedPat (pleaf unit_leaf)
formed_unit = record { slots = λ n m. absurd (Memᴰ.not-nil m); light = omega arith }

none_formed : AllFormed []
none_formed i = formed_unit

snoc_formed : (ps : List Pat) {p : Pat} → AllFormed ps → FormedPat p → AllFormed (ps ++ (p ∷ []))
snoc_formed [] h f zero = f
snoc_formed [] h f (suc i) = formed_unit
snoc_formed (q ∷ ps) h f zero = h zero
snoc_formed (q ∷ ps) h f (suc i) = snoc_formed ps (λ j. h (suc j)) f i

-- the variables of the tree of a P line
node_slots : (k a b : ℕ) (p q : Pat) → pattern_fields k a b ≡ true → FormedPat p → FormedPat q
    → (n : ℕ) → Memᴰ n (vars (pattern_node k a p q)) → n < variables
node_slots zero a b p q e f g n m = absurd (Memᴰ.not-nil m)
node_slots (suc zero) a b p q e f g n m =
    subst (λ v. v < variables) (sym (Memᴰ.eq_of_singleton m)) (ltb_lt a variables (and_true (ltb a variables) (eqb b 0) e).0)
node_slots (suc (suc zero)) a b p q e f g n m = f.slots n m
node_slots (suc (suc (suc zero))) a b p q e f g n m = f.slots n m
node_slots (suc (suc (suc (suc zero)))) a b p q e f g n m = each_append (λ n. n < variables) (vars p) f.slots g.slots n m
node_slots (suc (suc (suc (suc (suc zero))))) a b p q e f g n m = absurd (Memᴰ.not-nil m)
node_slots (suc (suc (suc (suc (suc (suc zero)))))) a b p q e f g n m = each_append (λ n. n < variables) (vars p) f.slots g.slots n m
node_slots (suc (suc (suc (suc (suc (suc (suc k))))))) a b p q e f g n m = absurd (false≢true e)

pattern_formed : (s : Seen) (r : Row) → AllFormed s.patterns → Fit s pattern_line r → FormedPat (pattern_tree s.patterns r)
pattern_formed s r h f =
    record {
      slots = node_slots r.x r.y r.z (get_or s.patterns r.y (pleaf unit_leaf)) (get_or s.patterns r.z (pleaf unit_leaf)) f.fields (h r.y) (h r.z);
      light = (pattern_fit s r f).2;
    }

after_formed : (s : Seen) (k : Kind) (r : Row) → Fit s k r → AllFormed s.patterns → AllFormed (after_kind k s r).patterns
after_formed s type_line r f h = h
after_formed s pattern_line r f h = snoc_formed s.patterns h (pattern_formed s r h f)
after_formed s iso_line r f h = h
after_formed s clause_line r f h = h
after_formed s let_line r f h = h

pub patterns_formed : {s : Seen} {rs : List Row} → Passes s rs → AllFormed s.patterns → AllFormed (after_all s rs).patterns
patterns_formed done h = h
patterns_formed (next {s = s} {r = r} j ps) h = patterns_formed ps (after_formed s r.kind r (judge_fit s r j) h)

-- ---- isos

-- What rows below n isos hold is formed: the lets and clauses in front belong to iso n - 1, the first whole iso is number n.
record FormedTail (n : ℕ) (o : Tail) : Type 0 where
  lets : (i : ℕ) → n ≡ suc i → (l : Let) → Memᴰ l o.lets → FormedLet i l
  clauses : (i : ℕ) → n ≡ suc i → (c : Clause) → Memᴰ c o.clauses → FormedClause i c
  isos : (j : ℕ) (a : Iso) → get_elem? o.isos j ≡ some a → (c : Clause) → Memᴰ c a.clauses → FormedClause (n + j) c

-- an L line in front
cons_lets : (ts : List Ty) (ps : List Pat) → AllFormed ps → (s : Seen) (n : ℕ) (r : Row) (o : Tail) → Fit s let_line r → FormedTail s.isos o
    → (i : ℕ) → s.isos ≡ suc i → (l : Let) → Memᴰ l (place ts ps let_line n r o).lets → FormedLet i l
cons_lets ts ps h s n r o f d i e l (Memᴰ.head m) = subst (FormedLet i) (sym m) here
  where
    here : FormedLet i (record { p = get_or ps r.x (pleaf unit_leaf); iso = r.y; q = get_or ps r.z (pleaf unit_leaf) })
    here = record { p = h r.x; q = h r.z; earlier = omega (arith, (let_fit s r f).2) }
cons_lets ts ps h s n r o f d i e l (Memᴰ.tail m) = d.lets i e l m

-- a C line in front
cons_clauses : (ts : List Ty) (ps : List Pat) → AllFormed ps → (s : Seen) (n : ℕ) (r : Row) (o : Tail) → FormedTail s.isos o
    → (i : ℕ) → s.isos ≡ suc i → (c : Clause) → Memᴰ c (place ts ps clause_line n r o).clauses → FormedClause i c
cons_clauses ts ps h s n r o d i e c (Memᴰ.head m) = subst (FormedClause i) (sym m) here
  where
    here : FormedClause i (record { line = n; lhs = get_or ps r.x (pleaf unit_leaf); lets = o.lets; rhs = get_or ps r.y (pleaf unit_leaf) })
    here = record { lhs = h r.x; lets = d.lets i e; rhs = h r.y }
cons_clauses ts ps h s n r o d i e c (Memᴰ.tail m) = d.clauses i e c m

-- an I line in front
cons_isos : (ts : List Ty) (ps : List Pat) (s : Seen) (n : ℕ) (r : Row) (o : Tail) → FormedTail (suc s.isos) o
    → (j : ℕ) (a : Iso) → get_elem? (place ts ps iso_line n r o).isos j ≡ some a → (c : Clause) → Memᴰ c a.clauses
    → FormedClause (s.isos + j) c
cons_isos ts ps s n r o d zero a e c m =
    subst (λ i. FormedClause i c) (sym (add-zero s.isos))
    (d.clauses s.isos refl c (subst (λ (b : Iso). Memᴰ c b.clauses) (sym (some_inj e)) m))
cons_isos ts ps s n r o d (suc j) a e c m =
    subst (λ i. FormedClause i c) (suc-add s.isos j ∙ sym (add-suc s.isos j)) (d.isos j a e c m)

place_formed : (ts : List Ty) (ps : List Pat) → AllFormed ps → (s : Seen) (k : Kind) (n : ℕ) (r : Row) (o : Tail) → Fit s k r
    → FormedTail (after_kind k s r).isos o → FormedTail s.isos (place ts ps k n r o)
place_formed ts ps h s type_line n r o f d = d
place_formed ts ps h s pattern_line n r o f d = d
place_formed ts ps h s iso_line n r o f d = record { lets = λ i e. each_nil (FormedLet i); clauses = λ i e. each_nil (FormedClause i); isos = cons_isos ts ps s n r o d }
place_formed ts ps h s clause_line n r o f d = record { lets = λ i e. each_nil (FormedLet i); clauses = cons_clauses ts ps h s n r o d; isos = d.isos }
place_formed ts ps h s let_line n r o f d = record { lets = cons_lets ts ps h s n r o f d; clauses = d.clauses; isos = d.isos }

tail_formed : (ts : List Ty) (ps : List Pat) → AllFormed ps → {s : Seen} {rs : List Row} (n : ℕ) → Passes s rs
    → FormedTail s.isos (tail_from ts ps n rs)
tail_formed ts ps h n done = record { lets = λ i e. each_nil (FormedLet i); clauses = λ i e. each_nil (FormedClause i); isos = λ j a e. absurd (none≢some e) }
tail_formed ts ps h n (next {s = s} {r = r} {rs = rs} j d) =
    place_formed ts ps h s r.kind n r (tail_from ts ps (suc n) rs) (judge_fit s r j) (tail_formed ts ps h (suc n) d)

-- the isos of rows that pass are formed
pub formed : {rs : List Row} → Passes start rs → Formed (isos_of rs)
unfolding start isos_of
formed {rs} d i o e c m =
    let s : Seen = after_all start rs in
    let h : FormedTail 0 (tail_from s.types s.patterns 1 rs) = tail_formed s.types s.patterns (patterns_formed d none_formed) 1 d in
    subst (λ k. FormedClause k c) (zero-add i) (h.isos i o e c m)

-- what rows tell one after the other
pub after_append : (s : Seen) (rs qs : List Row) → after_all s (rs ++ qs) ≡ after_all (after_all s rs) qs
after_append s [] qs = refl
after_append s (r ∷ rs) qs = after_append (after s r) rs qs

pub passes_append : {s : Seen} {rs qs : List Row} → Passes s rs → Passes (after_all s rs) qs → Passes s (rs ++ qs)
passes_append done k = k
passes_append (next j h) k = next j (passes_append h k)
