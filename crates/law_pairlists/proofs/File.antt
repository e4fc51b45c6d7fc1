-- Request 07: the file that import writes. Its T and P rows unfold to the types and the closed values, its rows pass the judge, and its one iso has a
-- clause of closed values for each pair.
use Prim.Native.Nat.{ℕ, zero, suc, ◌+◌, ◌≤◌, ◌<◌}
use native.Mathlib.Nat.{lt_irrefl, add-zero, add-suc, suc-add}
use native.Mathlib.Omega.{arith}
use mathlib.Core.Path.{◌≡◌, refl, sym, ap, ap₂, ◌∙◌, subst}
use mathlib.Core.Logic.{◌⊎◌, inl, inr}
use mathlib.Core.Bool.{true, ◌&&◌, false≢true}
use mathlib.Core.Option.{none, some}
use mathlib.Core.List.Memᴰ
use mathlib.Core.List.{List, [], ◌∷◌, ◌++◌, append-nil, append_assoc, Memᴰ}
use lib.Dec.{eqb, ltb, leb}
use lib.ListN.{length, get_elem?, get_or, get_or-append, length-append}
use Rattle.limits.specs.Limits.{variables, field_bound, max_types, max_patterns, max_isos, max_clauses, max_nodes, max_tags}
use Rattle.calculus.specs.Trees.{Ty, tunit, tlist, tsum, tprod, unit_leaf, empty_leaf, left, right, pair_node, element_node, Pat, pleaf, pinj, pnode, Val, vleaf}
use Rattle.calculus.specs.Trees.{vinj, vnode, Clause, Iso, type_nodes, nodes, tags}
use Rattle.calculus.specs.Lists.{Finite}
use Rattle.calculus.specs.Refusals.{type_line, pattern_line, iso_line, clause_line}
use Rattle.format.specs.Lines.{Row, field_count}
use Rattle.format.specs.Judge.{Seen, start, stage, type_fields, type_names, type_node, type_tree, pattern_fields, pattern_names, pattern_tree, within_ceilings, judge, after_kind, after, after_all}
use Rattle.format.specs.Kinds.{type_kind, pattern_kind}
use Rattle.format.specs.Idle.{type_lines, NoneIdle}
use Rattle.format.specs.Unfold.{Tail, place, tail_from, isos_of}
use Rattle.law_pairlists.specs.PairLists.{Entry, entry, type_row, pattern_row, clause_row, iso_row, write_type, write_value, Written, write_pairs, file_rows, within_all}
use Rattle.calculus.proofs.Basic.{none≢some, leb_le, and_true, true_and, ltb_lt, lt_ltb, le_leb, index_below, mem_index, eqb_eq, each_nil, each_cons, each_append, index_default}
use Rattle.format.proofs.Naming.{type_by_names, type_names_mono, pattern_by_names, pattern_names_mono}
use Rattle.format.proofs.Passing.{Passes, done, next, Fit, judge_fit, fit_judge, after_append, passes_append}
use Rattle.format.proofs.Printing.{WellFormed}
use Rattle.law_pairlists.proofs.Used.{Unlisted, UnlistedPair, none_idle}
use Rattle.law_pairlists.proofs.Rows.{Stored, nothing, more, Entered, entered, still, after_others, same_length, ok_at, length_snoc, index_front, index_snoc, enter_length, enter_grows}

-- ---- T rows

pub record TypeOk (n : ℕ) (r : Row) : Type 0 where
  pub kind : r.kind ≡ type_line
  pub fields : type_fields r.x r.y r.z ≡ true
  pub names : type_names n r.x r.y r.z ≡ true

below_both : (n a b : ℕ) → (ltb a n && ltb b n) ≡ true → (a < n) × (b < n)
below_both n a b e = let h = and_true (ltb a n) (ltb b n) e in (ltb_lt a n h.0, ltb_lt b n h.1)

both_below : {n a b : ℕ} → a < n → b < n → (ltb a n && ltb b n) ≡ true
both_below h k = true_and (lt_ltb h) (lt_ltb k)

pub type_keep : (ts us : List Ty) (r : Row) → TypeOk (length ts) r → type_tree (ts ++ us) r ≡ type_tree ts r
type_keep ts us r h =
    type_by_names (length ts) (type_kind r.x) r.y r.z h.names
    (λ l. get_or-append ts us tunit r.y l)
    (λ l. get_or-append ts us tunit r.z l)

pub type_mono : (m n : ℕ) (r : Row) → m ≤ n → TypeOk m r → TypeOk n r
type_mono m n r l h = record { kind = h.kind; fields = h.fields; names = type_names_mono (type_kind r.x) r.y r.z l h.names }

abbrev pub SmallType : Ty → Type 0
SmallType a = type_nodes a ≤ max_nodes

abbrev pub Types : List Row → List Ty → Type 0
Types = Stored type_tree TypeOk SmallType type_keep type_mono

abbrev pub TypeEntered : Entry → List Ty → Ty → Type 0
TypeEntered = Entered type_tree TypeOk SmallType type_keep type_mono

-- a sum or product whose parts have their numbers
two_parts : {rs : List Row} {ts : List Ty} (k i j : ℕ) (a b : Ty) → Types rs ts → type_fields k i j ≡ true
    → ((n : ℕ) → (ltb i n && ltb j n) ≡ true → type_names n k i j ≡ true)
    → get_elem? ts i ≡ some a → get_elem? ts j ≡ some b → type_nodes (type_node k a b) ≤ max_nodes
    → TypeEntered (entry (type_row k i j) rs) ts (type_node k a b)
two_parts {rs} {ts} k i j a b s f n p q l =
    let e : type_tree ts (type_row k i j) ≡ type_node k a b = ap₂ (type_node k) (index_default ts i tunit p) (index_default ts j tunit q) in
    subst (TypeEntered (entry (type_row k i j) rs) ts) e
    (entered type_tree TypeOk SmallType type_keep type_mono (type_row k i j) s
    (record { kind = refl; fields = f; names = n (length ts) (both_below (index_below ts i p) (index_below ts j q)) })
    (subst SmallType (sym e) l))

-- the rows of a sum or product, whose parts are written first
abbrev two_rows : ℕ → Ty → Ty → List Row → Entry
two_rows k a b rs = let f : Entry = write_type a rs in let s : Entry = write_type b f.rows in entry (type_row k f.number s.number) s.rows

two_written : (k : ℕ) (a b : Ty) (rs : List Row) {ts : List Ty} → ((i j : ℕ) → type_fields k i j ≡ true)
    → ((n i j : ℕ) → (ltb i n && ltb j n) ≡ true → type_names n k i j ≡ true) → (f : TypeEntered (write_type a rs) ts a)
    → (Types (write_type a rs).rows f.trees → TypeEntered (write_type b (write_type a rs).rows) f.trees b) → type_nodes (type_node k a b) ≤ max_nodes
    → TypeEntered (two_rows k a b rs) ts (type_node k a b)
two_written k a b rs fields names f write l =
    let g = write f.stored in
    let h = two_parts k _ _ a b g.stored (fields _ _) (λ n. names n _ _) (still type_tree TypeOk SmallType type_keep type_mono g _ f.here) g.here l in
    after_others type_tree TypeOk SmallType type_keep type_mono f (after_others type_tree TypeOk SmallType type_keep type_mono g h)

-- writing a type gives rows whose unfolding at its number is that type, and changes no tree that was there
pub type_written : (a : Ty) {rs : List Row} {ts : List Ty} → Finite a → Types rs ts → type_nodes a ≤ max_nodes → TypeEntered (write_type a rs) ts a
type_written tunit x s l =
    entered type_tree TypeOk SmallType type_keep type_mono (type_row 0 0 0) s (record { kind = refl; fields = refl; names = refl }) l
type_written (tsum a b) {rs} (Finite.sum x y) s l = two_written 1 a b rs (λ i j. refl) (λ n i j e. e) (type_written a x s (omega arith)) (λ t. type_written b y t (omega arith)) l
type_written (tprod a b) {rs} (Finite.product x y) s l = two_written 2 a b rs (λ i j. refl) (λ n i j e. e) (type_written a x s (omega arith)) (λ t. type_written b y t (omega arith)) l
type_written (tlist _) {rs = rs} {ts = ts} x s l = elim x [ ]

-- no more rows than nodes
two_room : (k : ℕ) (a b : Ty) (rs : List Row) → length (write_type a rs).rows ≤ length rs + type_nodes a
    → length (write_type b (write_type a rs).rows).rows ≤ length (write_type a rs).rows + type_nodes b → length (two_rows k a b rs).rows ≤ length rs + (1 + type_nodes a + type_nodes b)
two_room k a b rs h i = let l = enter_length (type_row k (write_type a rs).number (write_type b (write_type a rs).rows).number) (write_type b (write_type a rs).rows).rows in omega arith

pub type_room : (a : Ty) (rs : List Row) → length (write_type a rs).rows ≤ length rs + type_nodes a
type_room tunit rs = let h = enter_length (type_row 0 0 0) rs in omega arith
type_room (tlist a) rs =
    let f : Entry = write_type a rs in
    let h = type_room a rs in
    let l = enter_length (type_row 3 f.number 0) f.rows in
    omega arith
type_room (tsum a b) rs = two_room 1 a b rs (type_room a rs) (type_room b (write_type a rs).rows)
type_room (tprod a b) rs = two_room 2 a b rs (type_room a rs) (type_room b (write_type a rs).rows)

-- and no fewer than before
two_grows : (k : ℕ) (a b : Ty) (rs : List Row) → length rs ≤ length (write_type a rs).rows → length (write_type a rs).rows ≤ length (write_type b (write_type a rs).rows).rows
    → length rs ≤ length (two_rows k a b rs).rows
two_grows k a b rs h i = let l = enter_grows (type_row k (write_type a rs).number (write_type b (write_type a rs).rows).number) (write_type b (write_type a rs).rows).rows in omega arith

pub type_grows : (a : Ty) (rs : List Row) → length rs ≤ length (write_type a rs).rows
type_grows tunit rs = enter_grows (type_row 0 0 0) rs
type_grows (tlist a) rs =
    let f : Entry = write_type a rs in
    let h = type_grows a rs in
    let l = enter_grows (type_row 3 f.number 0) f.rows in
    omega arith
type_grows (tsum a b) rs = two_grows 1 a b rs (type_grows a rs) (type_grows b (write_type a rs).rows)
type_grows (tprod a b) rs = two_grows 2 a b rs (type_grows a rs) (type_grows b (write_type a rs).rows)

-- ---- P rows

pub record PatternOk (n : ℕ) (r : Row) : Type 0 where
  pub kind : r.kind ≡ pattern_line
  pub fields : pattern_fields r.x r.y r.z ≡ true
  pub names : pattern_names n r.x r.y r.z ≡ true

pub pattern_keep : (ts us : List Pat) (r : Row) → PatternOk (length ts) r → pattern_tree (ts ++ us) r ≡ pattern_tree ts r
pattern_keep ts us r h =
    pattern_by_names (length ts) (pattern_kind r.x) r.y r.z h.names
    (λ l. get_or-append ts us (pleaf unit_leaf) r.y l)
    (λ l. get_or-append ts us (pleaf unit_leaf) r.z l)

pub pattern_mono : (m n : ℕ) (r : Row) → m ≤ n → PatternOk m r → PatternOk n r
pattern_mono m n r l h = record { kind = h.kind; fields = h.fields; names = pattern_names_mono (pattern_kind r.x) r.y r.z l h.names }

-- `lim` bounds the left and right nodes: the ceiling of 40, or more where it is asked whether that is kept
abbrev pub SmallPattern : ℕ → Pat → Type 0
SmallPattern lim p = (nodes p ≤ max_nodes) × (tags p ≤ lim)

abbrev pub Patterns : ℕ → List Row → List Pat → Type 0
Patterns lim = Stored pattern_tree PatternOk (SmallPattern lim) pattern_keep pattern_mono

abbrev pub PatternEntered : ℕ → Entry → List Pat → Pat → Type 0
PatternEntered lim = Entered pattern_tree PatternOk (SmallPattern lim) pattern_keep pattern_mono

-- a closed value as a pattern
abbrev pub closed : Val → Pat
closed (vleaf l) = pleaf l
closed (vinj t v) = pinj t (closed v)
closed (vnode k v w) = pnode k (closed v) (closed w)

enter_p : (lim : ℕ) {rs : List Row} {ts : List Pat} {p : Pat} (r : Row) → Patterns lim rs ts → PatternOk (length ts) r → pattern_tree ts r ≡ p → SmallPattern lim p
    → PatternEntered lim (entry r rs) ts p
enter_p lim {rs} {ts} r s k e l =
    subst (PatternEntered lim (entry r rs) ts) e
    (entered pattern_tree PatternOk (SmallPattern lim) pattern_keep pattern_mono r s k (subst (SmallPattern lim) (sym e) l))

-- the same of closed values
pub value_written : (lim : ℕ) (v : Val) {rs : List Row} {ts : List Pat} → Unlisted v → Patterns lim rs ts → nodes (closed v) ≤ max_nodes → tags (closed v) ≤ lim
    → PatternEntered lim (write_value v rs) ts (closed v)
value_written lim (vleaf unit_leaf) u s l t = enter_p lim (pattern_row 0 0 0) s (record { kind = refl; fields = refl; names = refl }) refl (l, t)
value_written lim (vinj left v) (Unlisted.inj u) s l t =
    let f = value_written lim v u s (omega arith) (omega arith) in
    let h = enter_p lim (pattern_row 2 _ 0) f.stored (record { kind = refl; fields = refl; names = lt_ltb (index_below f.trees _ f.here) })
    (ap (pinj left) (index_default f.trees _ (pleaf unit_leaf) f.here)) (l, t) in
    after_others pattern_tree PatternOk (SmallPattern lim) pattern_keep pattern_mono f h
value_written lim (vinj right v) (Unlisted.inj u) s l t =
    let f = value_written lim v u s (omega arith) (omega arith) in
    let h = enter_p lim (pattern_row 3 _ 0) f.stored (record { kind = refl; fields = refl; names = lt_ltb (index_below f.trees _ f.here) })
    (ap (pinj right) (index_default f.trees _ (pleaf unit_leaf) f.here)) (l, t) in
    after_others pattern_tree PatternOk (SmallPattern lim) pattern_keep pattern_mono f h
value_written lim (vnode pair_node v w) (Unlisted.pair u u') s l t =
    let f = value_written lim v u s (omega arith) (omega arith) in
    let g = value_written lim w u' f.stored (omega arith) (omega arith) in
    let p = still pattern_tree PatternOk (SmallPattern lim) pattern_keep pattern_mono g _ f.here in
    let h = enter_p lim (pattern_row 4 _ _) g.stored
    (record { kind = refl; fields = refl; names = both_below (index_below g.trees _ p) (index_below g.trees _ g.here) })
    (ap₂ (pnode pair_node) (index_default g.trees _ (pleaf unit_leaf) p) (index_default g.trees _ (pleaf unit_leaf) g.here)) (l, t) in
    after_others pattern_tree PatternOk (SmallPattern lim) pattern_keep pattern_mono f
    (after_others pattern_tree PatternOk (SmallPattern lim) pattern_keep pattern_mono g h)
value_written lim (vleaf empty_leaf) {rs = rs} {ts = ts} u s l t = elim u [ ]
value_written lim (vnode element_node v w) {rs = rs} {ts = ts} u s l t = elim u [ ]

-- the rows never become fewer
pub value_grows : (v : Val) (rs : List Row) → length rs ≤ length (write_value v rs).rows
value_grows (vleaf unit_leaf) rs = enter_grows (pattern_row 0 0 0) rs
value_grows (vleaf empty_leaf) rs = enter_grows (pattern_row 5 0 0) rs
value_grows (vinj left v) rs =
    let f : Entry = write_value v rs in let h = value_grows v rs in let l = enter_grows (pattern_row 2 f.number 0) f.rows in omega arith
value_grows (vinj right v) rs =
    let f : Entry = write_value v rs in let h = value_grows v rs in let l = enter_grows (pattern_row 3 f.number 0) f.rows in omega arith
value_grows (vnode pair_node v w) rs =
    let f : Entry = write_value v rs in
    let s : Entry = write_value w f.rows in
    let h = value_grows v rs in
    let k = value_grows w f.rows in
    let l = enter_grows (pattern_row 4 f.number s.number) s.rows in
    omega arith
value_grows (vnode element_node v w) rs =
    let f : Entry = write_value v rs in
    let s : Entry = write_value w f.rows in
    let h = value_grows v rs in
    let k = value_grows w f.rows in
    let l = enter_grows (pattern_row 6 f.number s.number) s.rows in
    omega arith

pub pairs_grow : (cs : List (Val × Val)) (rs : List Row) → length rs ≤ length (write_pairs cs rs).patterns
pairs_grow [] rs = omega arith
pairs_grow (c ∷ cs) rs =
    let l : Entry = write_value c.0 rs in
    let r : Entry = write_value c.1 l.rows in
    let h = value_grows c.0 rs in
    let k = value_grows c.1 l.rows in
    let m = pairs_grow cs r.rows in
    omega arith

-- ---- C rows

-- C rows that name closed values, a row for each pair
pub data Named (ps : List Pat) : List Row → List (Val × Val) → Type 0 where
  unnamed : Named ps [] []
  one : {rs : List Row} {cs : List (Val × Val)} (i j : ℕ) (c : Val × Val) → get_elem? ps i ≡ some (closed c.0) → get_elem? ps j ≡ some (closed c.1)
      → Named ps rs cs → Named ps (clause_row i j ∷ rs) (c ∷ cs)

-- values that keep the ceilings
pub record SmallPair (lim : ℕ) (c : Val × Val) : Type 0 where
  pub unlisted : UnlistedPair c
  pub lhs : SmallPattern lim (closed c.0)
  pub rhs : SmallPattern lim (closed c.1)

pub record PairsWritten (lim : ℕ) (w : Written) (ts : List Pat) (cs : List (Val × Val)) : Type 0 where
  pub trees : List Pat
  pub stored : Patterns lim w.patterns trees
  pub added : List Pat
  pub extends : trees ≡ ts ++ added
  pub rows : Named trees w.clauses cs

pub pairs_written : (lim : ℕ) (cs : List (Val × Val)) {rs : List Row} {ts : List Pat} → ((c : Val × Val) → Memᴰ c cs → SmallPair lim c) → Patterns lim rs ts
    → PairsWritten lim (write_pairs cs rs) ts cs
pairs_written lim [] {rs} {ts} h s = record { trees = ts; stored = s; added = []; extends = sym (append-nil ts); rows = unnamed }
pairs_written lim (c ∷ cs) {rs} {ts} h s =
    let k = h c (Memᴰ.head refl) in
    let l = value_written lim c.0 k.unlisted.from s k.lhs.0 k.lhs.1 in
    let r = value_written lim c.1 k.unlisted.to l.stored k.rhs.0 k.rhs.1 in
    let o = pairs_written lim cs (λ d m. h d (Memᴰ.tail m)) r.stored in
    let p = still pattern_tree PatternOk (SmallPattern lim) pattern_keep pattern_mono r _ l.here in
    record {
      trees = o.trees;
      stored = o.stored;
      added = l.added ++ (r.added ++ o.added);
      extends =
          o.extends
          ∙ ap (λ z. z ++ o.added) (r.extends ∙ ap (λ z. z ++ r.added) l.extends)
          ∙ append_assoc (ts ++ l.added) r.added o.added
          ∙ append_assoc ts l.added (r.added ++ o.added);
      rows = one _ _ c (front r.trees o.added o.extends _ p) (front r.trees o.added o.extends _ r.here) o.rows;
    }
  where
    front : (xs ys : List Pat) {zs : List Pat} → zs ≡ xs ++ ys → (i : ℕ) {p : Pat} → get_elem? xs i ≡ some p → get_elem? zs i ≡ some p
    front xs ys e i g = ap (λ z. get_elem? z i) e ∙ index_front xs ys i g

-- ---- rows that pass

-- what T rows tell
pub record TypesSeen (s : Seen) (ts : List Ty) : Type 0 where
  pub order : stage s.above ≡ 0
  pub types : s.types ≡ ts
  pub patterns : s.patterns ≡ []
  pub isos : s.isos ≡ 0

type_judged : (s : Seen) (ts : List Ty) (r : Row) → TypesSeen s ts → TypeOk (length ts) r → type_nodes (type_tree ts r) ≤ max_nodes → length ts < max_types
    → judge s r ≡ none
type_judged s ts r h k l m = fit_judge s r (subst (λ q. Fit s q r) (sym k.kind) fit)
  where
    fit : Fit s type_line r
    fit =
        record {
          order = ap (λ n. leb n 0) h.order;
          fields = k.fields;
          names = ap (λ z. type_names (length z) r.x r.y r.z) h.types ∙ k.names;
          ceilings = ap (λ z. ltb (length z) max_types && leb (type_nodes (type_tree z r)) max_nodes) h.types ∙ true_and (lt_ltb m) (le_leb l);
        }

type_seen : (s : Seen) (ts : List Ty) (r : Row) → TypesSeen s ts → r.kind ≡ type_line → TypesSeen (after s r) (ts ++ (type_tree ts r ∷ []))
type_seen s ts r h k =
    subst (λ q. TypesSeen (after_kind q s r) (ts ++ (type_tree ts r ∷ []))) (sym k)
    (record { order = refl; types = ap (λ z. z ++ (type_tree z r ∷ [])) h.types; patterns = h.patterns; isos = h.isos })

pub types_pass : {rs : List Row} {ts : List Ty} → Types rs ts → length ts ≤ max_types → Passes start rs × TypesSeen (after_all start rs) ts
unfolding start
types_pass nothing l = (done, record { order = refl; types = refl; patterns = refl; isos = refl })
types_pass (more {rs} {qs} {ts} {us} r s k m f p q) l =
    let n = ap length q ∙ length_snoc ts (type_tree ts r) in
    let h = types_pass s (omega arith) in
    let a : after_all start qs ≡ after (after_all start rs) r = ap (after_all start) p ∙ after_append start rs (r ∷ []) in (
      subst (Passes start) (sym p) (passes_append h.0 (next (type_judged (after_all start rs) ts r h.1 k m (omega arith)) done)),
      subst (λ z. TypesSeen (after_all start qs) z) (sym q) (subst (λ z. TypesSeen z (ts ++ (type_tree ts r ∷ []))) (sym a) (type_seen (after_all start rs) ts r h.1 k.kind)),
    )

-- what P rows below them tell
pub record PatternsSeen (s : Seen) (ts : List Ty) (ps : List Pat) : Type 0 where
  pub order : stage s.above ≤ 1
  pub types : s.types ≡ ts
  pub patterns : s.patterns ≡ ps
  pub isos : s.isos ≡ 0

pattern_judged : (s : Seen) (ts : List Ty) (ps : List Pat) (r : Row) → PatternsSeen s ts ps → PatternOk (length ps) r → SmallPattern max_tags (pattern_tree ps r)
    → length ps < max_patterns → judge s r ≡ none
pattern_judged s ts ps r h k l m = fit_judge s r (subst (λ q. Fit s q r) (sym k.kind) fit)
  where
    fit : Fit s pattern_line r
    fit =
        record {
          order = le_leb h.order;
          fields = k.fields;
          names = ap (λ z. pattern_names (length z) r.x r.y r.z) h.patterns ∙ k.names;
          ceilings =
              ap (λ z. ltb (length z) max_patterns && leb (nodes (pattern_tree z r)) max_nodes && leb (tags (pattern_tree z r)) max_tags) h.patterns
              ∙ true_and (true_and (lt_ltb m) (le_leb l.0)) (le_leb l.1);
        }

pattern_seen : (s : Seen) (ts : List Ty) (ps : List Pat) (r : Row) → PatternsSeen s ts ps → r.kind ≡ pattern_line
    → PatternsSeen (after s r) ts (ps ++ (pattern_tree ps r ∷ []))
pattern_seen s ts ps r h k =
    subst (λ q. PatternsSeen (after_kind q s r) ts (ps ++ (pattern_tree ps r ∷ []))) (sym k)
    (record { order = omega arith; types = h.types; patterns = ap (λ z. z ++ (pattern_tree z r ∷ [])) h.patterns; isos = h.isos })

pub patterns_pass : (s₀ : Seen) (ts : List Ty) → PatternsSeen s₀ ts [] → {rs : List Row} {ps : List Pat} → Patterns max_tags rs ps → length ps ≤ max_patterns
    → Passes s₀ rs × PatternsSeen (after_all s₀ rs) ts ps
patterns_pass s₀ ts h₀ nothing l = (done, h₀)
patterns_pass s₀ ts h₀ (more {rs} {qs} {ts = ps} {us = us} r s k m f p q) l =
    let n = ap length q ∙ length_snoc ps (pattern_tree ps r) in
    let h = patterns_pass s₀ ts h₀ s (omega arith) in
    let a : after_all s₀ qs ≡ after (after_all s₀ rs) r = ap (after_all s₀) p ∙ after_append s₀ rs (r ∷ []) in (
      subst (Passes s₀) (sym p) (passes_append h.0 (next (pattern_judged (after_all s₀ rs) ts ps r h.1 k m (omega arith)) done)),
      subst (λ z. PatternsSeen (after_all s₀ qs) ts z) (sym q)
          (subst (λ z. PatternsSeen z ts (ps ++ (pattern_tree ps r ∷ []))) (sym a) (pattern_seen (after_all s₀ rs) ts ps r h.1 k.kind)),
    )

-- the I row
iso_judged : (s : Seen) (ts : List Ty) (ps : List Pat) (i j : ℕ) {a b : Ty} → PatternsSeen s ts ps → get_elem? ts i ≡ some a → get_elem? ts j ≡ some b
    → judge s (iso_row i j) ≡ none
iso_judged s ts ps i j h e d = fit_judge s (iso_row i j) fit
  where
    fit : Fit s iso_line (iso_row i j)
    fit =
        record {
          order = refl;
          fields = refl;
          names = ap (λ z. ltb i (length z) && ltb j (length z)) h.types ∙ both_below (index_below ts i e) (index_below ts j d);
          ceilings = ap (λ n. ltb n max_isos) h.isos;
        }

-- the C rows
clauses_pass : (ps : List Pat) (s : Seen) {rs : List Row} {cs : List (Val × Val)} → 2 ≤ stage s.above → s.patterns ≡ ps
    → s.clauses + length cs ≤ max_clauses → Named ps rs cs → Passes s rs
clauses_pass ps s o e l unnamed = done
clauses_pass ps s o e l (one {rs} {cs} i j c p q h) =
    next (fit_judge s (clause_row i j) fit) (clauses_pass ps (after s (clause_row i j)) (omega arith) e (omega arith) h)
  where
    fit : Fit s clause_line (clause_row i j)
    fit =
        record {
          order = le_leb o;
          fields = refl;
          names = ap (λ z. ltb i (length z) && ltb j (length z)) e ∙ both_below (index_below ps i p) (index_below ps j q);
          ceilings = lt_ltb {m = s.clauses} {n = max_clauses} (omega arith);
        }

-- ---- the iso

-- a clause of closed values for each pair, from line n on
abbrev pub closed_clauses : ℕ → List (Val × Val) → List Clause
closed_clauses n [] = []
closed_clauses n (c ∷ cs) = record { line = n; lhs = closed c.0; lets = []; rhs = closed c.1 } ∷ closed_clauses (suc n) cs

module _ (ts : List Ty) (ps : List Pat) where
  tail_clauses : (n : ℕ) {rs : List Row} {cs : List (Val × Val)} → Named ps rs cs
      → tail_from ts ps n rs ≡ record { lets = []; clauses = closed_clauses n cs; isos = [] }
  tail_clauses n unnamed = refl
  tail_clauses n (one {rs} {cs} i j c p q h) =
      ap
      (λ (o : Tail). record { lets = []; clauses = record { line = n; lhs = get_or ps i (pleaf unit_leaf); lets = o.lets; rhs = get_or ps j (pleaf unit_leaf) } ∷ o.clauses; isos = o.isos })
      (tail_clauses (suc n) h)
      ∙ ap₂ (λ (l r : Pat). record { lets = []; clauses = record { line = n; lhs = l; lets = []; rhs = r } ∷ closed_clauses (suc n) cs; isos = [] })
      (index_default ps i (pleaf unit_leaf) p) (index_default ps j (pleaf unit_leaf) q)

  -- T and P rows in front add nothing to the isos
  tail_front : (n : ℕ) (rs qs : List Row) → ((r : Row) → Memᴰ r rs → (r.kind ≡ type_line) ⊎ (r.kind ≡ pattern_line))
      → tail_from ts ps n (rs ++ qs) ≡ tail_from ts ps (n + length rs) qs
  tail_front n [] qs h = ap (λ k. tail_from ts ps k qs) (sym (add-zero n))
  tail_front n (r ∷ rs) qs h =
      skips (h r (Memᴰ.head refl)) (tail_from ts ps (suc n) (rs ++ qs))
      ∙ tail_front (suc n) rs qs (λ q m. h q (Memᴰ.tail m))
      ∙ ap (λ k. tail_from ts ps k qs) (suc-add n (length rs) ∙ sym (add-suc n (length rs)))
    where
      skips : (r.kind ≡ type_line) ⊎ (r.kind ≡ pattern_line) → (o : Tail) → place ts ps r.kind n r o ≡ o
      skips (inl e) o = ap (λ k. place ts ps k n r o) e
      skips (inr e) o = ap (λ k. place ts ps k n r o) e

type_kinds : {rs : List Row} {ts : List Ty} → Types rs ts → (r : Row) → Memᴰ r rs → (r.kind ≡ type_line) ⊎ (r.kind ≡ pattern_line)
type_kinds s r m = let i = mem_index m in inl (ok_at type_tree TypeOk SmallType type_keep type_mono s i.0 r i.1).kind

pattern_kinds : {rs : List Row} {ps : List Pat} → Patterns max_tags rs ps → (r : Row) → Memᴰ r rs → (r.kind ≡ type_line) ⊎ (r.kind ≡ pattern_line)
pattern_kinds s r m = let i = mem_index m in inr (ok_at pattern_tree PatternOk (SmallPattern max_tags) pattern_keep pattern_mono s i.0 r i.1).kind

-- ---- rows that a line can hold

three_two : ◌≡◌ {A = ℕ} 3 2 → ⊥
three_two q = lt_irrefl 2 (omega arith)

three_below : (n k a b : ℕ) → n ≤ field_bound → type_fields k a b ≡ true → type_names n k a b ≡ true → (k < field_bound) × (a < field_bound) × (b < field_bound)
three_below n zero a b l e h = let p = and_true (eqb a 0) (eqb b 0) e in let x = eqb_eq a 0 p.0 in let y = eqb_eq b 0 p.1 in (omega arith, omega arith, omega arith)
three_below n (suc zero) a b l e h = let p = below_both n a b h in let x = p.0 in let y = p.1 in (omega arith, omega arith, omega arith)
three_below n (suc (suc zero)) a b l e h = let p = below_both n a b h in let x = p.0 in let y = p.1 in (omega arith, omega arith, omega arith)
three_below n (suc (suc (suc zero))) a b l e h = let x = ltb_lt a n h in let y = eqb_eq b 0 e in (omega arith, omega arith, omega arith)
three_below n (suc (suc (suc (suc k)))) a b l e h = absurd (false≢true e)

pub type_formed : (n : ℕ) (r : Row) → n ≤ field_bound → TypeOk n r → WellFormed r
type_formed n r l h =
    let p = three_below n r.x r.y r.z l h.fields h.names in
    record { x = p.0; y = p.1; z = p.2; missing = λ e. absurd (three_two (sym (ap field_count h.kind) ∙ e)) }

pattern_below : (n k a b : ℕ) → n ≤ field_bound → pattern_fields k a b ≡ true → pattern_names n k a b ≡ true → (k < field_bound) × (a < field_bound) × (b < field_bound)
pattern_below n zero a b l e h = let p = and_true (eqb a 0) (eqb b 0) e in let x = eqb_eq a 0 p.0 in let y = eqb_eq b 0 p.1 in (omega arith, omega arith, omega arith)
pattern_below n (suc zero) a b l e h = let p = and_true (ltb a variables) (eqb b 0) e in let x = ltb_lt a variables p.0 in let y = eqb_eq b 0 p.1 in (omega arith, omega arith, omega arith)
pattern_below n (suc (suc zero)) a b l e h = let x = ltb_lt a n h in let y = eqb_eq b 0 e in (omega arith, omega arith, omega arith)
pattern_below n (suc (suc (suc zero))) a b l e h = let x = ltb_lt a n h in let y = eqb_eq b 0 e in (omega arith, omega arith, omega arith)
pattern_below n (suc (suc (suc (suc zero)))) a b l e h = let p = below_both n a b h in let x = p.0 in let y = p.1 in (omega arith, omega arith, omega arith)
pattern_below n (suc (suc (suc (suc (suc zero))))) a b l e h =
    let p = and_true (eqb a 0) (eqb b 0) e in
    let x = eqb_eq a 0 p.0 in
    let y = eqb_eq b 0 p.1 in
    (omega arith, omega arith, omega arith)
pattern_below n (suc (suc (suc (suc (suc (suc zero)))))) a b l e h = let p = below_both n a b h in let x = p.0 in let y = p.1 in (omega arith, omega arith, omega arith)
pattern_below n (suc (suc (suc (suc (suc (suc (suc k))))))) a b l e h = absurd (false≢true e)

pub pattern_formed : (n : ℕ) (r : Row) → n ≤ field_bound → PatternOk n r → WellFormed r
pattern_formed n r l h =
    let p = pattern_below n r.x r.y r.z l h.fields h.names in
    record { x = p.0; y = p.1; z = p.2; missing = λ e. absurd (three_two (sym (ap field_count h.kind) ∙ e)) }

clauses_formed : {ps : List Pat} {rs : List Row} {cs : List (Val × Val)} → length ps ≤ field_bound → Named ps rs cs → (r : Row) → Memᴰ r rs → WellFormed r
clauses_formed l unnamed = each_nil WellFormed
clauses_formed {ps} l (one i j c p q h) =
    let x = index_below ps i p in
    let y = index_below ps j q in
    each_cons WellFormed (record { x = omega arith; y = omega arith; z = omega arith; missing = λ e. refl }) (clauses_formed l h)

clauses_length : {ps : List Pat} {rs : List Row} {cs : List (Val × Val)} → Named ps rs cs → length rs ≡ length cs
clauses_length unnamed = refl
clauses_length (one i j c p q h) = ap suc (clauses_length h)

-- ---- the whole file

-- the one iso of the file
abbrev pub closed_iso : ℕ → Ty → Ty → List (Val × Val) → Iso
closed_iso n a b cs = record { line = n; from = a; to = b; clauses = closed_clauses (suc n) cs }

clauses_seen : {ps : List Pat} (s : Seen) {rs : List Row} {cs : List (Val × Val)} → Named ps rs cs
    → ((after_all s rs).types ≡ s.types) × ((after_all s rs).patterns ≡ s.patterns)
clauses_seen s unnamed = (refl, refl)
clauses_seen s (one i j c p q h) = clauses_seen (after s (clause_row i j)) h

pub record FileWritten (a b : Ty) (cs : List (Val × Val)) (rs : List Row) : Type 0 where
  pub passes : Passes start rs
  pub line : ℕ
  pub isos : isos_of rs ≡ closed_iso line a b cs ∷ []
  pub formed : (r : Row) → Memᴰ r rs → WellFormed r
  pub few : length rs ≤ 1407
  pub used : NoneIdle rs

pub file_written : (a b : Ty) (cs : List (Val × Val)) → Finite a → Finite b → type_nodes a ≤ max_nodes → type_nodes b ≤ max_nodes → ((c : Val × Val) → Memᴰ c cs → SmallPair max_tags c)
    → length cs ≤ max_clauses → length (write_pairs cs []).patterns ≤ max_patterns → FileWritten a b cs (file_rows a b cs)
unfolding file_rows isos_of type_lines
file_written a b cs xa xb ha hb hc lc lp =
    record {
      passes = passes_append tp.0 (passes_append pp.0 (next (iso_judged s₂ g.trees o.trees f.number e.number pp.1 fa g.here) cp));
      line = 1 + length e.rows + length w.patterns;
      isos = isos;
      formed =
          each_append WellFormed e.rows
          (λ r m. let i = mem_index m in type_formed (length g.trees) r (omega (arith, room)) (ok_at type_tree TypeOk SmallType type_keep type_mono g.stored i.0 r i.1))
          (each_append WellFormed w.patterns
          (λ r m. let i = mem_index m in pattern_formed (length o.trees) r (omega (arith, proom))
          (ok_at pattern_tree PatternOk (SmallPattern max_tags) pattern_keep pattern_mono o.stored i.0 r i.1))
          (each_cons WellFormed
          (record { x = omega (arith, room, index_below g.trees f.number fa); y = omega (arith, room, index_below g.trees e.number g.here); z = omega arith; missing = λ q. refl })
          (clauses_formed (omega (arith, proom)) o.rows)));
      few =
          let p = length-append e.rows (w.patterns ++ (iso_row f.number e.number ∷ w.clauses)) in
          let q = length-append w.patterns (iso_row f.number e.number ∷ w.clauses) in
          let r = clauses_length o.rows in
          omega (arith, troom);
      used = none_idle a b cs xa xb (λ c m. (hc c m).unlisted) (ap length ts ∙ sym (same_length type_tree TypeOk SmallType type_keep type_mono g.stored));
    }
  where
    f : Entry
    f = write_type a []

    e : Entry
    e = write_type b f.rows

    w : Written
    w = write_pairs cs []

    h : TypeEntered f [] a
    h = type_written a xa nothing ha

    g : TypeEntered e h.trees b
    g = type_written b xb h.stored hb

    fa : get_elem? g.trees f.number ≡ some a
    fa = still type_tree TypeOk SmallType type_keep type_mono g f.number h.here

    o : PairsWritten max_tags w [] cs
    o = pairs_written max_tags cs hc nothing

    troom : length e.rows ≤ 254
    troom = let p = type_room a [] in let q = type_room b f.rows in omega arith

    proom : length o.trees ≤ max_patterns
    proom = omega (arith, same_length pattern_tree PatternOk (SmallPattern max_tags) pattern_keep pattern_mono o.stored)

    room : length g.trees ≤ max_types
    room =
        let p = troom in
        let r = same_length type_tree TypeOk SmallType type_keep type_mono g.stored in
        omega arith

    tp : Passes start e.rows × TypesSeen (after_all start e.rows) g.trees
    tp = types_pass g.stored room

    s₁ : Seen
    s₁ = after_all start e.rows

    pp : Passes s₁ w.patterns × PatternsSeen (after_all s₁ w.patterns) g.trees o.trees
    pp =
        let t = tp.1 in
        patterns_pass s₁ g.trees (record { order = omega (arith, t.order); types = t.types; patterns = t.patterns; isos = t.isos }) o.stored
        (omega (arith, same_length pattern_tree PatternOk (SmallPattern max_tags) pattern_keep pattern_mono o.stored))

    s₂ : Seen
    s₂ = after_all s₁ w.patterns

    cp : Passes (after s₂ (iso_row f.number e.number)) w.clauses
    cp = clauses_pass o.trees (after s₂ (iso_row f.number e.number)) (omega arith) pp.1.patterns (omega arith) o.rows

    all : List Row
    all = e.rows ++ (w.patterns ++ (iso_row f.number e.number ∷ w.clauses))

    last : after_all start all ≡ after_all (after s₂ (iso_row f.number e.number)) w.clauses
    last = after_append start e.rows (w.patterns ++ (iso_row f.number e.number ∷ w.clauses)) ∙ after_append s₁ w.patterns (iso_row f.number e.number ∷ w.clauses)

    ts : (after_all start all).types ≡ g.trees
    ts = ap (λ (s : Seen). s.types) last ∙ (clauses_seen (after s₂ (iso_row f.number e.number)) o.rows).0 ∙ pp.1.types

    ps : (after_all start all).patterns ≡ o.trees
    ps = ap (λ (s : Seen). s.patterns) last ∙ (clauses_seen (after s₂ (iso_row f.number e.number)) o.rows).1 ∙ pp.1.patterns

    n : ℕ
    n = 1 + length e.rows + length w.patterns

    tail : tail_from g.trees o.trees 1 all ≡ tail_from g.trees o.trees n (iso_row f.number e.number ∷ w.clauses)
    tail =
        tail_front g.trees o.trees 1 e.rows (w.patterns ++ (iso_row f.number e.number ∷ w.clauses)) (type_kinds g.stored)
        ∙ tail_front g.trees o.trees (1 + length e.rows) w.patterns (iso_row f.number e.number ∷ w.clauses) (pattern_kinds o.stored)

    isos : (tail_from (after_all start all).types (after_all start all).patterns 1 all).isos ≡ closed_iso n a b cs ∷ []
    isos =
        ap₂ (λ (x : List Ty) (y : List Pat). (tail_from x y 1 all).isos) ts ps
        ∙ ap (λ (t : Tail). t.isos) tail
        ∙ ap (λ (t : Tail). record { line = n; from = get_or g.trees f.number tunit; to = get_or g.trees e.number tunit; clauses = t.clauses } ∷ t.isos)
        (tail_clauses g.trees o.trees (suc n) o.rows)
        ∙ ap₂ (λ x y. closed_iso n x y cs ∷ []) (index_default g.trees f.number tunit fa) (index_default g.trees e.number tunit g.here)

-- ---- the ceilings

pub within_append : (s : Seen) (rs qs : List Row) → within_all s (rs ++ qs) ≡ true → within_all (after_all s rs) qs ≡ true
within_append s [] qs e = e
within_append s (r ∷ rs) qs e = within_append (after s r) rs qs (and_true (within_ceilings s r.kind r) (within_all (after s r) (rs ++ qs)) e).1

pub passes_within : {s : Seen} {rs : List Row} → Passes s rs → within_all s rs ≡ true
passes_within done = refl
passes_within (next {s = s} {r = r} j h) = true_and (judge_fit s r j).ceilings (passes_within h)

within_patterns : (s : Seen) (rs qs : List Row) → ((r : Row) → Memᴰ r rs → r.kind ≡ pattern_line) → length s.patterns ≤ max_patterns
    → within_all s (rs ++ qs) ≡ true → length s.patterns + length rs ≤ max_patterns
within_patterns s [] qs h l e = omega arith
within_patterns s (r ∷ rs) qs h l e =
    let k = h r (Memᴰ.head refl) in
    let p = and_true (within_ceilings s r.kind r) (within_all (after s r) (rs ++ qs)) e in
    let c : within_ceilings s pattern_line r ≡ true = ap (λ q. within_ceilings s q r) (sym k) ∙ p.0 in
    let d = and_true (ltb (length s.patterns) max_patterns && leb (nodes (pattern_tree s.patterns r)) max_nodes) (leb (tags (pattern_tree s.patterns r)) max_tags) c in
    let f = ltb_lt (length s.patterns) max_patterns (and_true (ltb (length s.patterns) max_patterns) (leb (nodes (pattern_tree s.patterns r)) max_nodes) d.0).0 in
    let a : after s r ≡ after_kind pattern_line s r = ap (λ q. after_kind q s r) k in
    let n : length (after s r).patterns ≡ suc (length s.patterns) = ap (λ (z : Seen). length z.patterns) a ∙ length_snoc s.patterns (pattern_tree s.patterns r) in
    let ih = within_patterns (after s r) rs qs (λ q m. h q (Memᴰ.tail m)) (omega arith) p.1 in
    omega arith

-- P rows tell their trees
patterns_told : (lim : ℕ) (s : Seen) → s.patterns ≡ [] → {rs : List Row} {ps : List Pat} → Patterns lim rs ps → (after_all s rs).patterns ≡ ps
patterns_told lim s e nothing = e
patterns_told lim s e (more {rs} {qs} {ts = ps} {us = us} r h k l f p q) =
    ap (λ z. (after_all s z).patterns) p
    ∙ ap (λ (z : Seen). z.patterns) (after_append s rs (r ∷ []))
    ∙ ap (λ κ. (after_kind κ (after_all s rs) r).patterns) k.kind
    ∙ ap (λ z. z ++ (pattern_tree z r ∷ [])) (patterns_told lim s e h)
    ∙ sym q

-- within the ceilings none of them has over 40 left and right nodes
within_trees : (lim : ℕ) (s : Seen) → s.patterns ≡ [] → {rs : List Row} {ps : List Pat} → Patterns lim rs ps → (qs : List Row) → within_all s (rs ++ qs) ≡ true
    → (i : ℕ) (p : Pat) → get_elem? ps i ≡ some p → tags p ≤ max_tags
within_trees lim s e nothing qs w i p g = absurd (none≢some g)
within_trees lim s e (more {rs} {qs = os} {ts = ps} {us = us} r h k l f p q) qs w i z g =
    go (within_trees lim s e h (r ∷ qs) front i z) (index_snoc ps (pattern_tree ps r) i (ap (λ y. get_elem? y i) (sym q) ∙ g))
  where
    front : within_all s (rs ++ (r ∷ qs)) ≡ true
    front = ap (within_all s) (sym (append_assoc rs (r ∷ []) qs) ∙ ap (λ y. y ++ qs) (sym p)) ∙ w

    here : tags (pattern_tree ps r) ≤ max_tags
    here =
        let v = within_append s rs (r ∷ qs) front in
        let a = (and_true (within_ceilings (after_all s rs) r.kind r) (within_all (after (after_all s rs) r) qs) v).0 in
        let b : within_ceilings (after_all s rs) pattern_line r ≡ true = ap (λ κ. within_ceilings (after_all s rs) κ r) (sym k.kind) ∙ a in
        let us : List Pat = (after_all s rs).patterns in
        let c = (and_true (ltb (length us) max_patterns && leb (nodes (pattern_tree us r)) max_nodes) (leb (tags (pattern_tree us r)) max_tags) b).1 in
        subst (λ y. tags (pattern_tree y r) ≤ max_tags) (patterns_told lim s e h) (leb_le (tags (pattern_tree us r)) max_tags c)

    go : (get_elem? ps i ≡ some z → tags z ≤ max_tags) → (get_elem? ps i ≡ some z) ⊎ ((i ≡ length ps) × (z ≡ pattern_tree ps r)) → tags z ≤ max_tags
    go below (inl x) = below x
    go below (inr x) = subst (λ y. tags y ≤ max_tags) (sym x.1) here

-- the numbers of a pair's values
named_pair : {ps : List Pat} {rs : List Row} {cs : List (Val × Val)} → Named ps rs cs → (c : Val × Val) → Memᴰ c cs
    → ((i : ℕ) × (get_elem? ps i ≡ some (closed c.0))) × ((j : ℕ) × (get_elem? ps j ≡ some (closed c.1)))
named_pair unnamed c m = absurd (Memᴰ.not-nil m)
named_pair {ps} (one i j d p q h) c (Memᴰ.head e) =
    ((i, p ∙ ap (λ (y : Val × Val). some (closed y.0)) (sym e)), (j, q ∙ ap (λ (y : Val × Val). some (closed y.1)) (sym e)))
named_pair (one i j d p q h) c (Memᴰ.tail m) = named_pair h c m

-- "another ceiling passed in the writing": it is that of the P lines or of a P line's left and right nodes, and no other
pub light_pairs : (lim : ℕ) (a b : Ty) (cs : List (Val × Val)) → Finite a → Finite b → type_nodes a ≤ max_nodes → type_nodes b ≤ max_nodes → ((c : Val × Val) → Memᴰ c cs → SmallPair lim c)
    → within_all start (file_rows a b cs) ≡ true → (length (write_pairs cs []).patterns ≤ max_patterns) × ((c : Val × Val) → Memᴰ c cs → SmallPair max_tags c)
unfolding file_rows
light_pairs lim a b cs xa xb ha hb hc q = (few, light)
  where
    f : Entry
    f = write_type a []

    e : Entry
    e = write_type b f.rows

    w : Written
    w = write_pairs cs []

    h : TypeEntered f [] a
    h = type_written a xa nothing ha

    g : TypeEntered e h.trees b
    g = type_written b xb h.stored hb

    o : PairsWritten lim w [] cs
    o = pairs_written lim cs hc nothing

    tp : TypesSeen (after_all start e.rows) g.trees
    tp = (types_pass g.stored (omega (arith, type_room a [], type_room b f.rows, same_length type_tree TypeOk SmallType type_keep type_mono g.stored))).1

    back : List Row
    back = iso_row f.number e.number ∷ w.clauses

    rest : within_all (after_all start e.rows) (w.patterns ++ back) ≡ true
    rest = within_append start e.rows (w.patterns ++ back) q

    few : length w.patterns ≤ max_patterns
    few =
        let z : length (after_all start e.rows).patterns ≡ 0 = ap length tp.patterns in
        let r = within_patterns (after_all start e.rows) w.patterns back
        (λ r m. let i = mem_index m in (ok_at pattern_tree PatternOk (SmallPattern lim) pattern_keep pattern_mono o.stored i.0 r i.1).kind)
        (omega arith) rest in
        omega arith

    light : (c : Val × Val) → Memᴰ c cs → SmallPair max_tags c
    light c m =
        let n = named_pair o.rows c m in
        let t = within_trees lim (after_all start e.rows) tp.patterns o.stored back rest in
        let s = hc c m in
        record {
          unlisted = s.unlisted;
          lhs = (s.lhs.0, t n.0.0 (closed c.0) n.0.1);
          rhs = (s.rhs.0, t n.1.0 (closed c.1) n.1.1);
        }

pub pairs_within : (a b : Ty) (cs : List (Val × Val)) → Finite a → Finite b → type_nodes a ≤ max_nodes → type_nodes b ≤ max_nodes → ((c : Val × Val) → Memᴰ c cs → SmallPair max_tags c)
    → length cs ≤ max_clauses → length (write_pairs cs []).patterns ≤ max_patterns → within_all start (file_rows a b cs) ≡ true
pairs_within a b cs xa xb ha hb hc lc h = passes_within (file_written a b cs xa xb ha hb hc lc h).passes
