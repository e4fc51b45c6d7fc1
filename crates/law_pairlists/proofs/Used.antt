-- Request 11: a file that import writes has no idle line. Each row that a tree adds is reached from the tree's own row, and that one is named by
-- the I row or by a C row.
use Prim.Native.Nat.{ℕ, zero, suc, ◌+◌, ◌-◌, ◌≤◌, ◌<◌}
use native.Mathlib.Nat.{not-suc-le-zero}
use native.Mathlib.Omega.{arith}
use mathlib.Core.Path.{◌≡◌, refl, sym, ap, ◌∙◌, subst}
use mathlib.Core.Logic.{◌⊎◌, inl, inr}
use mathlib.Core.Bool.{true}
use mathlib.Core.Option.{some}
use mathlib.Core.List.Memᴰ
use mathlib.Core.List.{List, [], ◌∷◌, ◌++◌, append_assoc, append-nil, Memᴰ}
use lib.ListN.{length, get_elem?, length-append}
use Rattle.calculus.specs.Trees.{Ty, tunit, tsum, tprod, Tag, left, right, Val, vleaf, unit_leaf, vinj, vnode, pair_node, empty_leaf, tlist, element_node}
use Rattle.calculus.specs.Lists.{Finite}
use Rattle.calculus.specs.Refusals.{Kind, type_line, pattern_line}
use Rattle.format.specs.Lines.{Row}
use Rattle.format.specs.Kinds.{PatternKind, unit_pattern, variable_pattern, left_pattern, right_pattern, pair_pattern, empty_pattern, element_pattern, no_pattern, pattern_kind}
use Rattle.format.specs.Idle.{type_lines, pattern_reach, reach, is_root, Reached, NoneIdle}
use Rattle.law_pairlists.specs.PairLists.{find, enter, Entry, entry, type_row, pattern_row, clause_row, iso_row, write_type, write_value, Written, write_pairs, file_rows}
use Rattle.calculus.proofs.Basic.{le_or_lt, mem_index, index_mem, each_nil, each_cons}
use Rattle.law_pairlists.proofs.Rows.{Finding, there, fresh, finding, index_front, index_last, length_snoc}

-- ---- rows of one letter

-- row m leads to row n, through the lines that rows of this letter name
data Leads (κ : Kind) (rs : List Row) : ℕ → ℕ → Type 0 where
  stays : {m n : ℕ} → m ≡ n → Leads κ rs m n
  goes : {m n : ℕ} (k : ℕ) (r : Row) → get_elem? rs m ≡ some r → r.kind ≡ κ → Memᴰ k (reach 0 κ r) → Leads κ rs k n → Leads κ rs m n

leads_front : {κ : Kind} {rs : List Row} (qs : List Row) {m n : ℕ} → Leads κ rs m n → Leads κ (rs ++ qs) m n
leads_front qs (Leads.stays e) = Leads.stays e
leads_front {κ} {rs} qs (Leads.goes {m} k r e h x l) = Leads.goes k r (index_front rs qs m e) h x (leads_front qs l)

leads_in : {κ : Kind} {rs ss : List Row} (qs : List Row) → ss ≡ rs ++ qs → {m n : ℕ} → Leads κ rs m n → Leads κ ss m n
leads_in {κ} qs e {m} {n} l = subst (λ z. Leads κ z m n) (sym e) (leads_front qs l)

-- a row entered: it is there, and no other is new
record Put (r : Row) (rs : List Row) : Type 0 where
  added : List Row
  extends : enter r rs ≡ rs ++ added
  here : get_elem? (enter r rs) (find r rs) ≡ some r
  new : (n : ℕ) → length rs ≤ n → n < length (enter r rs) → find r rs ≡ n

put : (r : Row) (rs : List Row) → Put r rs
put r rs = go (finding r rs)
  where
    go : Finding r rs → Put r rs
    go (there g e) =
        record {
          added = [];
          extends = e ∙ sym (append-nil rs);
          here = ap (λ z. get_elem? z (find r rs)) e ∙ g;
          new = λ n l b. let z = ap length e in absurd (not-suc-le-zero {n = 0} (omega arith));
        }
    go (fresh f n e) =
        record {
          added = r ∷ [];
          extends = e;
          here = ap (get_elem? (enter r rs)) n ∙ ap (λ z. get_elem? z (length rs)) e ∙ index_last rs r;
          new = λ k l b. let z = ap length e ∙ length_snoc rs r in omega arith;
        }

-- a tree written: each new row is reached from its own row
record Grown (κ : Kind) (rs : List Row) (e : Entry) : Type 0 where
  added : List Row
  extends : e.rows ≡ rs ++ added
  leads : (n : ℕ) → length rs ≤ n → n < length e.rows → Leads κ e.rows e.number n

grown_leaf : (κ : Kind) (r : Row) (rs : List Row) → Grown κ rs (entry r rs)
grown_leaf κ r rs = let p = put r rs in record { added = p.added; extends = p.extends; leads = λ n l b. Leads.stays (p.new n l b) }

grown_one : (κ : Kind) (r : Row) (rs : List Row) (f : Entry) → Grown κ rs f → r.kind ≡ κ → Memᴰ f.number (reach 0 κ r) → Grown κ rs (entry r f.rows)
grown_one κ r rs f g h x =
    let p = put r f.rows in
    record {
      added = g.added ++ p.added;
      extends = p.extends ∙ ap (λ z. z ++ p.added) g.extends ∙ append_assoc rs g.added p.added;
      leads = λ n l b. go n l b (le_or_lt (length f.rows) n);
    }
  where
    go : (n : ℕ) → length rs ≤ n → n < length (enter r f.rows) → (length f.rows ≤ n) ⊎ (n < length f.rows) → Leads κ (enter r f.rows) (find r f.rows) n
    go n l b (inl c) = Leads.stays ((put r f.rows).new n c b)
    go n l b (inr c) =
        let p = put r f.rows in Leads.goes f.number r p.here h x (leads_in p.added p.extends (g.leads n l c))

grown_two : (κ : Kind) (r : Row) (rs : List Row) (f s : Entry) → Grown κ rs f → Grown κ f.rows s → r.kind ≡ κ → Memᴰ f.number (reach 0 κ r)
    → Memᴰ s.number (reach 0 κ r) → Grown κ rs (entry r s.rows)
grown_two κ r rs f s g u h x y =
    let p = put r s.rows in
    record {
      added = g.added ++ (u.added ++ p.added);
      extends =
          p.extends
          ∙ ap (λ z. z ++ p.added) u.extends
          ∙ append_assoc f.rows u.added p.added
          ∙ ap (λ z. z ++ (u.added ++ p.added)) g.extends
          ∙ append_assoc rs g.added (u.added ++ p.added);
      leads = λ n l b. go n l b (le_or_lt (length s.rows) n) (le_or_lt (length f.rows) n);
    }
  where
    go : (n : ℕ) → length rs ≤ n → n < length (enter r s.rows) → (length s.rows ≤ n) ⊎ (n < length s.rows)
        → (length f.rows ≤ n) ⊎ (n < length f.rows) → Leads κ (enter r s.rows) (find r s.rows) n
    go n l b (inl c) d = Leads.stays ((put r s.rows).new n c b)
    go n l b (inr c) (inl d) =
        let p = put r s.rows in Leads.goes s.number r p.here h y (leads_in p.added p.extends (u.leads n d c))
    go n l b (inr c) (inr d) =
        let p = put r s.rows in
        Leads.goes f.number r p.here h x (leads_in p.added p.extends (leads_in u.added u.extends (g.leads n l d)))

first : {a b : ℕ} → Memᴰ a (a ∷ (b ∷ []))
first = Memᴰ.head refl

second : {a b : ℕ} → Memᴰ b (a ∷ (b ∷ []))
second = Memᴰ.tail (Memᴰ.head refl)

plus : (a : ℕ) → a ≡ 0 + a
plus a = omega arith

type_grown : (a : Ty) → Finite a → (rs : List Row) → Grown type_line rs (write_type a rs)
type_grown tunit x rs = grown_leaf type_line (type_row 0 0 0) rs
type_grown (tsum a b) (Finite.sum x y) rs =
    let f : Entry = write_type a rs in
    let s : Entry = write_type b f.rows in
    grown_two type_line (type_row 1 f.number s.number) rs f s (type_grown a x rs) (type_grown b y f.rows) refl first second
type_grown (tprod a b) (Finite.product x y) rs =
    let f : Entry = write_type a rs in
    let s : Entry = write_type b f.rows in
    grown_two type_line (type_row 2 f.number s.number) rs f s (type_grown a x rs) (type_grown b y f.rows) refl first second
type_grown (tlist _) x rs = elim x [ ]

-- a closed value without lists
pub data Unlisted : Val → Type 0 where
  unit : Unlisted (vleaf unit_leaf)
  inj : {t : Tag} {v : Val} → Unlisted v → Unlisted (vinj t v)
  pair : {v w : Val} → Unlisted v → Unlisted w → Unlisted (vnode pair_node v w)

value_grown : (v : Val) → Unlisted v → (rs : List Row) → Grown pattern_line rs (write_value v rs)
value_grown (vleaf unit_leaf) u rs = grown_leaf pattern_line (pattern_row 0 0 0) rs
value_grown (vinj left v) (Unlisted.inj u) rs =
    let f : Entry = write_value v rs in
    grown_one pattern_line (pattern_row 2 f.number 0) rs f (value_grown v u rs) refl (Memᴰ.head (plus f.number))
value_grown (vinj right v) (Unlisted.inj u) rs =
    let f : Entry = write_value v rs in
    grown_one pattern_line (pattern_row 3 f.number 0) rs f (value_grown v u rs) refl (Memᴰ.head (plus f.number))
value_grown (vnode pair_node v w) (Unlisted.pair u u') rs =
    let f : Entry = write_value v rs in
    let s : Entry = write_value w f.rows in
    grown_two pattern_line (pattern_row 4 f.number s.number) rs f s (value_grown v u rs) (value_grown w u' f.rows) refl (Memᴰ.head (plus f.number))
    (Memᴰ.tail (Memᴰ.head (plus s.number)))
value_grown (vleaf empty_leaf) u rs = elim u [ ]
value_grown (vnode element_node v w) u rs = elim u [ ]

-- ---- the P rows of all pairs

-- a C row whose left or right pattern leads to row n
record Owned (w : Written) (n : ℕ) : Type 0 where
  lhs : ℕ
  rhs : ℕ
  owner : Memᴰ (clause_row lhs rhs) w.clauses
  from : ℕ
  either : (from ≡ lhs) ⊎ (from ≡ rhs)
  leads : Leads pattern_line w.patterns from n

record PairsGrown (rs : List Row) (w : Written) : Type 0 where
  added : List Row
  extends : w.patterns ≡ rs ++ added
  owned : (n : ℕ) → length rs ≤ n → n < length w.patterns → Owned w n

pub record UnlistedPair (c : Val × Val) : Type 0 where
  pub from : Unlisted c.0
  pub to : Unlisted c.1

pairs_grown : (cs : List (Val × Val)) → ((c : Val × Val) → Memᴰ c cs → UnlistedPair c) → (rs : List Row) → PairsGrown rs (write_pairs cs rs)
pairs_grown [] u rs = record { added = []; extends = sym (append-nil rs); owned = λ n l b. absurd (not-suc-le-zero {n = 0} (omega arith)) }
pairs_grown (c ∷ cs) u rs = go (pairs_grown cs (λ d m. u d (Memᴰ.tail m)) r.rows)
  where
    l : Entry
    l = write_value c.0 rs

    r : Entry
    r = write_value c.1 l.rows

    w : Written
    w = write_pairs cs r.rows

    gl : Grown pattern_line rs l
    gl = value_grown c.0 (u c (Memᴰ.head refl)).from rs

    gr : Grown pattern_line l.rows r
    gr = value_grown c.1 (u c (Memᴰ.head refl)).to l.rows

    all : Written
    all = record { patterns = w.patterns; clauses = clause_row l.number r.number ∷ w.clauses }

    go : PairsGrown r.rows w → PairsGrown rs all
    go o =
        record {
          added = gl.added ++ (gr.added ++ o.added);
          extends =
              o.extends
              ∙ ap (λ z. z ++ o.added) gr.extends
              ∙ append_assoc l.rows gr.added o.added
              ∙ ap (λ z. z ++ (gr.added ++ o.added)) gl.extends
              ∙ append_assoc rs gl.added (gr.added ++ o.added);
          owned = λ n h b. by n h b (le_or_lt (length r.rows) n) (le_or_lt (length l.rows) n);
        }
      where
        by : (n : ℕ) → length rs ≤ n → n < length w.patterns → (length r.rows ≤ n) ⊎ (n < length r.rows)
            → (length l.rows ≤ n) ⊎ (n < length l.rows) → Owned all n
        by n h b (inl x) y =
            let p = o.owned n x b in
            record { lhs = p.lhs; rhs = p.rhs; owner = Memᴰ.tail p.owner; from = p.from; either = p.either; leads = p.leads }
        by n h b (inr x) (inl y) =
            record {
              lhs = l.number;
              rhs = r.number;
              owner = Memᴰ.head refl;
              from = r.number;
              either = inr refl;
              leads = leads_in o.added o.extends (gr.leads n y x);
            }
        by n h b (inr x) (inr y) =
            record {
              lhs = l.number;
              rhs = r.number;
              owner = Memᴰ.head refl;
              from = l.number;
              either = inl refl;
              leads = leads_in o.added o.extends (leads_in gr.added gr.extends (gl.leads n h y));
            }

clause_roots : (cs : List (Val × Val)) (rs : List Row) → (r : Row) → Memᴰ r (write_pairs cs rs).clauses → is_root r.kind ≡ true
clause_roots [] rs = each_nil (λ (r : Row). is_root r.kind ≡ true)
clause_roots (c ∷ cs) rs =
    each_cons (λ (r : Row). is_root r.kind ≡ true) refl (clause_roots cs (write_value c.1 (write_value c.0 rs).rows).rows)

-- ---- the whole file

index_behind : {A : Type 0} (xs ys : List A) (i : ℕ) → get_elem? (xs ++ ys) (length xs + i) ≡ get_elem? ys i
index_behind [] ys i = let e : 0 + i ≡ i = omega arith in ap (get_elem? ys) e
index_behind (x ∷ xs) ys i = let e : suc (length xs) + i ≡ suc (length xs + i) = omega arith in ap (get_elem? (x ∷ (xs ++ ys))) e ∙ index_behind xs ys i

index_at : {A : Type 0} (xs : List A) (i : ℕ) → i < length xs → (x : A) × (get_elem? xs i ≡ some x)
index_at [] i b = absurd (not-suc-le-zero b)
index_at (x ∷ xs) zero b = (x, refl)
index_at (x ∷ xs) (suc i) b = index_at xs i (omega arith)

shift_one : {i : ℕ} (ts a : ℕ) → Memᴰ i ((0 + a) ∷ []) → Memᴰ (ts + i) ((ts + a) ∷ [])
shift_one {i} ts a (Memᴰ.head e) = let z : i ≡ 0 + a = e in let q : ts + i ≡ ts + a = omega arith in Memᴰ.head q
shift_one ts a (Memᴰ.tail m) = absurd (Memᴰ.not-nil m)

shift_two : {i : ℕ} (ts a b : ℕ) → Memᴰ i ((0 + a) ∷ ((0 + b) ∷ [])) → Memᴰ (ts + i) ((ts + a) ∷ ((ts + b) ∷ []))
shift_two {i} ts a b (Memᴰ.head e) = let z : i ≡ 0 + a = e in let q : ts + i ≡ ts + a = omega arith in Memᴰ.head q
shift_two ts a b (Memᴰ.tail m) = Memᴰ.tail (shift_one ts b m)

shift : {i : ℕ} (ts : ℕ) (k : PatternKind) (a b : ℕ) → Memᴰ i (pattern_reach 0 k a b) → Memᴰ (ts + i) (pattern_reach ts k a b)
shift ts unit_pattern a b m = absurd (Memᴰ.not-nil m)
shift ts variable_pattern a b m = absurd (Memᴰ.not-nil m)
shift ts left_pattern a b m = shift_one ts a m
shift ts right_pattern a b m = shift_one ts a m
shift ts pair_pattern a b m = shift_two ts a b m
shift ts empty_pattern a b m = absurd (Memᴰ.not-nil m)
shift ts element_pattern a b m = shift_two ts a b m
shift ts no_pattern a b m = absurd (Memᴰ.not-nil m)

module _ (T P back : List Row) (counts : type_lines (T ++ (P ++ back)) ≡ length T) where
  abbrev rows : List Row
  rows = T ++ (P ++ back)

  -- T rows
  down_types : {m n : ℕ} → Leads type_line T m n → Reached rows m → Reached rows n
  down_types (Leads.stays e) w = subst (Reached rows) e w
  down_types (Leads.goes {m} k r e h x l) w =
      down_types l
      (Reached.named m r w (index_front T (P ++ back) m e) (subst (λ κ. Memᴰ k (reach (type_lines rows) κ r)) (sym h) x'))
    where
      x' : Memᴰ k (reach (type_lines rows) type_line r)
      x' = x

  in_patterns : (i : ℕ) (r : Row) → get_elem? P i ≡ some r → get_elem? rows (length T + i) ≡ some r
  in_patterns i r e = index_behind T (P ++ back) i ∙ index_front P back i e

  in_back : (i : ℕ) (r : Row) → get_elem? back i ≡ some r → get_elem? rows (length T + (length P + i)) ≡ some r
  in_back i r e = index_behind T (P ++ back) (length P + i) ∙ index_behind P back i ∙ e

  -- P rows, behind the T rows
  down_patterns : {m n : ℕ} → Leads pattern_line P m n → Reached rows (length T + m) → Reached rows (length T + n)
  down_patterns (Leads.stays e) w = subst (λ k. Reached rows (length T + k)) e w
  down_patterns (Leads.goes {m} k r e h x l) w =
      down_patterns l
      (Reached.named (length T + m) r w (in_patterns m r e)
      (subst (λ κ. Memᴰ (length T + k) (reach (type_lines rows) κ r)) (sym h)
      (subst (λ ts. Memᴰ (length T + k) (pattern_reach ts (pattern_kind r.x) r.y r.z)) (sym counts)
      (shift (length T) (pattern_kind r.x) r.y r.z x))))

  -- a line that a C row names
  by_clause : (i j k : ℕ) → Memᴰ (clause_row i j) back → (k ≡ i) ⊎ (k ≡ j) → Reached rows (length T + k)
  by_clause i j k m h =
      let c = mem_index m in
      let e = in_back c.0 (clause_row i j) c.1 in
      Reached.named (length T + (length P + c.0)) (clause_row i j) (Reached.root (clause_row i j) e refl) e
      (subst (λ ts. Memᴰ (length T + k) ((ts + i) ∷ ((ts + j) ∷ []))) (sym counts) (which h))
    where
      which : (k ≡ i) ⊎ (k ≡ j) → Memᴰ (length T + k) ((length T + i) ∷ ((length T + j) ∷ []))
      which (inl e) = Memᴰ.head (ap (λ z. length T + z) e)
      which (inr e) = Memᴰ.tail (Memᴰ.head (ap (λ z. length T + z) e))

  -- a line that the I row names
  by_iso : (i j k : ℕ) → Memᴰ (iso_row i j) back → (k ≡ i) ⊎ (k ≡ j) → Reached rows k
  by_iso i j k m h =
      let c = mem_index m in
      let e = in_back c.0 (iso_row i j) c.1 in
      Reached.named (length T + (length P + c.0)) (iso_row i j) (Reached.root (iso_row i j) e refl) e (which h)
    where
      which : (k ≡ i) ⊎ (k ≡ j) → Memᴰ k (i ∷ (j ∷ []))
      which (inl e) = Memᴰ.head e
      which (inr e) = Memᴰ.tail (Memᴰ.head e)

  all_reached : ((n : ℕ) → n < length T → Reached rows n) → ((n : ℕ) → n < length P → Reached rows (length T + n))
      → ((r : Row) → Memᴰ r back → is_root r.kind ≡ true) → NoneIdle rows
  all_reached types patterns roots n b = go (le_or_lt (length T) n)
    where
      whole : length rows ≡ length T + (length P + length back)
      whole = length-append T (P ++ back) ∙ ap (λ z. length T + z) (length-append P back)

      late : (k : ℕ) → n ≡ length T + (length P + k) → k < length back → Reached rows n
      late k e c =
          let r = index_at back k c in
          subst (Reached rows) (sym e) (Reached.root r.0 (in_back k r.0 r.1) (roots r.0 (index_mem back k r.1)))

      go : (length T ≤ n) ⊎ (n < length T) → Reached rows n
      go (inr c) = types n c
      go (inl c) = on (le_or_lt (length P) (n - length T))
        where
          on : (length P ≤ n - length T) ⊎ (n - length T < length P) → Reached rows n
          on (inr d) = let e : length T + (n - length T) ≡ n = omega arith in subst (Reached rows) e (patterns (n - length T) d)
          on (inl d) = late (n - length T - length P) (omega arith) (omega (arith, whole))

-- where the file's T lines are those that were written for the two types
pub none_idle : (a b : Ty) (cs : List (Val × Val)) → Finite a → Finite b → ((c : Val × Val) → Memᴰ c cs → UnlistedPair c)
    → type_lines (file_rows a b cs) ≡ length (write_type b (write_type a []).rows).rows → NoneIdle (file_rows a b cs)
unfolding file_rows
none_idle a b cs x y z counts = all_reached T P back counts types patterns roots
  where
    f : Entry
    f = write_type a []

    e : Entry
    e = write_type b f.rows

    w : Written
    w = write_pairs cs []

    T : List Row
    T = e.rows

    P : List Row
    P = w.patterns

    back : List Row
    back = iso_row f.number e.number ∷ w.clauses

    g : Grown type_line [] f
    g = type_grown a x []

    u : Grown type_line f.rows e
    u = type_grown b y f.rows

    types : (n : ℕ) → n < length T → Reached (T ++ (P ++ back)) n
    types n b = go (le_or_lt (length f.rows) n)
      where
        go : (length f.rows ≤ n) ⊎ (n < length f.rows) → Reached (T ++ (P ++ back)) n
        go (inl c) = down_types T P back counts (u.leads n c b) (by_iso T P back counts f.number e.number e.number (Memᴰ.head refl) (inr refl))
        go (inr c) =
            down_types T P back counts (leads_in u.added u.extends (g.leads n (omega arith) c))
            (by_iso T P back counts f.number e.number f.number (Memᴰ.head refl) (inl refl))

    patterns : (n : ℕ) → n < length P → Reached (T ++ (P ++ back)) (length T + n)
    patterns n b =
        let o = (pairs_grown cs z []).owned n (omega arith) b in
        down_patterns T P back counts o.leads (by_clause T P back counts o.lhs o.rhs o.from (Memᴰ.tail o.owner) o.either)

    roots : (r : Row) → Memᴰ r back → is_root r.kind ≡ true
    roots = each_cons (λ (r : Row). is_root r.kind ≡ true) refl (clause_roots cs [])
