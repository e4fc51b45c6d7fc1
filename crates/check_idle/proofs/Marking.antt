-- What the marks tell, and the walk row by row.
use Prim.Native.Nat.{ℕ, zero, suc, ◌+◌, ◌-◌, ◌≤◌, ◌<◌}
use native.Mathlib.Nat.{zero-add}
use native.Mathlib.Numerals.{add-one}
use native.Mathlib.Omega.{arith}
use mathlib.Core.Path.{◌≡◌, refl, sym, ap, ap₂, ◌∙◌, subst}
use mathlib.Core.Bool.{Bool, true, false, cond, ◌||◌, true≢false}
use mathlib.Core.Option.{Option, none, some}
use mathlib.Core.List.{List, [], ◌∷◌, ◌++◌}
use lib.Dec.{eqb}
use lib.ListN.{length, get_or, get_elem?, set, drop, replicate, length-set, length-replicate}
use lib.Seq.{get_or-set_same, get_or-set_other}
use Rattle.limits.specs.Limits.{max_lines}
use Rattle.calculus.specs.Refusals.{Kind, type_line, pattern_line, iso_line, clause_line, let_line, Refusal, idle}
use Rattle.calculus.specs.Clauses.{at}
use Rattle.format.specs.Lines.{Row, letter}
use Rattle.format.specs.Kinds.{type_kind, pattern_kind}
use Rattle.format.specs.Idle.{type_lines, type_reach, pattern_reach, reach, is_root, member, Reach, reach_row, reach_from, idle_fault}
use Rattle.format.specs.Code.{refusal_view}
use Rattle.format.specs.declared.Answer as A
use Rattle.calculus.proofs.Basic.{eqb_eq, eqb_false}
use Rattle.format.proofs.Idling.{member_append, or_swap}
use Rattle.table_trees.specs.Unfolding.{cell_of}
use Rattle.table_trees.proofs.Cases.{Parted, sums, products, Whole, units, others, Injects, lefts, rights, Joins, pairs, elements, Leaf, unit, var, empty, other}
use Rattle.table_walks.specs.Walk.{FileIn}
use Rattle.table_walks.proofs.Rows.{drop_row, row_at, kind_iso, kind_clause}
use Rattle.check_idle.specs.Marks.{mark_all, bit, idle_at, Marked}

-- ---- marks

mark_one : (m : List ℕ) (a i : ℕ) (b : Bool) → i < length m → get_or m i 0 ≡ bit b → get_or (set m a 1) i 0 ≡ bit (eqb i a || b)
mark_one m a i b l e = go (eqb i a) refl
  where
    go : (c : Bool) → eqb i a ≡ c → get_or (set m a 1) i 0 ≡ bit (c || b)
    go true h =
        let z : i ≡ a = eqb_eq i a h in
        ap (λ k. get_or (set m a 1) k 0) z ∙ lit m a (subst (λ k. k < length m) z l)
      where
        lit : (m : List ℕ) (a : ℕ) → a < length m → get_or {A = ℕ} (set m a 1) a 0 ≡ 1
        lit m a h = get_or-set_same m a 1 0 h
    go false h = get_or-set_other m a i 1 0 (eqb_false h) ∙ e

pub record Told (m ns : List ℕ) : Type 0 where
  pub places : length m ≡ max_lines
  pub named : (i : ℕ) → i < max_lines → get_or m i 0 ≡ bit (member i ns)

told_one : (m ns : List ℕ) (a : ℕ) → Told m ns → Told (set m a 1) (a ∷ ns)
told_one m ns a t =
    record {
      places = length-set m a 1 ∙ t.places;
      named = λ i h. let p = t.places in mark_one m a i (member i ns) (omega arith) (t.named i h);
    }

member_middle : (i a : ℕ) (ns xs : List ℕ) → member i (ns ++ (a ∷ xs)) ≡ (eqb i a || member i (ns ++ xs))
member_middle i a ns xs =
    member_append i ns (a ∷ xs)
    ∙ or_swap (member i ns) (eqb i a) (member i xs)
    ∙ ap (λ b. eqb i a || b) (sym (member_append i ns xs))

pub told_all : (ns m xs : List ℕ) → Told m xs → Told (mark_all ns m) (ns ++ xs)
told_all [] m xs t = t
told_all (a ∷ ns) m xs t =
    let h = told_all ns (set m a 1) (a ∷ xs) (told_one m xs a t) in
    record { places = h.places; named = λ i l. h.named i l ∙ ap bit (member_middle i a ns xs) }

-- ---- the lines that a row names

-- k is the kind of the row
module _ (t : List ℕ) (n : ℕ) (m : List ℕ) {k : ℕ} {m' : List ℕ} (e : k ≡ cell_of t n 1) where
  -- its marks, where they are those of kind k
  types_by : m' ≡ mark_all (type_reach (type_kind k) (cell_of t n 2) (cell_of t n 3)) m → m' ≡ mark_all (type_reach (type_kind (cell_of t n 1)) (cell_of t n 2) (cell_of t n 3)) m
  types_by same = same ∙ ap (λ z. mark_all (type_reach (type_kind z) (cell_of t n 2) (cell_of t n 3)) m) e

  pub types_named : Whole k → m' ≡ m → m' ≡ mark_all (type_reach (type_kind (cell_of t n 1)) (cell_of t n 2) (cell_of t n 3)) m
  types_named h same = types_by (same ∙ go h)
    where
      go : {k : ℕ} → Whole k → m ≡ mark_all (type_reach (type_kind k) (cell_of t n 2) (cell_of t n 3)) m
      go units = refl
      go (others k) = refl

  pub types_one : k ≡ 3 → m' ≡ set m (cell_of t n 2) 1 → m' ≡ mark_all (type_reach (type_kind (cell_of t n 1)) (cell_of t n 2) (cell_of t n 3)) m
  types_one h same = types_by (same ∙ sym (ap (λ z. mark_all (type_reach (type_kind z) (cell_of t n 2) (cell_of t n 3)) m) h))

  pub types_two : Parted k → m' ≡ set (set m (cell_of t n 2) 1) (cell_of t n 3) 1
      → m' ≡ mark_all (type_reach (type_kind (cell_of t n 1)) (cell_of t n 2) (cell_of t n 3)) m
  types_two h same = types_by (same ∙ go h)
    where
      go : {k : ℕ} → Parted k → set (set m (cell_of t n 2) 1) (cell_of t n 3) 1 ≡ mark_all (type_reach (type_kind k) (cell_of t n 2) (cell_of t n 3)) m
      go sums = refl
      go products = refl

module _ (t : List ℕ) (base n : ℕ) (m : List ℕ) {k : ℕ} {m' : List ℕ} (e : k ≡ cell_of t n 1) where
  patterns_by : m' ≡ mark_all (pattern_reach base (pattern_kind k) (cell_of t n 2) (cell_of t n 3)) m
      → m' ≡ mark_all (pattern_reach base (pattern_kind (cell_of t n 1)) (cell_of t n 2) (cell_of t n 3)) m
  patterns_by same = same ∙ ap (λ z. mark_all (pattern_reach base (pattern_kind z) (cell_of t n 2) (cell_of t n 3)) m) e

  pub patterns_named : Leaf k → m' ≡ m → m' ≡ mark_all (pattern_reach base (pattern_kind (cell_of t n 1)) (cell_of t n 2) (cell_of t n 3)) m
  patterns_named h same = patterns_by (same ∙ go h)
    where
      go : {k : ℕ} → Leaf k → m ≡ mark_all (pattern_reach base (pattern_kind k) (cell_of t n 2) (cell_of t n 3)) m
      go unit = refl
      go var = refl
      go empty = refl
      go (other k) = refl

  pub patterns_one : Injects k → m' ≡ set m (base + cell_of t n 2) 1
      → m' ≡ mark_all (pattern_reach base (pattern_kind (cell_of t n 1)) (cell_of t n 2) (cell_of t n 3)) m
  patterns_one h same = patterns_by (same ∙ go h)
    where
      go : {k : ℕ} → Injects k → set m (base + cell_of t n 2) 1 ≡ mark_all (pattern_reach base (pattern_kind k) (cell_of t n 2) (cell_of t n 3)) m
      go lefts = refl
      go rights = refl

  pub patterns_two : Joins k → m' ≡ set (set m (base + cell_of t n 2) 1) (base + cell_of t n 3) 1
      → m' ≡ mark_all (pattern_reach base (pattern_kind (cell_of t n 1)) (cell_of t n 2) (cell_of t n 3)) m
  patterns_two h same = patterns_by (same ∙ go h)
    where
      go : {k : ℕ} → Joins k → set (set m (base + cell_of t n 2) 1) (base + cell_of t n 3) 1 ≡ mark_all (pattern_reach base (pattern_kind k) (cell_of t n 2) (cell_of t n 3)) m
      go pairs = refl
      go elements = refl

kind_type : (k : Kind) → letter k ≡ 84 → k ≡ type_line
kind_type type_line e = refl
kind_type pattern_line e = absurd (omega arith)
kind_type iso_line e = absurd (omega arith)
kind_type clause_line e = absurd (omega arith)
kind_type let_line e = absurd (omega arith)

kind_pattern : (k : Kind) → letter k ≡ 80 → k ≡ pattern_line
kind_pattern type_line e = absurd (omega arith)
kind_pattern pattern_line e = refl
kind_pattern iso_line e = absurd (omega arith)
kind_pattern clause_line e = absurd (omega arith)
kind_pattern let_line e = absurd (omega arith)

kind_rest : (k : Kind) → (letter k ≡ 84 → ⊥) → (letter k ≡ 80 → ⊥) → (letter k ≡ 73 → ⊥) → (letter k ≡ 67 → ⊥) → k ≡ let_line
kind_rest type_line a b c d = absurd (a refl)
kind_rest pattern_line a b c d = absurd (b refl)
kind_rest iso_line a b c d = absurd (c refl)
kind_rest clause_line a b c d = absurd (d refl)
kind_rest let_line a b c d = refl

module _ {t : List ℕ} {ts patterns lines : ℕ} {rs : List Row} (f : FileIn t ts patterns lines rs) (n : ℕ) {r : Row} (e : get_elem? rs n ≡ some r) {l : ℕ} (is : l ≡ cell_of t n 0)
    (m : List ℕ) where
  told : l ≡ letter r.kind
  told = is ∙ f.letters n r e

  by_kind : {m' : List ℕ} (k : Kind) → r.kind ≡ k → m' ≡ mark_all (reach ts k r) m → m' ≡ mark_all (reach ts r.kind r) m
  by_kind k h same = same ∙ ap (λ κ. mark_all (reach ts κ r) m) (sym h)

  pub row_type : {m' : List ℕ} → l ≡ 84 → m' ≡ mark_all (type_reach (type_kind (cell_of t n 1)) (cell_of t n 2) (cell_of t n 3)) m → m' ≡ mark_all (reach ts r.kind r) m
  row_type h same =
      by_kind type_line (kind_type r.kind (sym told ∙ h))
      (same
      ∙ ap (λ z. mark_all (type_reach (type_kind z) (cell_of t n 2) (cell_of t n 3)) m) (f.xs n r e)
      ∙ ap₂ (λ y z. mark_all (type_reach (type_kind r.x) y z) m) (f.ys n r e) (f.zs n r e))

  pub row_pattern : {m' : List ℕ} → l ≡ 80 → m' ≡ mark_all (pattern_reach ts (pattern_kind (cell_of t n 1)) (cell_of t n 2) (cell_of t n 3)) m → m' ≡ mark_all (reach ts r.kind r) m
  row_pattern h same =
      by_kind pattern_line (kind_pattern r.kind (sym told ∙ h))
      (same
      ∙ ap (λ z. mark_all (pattern_reach ts (pattern_kind z) (cell_of t n 2) (cell_of t n 3)) m) (f.xs n r e)
      ∙ ap₂ (λ y z. mark_all (pattern_reach ts (pattern_kind r.x) y z) m) (f.ys n r e) (f.zs n r e))

  pub row_iso : {m' : List ℕ} → l ≡ 73 → m' ≡ set (set m (0 + cell_of t n 1) 1) (0 + cell_of t n 2) 1 → m' ≡ mark_all (reach ts r.kind r) m
  row_iso h same =
      by_kind iso_line (kind_iso r.kind (sym told ∙ h))
      (same ∙ ap₂ (λ y z. set (set m y 1) z 1) (zero-add (cell_of t n 1) ∙ f.xs n r e) (zero-add (cell_of t n 2) ∙ f.ys n r e))

  pub row_clause : {m' : List ℕ} → l ≡ 67 → m' ≡ set (set m (ts + cell_of t n 1) 1) (ts + cell_of t n 2) 1 → m' ≡ mark_all (reach ts r.kind r) m
  row_clause h same =
      by_kind clause_line (kind_clause r.kind (sym told ∙ h)) (same ∙ ap₂ (λ y z. set (set m (ts + y) 1) (ts + z) 1) (f.xs n r e) (f.ys n r e))

  pub row_let : {m' : List ℕ} → (l ≡ 84 → ⊥) → (l ≡ 80 → ⊥) → (l ≡ 73 → ⊥) → (l ≡ 67 → ⊥) → m' ≡ set (set m (ts + cell_of t n 1) 1) (ts + cell_of t n 3) 1
      → m' ≡ mark_all (reach ts r.kind r) m
  row_let a b c d same =
      by_kind let_line (kind_rest r.kind (λ q. a (told ∙ q)) (λ q. b (told ∙ q)) (λ q. c (told ∙ q)) (λ q. d (told ∙ q)))
      (same ∙ ap₂ (λ y z. set (set m (ts + y) 1) (ts + z) 1) (f.xs n r e) (f.zs n r e))

-- ---- letters

pub root_type : (l : ℕ) → l ≡ 84 → (k : Kind) → l ≡ letter k → false ≡ is_root k
root_type l h k e = sym (ap is_root (kind_type k (sym e ∙ h)))

pub root_pattern : (l : ℕ) → l ≡ 80 → (k : Kind) → l ≡ letter k → false ≡ is_root k
root_pattern l h k e = sym (ap is_root (kind_pattern k (sym e ∙ h)))

pub root_other : (l : ℕ) → (l ≡ 84 → ⊥) → (l ≡ 80 → ⊥) → (k : Kind) → l ≡ letter k → true ≡ is_root k
root_other l a b type_line e = absurd (a e)
root_other l a b pattern_line e = absurd (b e)
root_other l a b iso_line e = refl
root_other l a b clause_line e = refl
root_other l a b let_line e = refl

pub idle_type : (l n : ℕ) → l ≡ 84 → (k : Kind) → l ≡ letter k → ◌≡◌ {A = Option (Refusal × ℕ)} (some (idle type_line, n + 1)) (idle_at k n)
idle_type l n h k e = ap₂ (λ κ j. some (idle κ, j)) (sym (kind_type k (sym e ∙ h))) (add-one n)

pub idle_pattern : (l n : ℕ) → (l ≡ 84 → ⊥) → (k : Kind) → l ≡ letter k → is_root k ≡ false → ◌≡◌ {A = Option (Refusal × ℕ)} (some (idle pattern_line, n + 1)) (idle_at k n)
idle_pattern l n h type_line e b = absurd (h e)
idle_pattern l n h pattern_line e b = ap (λ j. some (idle pattern_line, j)) (add-one n)
idle_pattern l n h iso_line e b = absurd (true≢false b)
idle_pattern l n h clause_line e b = absurd (true≢false b)
idle_pattern l n h let_line e b = absurd (true≢false b)

-- ---- the walk

bit_one : (b : Bool) → bit b ≡ 1 → b ≡ true
bit_one true e = refl
bit_one false e = absurd (omega arith)

bit_other : (b : Bool) → (bit b ≡ 1 → ⊥) → b ≡ false
bit_other true e = absurd (e refl)
bit_other false e = refl

or_right : (a : Bool) {b : Bool} → b ≡ true → (a || b) ≡ true
or_right true e = refl
or_right false e = e

module _ {t : List ℕ} {ts patterns lines : ℕ} {rs : List Row} (f : FileIn t ts patterns lines rs) {n : ℕ} (h : n < lines) {m : List ℕ} {a : A.Answer}
    (w : Marked ts rs (suc n) m a) where
  here : (r : Row) × (get_elem? rs n ≡ some r)
  here = let c = f.count in row_at rs n (omega arith)

  abbrev below : Reach
  below = reach_from ts (suc n) (drop (suc n) rs)

  small : n < max_lines
  small = let c = f.count in let d = f.few in omega arith

  step : reach_from ts n (drop n rs) ≡ reach_row ts n here.0 below
  step = ap (reach_from ts n) (drop_row rs n here.1)

  used : {m' : List ℕ} → (is_root here.0.kind || member n below.named) ≡ true → m' ≡ mark_all (reach ts here.0.kind here.0) m → Marked ts rs n m' a
  used b same =
      let r : Row = here.0 in
      let o : reach_from ts n (drop n rs) ≡ record { named = reach ts r.kind r ++ below.named; found = below.found } =
      step ∙ ap (λ c. cond {A = Reach} c (record { named = reach ts r.kind r ++ below.named; found = below.found }) (record { named = below.named; found = some (idle r.kind, suc n) })) b in
      let g = told_all (reach ts r.kind r) m below.named (record { places = w.places; named = w.named }) in
      record {
        places = ap length same ∙ g.places;
        named = λ i l. ap (λ z. get_or z i 0) same ∙ g.named i l ∙ ap (λ (u : Reach). bit (member i u.named)) (sym o);
        found = w.found ∙ ap (λ (u : Reach). u.found) (sym o);
      }

  -- an I, C or L row
  pub walked_root : {m' : List ℕ} {l : ℕ} → l ≡ cell_of t n 0 → {b : Bool} → ((k : Kind) → l ≡ letter k → b ≡ is_root k) → b ≡ true
      → ((r : Row) → get_elem? rs n ≡ some r → m' ≡ mark_all (reach ts r.kind r) m) → Marked ts rs n m' a
  walked_root is q e marks =
      let r : Row = here.0 in
      let z : is_root r.kind ≡ true = sym (q r.kind (is ∙ f.letters n r here.1)) ∙ e in
      used (ap (λ c. c || member n below.named) z) (marks r here.1)

  -- a row that is marked
  pub walked_marked : {m' : List ℕ} {c : ℕ} → c ≡ get_or m n 0 → c ≡ 1 → ((r : Row) → get_elem? rs n ≡ some r → m' ≡ mark_all (reach ts r.kind r) m) → Marked ts rs n m' a
  walked_marked is e marks =
      used (or_right (is_root here.0.kind) (bit_one (member n below.named) (sym (w.named n small) ∙ sym is ∙ e))) (marks here.0 here.1)

  -- a row that is not
  pub walked_idle : {m' : List ℕ} {a' : A.Answer} {l : ℕ} → l ≡ cell_of t n 0 → {b : Bool} → ((k : Kind) → l ≡ letter k → b ≡ is_root k) → b ≡ false
      → {c : ℕ} → c ≡ get_or m n 0 → (c ≡ 1 → ⊥) → ((k : Kind) → l ≡ letter k → is_root k ≡ false → at a'.place (refusal_view a'.refusal) ≡ idle_at k n) → m' ≡ m
      → Marked ts rs n m' a'
  walked_idle {a' = a'} is q e c d told same =
      let r : Row = here.0 in
      let v = is ∙ f.letters n r here.1 in
      let z : is_root r.kind ≡ false = sym (q r.kind v) ∙ e in
      let y : member n below.named ≡ false = bit_other (member n below.named) (λ p. d (c ∙ w.named n small ∙ p)) in
      let o : reach_from ts n (drop n rs) ≡ record { named = below.named; found = some (idle r.kind, suc n) } =
      step
      ∙ ap (λ c. cond {A = Reach} c (record { named = reach ts r.kind r ++ below.named; found = below.found }) (record { named = below.named; found = some (idle r.kind, suc n) }))
      (ap₂ ◌||◌ z y) in
      record {
        places = ap length same ∙ w.places;
        named = λ i l. ap (λ x. get_or x i 0) same ∙ w.named i l ∙ ap (λ (u : Reach). bit (member i u.named)) (sym o);
        found = told r.kind v z ∙ ap (λ (u : Reach). u.found) (sym o);
      }

-- what the loop knows at row n, whatever file the table holds: m₀ are the marks at its start
pub record Walking (t : List ℕ) (ts lines : ℕ) (m₀ : List ℕ) (n : ℕ) (m : List ℕ) (a : A.Answer) : Type 0 where
  pub within : n ≤ lines
  pub wide : length m ≡ length m₀
  pub holds : (rs : List Row) (patterns : ℕ) → FileIn t ts patterns lines rs → m₀ ≡ replicate max_lines 0 → Marked ts rs n m a

drop_all : (xs : List Row) (n : ℕ) → n ≡ length xs → drop n xs ≡ []
drop_all [] zero e = refl
drop_all [] (suc n) e = refl
drop_all (x ∷ xs) zero e = absurd (omega arith)
drop_all (x ∷ xs) (suc n) e = drop_all xs n (omega arith)

zeros : (n i : ℕ) → get_or {A = ℕ} (replicate n 0) i 0 ≡ 0
zeros zero i = refl
zeros (suc n) zero = refl
zeros (suc n) (suc i) = zeros n i

pub walking_start : {t : List ℕ} {ts lines : ℕ} {m : List ℕ} {a : A.Answer} → at a.place (refusal_view a.refusal) ≡ none → Walking t ts lines m lines m a
walking_start {t} {ts} {lines} {m} {a} e =
    record {
      within = omega arith;
      wide = refl;
      holds = λ rs patterns f z.
          let d = drop_all rs lines f.count in
          record {
            places = ap length z ∙ length-replicate {A = ℕ} max_lines 0;
            named = λ i l. ap (λ x. get_or x i 0) z ∙ zeros max_lines i ∙ ap (λ x. bit (member i (reach_from ts lines x).named)) (sym d);
            found = e ∙ ap (λ x. (reach_from ts lines x).found) (sym d);
          };
    }

pub walking_end : {t : List ℕ} {ts lines n : ℕ} {m₀ m : List ℕ} {a : A.Answer} → Walking t ts lines m₀ n m a → n ≤ 0
    → (rs : List Row) (patterns : ℕ) → FileIn t ts patterns lines rs → m₀ ≡ replicate max_lines 0 → at a.place (refusal_view a.refusal) ≡ idle_fault rs
unfolding idle_fault type_lines
walking_end {ts = ts} {n = n} w h rs patterns f z = go ts n h (w.holds rs patterns f z).found ∙ ap (λ k. (reach_from k 0 rs).found) f.type_count
  where
    go : {x : Option (Refusal × ℕ)} (k n : ℕ) → n ≤ 0 → x ≡ (reach_from k n (drop n rs)).found → x ≡ (reach_from k 0 rs).found
    go k zero h e = e
    go k (suc n) h e = absurd (omega arith)

pub walking_step : {t : List ℕ} {ts lines n : ℕ} {m₀ m m' : List ℕ} {a a' : A.Answer} → Walking t ts lines m₀ n m a → 0 < n → length m' ≡ length m
    → ((rs : List Row) (patterns lines : ℕ) → FileIn t ts patterns lines rs → n - 1 < lines → Marked ts rs (suc (n - 1)) m a → Marked ts rs (n - 1) m' a')
    → Walking t ts lines m₀ (n - 1) m' a'
walking_step {ts = ts} {lines} {n} {m = m} {a = a} w h l more =
    let i = w.within in
    let e : n ≡ suc (n - 1) = omega arith in
    record {
      within = omega arith;
      wide = l ∙ w.wide;
      holds = λ rs patterns f z. more rs patterns lines f (omega arith) (subst (λ k. Marked ts rs k m a) e (w.holds rs patterns f z));
    }

-- ---- one mark, and two

pub one_marked : (m : List ℕ) {m' : List ℕ} {a : ℕ} (b : ℕ) → m' ≡ set m a 1 → a ≡ b → m' ≡ set m b 1
one_marked m b e h = e ∙ ap (λ z. set m z 1) h

pub one_marked_behind : (m : List ℕ) (base : ℕ) {m' : List ℕ} {a : ℕ} (b : ℕ) → m' ≡ set m (base + a) 1 → a ≡ b → m' ≡ set m (base + b) 1
one_marked_behind m base b e h = e ∙ ap (λ z. set m (base + z) 1) h

pub two_marked : (m : List ℕ) {m' m'' : List ℕ} (a b : ℕ) → m' ≡ set m a 1 → m'' ≡ set m' b 1 → m'' ≡ set (set m a 1) b 1
two_marked m a b e h = h ∙ ap (λ z. set z b 1) e
