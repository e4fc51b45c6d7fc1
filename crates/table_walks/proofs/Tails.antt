-- A file's rows: ceilings on isos and clauses, T and P lines first, what the rows from some row on unfold to, and slots for all variables.
use Prim.Native.Nat.{ℕ, zero, suc, ◌+◌, ◌≤◌, ◌<◌}
use native.Mathlib.Nat.{add-zero, add-suc, suc-add, zero-add, not-suc-le-zero}
use native.Mathlib.Omega.{arith}
use mathlib.Core.Path.{◌≡◌, refl, sym, ap, ◌∙◌, subst}
use mathlib.Core.Logic.{◌⊎◌, inl, inr}
use mathlib.Core.Option.{some}
use mathlib.Core.List.{List, [], ◌∷◌, Memᴰ}
use lib.ListN.{length, get_or, get_elem?, take, drop, length-append}
use Rattle.limits.specs.Limits.{max_isos, max_clauses, variables}
use Rattle.calculus.specs.Trees.{Ty, tunit, Pat, Let, Clause, vars}
use Rattle.calculus.specs.Refusals.{Kind, type_line, pattern_line, iso_line, clause_line, let_line}
use Rattle.format.specs.Lines.{Row}
use Rattle.format.specs.Judge.{Seen, start, stage, type_tree, pattern_tree, after_kind, after_all}
use Rattle.format.specs.Unfold.{Tail, place, tail_from}
use Rattle.calculus.specs.Clauses.{Deed, binds, uses, Event, deeds, let_events, events, sigs_of}
use Rattle.calculus.proofs.Basic.{none≢some, some_inj, leb_le, each_nil, each_cons, each_append, each_map}
use Rattle.calculus.proofs.Formed.{FormedPat}
use Rattle.format.proofs.Passing.{Passes, done, next, Fit, judge_fit, iso_fit, clause_fit, AllFormed, formed_unit, patterns_formed}
use Rattle.table_trees.specs.Unfolding.{cell_of, type_of}
use Rattle.table_walks.specs.InTable.{sigs_in}
use Rattle.table_walks.specs.Walk.{when_iso, iso_rows, tail_at}
use Rattle.table_walks.proofs.Rows.{drop_row, passes_take, passes_drop, row_fit, isos_told}

-- ---- what the rows tell stays within the ceilings

-- below an I line there is an iso; isos and clauses are few
record Kept (s : Seen) : Type 0 where
  owned : 2 ≤ stage s.above → 0 < s.isos
  isos : s.isos ≤ max_isos
  clauses : s.clauses ≤ max_clauses

kept_row : (s : Seen) (k : Kind) (r : Row) → Fit s k r → Kept s → Kept (after_kind k s r)
kept_row s type_line r f h = record { owned = λ l. absurd (omega arith); isos = h.isos; clauses = h.clauses }
kept_row s pattern_line r f h = record { owned = λ l. absurd (omega arith); isos = h.isos; clauses = h.clauses }
kept_row s iso_line r f h = record { owned = λ l. omega arith; isos = (iso_fit s r f).2; clauses = omega arith }
kept_row s clause_line r f h = record { owned = λ l. h.owned (leb_le 2 (stage s.above) f.order); isos = h.isos; clauses = (clause_fit s r f).2 }
kept_row s let_line r f h =
    let o = leb_le 3 (stage s.above) f.order in record { owned = λ l. h.owned (omega arith); isos = h.isos; clauses = h.clauses }

kept_all : {s : Seen} {rs : List Row} → Passes s rs → Kept s → Kept (after_all s rs)
kept_all done h = h
kept_all (next {s = s} {r = r} j d) h = kept_all d (kept_row s r.kind r (judge_fit s r j) h)

kept_start : Kept start
unfolding start
kept_start = record { owned = λ l. absurd (omega arith); isos = omega arith; clauses = omega arith }

pub isos_few : {rs : List Row} → Passes start rs → length (iso_rows 0 rs) ≤ max_isos
isos_few {rs} d = let k = kept_all d kept_start in omega (arith, isos_told 0 start rs)

pub isos_none : start.isos ≡ 0
unfolding start
isos_none = refl

-- a C line stands below an I line
pub clause_owned : {rs : List Row} → Passes start rs → (n : ℕ) {r : Row} → get_elem? rs n ≡ some r → r.kind ≡ clause_line
    → 0 < length (iso_rows 0 (take n rs))
clause_owned {rs} d n {r} e c =
    let s : Seen = after_all start (take n rs) in
    let f : Fit s clause_line r = subst (λ k. Fit s k r) c (row_fit d n e) in
    let o = (kept_all (passes_take d n) kept_start).owned (leb_le 2 (stage s.above) f.order) in
    omega (arith, isos_told 0 start (take n rs), isos_none)

module _ (ts : List Ty) (ps : List Pat) where
  clauses_few_from : {s : Seen} {rs : List Row} (n : ℕ) → Passes s rs → s.clauses ≤ max_clauses → s.clauses + length (tail_from ts ps n rs).clauses ≤ max_clauses
  clauses_few_from n done h = omega arith
  clauses_few_from n (next {s = s} {r = r} {rs = rs} j d) h = step r.kind (judge_fit s r j) (clauses_few_from (suc n) d)
    where
      step : (k : Kind) → Fit s k r
          → ((after_kind k s r).clauses ≤ max_clauses → (after_kind k s r).clauses + length (tail_from ts ps (suc n) rs).clauses ≤ max_clauses)
          → s.clauses + length (place ts ps k n r (tail_from ts ps (suc n) rs)).clauses ≤ max_clauses
      step type_line f l = l h
      step pattern_line f l = l h
      step iso_line f l = omega arith
      step clause_line f l = let b = l (clause_fit s r f).2 in omega arith
      step let_line f l = l h

pub clauses_few : {rs : List Row} → Passes start rs → (n : ℕ) → length (tail_at rs n).clauses ≤ max_clauses
clauses_few {rs} d n =
    let s : Seen = after_all start rs in
    let l = clauses_few_from s.types s.patterns (suc n) (passes_drop d n) (kept_all (passes_take d n) kept_start).clauses in
    omega arith

-- ---- T and P lines come first

abbrev pub Early : Kind → Type 0
Early type_line = Unit {0}
Early pattern_line = Unit {0}
Early iso_line = ⊥
Early clause_line = ⊥
Early let_line = ⊥

abbrev pub Late : Kind → Type 0
Late type_line = ⊥
Late pattern_line = ⊥
Late iso_line = Unit {0}
Late clause_line = Unit {0}
Late let_line = Unit {0}

-- the first m rows are the T and P lines
pub record Parted (m : ℕ) (rs : List Row) : Type 0 where
  pub few : m ≤ length rs
  pub early : (k : ℕ) (r : Row) → k < m → get_elem? rs k ≡ some r → Early r.kind
  pub late : (k : ℕ) (r : Row) → m ≤ k → get_elem? rs k ≡ some r → Late r.kind

parted_early : {m : ℕ} (q : Row) {rs : List Row} → Early q.kind → Parted m rs → Parted (suc m) (q ∷ rs)
parted_early {m} q {rs} h p = record { few = omega arith; early = early; late = late }
  where
    early : (k : ℕ) (r : Row) → k < suc m → get_elem? (q ∷ rs) k ≡ some r → Early r.kind
    early zero r l e = subst (λ (o : Row). Early o.kind) (some_inj e) h
    early (suc k) r l e = p.early k r (omega arith) e

    late : (k : ℕ) (r : Row) → suc m ≤ k → get_elem? (q ∷ rs) k ≡ some r → Late r.kind
    late zero r l e = absurd (not-suc-le-zero l)
    late (suc k) r l e = p.late k r (omega arith) e

parted_late : (q : Row) {rs : List Row} → Late q.kind → Parted 0 rs → Parted 0 (q ∷ rs)
parted_late q {rs} h p = record { few = omega arith; early = λ k r l. absurd (not-suc-le-zero l); late = late }
  where
    late : (k : ℕ) (r : Row) → 0 ≤ k → get_elem? (q ∷ rs) k ≡ some r → Late r.kind
    late zero r l e = subst (λ (o : Row). Late o.kind) (some_inj e) h
    late (suc k) r l e = p.late k r (omega arith) e

abbrev row : Kind → ℕ → ℕ → ℕ → Row
row k a b c = record { kind = k; x = a; y = b; z = c }

-- how many T and P lines the rows tell of
abbrev told : Seen → ℕ
told s = length s.types + length s.patterns

-- below an I, C or L line
late_from : {s : Seen} {rs : List Row} → Passes s rs → 2 ≤ stage s.above → Parted 0 rs × (told (after_all s rs) ≡ told s)
late_from done h = (record { few = omega arith; early = λ k r l e. absurd (none≢some e); late = λ k r l e. absurd (none≢some e) }, refl)
late_from (next {s = s} {r = r} {rs = rs} j d) h = step r.kind r.x r.y r.z (judge_fit s r j) (late_from d)
  where
    step : (k : Kind) (a b c : ℕ) → Fit s k (row k a b c)
        → (2 ≤ stage (after_kind k s (row k a b c)).above → Parted 0 rs × (told (after_all (after_kind k s (row k a b c)) rs) ≡ told (after_kind k s (row k a b c))))
        → Parted 0 (row k a b c ∷ rs) × (told (after_all s (row k a b c ∷ rs)) ≡ told s)
    step type_line a b c f l = let e = leb_le (stage s.above) 0 f.order in absurd (omega arith)
    step pattern_line a b c f l = let e = leb_le (stage s.above) 1 f.order in absurd (omega arith)
    step iso_line a b c f l = let p = l (omega arith) in (parted_late (row iso_line a b c) tt p.0, p.1)
    step clause_line a b c f l = let p = l (omega arith) in (parted_late (row clause_line a b c) tt p.0, p.1)
    step let_line a b c f l = let p = l (omega arith) in (parted_late (row let_line a b c) tt p.0, p.1)

parted_from : {s : Seen} {rs : List Row} → Passes s rs → (m : ℕ) × Parted m rs × (told (after_all s rs) ≡ m + told s)
parted_from (done {s = s}) =
    (0, record { few = omega arith; early = λ k r l e. absurd (none≢some e); late = λ k r l e. absurd (none≢some e) }, sym (zero-add (told s)))
parted_from (next {s = s} {r = r} {rs = rs} j d) = step r.kind r.x r.y r.z (parted_from d) (late_from d)
  where
    now : Kind → ℕ → ℕ → ℕ → Seen
    now k a b c = after_kind k s (row k a b c)

    step : (k : Kind) (a b c : ℕ) → (m : ℕ) × Parted m rs × (told (after_all (now k a b c) rs) ≡ m + told (now k a b c))
        → (2 ≤ stage (now k a b c).above → Parted 0 rs × (told (after_all (now k a b c) rs) ≡ told (now k a b c)))
        → (m : ℕ) × Parted m (row k a b c ∷ rs) × (told (after_all s (row k a b c ∷ rs)) ≡ m + told s)
    step type_line a b c (m, p, e) l =
        (suc m, parted_early (row type_line a b c) tt p, omega (arith, length-append s.types (type_tree s.types (row type_line a b c) ∷ [])))
    step pattern_line a b c (m, p, e) l =
        (suc m, parted_early (row pattern_line a b c) tt p, omega (arith, length-append s.patterns (pattern_tree s.patterns (row pattern_line a b c) ∷ [])))
    step iso_line a b c h l = let p = l (omega arith) in (0, parted_late (row iso_line a b c) tt p.0, p.1 ∙ sym (zero-add (told s)))
    step clause_line a b c h l = let p = l (omega arith) in (0, parted_late (row clause_line a b c) tt p.0, p.1 ∙ sym (zero-add (told s)))
    step let_line a b c h l = let p = l (omega arith) in (0, parted_late (row let_line a b c) tt p.0, p.1 ∙ sym (zero-add (told s)))

told_none : told start ≡ 0
unfolding start
told_none = refl

-- as many as the rows tell of
pub parted : {rs : List Row} → Passes start rs → Parted (length (after_all start rs).types + length (after_all start rs).patterns) rs
parted {rs} d = let p = parted_from d in subst (λ m. Parted m rs) (omega (arith, told_none)) p.1

-- ---- what the rows from some row on unfold to

pub tail_row : (rs : List Row) (n : ℕ) {r : Row} → get_elem? rs n ≡ some r
    → tail_at rs n ≡ place (after_all start rs).types (after_all start rs).patterns r.kind (suc n) r (tail_at rs (suc n))
tail_row rs n e = ap (tail_from (after_all start rs).types (after_all start rs).patterns (suc n)) (drop_row rs n e)

-- T and P lines add nothing
pub place_early : (ts : List Ty) (ps : List Pat) (k : Kind) (n : ℕ) (r : Row) (o : Tail) → Early k → place ts ps k n r o ≡ o
place_early ts ps type_line n r o h = refl
place_early ts ps pattern_line n r o h = refl
place_early ts ps iso_line n r o h = absurd h
place_early ts ps clause_line n r o h = absurd h
place_early ts ps let_line n r o h = absurd h

pub early_no_iso : (k : Kind) (n : ℕ) → Early k → when_iso k n [] ≡ []
early_no_iso type_line n h = refl
early_no_iso pattern_line n h = refl
early_no_iso iso_line n h = absurd h
early_no_iso clause_line n h = refl
early_no_iso let_line n h = refl

pub late_cases : (k : Kind) → Late k → (k ≡ iso_line) ⊎ ((k ≡ clause_line) ⊎ (k ≡ let_line))
late_cases type_line h = absurd h
late_cases pattern_line h = absurd h
late_cases iso_line h = inl refl
late_cases clause_line h = inr (inl refl)
late_cases let_line h = inr (inr refl)

-- ---- the types of the isos

-- the types of the I line q, in row n
abbrev pub IsoTypes : List ℕ → List Ty → ℕ → Row → Type 0
IsoTypes t ts n q = (get_or ts q.x tunit ≡ type_of t (cell_of t n 1)) × (get_or ts q.y tunit ≡ type_of t (cell_of t n 2))

-- the isos that some rows unfold to have the types that the table tells of their I lines
pub sigs_from : (t : List ℕ) (ts : List Ty) (ps : List Pat) (a n : ℕ) (rs : List Row)
    → ((k : ℕ) (q : Row) → get_elem? rs k ≡ some q → q.kind ≡ iso_line → IsoTypes t ts (n + k) q)
    → sigs_of (tail_from ts ps a rs).isos ≡ sigs_in t (iso_rows n rs)
sigs_from t ts ps a n [] h = refl
sigs_from t ts ps a n (r ∷ rs) h = step r.kind refl (sigs_from t ts ps (suc a) (suc n) rs later)
  where
    later : (k : ℕ) (q : Row) → get_elem? rs k ≡ some q → q.kind ≡ iso_line → IsoTypes t ts (suc n + k) q
    later k q e c = subst (λ m. IsoTypes t ts m q) (add-suc n k ∙ sym (suc-add n k)) (h (suc k) q e c)

    first : r.kind ≡ iso_line → IsoTypes t ts n r
    first c = subst (λ m. IsoTypes t ts m r) (add-zero n) (h 0 r refl c)

    step : (k : Kind) → r.kind ≡ k → sigs_of (tail_from ts ps (suc a) rs).isos ≡ sigs_in t (iso_rows (suc n) rs)
        → sigs_of (place ts ps k a r (tail_from ts ps (suc a) rs)).isos ≡ sigs_in t (when_iso k n (iso_rows (suc n) rs))
    step type_line c e = e
    step pattern_line c e = e
    step iso_line c e = let p = first c in λ i. (p.0 i, p.1 i) ∷ e i
    step clause_line c e = e
    step let_line c e = e

-- ---- variables have slots

abbrev pub LetSlots : Let → Type 0
LetSlots l = FormedPat l.p × FormedPat l.q

lets_slots_from : (ts : List Ty) (ps : List Pat) → AllFormed ps → (n : ℕ) (rs : List Row) → (l : Let) → Memᴰ l (tail_from ts ps n rs).lets → LetSlots l
lets_slots_from ts ps h n [] = each_nil LetSlots
lets_slots_from ts ps h n (r ∷ rs) = step r.kind (lets_slots_from ts ps h (suc n) rs)
  where
    step : (k : Kind) → ((l : Let) → Memᴰ l (tail_from ts ps (suc n) rs).lets → LetSlots l)
        → (l : Let) → Memᴰ l (place ts ps k n r (tail_from ts ps (suc n) rs)).lets → LetSlots l
    step type_line g = g
    step pattern_line g = g
    step iso_line g = each_nil LetSlots
    step clause_line g = each_nil LetSlots
    step let_line g = each_cons LetSlots (h r.x, h r.z) g

pub lets_slots : (rs : List Row) → AllFormed (after_all start rs).patterns → (n : ℕ) (l : Let) → Memᴰ l (tail_at rs n).lets → LetSlots l
lets_slots rs h n = lets_slots_from (after_all start rs).types (after_all start rs).patterns h (suc n) (drop n rs)

pub file_formed : {rs : List Row} → Passes start rs → AllFormed (after_all start rs).patterns
unfolding start
file_formed d = patterns_formed d (λ i. formed_unit)

abbrev pub InSlot : Event → Type 0
InSlot v = v.name < variables

deeds_slots : (d : Deed) (p : Pat) → FormedPat p → (v : Event) → Memᴰ v (deeds d p) → InSlot v
deeds_slots d p f = each_map InSlot (λ n. record { deed = d; name = n }) (vars p) f.slots

let_events_slots : (ls : List Let) → ((l : Let) → Memᴰ l ls → LetSlots l) → (v : Event) → Memᴰ v (let_events ls) → InSlot v
let_events_slots [] h = each_nil InSlot
let_events_slots (l ∷ ls) h =
    let f = h l (Memᴰ.head refl) in
    each_append InSlot (deeds uses l.q) (deeds_slots uses l.q f.1)
    (each_append InSlot (deeds binds l.p) (deeds_slots binds l.p f.0) (let_events_slots ls (λ k m. h k (Memᴰ.tail m))))

pub events_slots : (c : Clause) → FormedPat c.lhs → ((l : Let) → Memᴰ l c.lets → LetSlots l) → FormedPat c.rhs
    → (v : Event) → Memᴰ v (events c) → InSlot v
events_slots c f h g =
    each_append InSlot (deeds binds c.lhs) (deeds_slots binds c.lhs f)
    (each_append InSlot (let_events c.lets) (let_events_slots c.lets h) (deeds_slots uses c.rhs g))
