-- What Check answers and leaves in the areas, case by case, against the model's Check.
use Rattle.std.specs.Prelude.{Option as CodeOption}
use Prim.Native.Nat.{ℕ, zero, suc, ◌+◌, ◌-◌, ◌*◌, ◌≤◌, ◌<◌, min}
use native.Mathlib.Nat.{zero-add, sub-zero, suc-sub-suc, le_of_suc-le-suc, not-suc-le-zero}
use native.Mathlib.Omega.{arith}
use mathlib.Core.Path.{◌≡◌, refl, sym, ap, ap₂, ◌∙◌, subst}
use mathlib.Core.Bool.{Bool, true, false, cond, ◌||◌, or-true, true≢false}
use mathlib.Core.Option.{Option, none, some}
use mathlib.Core.List.{List, [], ◌∷◌, ◌++◌}
use lib.Dec.{ltb, lit≤}
use lib.ListN.{length, drop, replicate, length-append, length-drop, length-replicate}
use borrow.Author.Tests.{lt-ltb, le-ltb, lt-leb}
use Rattle.limits.specs.Limits.{max_bytes, max_lines, table_length, work_length, row_width}
use Rattle.calculus.specs.Tools.{is_some, first_failing, first_of, or_else, stages}
use Rattle.calculus.specs.Trees.{left, right, Ty, Pat, Clause, Iso}
use Rattle.calculus.specs.Refusals.{Kind, type_line, pattern_line, iso_line, clause_line, let_line, Refusal, number, short_area, too_long, misplaced, bad_field}
use Rattle.calculus.specs.Refusals.{bad_name, ceiling, variable, let_shape, bad_type, overlap, gap, idle, recursion}
use Rattle.format.specs.Lines.{Row, lines, row_of}
use Rattle.format.specs.Table.{table_of}
use Rattle.format.specs.Judge.{Seen, start, after_all, judge, in_order, fields_fit, named, within_ceilings, after, Reading, rows, faulty, with_row, on_row, on_judged, read_from}
use Rattle.format.specs.Unfold.{Tail, place, tail_from, isos_of}
use Rattle.format.specs.Idle.{type_lines, reach, is_root, member, Reach, reach_from, idle_fault}
use Rattle.calculus.specs.Clauses.{Sigs, clause_fault, variables_rule, let_shapes, typed, side_fault, apart, full_weight, lefts, rights, at, zoned, clause_rule}
use Rattle.calculus.specs.Clauses.{at_breach, recursion_rule, recursion_fault, iso_fault, fault_from, fault, sigs_of}
use Rattle.model.specs.Services.{Verdict, accepted, refused, judged, file_tests, after_reading, over, verdict, filled, table_after, work_after, short, unless, answer_of, refusal_by, check}
use Rattle.format.specs.Code.{refusal_view, numbered}
use Rattle.format.specs.declared.Answer as A
use Rattle.format.specs.declared.Refusal as F
use Rattle.calculus.proofs.Basic.{none≢some, some_inj, is_some_true}
use Rattle.format.proofs.Printing.{read_count, rows_inj, rows≢faulty}
use Rattle.format.proofs.Tables.{length_table}
use Rattle.area_parts.specs.Cleared.{cleared}
use lib.Seq.{drop-append-add, drop-drop, drop_at}
use Rattle.table_walks.specs.Walk.{FileIn, iso_rows, when_iso}
use Rattle.table_walks.proofs.Rows.{isos_told}
use Rattle.check_isos.specs.Answers.{as_fault}
use Rattle.read_lines.specs.Reads.{passing, rows_over, ReadSays}
use Rattle.read_lines.specs.declared.read.Read as R
use Rattle.read_lines.proofs.Filing.{passing_few, passing_rows, Holds, holds, refuses, filed}
use Rattle.checker.specs.declared.Checked as C
use Rattle.checker.specs.CheckSays.{CheckSays, counts_of, no_counts, counts_in, counts_by, counts_read, Outcome, Loaded, Entered, Settled, Accepted, Filed, Early}

-- ---- the areas

-- clearing the front of an area that is long enough
pub cleared_filled : (n : ℕ) (l : List ℕ) → n ≤ length l → cleared n l ≡ filled n [] l
cleared_filled n l h =
    let m : min n (length l) ≡ n - 0 = omega arith in ap (λ k. replicate k 0 ++ drop n l) m

-- ---- the refusals of lines and isos are 3 and above

failing_number : (p q r s : Bool) (a b c d f : Refusal) → 3 ≤ number a → 3 ≤ number b → 3 ≤ number c → 3 ≤ number d
    → first_failing ((p, a) ∷ (q, b) ∷ (r, c) ∷ (s, d) ∷ []) ≡ some f → 3 ≤ number f
failing_number false q r s a b c d f ha hb hc hd e = subst (λ z. 3 ≤ number z) (some_inj e) ha
failing_number true false r s a b c d f ha hb hc hd e = subst (λ z. 3 ≤ number z) (some_inj e) hb
failing_number true true false s a b c d f ha hb hc hd e = subst (λ z. 3 ≤ number z) (some_inj e) hc
failing_number true true true false a b c d f ha hb hc hd e = subst (λ z. 3 ≤ number z) (some_inj e) hd
failing_number true true true true a b c d f ha hb hc hd e = absurd (none≢some e)

judge_number : (s : Seen) (r : Row) (f : Refusal) → judge s r ≡ some f → 3 ≤ number f
unfolding judge
judge_number s r f =
    failing_number (in_order s.above r.kind) (fields_fit r.kind r) (named s r.kind r) (within_ceilings s r.kind r)
    (misplaced r.kind) (bad_field r.kind) (bad_name r.kind) (ceiling r.kind) f (lit≤ tt) (lit≤ tt) (lit≤ tt) (lit≤ tt)

abbrev AtLeast3 : Reading → Type 0
AtLeast3 (rows rs) = Unit {0}
AtLeast3 (faulty f n) = 3 ≤ number f

with_row_lem : (r : Row) (x : Reading) → AtLeast3 x → AtLeast3 (with_row r x)
with_row_lem r (rows rs) h = tt
with_row_lem r (faulty f n) h = h

on_judged_lem : (s : Seen) (r : Row) (n : ℕ) (k : Unit {0} → Reading) → ((u : Unit {0}) → AtLeast3 (k u)) → AtLeast3 (on_judged n (judge s r) k)
on_judged_lem s r n k h = go (judge s r) refl
  where
    go : (x : Option Refusal) → judge s r ≡ x → AtLeast3 (on_judged n x k)
    go none e = h tt
    go (some f) e = judge_number s r f e

on_row_lem : (n : ℕ) (x : Option Row) (k : Row → Reading) → ((r : Row) → AtLeast3 (k r)) → AtLeast3 (on_row n x k)
on_row_lem n none k h = lit≤ tt
on_row_lem n (some r) k h = h r

read_numbers : (s : Seen) (n : ℕ) (ls : List (List ℕ)) → AtLeast3 (read_from s n ls)
read_numbers s n [] = tt
read_numbers s n (l ∷ ls) =
    on_row_lem n (row_of l) (λ r. on_judged n (judge s r) (λ _. with_row r (read_from (after s r) (suc n) ls)))
    (λ r. on_judged_lem s r n (λ _. with_row r (read_from (after s r) (suc n) ls)) (λ _. with_row_lem r (read_from (after s r) (suc n) ls) (read_numbers (after s r) (suc n) ls)))

read_number : (s : List ℕ) (f : Refusal) (n : ℕ) → read_from start 1 (lines s) ≡ faulty f n → 3 ≤ number f
read_number s f n e = subst AtLeast3 e (read_numbers start 1 (lines s))

-- faults of isos
abbrev FaultAtLeast3 : Option (Refusal × ℕ) → Type 0
FaultAtLeast3 none = Unit {0}
FaultAtLeast3 (some f) = 3 ≤ number f.0

at_number : (n : ℕ) (x : Option Refusal) → ((f : Refusal) → x ≡ some f → 3 ≤ number f) → FaultAtLeast3 (at n x)
at_number n none h = tt
at_number n (some f) h = h f refl

or_number : (x y : Option (Refusal × ℕ)) → FaultAtLeast3 x → FaultAtLeast3 y → FaultAtLeast3 (or_else x y)
or_number none y h k = k
or_number (some f) y h k = h

first_number : {A : Type 0} (g : A → Option (Refusal × ℕ)) (xs : List A) → ((x : A) → FaultAtLeast3 (g x)) → FaultAtLeast3 (first_of g xs)
first_number g [] h = tt
first_number g (x ∷ xs) h = or_number (g x) (first_of g xs) (h x) (first_number g xs h)

clause_number : (sigs : Sigs) (o : Iso) (c : Clause) (f : Refusal) → clause_fault sigs o.from o.to c ≡ some f → 3 ≤ number f
unfolding clause_fault
clause_number sigs o c f = go (variables_rule c) (let_shapes c) (typed sigs o.from o.to c)
  where
    go : (p q r : Bool) → first_failing ((p, variable clause_line) ∷ (q, let_shape clause_line) ∷ (r, bad_type clause_line) ∷ []) ≡ some f → 3 ≤ number f
    go false q r e = subst (λ z. 3 ≤ number z) (some_inj e) (lit≤ tt)
    go true false r e = subst (λ z. 3 ≤ number z) (some_inj e) (lit≤ tt)
    go true true false e = subst (λ z. 3 ≤ number z) (some_inj e) (lit≤ tt)
    go true true true e = absurd (none≢some e)

side_number : (o : Iso) (f : Refusal) → side_fault o ≡ some f → 3 ≤ number f
unfolding side_fault
side_number o f =
    failing_number (apart (lefts o)) (apart (rights o)) (full_weight (lefts o)) (full_weight (rights o))
    (overlap iso_line left) (overlap iso_line right) (gap iso_line left) (gap iso_line right) f (lit≤ tt) (lit≤ tt) (lit≤ tt) (lit≤ tt)

recursion_number : (i : ℕ) (o : Iso) → FaultAtLeast3 (recursion_fault i o)
unfolding recursion_fault
recursion_number i o = go (recursion_rule i o) (zoned o.from) (first_number (at_breach i) o.clauses (λ c. one (clause_rule i c) c.line))
  where
    one : (b : Bool) (n : ℕ) → FaultAtLeast3 (cond b none (some (recursion clause_line, n)))
    one true n = tt
    one false n = lit≤ tt

    go : (r z : Bool) → FaultAtLeast3 (first_of (at_breach i) o.clauses) → FaultAtLeast3 (cond r none (cond z (first_of (at_breach i) o.clauses) (some (recursion iso_line, o.line))))
    go true z h = tt
    go false true h = h
    go false false h = lit≤ tt

iso_number : (sigs : Sigs) (i : ℕ) (o : Iso) → FaultAtLeast3 (iso_fault sigs i o)
unfolding iso_fault
iso_number sigs i o =
    or_number (first_of (λ c. at c.line (clause_fault sigs o.from o.to c)) o.clauses) (or_else (recursion_fault i o) (at o.line (side_fault o)))
    (first_number (λ c. at c.line (clause_fault sigs o.from o.to c)) o.clauses
    (λ c. at_number c.line (clause_fault sigs o.from o.to c) (clause_number sigs o c)))
    (or_number (recursion_fault i o) (at o.line (side_fault o)) (recursion_number i o) (at_number o.line (side_fault o) (side_number o)))

isos_number : (sigs : Sigs) (i : ℕ) (os : List Iso) → FaultAtLeast3 (fault_from sigs i os)
isos_number sigs i [] = tt
isos_number sigs i (o ∷ os) = or_number (iso_fault sigs i o) (fault_from sigs (suc i) os) (iso_number sigs i o) (isos_number sigs (suc i) os)

-- an idle line is 21
idle_from : (ts n : ℕ) (rs : List Row) → FaultAtLeast3 (reach_from ts n rs).found
idle_from ts n [] = tt
idle_from ts n (r ∷ rs) = go (is_root r.kind || member n (reach_from ts (suc n) rs).named) (idle_from ts (suc n) rs)
  where
    o : Reach
    o = reach_from ts (suc n) rs

    go : (b : Bool) → FaultAtLeast3 (reach_from ts (suc n) rs).found
        → FaultAtLeast3 (cond {A = Reach} b (record { named = reach ts r.kind r ++ (reach_from ts (suc n) rs).named; found = (reach_from ts (suc n) rs).found })
        (record { named = (reach_from ts (suc n) rs).named; found = some (idle r.kind, suc n) })).found
    go true h = h
    go false h = lit≤ tt

stage_number : (rs : List Row) (f : Refusal) (n : ℕ) → stages file_tests rs ≡ some (f, n) → 3 ≤ number f
unfolding fault idle_fault
stage_number rs f n e =
    subst FaultAtLeast3 e
    (or_number (idle_fault rs) (fault (isos_of rs)) (idle_from (type_lines rs) 0 rs) (isos_number (sigs_of (isos_of rs)) 0 (isos_of rs)))

-- the refusal of an idle line, or else that of an iso
pub lines_idle : (a : A.Answer) (b : Bool) (rs : List Row) → as_fault a ≡ idle_fault rs → b ≡ is_some (refusal_view a.refusal) → b ≡ true
    → as_fault a ≡ stages file_tests rs
lines_idle a b rs e h k =
    let g = is_some_true (refusal_view a.refusal) (sym h ∙ k) in
    let z : as_fault a ≡ some (g.0, a.place) = ap (at a.place) g.1 in
    z ∙ sym (ap (λ x. or_else x (fault (isos_of rs))) (sym e ∙ z))

pub lines_isos : (a r : A.Answer) (b : Bool) (rs : List Row) → as_fault a ≡ idle_fault rs → b ≡ is_some (refusal_view a.refusal) → b ≡ false
    → as_fault r ≡ fault (isos_of rs) → as_fault r ≡ stages file_tests rs
lines_isos a r b rs e h k f =
    let z : refusal_view a.refusal ≡ none = none_of b (refusal_view a.refusal) h k in
    f ∙ sym (ap (λ x. or_else x (fault (isos_of rs))) (sym e ∙ ap (at a.place) z))
  where
    none_of : (b : Bool) (x : Option Refusal) → b ≡ is_some x → b ≡ false → x ≡ none
    none_of b none e h = refl
    none_of b (some f) e h = absurd (true≢false (sym e ∙ h))

-- ---- verdicts

-- a file that is not too long
verdict_not_over : (s : List ℕ) → length s ≤ max_bytes → length (lines s) ≤ max_lines → verdict s ≡ after_reading (read_from start 1 (lines s))
unfolding verdict over
verdict_not_over s h k =
    ap (λ b. cond b (refused too_long 0) (after_reading (read_from start 1 (lines s)))) (ap₂ ◌||◌ (le-ltb _ _ h) (le-ltb _ _ k))

pub verdict_lines : (s : List ℕ) → max_lines < length (lines s) → verdict s ≡ refused too_long 0
unfolding verdict over
verdict_lines s h =
    ap (λ b. cond (ltb max_bytes (length s) || b) (refused too_long 0) (after_reading (read_from start 1 (lines s)))) (lt-ltb _ _ h)
    ∙ ap (λ b. cond b (refused too_long 0) (after_reading (read_from start 1 (lines s)))) (or-true (ltb max_bytes (length s)))

-- ---- Check, by the verdict

-- what Check does once the verdict, refusal 1 included, is known
by_verdict : (s t w : List ℕ) (v : Verdict) → unless (short t w) (verdict s) ≡ v
    → check s t w ≡ record { answer = answer_of v; table = table_after v t; work = work_after v w }
unfolding check
by_verdict s t w v e = ap (λ x. record { answer = answer_of x; table = table_after x t; work = work_after x w }) e

-- an answer that agrees with a refusal
says_refused : (s t w t' w' : List ℕ) (r : A.Answer) (f : Refusal) → unless (short t w) (verdict s) ≡ refused f r.place
    → refusal_view r.refusal ≡ some f → t' ≡ table_after (refused f r.place) t → w' ≡ work_after (refused f r.place) w
    → CheckSays s t w t' w' r
says_refused s t w t' w' r f e n ht hw =
    let c = by_verdict s t w (refused f r.place) e in
    record {
      refusal = n ∙ sym (ap refusal_by e);
      number = ap numbered n ∙ sym (ap (λ x. x.answer.number) c);
      line = sym (ap (λ x. x.answer.line) c);
      table = ht ∙ sym (ap (λ x. x.table) c);
      work = hw ∙ sym (ap (λ x. x.work) c);
    }

long_enough : (t w : List ℕ) → table_length ≤ length t → work_length ≤ length w → (v : Verdict) → unless (short t w) v ≡ v
long_enough t w ht hw v = ap (λ b. unless b v) (ap₂ ◌||◌ (le-ltb _ _ ht) (le-ltb _ _ hw))

-- 1: the table is short
pub short_table : (s t w : List ℕ) (r : A.Answer) → length t < table_length → refusal_view r.refusal ≡ some short_area → r.place ≡ 0 → CheckSays s t w t w r
short_table s t w r h n p =
    says_refused s t w t w r short_area
    (ap (λ b. unless (b || ltb (length w) work_length) (verdict s)) (lt-ltb _ _ h) ∙ ap (refused short_area) (sym p)) n refl refl

-- 1: the work area is short
pub short_work : (s t w : List ℕ) (r : A.Answer) → length w < work_length → refusal_view r.refusal ≡ some short_area → r.place ≡ 0 → CheckSays s t w t w r
short_work s t w r h n p =
    says_refused s t w t w r short_area
    (ap (λ b. unless (ltb (length t) table_length || b) (verdict s)) (lt-ltb _ _ h)
    ∙ ap (λ b. unless b (verdict s)) (or-true (ltb (length t) table_length))
    ∙ ap (refused short_area) (sym p)) n refl refl

-- 2: too many bytes or lines
pub too_long_lem : (s t w : List ℕ) (r : A.Answer) → table_length ≤ length t → work_length ≤ length w → verdict s ≡ refused too_long 0
    → refusal_view r.refusal ≡ some too_long → r.place ≡ 0 → CheckSays s t w t w r
too_long_lem s t w r ht hw v n p =
    says_refused s t w t w r too_long (long_enough t w ht hw (verdict s) ∙ v ∙ ap (refused too_long) (sym p)) n refl refl

-- a refusal of a line or an iso clears both areas
cleared_table : (f : Refusal) (n : ℕ) (t : List ℕ) → 3 ≤ number f → filled table_length [] t ≡ table_after (refused f n) t
cleared_table f n t h = sym (ap (λ b. cond b t (filled table_length [] t)) (lt-leb _ _ h))

cleared_work : (f : Refusal) (n : ℕ) (w : List ℕ) → 3 ≤ number f → filled work_length [] w ≡ work_after (refused f n) w
cleared_work f n w h = sym (ap (λ b. cond b w (filled work_length [] w)) (lt-leb _ _ h))

-- a table that changed only in its front, cleared there, is the table at entry, cleared
cleared_again : (n : ℕ) (t t₁ : List ℕ) → n ≤ length t → length t₁ ≡ length t → drop n t₁ ≡ drop n t → cleared n t₁ ≡ filled n [] t
cleared_again n t t₁ h k d =
    ap₂ (λ m l. replicate (min n m) 0 ++ l) k d ∙ cleared_filled n t h

-- 3 to 7, and 8 to 14
pub refused_later : (s t w t₁ t' w' : List ℕ) (r : A.Answer) (f : Refusal) → table_length ≤ length t → work_length ≤ length w
    → verdict s ≡ refused f r.place → 3 ≤ number f → refusal_view r.refusal ≡ some f
    → length t₁ ≡ length t → drop table_length t₁ ≡ drop table_length t → t' ≡ cleared table_length t₁ → w' ≡ cleared work_length w
    → CheckSays s t w t' w' r
refused_later s t w t₁ t' w' r f ht hw v m n wide behind et ew =
    says_refused s t w t' w' r f (long_enough t w ht hw (verdict s) ∙ v) n
    (et ∙ cleared_again table_length t t₁ ht wide behind ∙ cleared_table f r.place t m)
    (ew ∙ cleared_filled work_length w hw ∙ cleared_work f r.place w m)

-- the verdict of a file whose reading is refused, and of one with an idle line or a faulty iso
pub verdict_read : (s : List ℕ) (f : Refusal) (n : ℕ) → length s ≤ max_bytes → length (lines s) ≤ max_lines
    → read_from start 1 (lines s) ≡ faulty f n → (verdict s ≡ refused f n) × (3 ≤ number f)
verdict_read s f n hb hl e = (verdict_not_over s hb hl ∙ ap after_reading e, read_number s f n e)

pub verdict_fault : (s : List ℕ) (rs : List Row) (f : Refusal) (n : ℕ) → length s ≤ max_bytes → length (lines s) ≤ max_lines
    → read_from start 1 (lines s) ≡ rows rs → stages file_tests rs ≡ some (f, n) → (verdict s ≡ refused f n) × (3 ≤ number f)
verdict_fault s rs f n hb hl e k =
    (verdict_not_over s hb hl ∙ ap after_reading e ∙ ap (judged rs) k, stage_number rs f n k)

drop_replicate : (k n : ℕ) (l : List ℕ) → k ≤ n → drop k (replicate n 0 ++ l) ≡ replicate (n - k) 0 ++ l
drop_replicate zero n l h = ap (λ m. replicate m 0 ++ l) (sym (sub-zero n))
drop_replicate (suc k) zero l h = absurd (not-suc-le-zero h)
drop_replicate (suc k) (suc n) l h = drop_replicate k n l (le_of_suc-le-suc h) ∙ ap (λ m. replicate m 0 ++ l) (sym (suc-sub-suc n k))

rows_then_zeros : (t t₀ : List ℕ) (rs : List Row) → table_length ≤ length t → length rs ≤ max_lines → t₀ ≡ cleared table_length t
    → table_of rs ++ drop (length rs * row_width) t₀ ≡ filled table_length (table_of rs) t
rows_then_zeros t t₀ rs h few e =
    let within : length rs * row_width ≤ table_length - 0 = omega arith in
    let left : table_length - 0 - length rs * row_width ≡ table_length - length (table_of rs) = omega (arith, length_table rs) in
    ap (λ l. table_of rs ++ l)
    (ap (drop (length rs * row_width)) (e ∙ cleared_filled table_length t h)
    ∙ drop_replicate (length rs * row_width) (table_length - 0) (drop table_length t) within
    ∙ ap (λ m. replicate m 0 ++ drop table_length t) left)

-- 0: the table holds the rows, and zeros behind them
pub accepted_says : (s t w t₀ t' w' : List ℕ) (rs : List Row) (r : A.Answer) → table_length ≤ length t → work_length ≤ length w
    → length s ≤ max_bytes → length (lines s) ≤ max_lines → read_from start 1 (lines s) ≡ rows rs → stages file_tests rs ≡ none
    → refusal_view r.refusal ≡ none → r.place ≡ 0
    → t₀ ≡ cleared table_length t → t' ≡ table_of rs ++ drop (length rs * row_width) t₀ → w' ≡ cleared work_length w
    → CheckSays s t w t' w' r
accepted_says s t w t₀ t' w' rs r ht hw hb hl e k n p e₀ et ew =
    let v : verdict s ≡ accepted rs = verdict_not_over s hb hl ∙ ap after_reading e ∙ ap (judged rs) k in
    let u = long_enough t w ht hw (verdict s) ∙ v in
    let c = by_verdict s t w (accepted rs) u in
    record {
      refusal = n ∙ sym (ap refusal_by u);
      number = ap numbered n ∙ sym (ap (λ x. x.answer.number) c);
      line = p ∙ sym (ap (λ x. x.answer.line) c);
      table = et ∙ rows_then_zeros t t₀ rs ht (subst (λ m. m ≤ max_lines) (read_count start 1 (lines s) rs e) hl) e₀ ∙ sym (ap (λ x. x.table) c);
      work = ew ∙ cleared_filled work_length w hw ∙ sym (ap (λ x. x.work) c);
    }

-- ---- a file read into a cleared table, and its isos

-- a reading that is refused
pub outcome_read : (s t₀ t₁ : List ℕ) (q : R.Read) (r : A.Answer) (g : Refusal) → ReadSays s t₀ t₁ q → refusal_view q.refusal ≡ some g
    → r.refusal ≡ q.refusal → r.place ≡ q.place → Outcome s t₀ t₁ r
outcome_read s t₀ t₁ q r g says e same place =
    let h = refuses says g e in
    let agree : (f : Refusal) → refusal_view r.refusal ≡ some f → g ≡ f =
    λ f k. some_inj (sym e ∙ ap refusal_view (sym same) ∙ k) in
    record {
      accepts = λ k. absurd (none≢some (sym k ∙ ap refusal_view same ∙ e));
      refuses = λ f k. ap after_reading h ∙ ap₂ refused (agree f k) (sym place);
      later = λ f k. subst (λ z. 3 ≤ number z) (agree f k) (read_number s g q.place h);
      table = says.table;
    }

-- rows written over the front of a table leave its length and what lies behind 20,480 numbers
rows_wide : (t₀ : List ℕ) (rs : List Row) → table_length ≤ length t₀ → length rs ≤ max_lines
    → length (table_of rs ++ drop (length rs * row_width) t₀) ≡ length t₀
rows_wide t₀ rs h few =
    let a = length-append (table_of rs) (drop (length rs * row_width) t₀) in
    let b = length-drop (length rs * row_width) t₀ in
    omega (arith, a, b, length_table rs)

rows_behind : (t₀ : List ℕ) (rs : List Row) → length rs ≤ max_lines
    → drop table_length (table_of rs ++ drop (length rs * row_width) t₀) ≡ drop table_length t₀
rows_behind t₀ rs few =
    let k : ℕ = length rs * row_width in
    let split : table_length ≡ length (table_of rs) + (table_length - k) = omega (arith, length_table rs) in
    let whole : k + (table_length - k) ≡ table_length = omega arith in
    ap (λ n. drop n (table_of rs ++ drop k t₀)) split
    ∙ drop-append-add (table_of rs) (drop k t₀) (table_length - k)
    ∙ drop-drop (table_length - k) k t₀
    ∙ ap (λ n. drop n t₀) whole

fault_none : (a : A.Answer) → refusal_view a.refusal ≡ none → as_fault a ≡ none
fault_none a e = ap (at a.place) e

fault_some : (a : A.Answer) (f : Refusal) → refusal_view a.refusal ≡ some f → as_fault a ≡ some (f, a.place)
fault_some a f e = ap (at a.place) e

-- a reading that is accepted, and the first refusal of its isos
pub outcome_isos : (s t₀ t₁ : List ℕ) (q : R.Read) (r : A.Answer) → length (lines s) ≤ max_lines → ReadSays s t₀ t₁ q
    → (h : Holds s t₀ t₁ q) → (FileIn t₁ q.seen.types q.seen.patterns q.lines h.file → as_fault r ≡ stages file_tests h.file)
    → (refusal_view r.refusal ≡ none → r.place ≡ 0) → Outcome s t₀ t₁ r
outcome_isos s t₀ t₁ q r few read h says place =
    let e = says (filed h few) in
    record {
      accepts = λ k. (h.file, h.reads, sym e ∙ fault_none r k, place k);
      refuses = λ f k. ap after_reading h.reads ∙ ap (judged h.file) (sym e ∙ fault_some r f k);
      later = λ f k. stage_number h.file f r.place (sym e ∙ fault_some r f k);
      table = read.table;
    }

-- ---- Check, from the outcome

zeros : ℕ → List ℕ
zeros n = replicate n 0

length_zeros : (n : ℕ) → length (zeros n) ≡ n
unfolding zeros
length_zeros n = length-replicate {A = ℕ} n 0

cleared_is : (t : List ℕ) → table_length ≤ length t → cleared table_length t ≡ zeros table_length ++ drop table_length t
unfolding zeros
cleared_is t h = let m : min table_length (length t) ≡ table_length = omega arith in ap (λ k. replicate k 0 ++ drop table_length t) m

cleared_long : (t : List ℕ) → table_length ≤ length t → length (cleared table_length t) ≡ length t
cleared_long t h =
    let a = length-append (zeros table_length) (drop table_length t) in
    let d = length-drop table_length t in
    ap length (cleared_is t h) ∙ omega (arith, a, length_zeros table_length, d)

cleared_behind : (t : List ℕ) → table_length ≤ length t → drop table_length (cleared table_length t) ≡ drop table_length t
cleared_behind t h =
    ap (drop table_length) (cleared_is t h) ∙ drop_at (zeros table_length) (drop table_length t) table_length (length_zeros table_length)

fewer : (s : List ℕ) → length (lines s) ≤ max_lines → length (passing start (lines s)) ≤ max_lines
fewer s h = let k = passing_few start (lines s) in omega arith

pub check_refused : (s t w t₀ t₁ t' w' : List ℕ) (a : A.Answer) (f : Refusal) → table_length ≤ length t → work_length ≤ length w
    → length s ≤ max_bytes → length (lines s) ≤ max_lines → t₀ ≡ cleared table_length t → Outcome s t₀ t₁ a → refusal_view a.refusal ≡ some f
    → t' ≡ cleared table_length t₁ → w' ≡ cleared work_length w → CheckSays s t w t' w' a
check_refused s t w t₀ t₁ t' w' a f ht hw hb hl e₀ o k et ew =
    let wide = ap length e₀ ∙ cleared_long t ht in
    let few = fewer s hl in
    refused_later s t w t₁ t' w' a f ht hw (verdict_not_over s hb hl ∙ o.refuses f k) (o.later f k) k
    (ap length o.table ∙ rows_wide t₀ (passing start (lines s)) (omega (arith, wide)) few ∙ wide)
    (ap (drop table_length) o.table ∙ rows_behind t₀ (passing start (lines s)) few ∙ ap (drop table_length) e₀ ∙ cleared_behind t ht) et ew

pub check_accepted : (s t w t₀ t₁ w' : List ℕ) (a : A.Answer) → table_length ≤ length t → work_length ≤ length w
    → length s ≤ max_bytes → length (lines s) ≤ max_lines → t₀ ≡ cleared table_length t → Outcome s t₀ t₁ a → refusal_view a.refusal ≡ none
    → w' ≡ cleared work_length w → CheckSays s t w t₁ w' a
check_accepted s t w t₀ t₁ w' a ht hw hb hl e₀ o k ew =
    let h = o.accepts k in
    accepted_says s t w t₀ t₁ w' h.0 a ht hw hb hl h.1 h.2 k h.3 e₀ (o.table ∙ ap (λ qs. rows_over qs t₀) (passing_rows start 1 (lines s) h.0 h.1)) ew

-- ---- as the code finds it: a flag says whether a refusal is one

flag_some : (b : Bool) (x : Option Refusal) → b ≡ is_some x → b ≡ true → (f : Refusal) × (x ≡ some f)
flag_some b x e h = is_some_true x (sym e ∙ h)

pub flag_none : (b : Bool) (x : Option Refusal) → b ≡ is_some x → b ≡ false → x ≡ none
flag_none b none e h = refl
flag_none b (some f) e h = absurd (true≢false (sym e ∙ h))

pub outcome_refused : (s t₀ t₁ : List ℕ) (q : R.Read) (r : A.Answer) (b : Bool) → ReadSays s t₀ t₁ q → b ≡ is_some (refusal_view q.refusal) → b ≡ true
    → r.refusal ≡ q.refusal → r.place ≡ q.place → Outcome s t₀ t₁ r
outcome_refused s t₀ t₁ q r b says e h same place =
    let g = flag_some b (refusal_view q.refusal) e h in outcome_read s t₀ t₁ q r g.0 says g.1 same place

pub outcome_whole : (s t₀ t₁ : List ℕ) (q : R.Read) (r : A.Answer) (b : Bool) → length (lines s) ≤ max_lines
    → ReadSays s t₀ t₁ q → b ≡ is_some (refusal_view q.refusal) → b ≡ false
    → ((rs : List Row) → FileIn t₁ q.seen.types q.seen.patterns q.lines rs → as_fault r ≡ stages file_tests rs) × (refusal_view r.refusal ≡ none → r.place ≡ 0)
    → Outcome s t₀ t₁ r
outcome_whole s t₀ t₁ q r b few says e h found =
    let k = holds says (flag_none b (refusal_view q.refusal) e h) in outcome_isos s t₀ t₁ q r few says k (found.0 k.file) found.1

-- the lines as they were counted
pub counted_few : {n : ℕ} (s : List ℕ) → n ≡ length (lines s) → n ≤ max_lines → length (lines s) ≤ max_lines
counted_few s e h = subst (λ m. m ≤ max_lines) e h

pub counted_many : {n : ℕ} (s : List ℕ) → n ≡ length (lines s) → max_lines < n → verdict s ≡ refused too_long 0
counted_many s e h = verdict_lines s (subst (λ m. max_lines < m) e h)

-- ---- the rows of an accepted file

-- an iso for each I line
placed_length : (ts : List Ty) (ps : List Pat) (a n : ℕ) (r : Row) (k : Kind) (o : Tail) (ns : List ℕ) → length o.isos ≡ length ns
    → length (place ts ps k n r o).isos ≡ length (when_iso k a ns)
placed_length ts ps a n r type_line o ns e = e
placed_length ts ps a n r pattern_line o ns e = e
placed_length ts ps a n r iso_line o ns e = ap suc e
placed_length ts ps a n r clause_line o ns e = e
placed_length ts ps a n r let_line o ns e = e

isos_length : (ts : List Ty) (ps : List Pat) (a n : ℕ) (rs : List Row) → length (tail_from ts ps n rs).isos ≡ length (iso_rows a rs)
isos_length ts ps a n [] = refl
isos_length ts ps a n (r ∷ rs) = placed_length ts ps a n r r.kind (tail_from ts ps (suc n) rs) (iso_rows (suc a) rs) (isos_length ts ps (suc a) (suc n) rs)

pub isos_counted : (rs : List Row) → (after_all start rs).isos ≡ length (isos_of rs)
unfolding isos_of start
isos_counted rs =
    isos_told 0 start rs ∙ zero-add (length (iso_rows 0 rs)) ∙ sym (isos_length (after_all start rs).types (after_all start rs).patterns 0 1 rs)

pub loaded : (s t₀ t₁ : List ℕ) (q : R.Read) (b : Bool) → length (lines s) ≤ max_lines → ReadSays s t₀ t₁ q → b ≡ is_some (refusal_view q.refusal) → b ≡ false
    → (c : C.Checked) → c.types ≡ q.seen.types → c.patterns ≡ q.seen.patterns → c.isos ≡ q.seen.isos → c.lines ≡ q.lines → Loaded s t₁ c
loaded s t₀ t₁ q b few says e h c types patterns isos lines' =
    let k = holds says (flag_none b (refusal_view q.refusal) e h) in
    record {
      file = k.file;
      reads = k.reads;
      table = subst (λ n. FileIn t₁ c.types c.patterns n k.file) (sym lines')
          (subst (λ n. FileIn t₁ c.types n q.lines k.file) (sym patterns) (subst (λ n. FileIn t₁ n q.seen.patterns q.lines k.file) (sym types) (filed k few)));
      isos = isos ∙ k.told.counts.isos ∙ isos_counted k.file;
    }

accepted_rows : (s t₀ t₁ : List ℕ) (a : C.Checked) → length s ≤ max_bytes → length (lines s) ≤ max_lines → Outcome s t₀ t₁ a.answer
    → ((rs : List Row) → read_from start 1 (lines s) ≡ rows rs → Loaded s t₁ a) → refusal_view a.answer.refusal ≡ none → Accepted s t₁ a
accepted_rows s t₀ t₁ a hb hl o held n =
    let k = o.accepts n in
    let l = held k.0 k.1 in
    let same : k.0 ≡ l.file = rows_inj (sym k.1 ∙ l.reads) in
    record {
      file = l.file;
      accepts = verdict_not_over s hb hl ∙ ap after_reading l.reads ∙ ap (judged l.file) (subst (λ rs. stages file_tests rs ≡ none) same k.2);
      table = l.table;
      isos = l.isos;
    }

-- with no refusal the verdict is the file's
unless_passed : (b : Bool) (v : Verdict) → refusal_by (unless b v) ≡ none → unless b v ≡ v
unless_passed true v e = absurd (none≢some (sym e))
unless_passed false v e = refl

-- nothing is owed of a refused file
pub refused_flag : {P : Type 0} (x y : CodeOption F.Refusal) (b : Bool) → b ≡ is_some (refusal_view x) → b ≡ true → y ≡ x → refusal_view y ≡ none → P
refused_flag x y b e h same n =
    let g = flag_some b (refusal_view x) e h in absurd (none≢some (sym n ∙ ap refusal_view same ∙ g.1))

-- a reading that is refused has no rows
pub unread : (s t₀ t₁ : List ℕ) (q : R.Read) (b : Bool) (c : C.Checked) → ReadSays s t₀ t₁ q → b ≡ is_some (refusal_view q.refusal) → b ≡ true
    → (rs : List Row) → read_from start 1 (lines s) ≡ rows rs → Loaded s t₁ c
unread s t₀ t₁ q b c says e h rs k =
    let g = flag_some b (refusal_view q.refusal) e h in
    absurd (rows≢faulty (sym k ∙ refuses says g.0 g.1))

-- ---- what is counted

counts_are : (t : List ℕ) (rs : List Row) (c : C.Checked) → FileIn t c.types c.patterns c.lines rs → c.isos ≡ length (isos_of rs) → counts_of c ≡ counts_in rs
counts_are t rs c h e = λ i. record { types = h.type_count i; patterns = h.pattern_count i; isos = e i; lines = h.count i }

-- of a reading that is refused, and of one that passes
pub counts_unread : (s t₀ t₁ : List ℕ) (q : R.Read) (b : Bool) (c : C.Checked) → ReadSays s t₀ t₁ q → b ≡ is_some (refusal_view q.refusal) → b ≡ true
    → counts_of c ≡ no_counts → counts_of c ≡ counts_read (read_from start 1 (lines s))
counts_unread s t₀ t₁ q b c says e h n =
    let g = flag_some b (refusal_view q.refusal) e h in n ∙ ap counts_read (sym (refuses says g.0 g.1))

pub counts_loaded : (s t : List ℕ) (c : C.Checked) → Loaded s t c → counts_of c ≡ counts_read (read_from start 1 (lines s))
counts_loaded s t c l = counts_are t l.file c l.table l.isos ∙ ap counts_read (sym l.reads)

-- of Check, by its verdict
counts_refused : (v : Verdict) (f : Refusal) → refusal_by v ≡ some f → counts_by v ≡ no_counts
counts_refused (accepted rs) f e = absurd (none≢some e)
counts_refused (refused g n) f e = refl

pub counts_said : (s t w t' w' : List ℕ) (c : C.Checked) → CheckSays s t w t' w' c.answer → (refusal_view c.answer.refusal ≡ none → Accepted s t' c)
    → ((f : Refusal) → refusal_view c.answer.refusal ≡ some f → counts_of c ≡ no_counts) → counts_of c ≡ counts_by (unless (short t w) (verdict s))
counts_said s t w t' w' c says whole none_counted = go (refusal_view c.answer.refusal) refl
  where
    go : (x : Option Refusal) → refusal_view c.answer.refusal ≡ x → counts_of c ≡ counts_by (unless (short t w) (verdict s))
    go none e =
        let a = whole e in
        let u = unless_passed (short t w) (verdict s) (sym says.refusal ∙ e) in
        counts_are t' a.file c a.table a.isos ∙ ap counts_by (sym (u ∙ a.accepts))
    go (some f) e = none_counted f e ∙ sym (counts_refused (unless (short t w) (verdict s)) f (sym says.refusal ∙ e))

-- ---- the table, filled or cleared again

pub entered_says : (s t t₀ t₁ : List ℕ) (c : C.Checked) → t₀ ≡ cleared table_length t
    → Outcome s t₀ t₁ c.answer × ((rs : List Row) → read_from start 1 (lines s) ≡ rows rs → Loaded s t₁ c) × (counts_of c ≡ counts_read (read_from start 1 (lines s)))
    → Entered s t t₁ c
entered_says s t t₀ t₁ c e o = record { outcome = subst (λ z. Outcome s z t₁ c.answer) e o.0; loaded = o.1; counts = o.2 }

pub settled_refused : (t₁ t' : List ℕ) (c r : C.Checked) (b : Bool) → b ≡ is_some (refusal_view c.answer.refusal) → b ≡ true → t' ≡ cleared table_length t₁
    → (r.answer.place ≡ c.answer.place) × (r.answer.refusal ≡ c.answer.refusal) × (counts_of r ≡ no_counts) → Settled t₁ t' c r
settled_refused t₁ t' c r b e h et k = record {
  refuses = λ f n. (et, ap₂ (λ p x. record { place = p; refusal = x }) k.0 k.1, k.2);
  accepts = λ n. refused_flag c.answer.refusal c.answer.refusal b e h refl n;
}

pub settled_accepted : (t₁ : List ℕ) (c : C.Checked) (b : Bool) → b ≡ is_some (refusal_view c.answer.refusal) → b ≡ false → Settled t₁ t₁ c c
settled_accepted t₁ c b e h = record {
  refuses = λ f n. absurd (none≢some (sym (flag_none b (refusal_view c.answer.refusal) e h) ∙ n));
  accepts = λ n. (refl, refl);
}

-- what a file is entered and settled to is what Check says
module _ (s t t₁ t' : List ℕ) (c r : C.Checked) (ht : table_length ≤ length t) (hl : length (lines s) ≤ max_lines) (o : Entered s t t₁ c) (k : Settled t₁ t' c r) where
  refused_filed : (f : Refusal) → refusal_view c.answer.refusal ≡ some f → Filed s t t' r
  refused_filed f n =
      let d = k.refuses f n in
      record {
        says = λ w w' hw hb ew.
            subst (CheckSays s t w t' w') (sym d.1) (check_refused s t w (cleared table_length t) t₁ t' w' c.answer f ht hw hb hl refl o.outcome n d.0 ew);
        accepts = λ hb m. absurd (none≢some (sym m ∙ ap (λ a. refusal_view a.refusal) d.1 ∙ n));
        refuses = λ g m. d.2;
      }

  accepted_filed : refusal_view c.answer.refusal ≡ none → Filed s t t' r
  accepted_filed n =
      let d = k.accepts n in
      subst (Filed s t t') (sym d.1) (subst (λ z. Filed s t z c) (sym d.0) record {
        says = λ w w' hw hb ew. check_accepted s t w (cleared table_length t) t₁ w' c.answer ht hw hb hl refl o.outcome n ew;
        accepts = λ hb m. accepted_rows s (cleared table_length t) t₁ c hb hl o.outcome o.loaded n;
        refuses = λ g m. absurd (none≢some (sym n ∙ m));
      })

  pub filed_says : Filed s t t' r
  filed_says = go (refusal_view c.answer.refusal) refl
    where
      go : (x : Option Refusal) → refusal_view c.answer.refusal ≡ x → Filed s t t' r
      go none e = accepted_filed e
      go (some f) e = refused_filed f e

-- ---- before anything is read

early_refused : (s : List ℕ) (table work : ℕ) (x : CodeOption F.Refusal) (f : Refusal) → refusal_view x ≡ some f → number f ≤ 2
    → ((t w : List ℕ) → length t ≡ table → length w ≡ work → (r : A.Answer) → refusal_view r.refusal ≡ some f → r.place ≡ 0 → CheckSays s t w t w r)
    → Early s table work x
early_refused s table work x f e h says = record {
  passes = λ n. absurd (none≢some (sym n ∙ e));
  low = λ g k. subst (λ z. number z ≤ 2) (some_inj (sym e ∙ k)) h;
  refuses = λ g k t w et ew r er ep. says t w et ew r (ap refusal_view er ∙ e) ep;
}

module _ (s : List ℕ) (table work : ℕ) (x : CodeOption F.Refusal) where
  pub early_table : refusal_view x ≡ some short_area → table < table_length → Early s table work x
  early_table e h = early_refused s table work x short_area e (lit≤ tt) (λ t w et ew r n p. short_table s t w r (subst (λ m. m < table_length) (sym et) h) n p)

  pub early_work : refusal_view x ≡ some short_area → work < work_length → Early s table work x
  early_work e h = early_refused s table work x short_area e (lit≤ tt) (λ t w et ew r n p. short_work s t w r (subst (λ m. m < work_length) (sym ew) h) n p)

  pub early_long : refusal_view x ≡ some too_long → table_length ≤ table → work_length ≤ work → verdict s ≡ refused too_long 0 → Early s table work x
  early_long e ht hw v =
      early_refused s table work x too_long e (lit≤ tt)
      (λ t w et ew r n p. too_long_lem s t w r (subst (λ m. table_length ≤ m) (sym et) ht) (subst (λ m. work_length ≤ m) (sym ew) hw) v n p)

  pub early_none : refusal_view x ≡ none → table_length ≤ table → work_length ≤ work → length s ≤ max_bytes → length (lines s) ≤ max_lines → Early s table work x
  early_none e ht hw hb hl = record {
    passes = λ n. (ht, hw, hb, hl);
    low = λ f k. absurd (none≢some (sym e ∙ k));
    refuses = λ f k. absurd (none≢some (sym e ∙ k));
  }

  module _ (b : Bool) (h : Early s table work x) (e : b ≡ is_some (refusal_view x)) where
    pub early_says : b ≡ true → (t w : List ℕ) → length t ≡ table → length w ≡ work → (r : A.Answer) → r.refusal ≡ x → r.place ≡ 0 → CheckSays s t w t w r
    early_says k = let g = flag_some b (refusal_view x) e k in h.refuses g.0 g.1

    pub early_passes : b ≡ false → (table_length ≤ table) × (work_length ≤ work) × (length s ≤ max_bytes) × (length (lines s) ≤ max_lines)
    early_passes k = h.passes (flag_none b (refusal_view x) e k)

-- ---- for the services that go on from Check

-- no refusal: the areas are long enough, and the verdict is the file's
pub unless_accepted : (b : Bool) (v : Verdict) → (answer_of (unless b v)).number ≡ 0 → (b ≡ false) × (unless b v ≡ v)
unless_accepted true v e = absurd (omega arith)
unless_accepted false v e = (refl, refl)
