-- Files as bytes: Check's verdict and the judgements, and the turned file.
use Prim.Native.Nat.{ℕ, ◌<◌, ◌≤◌}
use native.Mathlib.Nat.{ne_of_gt}
use native.Mathlib.Omega.{arith}
use mathlib.Core.Path.{◌≡◌, refl, sym, ap, ap₂, ◌∙◌, subst}
use mathlib.Core.Logic.{◌↔◌}
use mathlib.Core.Bool.{Bool, true, false, cond, ◌||◌, false≢true}
use mathlib.Core.Option.{Option, none, some}
use mathlib.Core.List.{List, Memᴰ}
use lib.Dec.{ltb}
use lib.ListN.{length, length-map}
use borrow.Author.Tests.{lt-ltb}
use Rattle.limits.specs.Limits.{max_bytes, max_lines}
use Rattle.calculus.specs.Tools.{stages, or_else}
use Rattle.calculus.specs.Trees.{left, right}
use Rattle.calculus.specs.Refusals.{Kind, Refusal, number, short_area, too_long, bad_line, misplaced, bad_field, bad_name, ceiling, variable, let_shape, bad_type}
use Rattle.calculus.specs.Refusals.{overlap, gap, no_iso, no_value, spent, too_many, too_high, bad_list, idle, bad_script, recursion, too_large}
use Rattle.format.specs.Lines.{Row, lines, without_returns, print, print_rows}
use Rattle.format.specs.Judge.{start, Reading, rows, faulty, read_from}
use Rattle.format.specs.Unfold.{isos_of, turn_rows}
use Rattle.format.specs.Idle.{idle_fault}
use Rattle.format.specs.Code.{numbered}
use Rattle.calculus.specs.Clauses.{fault, sigs_of}
use Rattle.model.specs.Services.{Verdict, accepted, refused, judged, file_tests, after_reading, over, verdict, answer_of, refusal_by, turned, turned_of}
use Rattle.calculus.specs.Paper.{FileOk}
use Rattle.calculus.specs.Faulty.{FirstIso}
pub use Rattle.model.specs.Answers.{InForm}
use Rattle.calculus.proofs.Basic.{stages_none, some_pair, neither, ltb_false, not_ltb}
use Rattle.calculus.proofs.Formed.{Formed}
use Rattle.calculus.proofs.Checking.{file_ok, file_fault}
use Rattle.calculus.proofs.Inverted.{file_invert}
use Rattle.format.proofs.Passing.{Passes, formed}
use Rattle.format.proofs.Turning.{turn_turn, isos_turn, passes_turn}
use Rattle.format.proofs.Idling.{idle_none, idle_some, idle_turn}
use Rattle.format.proofs.Endings.{without_length}
use Rattle.format.proofs.Printing.{WellFormed, read_rows, read_count, lines_print, reading_printed, printed_reading, length_print_rows_turn, wellformed_turn, length_turn_rows}

-- ---- verdicts

pub refused≢accepted : {f : Refusal} {n : ℕ} {rs : List Row} → refused f n ≡ accepted rs → ⊥
refused≢accepted e = false≢true cc

pub accepted_inj : {rs qs : List Row} → accepted rs ≡ accepted qs → rs ≡ qs
accepted_inj e = cc

pub passes : (bs : List ℕ) (rs : List Row) → InForm bs rs → Passes start rs
passes bs rs h = (read_rows start 1 (lines bs) rs h.reads).2

-- what reading guarantees of the isos
pub formed_of : (bs : List ℕ) (rs : List Row) → InForm bs rs → Formed (isos_of rs)
formed_of bs rs h = formed (passes bs rs h)

-- the verdict of a file whose lines are in form
pub verdict_in_form : (bs : List ℕ) (rs : List Row) → InForm bs rs → verdict bs ≡ judged rs (fault (isos_of rs))
unfolding verdict
verdict_in_form bs rs h =
    ap (λ b. cond b (refused too_long 0) (after_reading (read_from start 1 (lines bs)))) h.fits
    ∙ ap after_reading h.reads
    ∙ ap (λ o. judged rs (or_else o (fault (isos_of rs)))) ((idle_none (passes bs rs h)).1 h.used)

pub judged_accepted : (rs qs : List Row) (x : Option (Refusal × ℕ)) → judged rs x ≡ accepted qs → (rs ≡ qs) × (x ≡ none)
judged_accepted rs qs none e = (accepted_inj e, refl)
judged_accepted rs qs (some f) e = absurd (refused≢accepted e)

-- rows that pass every stage behind the reading have no faulty iso
isos_stage : (rs : List Row) → stages file_tests rs ≡ none → fault (isos_of rs) ≡ none
isos_stage rs e = stages_none rs file_tests e (λ qs. fault (isos_of qs)) (Memᴰ.tail (Memᴰ.head refl))

-- and no idle line
idle_stage : (rs : List Row) → stages file_tests rs ≡ none → idle_fault rs ≡ none
idle_stage rs e = stages_none rs file_tests e idle_fault (Memᴰ.head refl)

-- an accepted file is in form, and no iso of it has a fault
pub accepted_form : (bs : List ℕ) (rs : List Row) → verdict bs ≡ accepted rs → InForm bs rs × (fault (isos_of rs) ≡ none)
unfolding verdict
accepted_form bs rs = go (over bs) (read_from start 1 (lines bs)) refl refl
  where
    go : (b : Bool) (r : Reading) → over bs ≡ b → read_from start 1 (lines bs) ≡ r → cond b (refused too_long 0) (after_reading r) ≡ accepted rs
        → InForm bs rs × (fault (isos_of rs) ≡ none)
    go true r hb hr e = absurd (refused≢accepted e)
    go false (faulty f n) hb hr e = absurd (refused≢accepted e)
    go false (rows qs) hb hr e =
        let j = judged_accepted qs rs (stages file_tests qs) e in
        let reads : read_from start 1 (lines bs) ≡ rows rs = hr ∙ ap rows j.0 in
        let used = (idle_none (read_rows start 1 (lines bs) rs reads).2).0 (subst (λ q. idle_fault q ≡ none) j.0 (idle_stage qs j.1)) in
        (record { fits = hb; reads = reads; used = used }, subst (λ q. fault (isos_of q) ≡ none) j.0 (isos_stage qs j.1))

-- the verdict of a file whose lines pass 3 to 7
pub verdict_read : (bs : List ℕ) (rs : List Row) → over bs ≡ false → read_from start 1 (lines bs) ≡ rows rs → verdict bs ≡ judged rs (or_else (idle_fault rs) (fault (isos_of rs)))
unfolding verdict
verdict_read bs rs o e = ap (λ b. cond b (refused too_long 0) (after_reading (read_from start 1 (lines bs)))) o ∙ ap after_reading e

pub passes_read : (bs : List ℕ) (rs : List Row) → read_from start 1 (lines bs) ≡ rows rs → Passes start rs
passes_read bs rs e = (read_rows start 1 (lines bs) rs e).2

-- … is in form, or has an idle line, and then is refused there
pub data ReadCases (bs : List ℕ) (rs : List Row) : Type 0 where
  in_form : InForm bs rs → ReadCases bs rs
  idle_at : (k : Kind) (n : ℕ) → idle_fault rs ≡ some (idle k, n) → verdict bs ≡ refused (idle k) n → ReadCases bs rs

pub read_cases : (bs : List ℕ) (rs : List Row) → over bs ≡ false → read_from start 1 (lines bs) ≡ rows rs → ReadCases bs rs
read_cases bs rs o e = go (idle_fault rs) refl
  where
    go : (x : Option (Refusal × ℕ)) → idle_fault rs ≡ x → ReadCases bs rs
    go none h = ReadCases.in_form (record { fits = o; reads = e; used = (idle_none (passes_read bs rs e)).0 h })
    go (some f) h =
        let w = (idle_some (passes_read bs rs e) f.0 f.1).0 h in
        let i : idle_fault rs ≡ some (idle w.row.kind, f.1) = h ∙ some_pair w.refusal refl in
        ReadCases.idle_at w.row.kind f.1 i (verdict_read bs rs o e ∙ ap (λ x. judged rs (or_else x (fault (isos_of rs)))) i)

-- Check's verdict is "accepted" exactly when the lines are in form and the judgements hold of the unfolded file.
pub accepted_iff : (bs : List ℕ) (rs : List Row) → (verdict bs ≡ accepted rs) ↔ (InForm bs rs × FileOk (isos_of rs))
accepted_iff bs rs = (
  (λ e. let h = accepted_form bs rs e in (h.0, (file_ok (isos_of rs) (formed_of bs rs h.0)).0 h.1)),
  (λ h. verdict_in_form bs rs h.0 ∙ ap (judged rs) ((file_ok (isos_of rs) (formed_of bs rs h.0)).1 h.1)),
)

pub judged_refused : (rs : List Row) (x : Option (Refusal × ℕ)) (f : Refusal) (n : ℕ) → judged rs x ≡ refused f n → x ≡ some (f, n)
judged_refused rs none f n e = absurd (refused≢accepted (sym e))
judged_refused rs (some g) f n e =
    let p : g.0 ≡ f = cc in
    let q : g.1 ≡ n = cc in
    some_pair p q

-- Each of 8 to 14 and 23 is given, at its line, exactly when its condition is the first that fails.
pub refused_iff : (bs : List ℕ) (rs : List Row) → InForm bs rs → (f : Refusal) (n : ℕ)
    → (verdict bs ≡ refused f n) ↔ FirstIso (sigs_of (isos_of rs)) 0 (isos_of rs) f n
refused_iff bs rs h f n =
    let k = file_fault (isos_of rs) (formed_of bs rs h) f n in (
      (λ e. k.0 (judged_refused rs (fault (isos_of rs)) f n (sym (verdict_in_form bs rs h) ∙ e))),
      (λ j. verdict_in_form bs rs h ∙ ap (judged rs) (k.1 j)),
    )

-- no refusal has the number 0, so that `0,0` is the answer of accepted files alone
pub number_positive : (f : Refusal) → 0 < number f
number_positive short_area = omega arith
number_positive too_long = omega arith
number_positive bad_line = omega arith
number_positive (misplaced k) = omega arith
number_positive (bad_field k) = omega arith
number_positive (bad_name k) = omega arith
number_positive (ceiling k) = omega arith
number_positive (variable k) = omega arith
number_positive (let_shape k) = omega arith
number_positive (bad_type k) = omega arith
number_positive (overlap k left) = omega arith
number_positive (overlap k right) = omega arith
number_positive (gap k left) = omega arith
number_positive (gap k right) = omega arith
number_positive no_iso = omega arith
number_positive no_value = omega arith
number_positive spent = omega arith
number_positive too_many = omega arith
number_positive too_high = omega arith
number_positive bad_list = omega arith
number_positive (idle k) = omega arith
number_positive bad_script = omega arith
number_positive (recursion k) = omega arith
number_positive too_large = omega arith

-- the number of an answer is that of its refusal
pub number_by : (v : Verdict) → numbered (refusal_by v) ≡ (answer_of v).number
number_by (accepted rs) = refl
number_by (refused f n) = refl

-- an answer whose number is 0 is of an accepted file
pub answer_zero : (v : Verdict) → (answer_of v).number ≡ 0 → (rs : List Row) × (v ≡ accepted rs)
answer_zero (accepted rs) e = (rs, refl)
answer_zero (refused f n) e = absurd (ne_of_gt (number_positive f) e)

-- Check answers `0,0` exactly when there are rows in which the lines are in form and of which the judgements hold.
pub answer_iff : (bs : List ℕ) → (answer_of (verdict bs) ≡ record { number = 0; line = 0 }) ↔ ((rs : List Row) × InForm bs rs × FileOk (isos_of rs))
answer_iff bs = (
  (λ e. let r = answer_zero (verdict bs) (ap (λ a. a.number) e) in let h = (accepted_iff bs r.0).0 r.1 in (r.0, h.0, h.1)),
  (λ h. ap answer_of ((accepted_iff bs h.0).1 (h.1, h.2))),
)

-- ---- the turned file

-- a file of more than 65,536 bytes is refused 2, of no line
pub verdict_long : (bs : List ℕ) → max_bytes < length bs → verdict bs ≡ refused too_long 0
unfolding verdict over
verdict_long bs h = rw (lt-ltb _ _ h)

pub turned_accepted_bytes : (bs : List ℕ) (rs : List Row) → verdict bs ≡ accepted rs → turned bs ≡ print_rows (turn_rows rs)
unfolding turned
turned_accepted_bytes bs rs e = ap turned_of e

-- a file in form, its carriage returns taken out, is the printing of its rows
pub printed : (bs : List ℕ) (rs : List Row) → InForm bs rs → without_returns bs ≡ print_rows rs
printed bs rs h = reading_printed bs h.reads

wellformed : (bs : List ℕ) (rs : List Row) → InForm bs rs → (r : Row) → Memᴰ r rs → WellFormed r
wellformed bs rs h = (read_rows start 1 (lines bs) rs h.reads).1

-- a file that is shorter than one that is not too long, and has as many lines, is not too long
over_less : (bs cs : List ℕ) → length cs ≤ length bs → length (lines cs) ≡ length (lines bs) → over bs ≡ false → over cs ≡ false
unfolding over
over_less bs cs p q e =
    let (few_bytes, few_lines) = neither (ltb max_bytes (length bs)) (ltb max_lines (length (lines bs))) e in
    let short : length bs ≤ max_bytes = ltb_false max_bytes (length bs) few_bytes in
    ap₂ ◌||◌ (not_ltb {m = max_bytes} {n = length cs} (omega arith)) (ap (ltb max_lines) q ∙ few_lines)

turned_length_rows : (bs : List ℕ) (rs : List Row) → InForm bs rs → length (print_rows (turn_rows rs)) ≡ length (without_returns bs)
turned_length_rows bs rs h = length_print_rows_turn rs ∙ ap length (sym (printed bs rs h))

turned_lines : (bs : List ℕ) (rs : List Row) → InForm bs rs → length (lines (print_rows (turn_rows rs))) ≡ length (lines bs)
turned_lines bs rs h =
    ap length (lines_print (turn_rows rs))
    ∙ length-map (turn_rows rs) print
    ∙ length_turn_rows rs
    ∙ sym (read_count start 1 (lines bs) rs h.reads)

pub turned_form : (bs : List ℕ) (rs : List Row) → InForm bs rs → InForm (print_rows (turn_rows rs)) (turn_rows rs)
turned_form bs rs h =
    record {
      fits = over_less bs (print_rows (turn_rows rs)) (let p = turned_length_rows bs rs h in let q = without_length bs in omega arith) (turned_lines bs rs h) h.fits;
      reads = printed_reading (passes_turn (passes bs rs h)) (wellformed_turn rs (wellformed bs rs h));
      used = (idle_none (passes_turn (passes bs rs h))).0 (idle_turn (passes bs rs h) ∙ (idle_none (passes bs rs h)).1 h.used);
    }

-- the judgements hold of the turned rows too
pub turned_ok : (rs : List Row) → Passes start rs → FileOk (isos_of rs) → FileOk (isos_of (turn_rows rs))
turned_ok rs p h = subst FileOk (sym (isos_turn rs p)) (file_invert (isos_of rs) h)

-- Check accepts the turned bytes of every accepted file, and its rows are the turned rows.
pub turned_accepted : (bs : List ℕ) (rs : List Row) → verdict bs ≡ accepted rs → verdict (turned bs) ≡ accepted (turn_rows rs)
turned_accepted bs rs e =
    let h = (accepted_iff bs rs).0 e in
    ap verdict (turned_accepted_bytes bs rs e)
    ∙ (accepted_iff (print_rows (turn_rows rs)) (turn_rows rs)).1
    (turned_form bs rs h.0, turned_ok rs (passes bs rs h.0) h.1)

-- the turned bytes have the length of the file with its carriage returns taken out, so that they fit where the file does
pub turned_length : (bs : List ℕ) (rs : List Row) → verdict bs ≡ accepted rs → length (turned bs) ≡ length (without_returns bs)
turned_length bs rs e = ap length (turned_accepted_bytes bs rs e) ∙ turned_length_rows bs rs (accepted_form bs rs e).0

pub turned_fits : (bs : List ℕ) (rs : List Row) → verdict bs ≡ accepted rs → length (turned bs) ≤ length bs
turned_fits bs rs e = let p = turned_length bs rs e in let q = without_length bs in omega arith

-- "turning twice gives the first file with its carriage returns taken out"
pub turned_twice : (bs : List ℕ) (rs : List Row) → verdict bs ≡ accepted rs → turned (turned bs) ≡ without_returns bs
turned_twice bs rs e =
    turned_accepted_bytes (turned bs) (turn_rows rs) (turned_accepted bs rs e)
    ∙ ap print_rows (turn_turn rs)
    ∙ sym (printed bs rs (accepted_form bs rs e).0)
