-- Refusals 1 to 7 and the order of lines: the statements of `specs/Faults.antt`, proved.
use Prim.Native.Nat.{ℕ, suc, ◌≤◌, ◌<◌}
use native.Mathlib.Omega.{arith}
use mathlib.Core.Path.{◌≡◌, refl, sym, ap, ap₂, ◌∙◌, subst}
use mathlib.Core.Logic.{◌↔◌, ◌⊎◌, inl, inr, ⊎_elim}
use mathlib.Core.Bool.{Bool, true, false, cond, ◌||◌, false≢true}
use mathlib.Core.Option.{Option, none, some}
use mathlib.Core.List.{List, [], ◌∷◌}
use lib.Dec.{ltb}
use lib.ListN.{length}
use Rattle.limits.specs.Limits.{max_bytes, max_lines, table_length, work_length}
use Rattle.calculus.specs.Tools.{first_failing, or_else}
use Rattle.calculus.specs.Refusals.{Kind, type_line, pattern_line, iso_line, clause_line, let_line, Refusal, number, too_long, misplaced, bad_field, bad_name, ceiling, idle}
use Rattle.format.specs.Lines.{Row, lines, row_of}
use Rattle.format.specs.Judge.{Seen, start, in_order, fields_fit, named, within_ceilings, judge, after_kind, after, Reading, rows, faulty, with_row, on_row, on_judged, read_from}
use Rattle.calculus.specs.Trees.{Ty, Clause, Iso}
use Rattle.calculus.specs.Clauses.{Sigs, fault}
use Rattle.format.specs.Unfold.{isos_of}
use Rattle.format.specs.Idle.{FirstIdle}
use Rattle.format.proofs.Idling.{idle_some}
use Rattle.model.specs.Services.{Verdict, accepted, refused, judged, after_reading, over, verdict, short, unless, Answer, answer_of, check, turn, Ran, run_on, run_of, run, answer_of_run, run_service}
use Rattle.calculus.specs.Faulty.{ClauseFault, variables, shapes, SideFault, overlap_left, overlap_right, gap_left, gap_right, FirstClause, Breach, IsoFault, FirstIso}
use Rattle.model.specs.Answers.{RunIs, absent, strange, passed, large, done}
use Rattle.calculus.proofs.Basic.{none≢some, some_inj, bool_cases, neither, ltb_lt, lt_ltb, ltb_false, not_ltb, or_true, true_or_left, true_or_right}
use Rattle.format.proofs.Passing.{Passes, Passes.done, judge_fit, fit_judge}
use Rattle.model.proofs.Files.{passes, refused_iff, passes_read, verdict_read, ReadCases, read_cases}
use Rattle.model.proofs.Outcomes.{turn_answer, refused_first}
use Rattle.model.proofs.Runs.{run_iff}
use Rattle.demands.specs.Words.{Areas, OfFile}
use Rattle.demands.proofs.Serving.{check_says, turn_says, run_shows}
use Rattle.demands.proofs.Leaving.{says_tells}
use Rattle.demands.specs.Faults.{Checks, Runs, NumberedAnswers, IdleExactly, ShortExactly, TurnShortExactly, RunShortExactly, LongExactly, TurnAsCheck}
use Rattle.demands.specs.Faults.{RunAsCheck, LinesExactly, LineFault, LinePasses, FirstLine, here, later, Place, types, patterns, clauses, lets, Stand}
use Rattle.demands.specs.Faults.{type, no_type, pattern, no_pattern, iso, clause, no_clause, let_step, no_let, end, RowsInOrder}
use Rattle.law_reordering.proofs.Unmoved.{with_row_faulty}

-- ---- one line

-- the lowest of 4 to 7 by four tests
abbrev lowest : Kind → Bool → Bool → Bool → Bool → Option Refusal
lowest k a b c d = first_failing ((a, misplaced k) ∷ (b, bad_field k) ∷ (c, bad_name k) ∷ (d, ceiling k) ∷ [])

module _ (s : Seen) (l : List ℕ) (r : Row) (there : row_of l ≡ some r) where
  judged_fault : {f : Refusal} → judge s r ≡ some f → LineFault s l f
  unfolding judge
  judged_fault {f} = go (in_order s.above r.kind) (fields_fit r.kind r) (named s r.kind r) (within_ceilings s r.kind r) refl refl refl refl
    where
      go : (a b c d : Bool) → in_order s.above r.kind ≡ a → fields_fit r.kind r ≡ b → named s r.kind r ≡ c → within_ceilings s r.kind r ≡ d
          → lowest r.kind a b c d ≡ some f → LineFault s l f
      go false b c d p q x y e = subst (LineFault s l) (some_inj e) (LineFault.order r there p)
      go true false c d p q x y e = subst (LineFault s l) (some_inj e) (LineFault.fields r there p q)
      go true true false d p q x y e = subst (LineFault s l) (some_inj e) (LineFault.names r there p q x)
      go true true true false p q x y e = subst (LineFault s l) (some_inj e) (LineFault.ceilings r there p q x y)
      go true true true true p q x y e = absurd (none≢some e)

-- the rows that a line is, and what the judge says of it, in the reading of the lines from it on
module _ (s : Seen) (n : ℕ) (l : List ℕ) (ls : List (List ℕ)) where
  abbrev behind : Row → Reading
  behind r = on_judged n (judge s r) (λ _. with_row r (read_from (after s r) (suc n) ls))

  fault_read : {f : Refusal} → LineFault s l f → read_from s n (l ∷ ls) ≡ faulty f n
  unfolding judge
  fault_read (LineFault.form e) = ap (λ o. on_row n o behind) e
  fault_read (LineFault.order r e p) = ap (λ o. on_row n o behind) e ∙ rw p
  fault_read (LineFault.fields r e p q) = ap (λ o. on_row n o behind) e ∙ rw (p, q)
  fault_read (LineFault.names r e p q x) = ap (λ o. on_row n o behind) e ∙ rw (p, q, x)
  fault_read (LineFault.ceilings r e p q x y) = ap (λ o. on_row n o behind) e ∙ rw (p, q, x, y)

  pass_read : (r : Row) → LinePasses s l r → read_from s n (l ∷ ls) ≡ with_row r (read_from (after s r) (suc n) ls)
  pass_read r p =
      ap (λ o. on_row n o behind) p.form
      ∙ ap (λ o. on_judged n o (λ _. with_row r (read_from (after s r) (suc n) ls)))
      (fit_judge s r (record { order = p.order; fields = p.fields; names = p.names; ceilings = p.ceilings }))

-- ---- all lines

read_first : (s : Seen) (n : ℕ) (ls : List (List ℕ)) {f : Refusal} {m : ℕ} → read_from s n ls ≡ faulty f m → FirstLine s n ls f m
read_first s n [] e = absurd (false≢true cc)
read_first s n (l ∷ ls) {f} {m} e = go (row_of l) refl (λ r x. read_first (after s r) (suc n) ls x) e
  where
    at_line : {g : Refusal} → LineFault s l g → faulty g n ≡ faulty f m → FirstLine s n (l ∷ ls) f m
    at_line {g} x h = let same : g ≡ f = cc in let line : m ≡ n = cc in here (subst (LineFault s l) same x) line

    on : (r : Row) → row_of l ≡ some r → (read_from (after s r) (suc n) ls ≡ faulty f m → FirstLine (after s r) (suc n) ls f m)
        → (x : Option Refusal) → judge s r ≡ x → on_judged n x (λ _. with_row r (read_from (after s r) (suc n) ls)) ≡ faulty f m → FirstLine s n (l ∷ ls) f m
    on r there ih none j h =
        let t = judge_fit s r j in
        later r (record { form = there; order = t.order; fields = t.fields; names = t.names; ceilings = t.ceilings }) (ih (with_row_faulty r (read_from (after s r) (suc n) ls) f m h))
    on r there ih (some g) j h = at_line (judged_fault s l r there j) h

    go : (o : Option Row) → row_of l ≡ o
        → ((r : Row) → read_from (after s r) (suc n) ls ≡ faulty f m → FirstLine (after s r) (suc n) ls f m)
        → on_row n o (λ r. on_judged n (judge s r) (λ _. with_row r (read_from (after s r) (suc n) ls))) ≡ faulty f m → FirstLine s n (l ∷ ls) f m
    go none there ih h = at_line (LineFault.form there) h
    go (some r) there ih h = on r there (ih r) (judge s r) refl h

first_read : {s : Seen} {n : ℕ} {ls : List (List ℕ)} {f : Refusal} {m : ℕ} → FirstLine s n ls f m → read_from s n ls ≡ faulty f m
first_read {s} {n} {ls = l ∷ ls} {f} (here x e) = fault_read s n l ls x ∙ ap (faulty f) (sym e)
first_read {s} {n} {ls = l ∷ ls} (later r p x) = pass_read s n l ls r p ∙ ap (with_row r) (first_read x)
first_read {ls = []} x'' = elim x'' [ ]

-- the numbers of such faults
line_number : {s : Seen} {l : List ℕ} {f : Refusal} → LineFault s l f → (3 ≤ number f) × (number f ≤ 7)
line_number (LineFault.form e) = (omega arith, omega arith)
line_number (LineFault.order r e p) = (omega arith, omega arith)
line_number (LineFault.fields r e p q) = (omega arith, omega arith)
line_number (LineFault.names r e p q x) = (omega arith, omega arith)
line_number (LineFault.ceilings r e p q x y) = (omega arith, omega arith)

first_number : {s : Seen} {n : ℕ} {ls : List (List ℕ)} {f : Refusal} {m : ℕ} → FirstLine s n ls f m → (3 ≤ number f) × (number f ≤ 7)
first_number (here x e) = line_number x
first_number (later r p x) = first_number x

-- ---- the order of lines

-- where the rows behind a row stand
abbrev place_behind : Option Kind → Place
place_behind none = types
place_behind (some type_line) = types
place_behind (some pattern_line) = patterns
place_behind (some iso_line) = clauses
place_behind (some clause_line) = lets
place_behind (some let_line) = lets

at_end : (a : Option Kind) → Stand (place_behind a) []
at_end none = no_type (no_pattern end)
at_end (some type_line) = no_type (no_pattern end)
at_end (some pattern_line) = no_pattern end
at_end (some iso_line) = no_clause end
at_end (some clause_line) = no_let (no_clause end)
at_end (some let_line) = no_let (no_clause end)

-- a row in order stands behind the one above it
in_order_lem : (a : Option Kind) (k : Kind) (r : Row) (rs : List Row) → r.kind ≡ k → in_order a k ≡ true → Stand (place_behind (some k)) rs → Stand (place_behind a) (r ∷ rs)
in_order_lem none type_line r rs h e x = type h x
in_order_lem none pattern_line r rs h e x = no_type (pattern h x)
in_order_lem none iso_line r rs h e x = no_type (no_pattern (iso h x))
in_order_lem none clause_line r rs h e x = absurd (false≢true e)
in_order_lem none let_line r rs h e x = absurd (false≢true e)
in_order_lem (some type_line) type_line r rs h e x = type h x
in_order_lem (some type_line) pattern_line r rs h e x = no_type (pattern h x)
in_order_lem (some type_line) iso_line r rs h e x = no_type (no_pattern (iso h x))
in_order_lem (some type_line) clause_line r rs h e x = absurd (false≢true e)
in_order_lem (some type_line) let_line r rs h e x = absurd (false≢true e)
in_order_lem (some pattern_line) type_line r rs h e x = absurd (false≢true e)
in_order_lem (some pattern_line) pattern_line r rs h e x = pattern h x
in_order_lem (some pattern_line) iso_line r rs h e x = no_pattern (iso h x)
in_order_lem (some pattern_line) clause_line r rs h e x = absurd (false≢true e)
in_order_lem (some pattern_line) let_line r rs h e x = absurd (false≢true e)
in_order_lem (some iso_line) type_line r rs h e x = absurd (false≢true e)
in_order_lem (some iso_line) pattern_line r rs h e x = absurd (false≢true e)
in_order_lem (some iso_line) iso_line r rs h e x = no_clause (iso h x)
in_order_lem (some iso_line) clause_line r rs h e x = clause h x
in_order_lem (some iso_line) let_line r rs h e x = absurd (false≢true e)
in_order_lem (some clause_line) type_line r rs h e x = absurd (false≢true e)
in_order_lem (some clause_line) pattern_line r rs h e x = absurd (false≢true e)
in_order_lem (some clause_line) iso_line r rs h e x = no_let (no_clause (iso h x))
in_order_lem (some clause_line) clause_line r rs h e x = no_let (clause h x)
in_order_lem (some clause_line) let_line r rs h e x = let_step h x
in_order_lem (some let_line) type_line r rs h e x = absurd (false≢true e)
in_order_lem (some let_line) pattern_line r rs h e x = absurd (false≢true e)
in_order_lem (some let_line) iso_line r rs h e x = no_let (no_clause (iso h x))
in_order_lem (some let_line) clause_line r rs h e x = no_let (clause h x)
in_order_lem (some let_line) let_line r rs h e x = let_step h x

above_after : (k : Kind) (s : Seen) (r : Row) → (after_kind k s r).above ≡ some k
above_after type_line s r = refl
above_after pattern_line s r = refl
above_after iso_line s r = refl
above_after clause_line s r = refl
above_after let_line s r = refl

pass_order : {s : Seen} {rs : List Row} → Passes s rs → Stand (place_behind s.above) rs
pass_order {s} Passes.done = at_end s.above
pass_order {s} (Passes.next {r = r} {rs = rs} e p) =
    in_order_lem s.above r.kind r rs refl (judge_fit s r e).order
    (subst (λ a. Stand (place_behind a) rs) (above_after r.kind s r) (pass_order p))

pub rows_in_order : RowsInOrder
unfolding start
rows_in_order file rs f = pass_order (passes file rs f)

-- ---- the numbers that a verdict has

clause_number : {sigs : Sigs} {a b : Ty} {c : Clause} {f : Refusal} → ClauseFault sigs a b c f → (8 ≤ number f) × (number f ≤ 14)
clause_number (variables x) = (omega arith, omega arith)
clause_number (shapes x y) = (omega arith, omega arith)
clause_number (ClauseFault.types x y z) = (omega arith, omega arith)

side_number : {o : Iso} {f : Refusal} → SideFault o f → (8 ≤ number f) × (number f ≤ 14)
side_number (overlap_left x) = (omega arith, omega arith)
side_number (overlap_right x y) = (omega arith, omega arith)
side_number (gap_left x y z) = (omega arith, omega arith)
side_number (gap_right x y z u) = (omega arith, omega arith)

in_clauses : {sigs : Sigs} {a b : Ty} {cs : List Clause} {f : Refusal} {n : ℕ} → FirstClause sigs a b cs f n → (8 ≤ number f) × (number f ≤ 14)
in_clauses (FirstClause.here x e) = clause_number x
in_clauses (FirstClause.later y x) = in_clauses x

-- the number of an iso's fault: 8 to 14, or 23
abbrev IsoNumber : ℕ → Type 0
IsoNumber n = ((8 ≤ n) × (n ≤ 14)) ⊎ (n ≡ 23)

breach_number : {i : ℕ} {o : Iso} {f : Refusal} {n : ℕ} → Breach i o f n → number f ≡ 23
breach_number (Breach.in_type x e) = refl
breach_number (Breach.in_clause x y) = refl

in_iso : {sigs : Sigs} {i : ℕ} {o : Iso} {f : Refusal} {n : ℕ} → IsoFault sigs i o f n → IsoNumber (number f)
in_iso (IsoFault.in_clause x) = inl (in_clauses x)
in_iso (IsoFault.in_recursion y z x) = inr (breach_number x)
in_iso (IsoFault.in_sides y z x e) = inl (side_number x)

in_isos : {sigs : Sigs} {i : ℕ} {os : List Iso} {f : Refusal} {n : ℕ} → FirstIso sigs i os f n → IsoNumber (number f)
in_isos (FirstIso.here x) = in_iso x
in_isos (FirstIso.later y x) = in_isos x

-- what a file that is not too long is refused for: its first line at fault, or an iso, or an idle line
abbrev Later : ℕ → Type 0
Later n = IsoNumber n ⊎ (n ≡ 21)

later_high : (n : ℕ) → Later n → 8 ≤ n
later_high n (inl (inl h)) = h.0
later_high n (inl (inr h)) = omega arith
later_high n (inr h) = omega arith

later_file : (n : ℕ) → Later n → OfFile n
later_file n (inl (inl (h, k))) = inl (omega arith, k)
later_file n (inl (inr h)) = inr (inr h)
later_file n (inr h) = inr (inl h)

refused_for : (file : List ℕ) {f : Refusal} {m : ℕ} → over file ≡ false → verdict file ≡ refused f m → FirstLine start 1 (lines file) f m ⊎ Later (number f)
unfolding verdict
refused_for file {f} {m} short_enough e =
    go (read_from start 1 (lines file)) refl (sym (ap (λ b. cond b (refused too_long 0) (after_reading (read_from start 1 (lines file)))) short_enough) ∙ e)
  where
    go : (r : Reading) → read_from start 1 (lines file) ≡ r → after_reading r ≡ refused f m → FirstLine start 1 (lines file) f m ⊎ Later (number f)
    go (faulty g k) h x =
        let same : g ≡ f = cc in
        let line : k ≡ m = cc in
        inl (read_first start 1 (lines file) (h ∙ ap₂ faulty same line))
    go (rows rs) h x = read (read_cases file rs short_enough h)
      where
        read : ReadCases file rs → FirstLine start 1 (lines file) f m ⊎ Later (number f)
        read (ReadCases.in_form i) = inr (inl (in_isos ((refused_iff file rs i f m).0 e)))
        read (ReadCases.idle_at k n i v) =
            let z = sym v ∙ e in
            let same : idle k ≡ f = cc in
            inr (inr (ap number (sym same)))

too_long_lem : (file : List ℕ) → over file ≡ true → verdict file ≡ refused too_long 0
unfolding verdict
too_long_lem file e = ap (λ b. cond b (refused too_long 0) (after_reading (read_from start 1 (lines file)))) e

at_a_line : (file : List ℕ) {f : Refusal} {m : ℕ} → over file ≡ false → FirstLine start 1 (lines file) f m → verdict file ≡ refused f m
unfolding verdict
at_a_line file e x =
    ap (λ b. cond b (refused too_long 0) (after_reading (read_from start 1 (lines file)))) e ∙ ap after_reading (first_read x)

-- ---- 1 to 7

abbrev said : ℕ → ℕ → Answer
said n m = record { number = n; line = m }

-- "over 65,536 bytes or 4,096 lines"
over_iff : (file : List ℕ) → (over file ≡ true) ↔ ((max_bytes < length file) ⊎ (max_lines < length (lines file)))
unfolding over
over_iff file = (
  (λ e. ⊎_elim (λ a. inl (ltb_lt max_bytes (length file) a)) (λ b. inr (ltb_lt max_lines (length (lines file)) b)) (or_true (ltb max_bytes (length file)) (ltb max_lines (length (lines file))) e)),
  ⊎_elim (λ a. true_or_left (ltb max_lines (length (lines file))) (lt_ltb a)) (λ b. true_or_right (ltb max_bytes (length file)) (lt_ltb b)),
)

-- a verdict is refused with 2, a line's number or an iso's
verdict_high : (file : List ℕ) {f : Refusal} {m : ℕ} → verdict file ≡ refused f m → ((over file ≡ true) × (f ≡ too_long) × (m ≡ 0)) ⊎ ((over file ≡ false) × OfFile (number f))
verdict_high file {f} {m} e = go (bool_cases (over file))
  where
    low : FirstLine start 1 (lines file) f m ⊎ Later (number f) → OfFile (number f)
    low (inl x) = let (h, k) = first_number x in inl (h, omega arith)
    low (inr x) = later_file (number f) x

    go : (over file ≡ true) ⊎ (over file ≡ false) → ((over file ≡ true) × (f ≡ too_long) × (m ≡ 0)) ⊎ ((over file ≡ false) × OfFile (number f))
    go (inl t) =
        let h = sym (too_long_lem file t) ∙ e in
        let refusal : too_long ≡ f = cc in
        let line : 0 ≡ m = cc in
        inl (t, sym refusal, sym line)
    go (inr t) = inr (t, low (refused_for file t e))

-- such a number is above 2
above_two : (n : ℕ) → OfFile n → 3 ≤ n
above_two n (inl x) = x.0
above_two n (inr (inl x)) = omega arith
above_two n (inr (inr x)) = omega arith

-- no file is refused with 1
pub no_one : (file : List ℕ) (v : Verdict) → verdict file ≡ v → (answer_of v).number ≡ 1 → ⊥
no_one file (accepted rs) e z = omega arith
no_one file (refused f m) e z = ⊎_elim (λ (o, p, q). let y = ap number p in omega arith) (λ (o, p). let y = above_two (number f) p in omega arith) (verdict_high file e)

long_areas : (t w : List ℕ) → short t w ≡ false → Areas t w
long_areas t w b =
    let (p, q) = neither (ltb (length t) table_length) (ltb (length w) work_length) b in
    record { long = ltb_false (length t) table_length p; wide = ltb_false (length w) work_length q }

pub short_exactly : ShortExactly
unfolding check
short_exactly file t w = (
  (λ e a. no_one file (verdict file) refl (ap (λ x. x.number) (sym (check_says file a) ∙ e))),
  (λ h. ⊎_elim (λ b. ap (λ x. answer_of (unless x (verdict file))) b) (λ b. absurd (h (long_areas t w b))) (bool_cases (short t w))),
)

-- the table, the work area and the output area are long enough
all_long : (t w o : List ℕ) (n : ℕ) → (short t w || ltb (length o) n) ≡ false → Areas t w × (n ≤ length o)
all_long t w o n b = let (p, q) = neither (short t w) (ltb (length o) n) b in (long_areas t w p, ltb_false (length o) n q)

pub turn_short_exactly : TurnShortExactly
unfolding turn
turn_short_exactly file t w o = (
  (λ e (a, h). no_one file (verdict file) refl (ap (λ x. x.number) (sym (turn_says file o a h) ∙ e))),
  (λ h. ⊎_elim (λ b. turn_answer file t w o ∙ ap (λ x. answer_of (unless x (verdict file))) b) (λ b. absurd (h (all_long t w o (length file) b)))
      (bool_cases (short t w || ltb (length o) (length file)))),
)

pub run_short_exactly : RunShortExactly
unfolding run_service run
run_short_exactly file t w i back budget value o = (
  (λ e (a, h). no_run (verdict file) refl (sym (ap (λ x. x.number) (run_shows file o i back budget value a h)) ∙ e)),
  (λ h. one h (bool_cases (short t w || ltb (length o) 127))),
)
  where
    at : (x : Bool) → x ≡ true → (answer_of_run (run_of (unless x (verdict file)) i back budget value)).number ≡ 1
    at x e = ap (λ x. (answer_of_run (run_of (unless x (verdict file)) i back budget value)).number) e

    one : (Areas t w × (127 ≤ length o) → ⊥) → ((short t w || ltb (length o) 127) ≡ true) ⊎ ((short t w || ltb (length o) 127) ≡ false)
        → (answer_of_run (run_of (unless (short t w || ltb (length o) 127) (verdict file)) i back budget value)).number ≡ 1
    one h (inl b) = at (short t w || ltb (length o) 127) b
    one h (inr b) = absurd (h (all_long t w o 127 b))

    no_run : (v : Verdict) → verdict file ≡ v → (answer_of_run (run_of v i back budget value)).number ≡ 1 → ⊥
    no_run (refused f m) e z = no_one file (refused f m) e z
    no_run (accepted rs) e z =
        let says = (run_iff file rs e i back budget value (run_of (accepted rs) i back budget value)).0 (ap (λ v. run_of v i back budget value) e) in
        ⊎_elim (λ p. omega arith) (λ (p, q, r). omega arith) (says_tells says)

pub long_exactly : LongExactly
long_exactly file t w a = (
  (λ e. (over_iff file).0 (two (verdict file) refl (sym (check_says file a) ∙ e))),
  (λ h. check_says file a ∙ ap answer_of (too_long_lem file ((over_iff file).1 h))),
)
  where
    two : (v : Verdict) → verdict file ≡ v → answer_of v ≡ said 2 0 → over file ≡ true
    two (accepted rs) e h = let z = ap (λ x. x.number) h in absurd (omega arith)
    two (refused f m) e h =
        let z = ap (λ x. x.number) h in
        ⊎_elim (λ (o, p, q). o) (λ (o, p). let y = above_two (number f) p in absurd (omega arith)) (verdict_high file e)

above_seven : (n : ℕ) → IsoNumber n → n ≤ 7 → ⊥
above_seven n (inl x) h = let y = x.0 in omega arith
above_seven n (inr x) h = omega arith

pub turn_as_check : TurnAsCheck
turn_as_check file t w output a h = turn_says file output a h ∙ sym (check_says file a)

pub run_as_check : RunAsCheck
unfolding run
run_as_check file t w i back budget value result a h p =
    ap (λ x. x.number) (run_shows file result i back budget value a h)
    ∙ (refused_first (verdict file) (run_on i back budget value) (subst (λ x. 0 < x.number) (check_says file a) p)).0
    ∙ sym (ap (λ x. x.number) (check_says file a))

pub lines_exactly : LinesExactly
unfolding over
lines_exactly file t w a few_bytes few_lines n m positive low = (
  (λ e. go (verdict file) refl (sym (check_says file a) ∙ e)),
  (λ (f, z, x). check_says file a ∙ ap answer_of (at_a_line file fits x) ∙ ap (λ k. said k m) z),
)
  where
    fits : over file ≡ false
    fits = ap₂ ◌||◌ (not_ltb few_bytes) (not_ltb few_lines)

    go : (v : Verdict) → verdict file ≡ v → answer_of v ≡ said n m → (f : Refusal) × (number f ≡ n) × FirstLine start 1 (lines file) f m
    go (accepted rs) e h = let z = ap (λ x. x.number) h in absurd (omega arith)
    go (refused f k) e h =
        let z = ap (λ x. x.number) h in
        let line = ap (λ x. x.line) h in
        (f, z, ⊎_elim (λ x. subst (FirstLine start 1 (lines file) f) line x) (λ x. absurd (omega (arith, later_high (number f) x))) (refused_for file fits e))

pub idle_exactly : IdleExactly
unfolding over
idle_exactly file t w a few_bytes few_lines m = (
  (λ e. go (verdict file) refl (sym (check_says file a) ∙ e)),
  (λ (rs, r, f, x).
      let p = (idle_some (passes_read file rs r) f m).1 x in
      check_says file a ∙ ap answer_of (verdict_read file rs fits r ∙ ap (λ o. judged rs (or_else o (fault (isos_of rs)))) p) ∙ ap (λ (g : Refusal). said (number g) m) x.refusal),
)
  where
    fits : over file ≡ false
    fits = ap₂ ◌||◌ (not_ltb few_bytes) (not_ltb few_lines)

    go : (v : Verdict) → verdict file ≡ v → answer_of v ≡ said 21 m → (rs : List Row) × (read_from start 1 (lines file) ≡ rows rs) × (f : Refusal) × FirstIdle rs f m
    go (accepted rs) e h = let z = ap (λ x. x.number) h in absurd (omega arith)
    go (refused f k) e h = on (read_from start 1 (lines file)) refl
      where
        idly : number f ≡ 21
        idly = ap (λ x. x.number) h

        no_iso_lem : IsoNumber (number f) → ⊥
        no_iso_lem (inl x) = omega (arith, idly, x.1)
        no_iso_lem (inr x) = omega (arith, idly)

        on : (r : Reading) → read_from start 1 (lines file) ≡ r → (rs : List Row) × (read_from start 1 (lines file) ≡ rows rs) × (f : Refusal) × FirstIdle rs f m
        on (faulty g j) r =
            let z = sym (at_a_line file fits (read_first start 1 (lines file) r)) ∙ e in
            let same : g ≡ f = cc in
            let low = (first_number (read_first start 1 (lines file) r)).1 in
            absurd (omega (arith, ap number same, idly))
        on (rows rs) r = read (read_cases file rs fits r)
          where
            read : ReadCases file rs → (qs : List Row) × (read_from start 1 (lines file) ≡ rows qs) × (g : Refusal) × FirstIdle qs g m
            read (ReadCases.in_form i) = absurd (no_iso_lem (in_isos ((refused_iff file rs i f k).0 e)))
            read (ReadCases.idle_at κ n i v) =
                let z = sym v ∙ e in
                let line : n ≡ k = cc in
                let place = line ∙ ap (λ x. x.line) h in
                (rs, r, idle κ, subst (FirstIdle rs (idle κ)) place ((idle_some (passes_read file rs r) (idle κ) n).0 i))

-- ---- numbered answers

file_checks : (n : ℕ) → OfFile n → Checks n
file_checks n (inl x) = inl x.1
file_checks n (inr x) = inr x

verdict_most : (file : List ℕ) (v : Verdict) → verdict file ≡ v → Checks (answer_of v).number
verdict_most file (accepted rs) e = inl (omega arith)
verdict_most file (refused f m) e = ⊎_elim (λ (o, p, q). let y = ap number p in inl (omega arith)) (λ (o, p). file_checks (number f) p) (verdict_high file e)

unless_most : (file : List ℕ) (b : Bool) → Checks (answer_of (unless b (verdict file))).number
unless_most file true = inl (omega arith)
unless_most file false = verdict_most file (verdict file) refl

says_most : {os : List Iso} {i budget : ℕ} {bs : List ℕ} {r : Ran} → RunIs os i budget bs r → Runs (answer_of_run r).number
says_most (absent e) = inl (omega arith)
says_most (strange o e h) = inl (omega arith)
says_most (passed o v w k e x h s l) = inl (omega arith)
says_most (large o v k e x h s l) = inr (inr (inr refl))
says_most (done o v w k e x h s l) = inl (omega arith)

checks_run : (n : ℕ) → Checks n → Runs n
checks_run n (inl x) = inl (omega arith)
checks_run n (inr (inl x)) = inr (inl x)
checks_run n (inr (inr x)) = inr (inr (inl x))

run_most : (file : List ℕ) (i : ℕ) (back : Bool) (budget : ℕ) (value : List ℕ) (v : Verdict) → verdict file ≡ v → Runs (answer_of_run (run_of v i back budget value)).number
unfolding run
run_most file i back budget value (refused f m) e = checks_run (number f) (verdict_most file (refused f m) e)
run_most file i back budget value (accepted rs) e =
    says_most ((run_iff file rs e i back budget value (run_of (accepted rs) i back budget value)).0 (ap (λ v. run_of v i back budget value) e))

unless_run_most : (file : List ℕ) (i : ℕ) (back : Bool) (budget : ℕ) (value : List ℕ) (b : Bool)
    → Runs (answer_of_run (run_of (unless b (verdict file)) i back budget value)).number
unless_run_most file i back budget value true = inl (omega arith)
unless_run_most file i back budget value false = run_most file i back budget value (verdict file) refl

check_most : (file t w : List ℕ) → Checks (check file t w).answer.number
unfolding check
check_most file t w = unless_most file (short t w)

turn_most : (file t w o : List ℕ) → Checks (turn file t w o).answer.number
unfolding turn
turn_most file t w o =
    subst (λ a. Checks a.number) (sym (turn_answer file t w o)) (unless_most file (short t w || ltb (length o) (length file)))

service_most : (file t w : List ℕ) (i : ℕ) (back : Bool) (budget : ℕ) (value o : List ℕ) → Runs (run_service file t w i back budget value o).number
unfolding run_service
service_most file t w i back budget value o = unless_run_most file i back budget value (short t w || ltb (length o) 127)

pub numbered_answers : NumberedAnswers
numbered_answers file t w = (check_most file t w, turn_most file t w, service_most file t w)
