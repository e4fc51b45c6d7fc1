-- Request 09's promises, of what the service answers for any bytes and any lent areas.
use Prim.Native.Nat.{ℕ, suc}
use native.Mathlib.Nat.{not-suc-le-zero}
use native.Mathlib.Omega.{arith}
use mathlib.Core.Path.{◌≡◌, refl, sym, ap, ap₂, ◌∙◌, subst, subst₂}
use mathlib.Core.Logic.{◌⊎◌, inl, inr, ⊎_elim}
use mathlib.Core.Bool.{Bool, true, false, cond, ◌||◌, false≢true}
use mathlib.Core.Option.{Option, none, some}
use mathlib.Core.List.{List, [], ◌∷◌}
use lib.Dec.{leb, ltb, eqb}
use lib.ListN.{length}
use Rattle.limits.specs.Limits.{result_length, table_length, work_length}
use Rattle.calculus.specs.Tools.{first_failing}
use Rattle.calculus.specs.Trees.{Ty, Clause, Iso}
use Rattle.calculus.specs.Refusals.{Kind, Refusal, number, short_area, too_long, bad_line, misplaced, bad_field, bad_name, ceiling, idle, too_large}
use Rattle.format.specs.Lines.{Row, row_of, lines}
use Rattle.format.specs.Judge.{Seen, start, in_order, fields_fit, named, within_ceilings, judge, after, Reading, rows, faulty, with_row, on_row, on_judged, read_from}
use Rattle.format.specs.Unfold.{isos_of}
use Rattle.calculus.specs.Clauses.{Sigs, sigs_of, fault}
use Rattle.calculus.specs.Faulty.{ClauseFault, FirstClause, Breach, SideFault, IsoFault, FirstIso}
use Rattle.model.specs.Services.{Verdict, accepted, refused, judged, filled, after_reading, over, verdict, answer_of, refusal_by, table_after, work_after, short, unless, written, check}
use Rattle.calculus.proofs.Basic.{none≢some, some_inj, not_both, and_true, neither, leb_le, not_leb, eq_eqb}
use Rattle.calculus.proofs.Checking.{file_fault}
use Rattle.model.proofs.Files.{InForm, formed_of, verdict_in_form, ReadCases, read_cases}
use Rattle.law_witnesses.specs.Showing.{Shows, TooLarge, sided, Shown, showing, shown_first, letters_of?, shown_unless, shown_of, measured, show_service}
use Rattle.law_witnesses.specs.Served.{side_answer, Given, Unseen, large_answer}
use Rattle.law_witnesses.proofs.Showing.{Told, shows, silent}

-- ---- as Check

-- the service where areas are too short, or not
abbrev served : List ℕ → List ℕ → List ℕ → List ℕ → Bool → Shown
served file t w r b =
    record {
      refusal = refusal_by (unless b (measured (verdict file) (showing file)));
      answer = answer_of (unless b (measured (verdict file) (showing file)));
      length = length (cond b [] (showing file));
      table = table_after (unless b (measured (verdict file) (showing file))) t;
      work = work_after (unless b (measured (verdict file) (showing file))) w;
      result = written (cond b [] (showing file)) r;
    }

or_off : (b : Bool) {c : Bool} → c ≡ false → (b || c) ≡ b
or_off true h = refl
or_off false h = h

-- a refusal of a side clears the table and the work area, and so does 24
sided_clears : (f : Refusal) → sided f ≡ true → leb (number f) 2 ≡ false
sided_clears f h =
    let l = leb_le 11 (number f) (and_true (leb 11 (number f)) (leb (number f) 14) h).0 in
    not_leb {m = number f} {n = 2} (omega arith)

-- what 24 takes the place of, and what it leaves
pub data Measured (v : Verdict) : Verdict → Type 0 where
  kept : Measured v v
  large : (f : Refusal) (n : ℕ) → v ≡ refused f n → sided f ≡ true → Measured v (refused too_large 0)

pub measures : (v : Verdict) (ls : List ℕ) → Measured v (measured v ls)
measures (accepted rs) ls = Measured.kept
measures (refused f n) (l ∷ ls) = Measured.kept
measures (refused f n) [] = go (sided f) refl
  where
    go : (b : Bool) → sided f ≡ b → Measured (refused f n) (cond b (refused too_large 0) (refused f n))
    go true h = Measured.large f n refl h
    go false h = Measured.kept

table_measured : {v u : Verdict} (t : List ℕ) → Measured v u → table_after u t ≡ table_after v t
table_measured t Measured.kept = refl
table_measured t (Measured.large f n e h) = sym (ap (λ v. table_after v t) e ∙ ap (λ b. cond b t (filled table_length [] t)) (sided_clears f h))

work_measured : {v u : Verdict} (w : List ℕ) → Measured v u → work_after u w ≡ work_after v w
work_measured w Measured.kept = refl
work_measured w (Measured.large f n e h) = sym (ap (λ v. work_after v w) e ∙ ap (λ b. cond b w (filled work_length [] w)) (sided_clears f h))

answer_measured : {v u : Verdict} → Measured v u → (answer_of u ≡ answer_of v) ⊎ ((answer_of u ≡ large_answer) × (side_answer (answer_of v) ≡ true))
answer_measured Measured.kept = inl refl
answer_measured (Measured.large f n e h) = inr (refl, ap (λ v. side_answer (answer_of v)) e ∙ h)

-- "answers as Check does", unless it is 24, and leaves table and work area so, with a result area of 127 bytes or more
pub as_check : (file t w r : List ℕ) → ltb (length r) result_length ≡ false
    → (((show_service file t w r).answer ≡ (check file t w).answer) ⊎ (((show_service file t w r).answer ≡ large_answer) × (side_answer (check file t w).answer ≡ true)))
    × ((show_service file t w r).table ≡ (check file t w).table)
    × ((show_service file t w r).work ≡ (check file t w).work)
unfolding check show_service
as_check file t w r h =
    let e = ap (served file t w r) (or_off (short t w) h) in
    let m : Measured (unless (short t w) (verdict file)) (unless (short t w) (measured (verdict file) (showing file))) = go (short t w) in (
      ⊎_elim (λ x. inl (ap (λ s. s.answer) e ∙ x)) (λ (x, y). inr (ap (λ s. s.answer) e ∙ x, y)) (answer_measured m),
      ap (λ s. s.table) e ∙ table_measured t m,
      ap (λ s. s.work) e ∙ work_measured w m,
    )
  where
    go : (b : Bool) → Measured (unless b (verdict file)) (unless b (measured (verdict file) (showing file)))
    go true = Measured.kept
    go false = measures (verdict file) (showing file)

-- with Check's refusal, or 24
pub as_refused : (file t w r : List ℕ) → ltb (length r) result_length ≡ false
    → (show_service file t w r).refusal ≡ refusal_by (unless (short t w) (measured (verdict file) (showing file)))
unfolding show_service
as_refused file t w r h = ap (λ s. s.refusal) (ap (served file t w r) (or_off (short t w) h))

-- "a lent area is shorter than stated": 1, and every area as it was
pub short_area_lem : (file t w r : List ℕ) → (short t w || ltb (length r) result_length) ≡ true
    → show_service file t w r ≡ record { refusal = some short_area; answer = record { number = 1; line = 0 }; length = 0; table = t; work = w; result = r }
unfolding show_service
short_area_lem file t w r h = ap (served file t w r) h

-- ---- the lines in form, or another refusal than 11 to 14

-- a test of refusals that those of lines do not pass
record OfLines (P : Refusal → Bool) : Type 0 where
  bad : P bad_line ≡ false
  place : (k : Kind) → P (misplaced k) ≡ false
  field : (k : Kind) → P (bad_field k) ≡ false
  name : (k : Kind) → P (bad_name k) ≡ false
  most : (k : Kind) → P (ceiling k) ≡ false

module _ (P : Refusal → Bool) (q : OfLines P) where
  failing : (u v x y : Bool) (a b c d f : Refusal) → P a ≡ false → P b ≡ false → P c ≡ false → P d ≡ false
      → first_failing ((u, a) ∷ (v, b) ∷ (x, c) ∷ (y, d) ∷ []) ≡ some f → P f ≡ false
  failing false v x y a b c d f ha hb hc hd e = ap P (sym (some_inj e)) ∙ ha
  failing true false x y a b c d f ha hb hc hd e = ap P (sym (some_inj e)) ∙ hb
  failing true true false y a b c d f ha hb hc hd e = ap P (sym (some_inj e)) ∙ hc
  failing true true true false a b c d f ha hb hc hd e = ap P (sym (some_inj e)) ∙ hd
  failing true true true true a b c d f ha hb hc hd e = absurd (none≢some e)

  judge_outside : (s : Seen) (r : Row) (f : Refusal) → judge s r ≡ some f → P f ≡ false
  unfolding judge
  judge_outside s r f =
      failing (in_order s.above r.kind) (fields_fit r.kind r) (named s r.kind r) (within_ceilings s r.kind r)
      (misplaced r.kind) (bad_field r.kind) (bad_name r.kind) (ceiling r.kind) f
      (q.place r.kind) (q.field r.kind) (q.name r.kind) (q.most r.kind)

  abbrev Outside : Reading → Type 0
  Outside (rows rs) = Unit {0}
  Outside (faulty f n) = P f ≡ false

  with_row_lem : (r : Row) (x : Reading) → Outside x → Outside (with_row r x)
  with_row_lem r (rows rs) h = tt
  with_row_lem r (faulty f n) h = h

  on_judged_lem : (n : ℕ) (x : Option Refusal) (k : Unit {0} → Reading) → ((f : Refusal) → x ≡ some f → P f ≡ false) → Outside (k tt) → Outside (on_judged n x k)
  on_judged_lem n none k h u = u
  on_judged_lem n (some f) k h u = h f refl

  on_row_lem : (n : ℕ) (x : Option Row) (k : Row → Reading) → ((r : Row) → Outside (k r)) → Outside (on_row n x k)
  on_row_lem n none k h = q.bad
  on_row_lem n (some r) k h = h r

  -- 3 to 7 are of lines
  lines_outside : (s : Seen) (n : ℕ) (ls : List (List ℕ)) → Outside (read_from s n ls)
  lines_outside s n [] = tt
  lines_outside s n (l ∷ ls) =
      on_row_lem n (row_of l) _
      (λ r. on_judged_lem n (judge s r) _ (judge_outside s r) (with_row_lem r (read_from (after s r) (suc n) ls) (lines_outside (after s r) (suc n) ls)))

-- the refusal is 24
abbrev is_large : Refusal → Bool
is_large f = eqb (number f) 24

sided_lines : OfLines sided
sided_lines = record { bad = refl; place = λ k. refl; field = λ k. refl; name = λ k. refl; most = λ k. refl }

large_lines : OfLines is_large
large_lines = record { bad = refl; place = λ k. refl; field = λ k. refl; name = λ k. refl; most = λ k. refl }

clause_not_large : {sigs : Sigs} {a b : Ty} {c : Clause} {f : Refusal} → ClauseFault sigs a b c f → is_large f ≡ false
clause_not_large (ClauseFault.variables h) = refl
clause_not_large (ClauseFault.shapes h k) = refl
clause_not_large (ClauseFault.types h k l) = refl

clauses_not_large : {sigs : Sigs} {a b : Ty} {cs : List Clause} {f : Refusal} {n : ℕ} → FirstClause sigs a b cs f n → is_large f ≡ false
clauses_not_large (FirstClause.here h e) = clause_not_large h
clauses_not_large (FirstClause.later h k) = clauses_not_large k

breach_not_large : {i : ℕ} {o : Iso} {f : Refusal} {n : ℕ} → Breach i o f n → is_large f ≡ false
breach_not_large (Breach.in_type h e) = refl
breach_not_large (Breach.in_clause h k) = refl

side_not_large : {o : Iso} {f : Refusal} → SideFault o f → is_large f ≡ false
side_not_large (SideFault.overlap_left h) = refl
side_not_large (SideFault.overlap_right h k) = refl
side_not_large (SideFault.gap_left h k l) = refl
side_not_large (SideFault.gap_right h k l m) = refl

iso_not_large : {sigs : Sigs} {i : ℕ} {o : Iso} {f : Refusal} {n : ℕ} → IsoFault sigs i o f n → is_large f ≡ false
iso_not_large (IsoFault.in_clause h) = clauses_not_large h
iso_not_large (IsoFault.in_recursion ok h b) = breach_not_large b
iso_not_large (IsoFault.in_sides ok r h e) = side_not_large h

-- Check does not answer 24
first_not_large : {sigs : Sigs} {i : ℕ} {os : List Iso} {f : Refusal} {n : ℕ} → FirstIso sigs i os f n → is_large f ≡ false
first_not_large (FirstIso.here h) = iso_not_large h
first_not_large (FirstIso.later h k) = first_not_large k

pub data Cases (file : List ℕ) : Type 0 where
  in_form : (rs : List Row) → InForm file rs → Cases file
  other : (f : Refusal) (n : ℕ) → verdict file ≡ refused f n → sided f ≡ false → is_large f ≡ false → showing file ≡ [] → Cases file

pub cases : (file : List ℕ) → Cases file
unfolding verdict showing
cases file =
    go (over file) (read_from start 1 (lines file)) refl refl (lines_outside sided sided_lines start 1 (lines file)) (lines_outside is_large large_lines start 1 (lines file))
  where
    go : (b : Bool) (x : Reading) → over file ≡ b → read_from start 1 (lines file) ≡ x → Outside sided sided_lines x → Outside is_large large_lines x → Cases file
    go true x e d u l =
        other too_long 0 (ap (λ b. cond b (refused too_long 0) (after_reading (read_from start 1 (lines file)))) e) refl refl
        (ap (λ b. cond b [] (shown_of (read_from start 1 (lines file)))) e)
    go false (rows rs) e d u l = read (read_cases file rs e d)
      where
        read : ReadCases file rs → Cases file
        read (ReadCases.in_form h) = in_form rs h
        read (ReadCases.idle_at k n h v) =
            other (idle k) n v refl refl
            (ap (λ b. cond b [] (shown_of (read_from start 1 (lines file)))) e ∙ ap shown_of d
            ∙ ap (λ x. shown_unless x (letters_of? (shown_first (sigs_of (isos_of rs)) 0 (isos_of rs)))) h)
    go false (faulty f n) e d u l =
        other f n (ap (λ b. cond b (refused too_long 0) (after_reading (read_from start 1 (lines file)))) e ∙ ap after_reading d) u l
        (ap (λ b. cond b [] (shown_of (read_from start 1 (lines file)))) e ∙ ap shown_of d)

-- ---- what is given

-- of a file in form that is refused on a side, by what is shown
module _ (file : List ℕ) (rs : List Row) (i : InForm file rs) (f : Refusal) (n : ℕ) (e : fault (isos_of rs) ≡ some (f, n)) (s : sided f ≡ true) where
  is_refused : verdict file ≡ refused f n
  is_refused = verdict_in_form file rs i ∙ ap (judged rs) e

  told : Told (isos_of rs) n f (showing file)
  told = shows file rs i f n e s

-- the file is in form and refused on a side, or nothing is shown and the verdict stands
data Sided (file : List ℕ) : Type 0 where
  side : (rs : List Row) → InForm file rs → (f : Refusal) (n : ℕ) → fault (isos_of rs) ≡ some (f, n) → sided f ≡ true → Sided file
  other : side_answer (answer_of (verdict file)) ≡ false → ((answer_of (verdict file)).number ≡ 24 → ⊥) → showing file ≡ []
      → measured (verdict file) (showing file) ≡ verdict file → Sided file

unmeasured : (v : Verdict) → side_answer (answer_of v) ≡ false → measured v [] ≡ v
unmeasured (accepted rs) h = refl
unmeasured (refused f n) h = ap (λ b. cond b (refused too_large 0) (refused f n)) h

unsided_case : (file : List ℕ) → side_answer (answer_of (verdict file)) ≡ false → ((answer_of (verdict file)).number ≡ 24 → ⊥) → showing file ≡ [] → Sided file
unsided_case file h l e = Sided.other h l e (ap (measured (verdict file)) e ∙ unmeasured (verdict file) h)

in_form_lem : (file : List ℕ) (rs : List Row) → InForm file rs → Sided file
in_form_lem file rs i = go (fault (isos_of rs)) refl
  where
    no_24 : (x : Option (Refusal × ℕ)) → fault (isos_of rs) ≡ x → (answer_of (judged rs x)).number ≡ 24 → ⊥
    no_24 none e h = absurd (omega arith)
    no_24 (some f) e h = not_both (eq_eqb h) (first_not_large ((file_fault (isos_of rs) (formed_of file rs i) f.0 f.1).0 e))

    quiet : (x : Option (Refusal × ℕ)) → fault (isos_of rs) ≡ x → side_answer (answer_of (judged rs x)) ≡ false → Sided file
    quiet x e h =
        let v = verdict_in_form file rs i ∙ ap (judged rs) e in
        unsided_case file (ap (λ v. side_answer (answer_of v)) v ∙ h) (λ z. no_24 x e (sym (ap (λ v. (answer_of v).number) v) ∙ z))
        (silent file rs i (λ f n d. ap (λ y. side_answer (answer_of (judged rs y))) (sym d ∙ e) ∙ h))

    go : (x : Option (Refusal × ℕ)) → fault (isos_of rs) ≡ x → Sided file
    go none e = quiet none e refl
    go (some f) e = by (sided f.0) refl
      where
        by : (b : Bool) → sided f.0 ≡ b → Sided file
        by true h = Sided.side rs i f.0 f.1 e h
        by false h = quiet (some f) e h

all_cases : (file : List ℕ) → Sided file
all_cases file = go (cases file)
  where
    go : Cases file → Sided file
    go (Cases.in_form rs i) = in_form_lem file rs i
    go (Cases.other f n e u l d) =
        unsided_case file (ap (λ v. side_answer (answer_of v)) e ∙ u) (λ z. not_both (eq_eqb (sym (ap (λ v. (answer_of v).number) e) ∙ z)) l) d

module _ (file t w r : List ℕ) where
  -- "With refusals 11 to 14 … gives, for the iso and side refused, the value …"
  pub served_shows : side_answer (show_service file t w r).answer ≡ true → Given file r (show_service file t w r)
  unfolding show_service
  served_shows = go (short t w || ltb (length r) result_length)
    where
      given : (rs : List Row) → InForm file rs → (f : Refusal) (n : ℕ) → verdict file ≡ refused f n → (ls : List ℕ) → showing file ≡ ls → Told (isos_of rs) n f ls
          → sided f ≡ true → side_answer (answer_of (measured (verdict file) (showing file))) ≡ true → Given file r (served file t w r false)
      given rs i f n v ls q (Told.large x) s h =
          absurd (not_both h (ap₂ (λ v ls. side_answer (answer_of (measured v ls))) v q ∙ ap (λ b. side_answer (answer_of (cond b (refused too_large 0) (refused f n)))) s))
      given rs i f n v [] q (Told.value x p l) s h = absurd (not-suc-le-zero p)
      given rs i f n v (b ∷ ls) q (Told.value x p l) s h =
          let e = ap₂ (λ v ls. answer_of (measured v ls)) v q in
          record {
            rows = rs;
            form = i;
            refusal = f;
            number = ap (λ a. a.number) e;
            letters = showing file;
            shows = subst₂ (λ m ks. Shows (isos_of rs) m ks f) (sym (ap (λ a. a.line) e)) (sym q) x;
            length = refl;
            result = refl;
          }

      by : Sided file → side_answer (answer_of (measured (verdict file) (showing file))) ≡ true → Given file r (served file t w r false)
      by (Sided.side rs i f n e s) h = given rs i f n (is_refused file rs i f n e s) (showing file) refl (told file rs i f n e s) s h
      by (Sided.other n l e k) h = absurd (not_both h (ap (λ v. side_answer (answer_of v)) k ∙ n))

      go : (b : Bool) → side_answer (served file t w r b).answer ≡ true → Given file r (served file t w r b)
      go true h = absurd (false≢true h)
      go false h = by (all_cases file) h

  -- "for other answers no value is given and the bytes stay unchanged"
  pub served_silent : side_answer (show_service file t w r).answer ≡ false → ((show_service file t w r).length ≡ 0) × ((show_service file t w r).result ≡ r)
  unfolding show_service
  served_silent = go (short t w || ltb (length r) result_length)
    where
      none_given : (rs : List Row) (f : Refusal) (n : ℕ) → verdict file ≡ refused f n → (ls : List ℕ) → showing file ≡ ls → Told (isos_of rs) n f ls → sided f ≡ true
          → side_answer (answer_of (measured (verdict file) (showing file))) ≡ false → showing file ≡ []
      none_given rs f n v ls q (Told.large x) s h = q
      none_given rs f n v [] q (Told.value x p l) s h = q
      none_given rs f n v (b ∷ ls) q (Told.value x p l) s h = absurd (not_both s (sym (ap₂ (λ v ls. side_answer (answer_of (measured v ls))) v q) ∙ h))

      by : Sided file → side_answer (answer_of (measured (verdict file) (showing file))) ≡ false → showing file ≡ []
      by (Sided.side rs i f n e s) h = none_given rs f n (is_refused file rs i f n e s) (showing file) refl (told file rs i f n e s) s h
      by (Sided.other n l e k) h = e

      go : (b : Bool) → side_answer (served file t w r b).answer ≡ false → ((served file t w r b).length ≡ 0) × ((served file t w r b).result ≡ r)
      go true h = (refl, refl)
      go false h = let e = by (all_cases file) h in (ap length e, ap (λ ls. written ls r) e)

  -- 24: Check's answer is 11 to 14, and the least value that shows the fault has over 127 letters
  pub served_large : (short t w || ltb (length r) result_length) ≡ false → (show_service file t w r).answer ≡ large_answer → Unseen file t w
  unfolding show_service check
  served_large fits h =
      let e = ap (served file t w r) fits in
      let a : (check file t w).answer ≡ answer_of (verdict file) = ap (λ b. answer_of (unless b (verdict file))) (neither (short t w) (ltb (length r) result_length) fits).0 in
      to (all_cases file) a (sym (ap (λ s. s.answer) e) ∙ h)
    where
      unseen : (rs : List Row) → InForm file rs → (f : Refusal) (n : ℕ) → verdict file ≡ refused f n → (check file t w).answer ≡ answer_of (verdict file) → (ls : List ℕ)
          → showing file ≡ ls → Told (isos_of rs) n f ls → sided f ≡ true → answer_of (measured (verdict file) (showing file)) ≡ large_answer → Unseen file t w
      unseen rs i f n v a ls q (Told.large x) s h =
          let c = a ∙ ap answer_of v in
          record { rows = rs; form = i; refusal = f; number = ap (λ y. y.number) c; large = subst (λ m. TooLarge (isos_of rs) m f) (sym (ap (λ y. y.line) c)) x }
      unseen rs i f n v a [] q (Told.value x p l) s h = absurd (not-suc-le-zero p)
      unseen rs i f n v a (b ∷ ls) q (Told.value x p l) s h =
          let z : number f ≡ 24 = ap (λ y. y.number) (sym (ap₂ (λ v ls. answer_of (measured v ls)) v q) ∙ h) in
          let k = leb_le (number f) 14 (and_true (leb 11 (number f)) (leb (number f) 14) s).1 in
          absurd (omega (arith, z, k))

      to : Sided file → (check file t w).answer ≡ answer_of (verdict file) → answer_of (measured (verdict file) (showing file)) ≡ large_answer → Unseen file t w
      to (Sided.side rs i f n e s) a h = unseen rs i f n (is_refused file rs i f n e s) a (showing file) refl (told file rs i f n e s) s h
      to (Sided.other n l e k) a h = absurd (l (ap (λ y. y.number) (ap answer_of (sym k) ∙ h)))
