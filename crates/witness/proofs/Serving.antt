-- What the service answers and leaves in the areas, case by case, against its definition.
use Rattle.std.specs.Prelude.{Option as CodeOption}
use Prim.Native.Nat.{ℕ, zero, suc, ◌≤◌, ◌<◌}
use native.Mathlib.Omega.{arith}
use mathlib.Core.Path.{◌≡◌, refl, sym, ap, ap₂, ◌∙◌, subst}
use mathlib.Core.Logic.{◌⊎◌, inl, inr, ⊎_elim}
use mathlib.Core.Bool.{Bool, true, false, cond, ◌&&◌, ◌||◌, or-true}
use mathlib.Core.Option.{Option, none, some}
use mathlib.Core.List.{List, [], ◌∷◌}
use lib.Dec.{leb, ltb}
use lib.ListN.{length}
use borrow.Author.Tests.{lt-ltb, le-ltb}
use Rattle.limits.specs.Limits.{max_bytes, max_lines, table_length, work_length, result_length}
use Rattle.calculus.specs.Tools.{is_some, or_else}
use Rattle.calculus.specs.Refusals.{Refusal, number, short_area, too_large}
use Rattle.format.specs.Lines.{Row, lines}
use Rattle.format.specs.Judge.{rows}
use Rattle.format.specs.Unfold.{isos_of}
use Rattle.format.specs.Idle.{idle_fault}
use Rattle.format.proofs.Idling.{idle_none}
use Rattle.format.proofs.Printing.{rows_inj}
use Rattle.calculus.specs.Clauses.{fault}
use Rattle.model.specs.Services.{Verdict, accepted, refused, verdict, judged, after_reading, check, short, unless, answer_of, refusal_by, table_after, work_after, filled, written}
use Rattle.format.specs.Code.{refusal_view, number_of, numbered}
use Rattle.format.specs.declared.Answer as A
use Rattle.format.specs.declared.Refusal as F
use Rattle.calculus.proofs.Basic.{bool_cases, not_both, and_true, none≢some, some_inj, not_leb, le_leb, leb_le, leb_false, is_some_true}
use Rattle.model.proofs.Files.{InForm, passes, judged_refused}
use Rattle.area_parts.specs.Cleared.{cleared}
use Rattle.checker.specs.CheckSays.{CheckSays, Entered, Settled, Early}
use Rattle.checker.specs.declared.Checked as C
use Rattle.checker.proofs.Checks.{filed_says, early_says}
use Rattle.law_witnesses.specs.Showing.{sided, showing, measured, show_service}
use Rattle.law_witnesses.proofs.Served.{Cases, cases, short_area_lem, served_silent}
use Rattle.fault_values.specs.Faults.{FaultShown}
use Rattle.witness.specs.WitnessSays.{WitnessSays, Measures, Searched}
use Rattle.witness.specs.declared.Witnessed as W

-- ---- a short result area

pub short_result : (s t w out : List ℕ) (r : W.Witnessed) → length out < result_length → refusal_view r.answer.refusal ≡ some short_area → r.answer.place ≡ 0 → r.length ≡ 0
    → WitnessSays s t w out t w out r
short_result s t w out r h f p l =
    let e = short_area_lem s t w out (ap (λ b. short t w || b) (lt-ltb _ _ h) ∙ or-true (short t w)) in
    record {
      refusal = f ∙ sym (ap (λ x. x.refusal) e);
      number = ap numbered f ∙ sym (ap (λ x. x.answer.number) e);
      line = p ∙ sym (ap (λ x. x.answer.line) e);
      length = l ∙ sym (ap (λ x. x.length) e);
      table = sym (ap (λ x. x.table) e);
      work = sym (ap (λ x. x.work) e);
      result = sym (ap (λ x. x.result) e);
    }

-- ---- as Check, with a value or without one, or 24

or_off : (b : Bool) {c : Bool} → c ≡ false → (b || c) ≡ b
or_off true h = refl
or_off false h = h

-- no value is asked for, or one is given: 24 takes the place of nothing
abbrev Kept : List ℕ → Type 0
Kept s = measured (verdict s) (showing s) ≡ verdict s

kept_other : (v : Verdict) (ls : List ℕ) → ((f : Refusal) (n : ℕ) → v ≡ refused f n → sided f ≡ false) → measured v ls ≡ v
kept_other (accepted rs) ls h = refl
kept_other (refused f n) [] h = ap (λ b. cond b (refused too_large 0) (refused f n)) (h f n refl)
kept_other (refused f n) (l ∷ ls) h = refl

kept_some : (v : Verdict) (ls : List ℕ) → 0 < length ls → measured v ls ≡ v
kept_some (accepted rs) ls h = refl
kept_some (refused f n) [] h = absurd (omega arith)
kept_some (refused f n) (l ∷ ls) h = refl

-- the refusal of a verdict
refused_by : (v : Verdict) (f : Refusal) → refusal_by v ≡ some f → (n : ℕ) × (v ≡ refused f n)
refused_by (accepted rs) f e = absurd (none≢some e)
refused_by (refused g n) f e = (n, ap (λ x. refused x n) (some_inj e))

module _ (s t w out t' w' out' : List ℕ) (r : W.Witnessed) (long : result_length ≤ length out) where
  narrow : (short t w || ltb (length out) result_length) ≡ short t w
  narrow = or_off (short t w) (le-ltb _ _ long)

  module _ (says : CheckSays s t w t' w' r.answer) (kept : short t w ≡ false → Kept s) where
    kept_here : (b : Bool) → short t w ≡ b → unless b (measured (verdict s) (showing s)) ≡ unless b (verdict s)
    kept_here true e = refl
    kept_here false e = kept e

    same : unless (short t w || ltb (length out) result_length) (measured (verdict s) (showing s)) ≡ unless (short t w) (verdict s)
    same = ap (λ b. unless b (measured (verdict s) (showing s))) narrow ∙ kept_here (short t w) refl

    same_answer : (show_service s t w out).answer ≡ (check s t w).answer
    unfolding show_service check
    same_answer = ap answer_of same

    pub with_value : r.length ≡ (show_service s t w out).length → out' ≡ (show_service s t w out).result → WitnessSays s t w out t' w' out' r
    unfolding show_service check
    with_value l o = record {
      refusal = says.refusal ∙ sym (ap refusal_by same);
      number = says.number ∙ sym (ap (λ v. (answer_of v).number) same);
      line = says.line ∙ sym (ap (λ v. (answer_of v).line) same);
      length = l;
      table = says.table ∙ sym (ap (λ v. table_after v t) same);
      work = says.work ∙ sym (ap (λ v. work_after v w) same);
      result = o;
    }

    -- another number than 11 to 14
    pub without_value : (leb 11 (number_of r.answer.refusal) && leb (number_of r.answer.refusal) 14) ≡ false → r.length ≡ 0 → out' ≡ out
        → WitnessSays s t w out t' w' out' r
    without_value h l o =
        let a = says.number ∙ sym (ap (λ x. x.number) same_answer) in
        let k = served_silent s t w out (sym (ap (λ n. leb 11 n && leb n 14) a) ∙ h) in
        with_value (l ∙ sym k.0) (o ∙ sym k.1)

  -- 24
  module _ (a : A.Answer) (says : CheckSays s t w t' w' a) (fits : short t w ≡ false) (f : Refusal) (n : ℕ) (v : verdict s ≡ refused f n) (sd : sided f ≡ true)
      (none_shown : showing s ≡ []) where
    large : unless (short t w || ltb (length out) result_length) (measured (verdict s) (showing s)) ≡ refused too_large 0
    large =
        ap (λ b. unless b (measured (verdict s) (showing s))) (narrow ∙ fits) ∙ ap₂ measured v none_shown
        ∙ ap (λ b. cond b (refused too_large 0) (refused f n)) sd

    checked : unless (short t w) (verdict s) ≡ refused f n
    checked = ap (λ b. unless b (verdict s)) fits ∙ v

    clears : leb (number f) 2 ≡ false
    clears = let k = leb_le 11 (number f) (and_true (leb 11 (number f)) (leb (number f) 14) sd).0 in not_leb {m = number f} {n = 2} (omega arith)

    pub with_large : refusal_view r.answer.refusal ≡ some too_large → r.answer.place ≡ 0 → r.length ≡ 0 → out' ≡ out → WitnessSays s t w out t' w' out' r
    unfolding show_service check
    with_large x p l o = record {
      refusal = x ∙ sym (ap refusal_by large);
      number = ap numbered x ∙ sym (ap (λ u. (answer_of u).number) large);
      line = p ∙ sym (ap (λ u. (answer_of u).line) large);
      length = l ∙ sym (ap₂ (λ b ls. length (cond b [] ls)) (narrow ∙ fits) none_shown);
      table = says.table ∙ ap (λ u. table_after u t) checked ∙ ap (λ b. cond b t (filled table_length [] t)) clears ∙ sym (ap (λ u. table_after u t) large);
      work = says.work ∙ ap (λ u. work_after u w) checked ∙ ap (λ b. cond b w (filled work_length [] w)) clears ∙ sym (ap (λ u. work_after u w) large);
      result = o ∙ sym (ap₂ (λ b ls. written (cond b [] ls) out) (narrow ∙ fits) none_shown);
    }

-- where no area is short, the number is the verdict's
by_check : (s t w : List ℕ) {t' w' : List ℕ} (a : A.Answer) → CheckSays s t w t' w' a → short t w ≡ false → (f : Refusal) (n : ℕ) → verdict s ≡ refused f n
    → number_of a.refusal ≡ number f
unfolding check
by_check s t w a says fits f n e = says.number ∙ ap (λ b. (answer_of (unless b (verdict s))).number) fits ∙ ap (λ v. (answer_of v).number) e

low_number : (n : ℕ) → n < 11 → (leb 11 n && leb n 14) ≡ false
low_number n h = ap (λ b. b && leb n 14) (not_leb h)

high_number : (n : ℕ) → (leb 11 n && leb n 14) ≡ false → 11 ≤ n → 14 < n
high_number n e h = leb_false n 14 (sym (ap (λ b. b && leb n 14) (le_leb h)) ∙ e)

kept_low : (s t w : List ℕ) {t' w' : List ℕ} (r : W.Witnessed) → CheckSays s t w t' w' r.answer → short t w ≡ false → number_of r.answer.refusal < 11 → Kept s
kept_low s t w r says fits h = kept_other (verdict s) (showing s) (λ f n e. unsided f (by_check s t w r.answer says fits f n e) h)
  where
    unsided : {m : ℕ} (f : Refusal) → m ≡ number f → m < 11 → sided f ≡ false
    unsided {m} f e l = sym (ap (λ n. leb 11 n && leb n 14) e) ∙ low_number m l

-- ---- refusal 1 or 2

pub early_answer : (s t w out : List ℕ) (x : CodeOption F.Refusal) (b : Bool) → result_length ≤ length out → Early s (length t) (length w) x → b ≡ is_some (refusal_view x) → b ≡ true
    → (r : W.Witnessed) → r.answer.refusal ≡ x → r.answer.place ≡ 0 → r.length ≡ 0 → WitnessSays s t w out t w out r
early_answer s t w out x b long h e k r f p l =
    let g = is_some_true (refusal_view x) (sym e ∙ k) in
    let n : number_of r.answer.refusal ≡ number g.0 = ap number_of f ∙ ap numbered g.1 in
    let low : number_of r.answer.refusal < 11 = omega (arith, n, h.low g.0 g.1) in
    let says = early_says s (length t) (length w) x b h e k t w refl refl r.answer f p in
    without_value s t w out t w out r long says (λ fits. kept_low s t w r says fits low) (low_number (number_of r.answer.refusal) low) l refl

-- ---- a file that is read

-- what is given with areas that are long enough
shown_here : (s t w out : List ℕ) → table_length ≤ length t → work_length ≤ length w → result_length ≤ length out
    → ((show_service s t w out).length ≡ length (showing s)) × ((show_service s t w out).result ≡ written (showing s) out)
unfolding show_service
shown_here s t w out ht hw ho =
    let e : (short t w || ltb (length out) result_length) ≡ false = ap₂ ◌||◌ (ap₂ ◌||◌ (le-ltb _ _ ht) (le-ltb _ _ hw)) (le-ltb _ _ ho) in
    (ap (λ b. length (cond b [] (showing s))) e, ap (λ b. written (cond b [] (showing s)) out) e)

zero_or : (n : ℕ) → (n ≡ 0) ⊎ (0 < n)
zero_or zero = inl refl
zero_or (suc n) = inr (omega arith)

no_letters : (ls : List ℕ) → length ls ≡ 0 → ls ≡ []
no_letters [] e = refl
no_letters (l ∷ ls) e = absurd (omega arith)

module _ (s t out t₁ t' out' : List ℕ) (c d : C.Checked) (n : ℕ) (ht : table_length ≤ length t) (hl : length (lines s) ≤ max_lines) (ho : result_length ≤ length out)
    (o : Entered s t t₁ c) (k : Settled t₁ t' c d) (m : ℕ) (em : m ≡ number_of c.answer.refusal)
    (shows : FaultShown t₁ c.types c.lines m c.answer.place out out' n) (r : W.Witnessed) (ms : Measures d.answer m n r) where
  module _ (w w' : List ℕ) (hw : work_length ≤ length w) (hb : length s ≤ max_bytes) (ew : w' ≡ cleared work_length w) where
    checks : CheckSays s t w t' w' d.answer
    checks = (filed_says s t t₁ t' c d ht hl o k).says w w' hw hb ew

    fits : short t w ≡ false
    fits = ap₂ ◌||◌ (le-ltb _ _ ht) (le-ltb _ _ hw)

    no_value_lem : number_of d.answer.refusal ≡ m → (leb 11 m && leb m 14) ≡ false → (m < 11) ⊎ (14 < m) → WitnessSays s t w out t' w' out' r
    no_value_lem e h z =
        let q : (n ≡ 0) × (out' ≡ out) = ⊎_elim shows.below shows.above z in
        let x : (r.answer ≡ d.answer) × (r.length ≡ n) = ⊎_elim (λ y. ms.low (omega arith)) (λ y. ms.high (omega arith)) z in
        let says = subst (CheckSays s t w t' w') (sym x.0) checks in
        let kept = kept_other (verdict s) (showing s) (λ f p v. sym (ap (λ i. leb 11 i && leb i 14) (sym e ∙ by_check s t w d.answer checks fits f p v)) ∙ h) in
        without_value s t w out t' w' out' r ho says (λ y. kept) (ap (λ a. leb 11 (number_of a.refusal) && leb (number_of a.refusal) 14) x.0 ∙ ap (λ i. leb 11 i && leb i 14) e ∙ h)
        (x.1 ∙ q.0) q.1

    -- 11 to 14 of a file in form, and this is its fault: its value, or 24
    module _ (f : Refusal) (e : refusal_view c.answer.refusal ≡ some f) (v : number f ≡ m) (sd : sided f ≡ true) where
      answered : refusal_view d.answer.refusal ≡ some f
      answered = ap (λ a. refusal_view a.refusal) (k.refuses f e).1 ∙ e

      refused_here : (p : ℕ) × (verdict s ≡ refused f p)
      refused_here = refused_by (verdict s) f (sym (ap (λ b. refusal_by (unless b (verdict s))) fits) ∙ sym checks.refusal ∙ answered)

      given : (n ≡ length (showing s)) × (out' ≡ written (showing s) out) → (n ≡ 0) ⊎ (0 < n) → WitnessSays s t w out t' w' out' r
      given q (inr h) =
          let x = ms.given h in
          let z = shown_here s t w out ht hw ho in
          with_value s t w out t' w' out' r ho (subst (CheckSays s t w t' w') (sym x.0) checks) (λ y. kept_some (verdict s) (showing s) (subst (λ i. 0 < i) q.0 h))
          (x.1 ∙ q.0 ∙ sym z.0) (q.1 ∙ sym z.1)
      given q (inl h) =
          let nil = no_letters (showing s) (sym q.0 ∙ h) in
          let b = and_true (leb 11 (number f)) (leb (number f) 14) sd in
          let low = leb_le 11 (number f) b.0 in
          let high = leb_le (number f) 14 b.1 in
          let x = ms.large h (omega arith) (omega arith) in
          with_large s t w out t' w' out' r ho d.answer checks fits f refused_here.0 refused_here.1 sd nil x.0 x.1 x.2 (q.1 ∙ ap (λ ls. written ls out) nil)

      in_form_lem : (rs : List Row) → InForm s rs → WitnessSays s t w out t' w' out' r
      in_form_lem rs i =
          let l = o.loaded rs i.reads in
          let form : InForm s l.file = subst (InForm s) (rows_inj (sym i.reads ∙ l.reads)) i in
          let used : idle_fault l.file ≡ none = (idle_none (passes s l.file form)).1 form.used in
          let is : fault (isos_of l.file) ≡ some (f, c.answer.place) =
          judged_refused l.file (fault (isos_of l.file)) f c.answer.place
          (ap (λ x. judged l.file (or_else x (fault (isos_of l.file)))) (sym used) ∙ sym (ap after_reading l.reads) ∙ o.outcome.refuses f e) in
          given (shows.given s l.file c.patterns form l.table f v is sd) (zero_or n)

      value : Cases s → WitnessSays s t w out t' w' out' r
      value (Cases.in_form rs i) = in_form_lem rs i
      value (Cases.other g p x u l y) =
          absurd (not_both sd (ap sided (some_inj (sym (ap refusal_by refused_here.1) ∙ ap refusal_by x)) ∙ u))

    by_refusal : (x : Option Refusal) → refusal_view c.answer.refusal ≡ x → WitnessSays s t w out t' w' out' r
    by_refusal none e =
        let zero_c : m ≡ 0 = em ∙ ap numbered e in
        let zero_d : number_of d.answer.refusal ≡ 0 = ap (λ x. number_of x.answer.refusal) (k.accepts e).1 ∙ ap numbered e in
        no_value_lem (zero_d ∙ sym zero_c) (low_number m (omega arith)) (inl (omega arith))
    by_refusal (some f) e =
        let u : number_of d.answer.refusal ≡ m = ap (λ x. number_of x.refusal) (k.refuses f e).1 ∙ sym em in
        let v : number f ≡ m = sym (em ∙ ap numbered e) in
        sides (bool_cases (sided f)) u v
      where
        sides : (sided f ≡ true) ⊎ (sided f ≡ false) → number_of d.answer.refusal ≡ m → number f ≡ m → WitnessSays s t w out t' w' out' r
        sides (inl sd) u v = value f e v sd (cases s)
        sides (inr sd) u v =
            let h : (leb 11 m && leb m 14) ≡ false = ap (λ x. leb 11 x && leb x 14) (sym v) ∙ sd in
            no_value_lem u h (⊎_elim (λ y. inr (high_number m h (leb_le 11 m y))) (λ y. inl (leb_false 11 m y)) (bool_cases (leb 11 m)))

  pub searched_says : Searched s t out t' out' r
  searched_says = record { says = λ w w' hw hb ew. by_refusal w w' hw hb ew (refusal_view c.answer.refusal) refl }

-- ---- 24, or the answer with its letters

module _ {a : A.Answer} {m n : ℕ} {r : W.Witnessed} where
  pub measures_large : n ≡ 0 → 10 < m → m < 15 → refusal_view r.answer.refusal ≡ some too_large → r.answer.place ≡ 0 → r.length ≡ 0 → Measures a m n r
  measures_large z g h f p l =
      record { large = λ x y q. (f, p, l); low = λ x. absurd (omega arith); high = λ x. absurd (omega arith); given = λ x. absurd (omega arith) }

  pub measures_low : m ≤ 10 → r.answer ≡ a → r.length ≡ n → Measures a m n r
  measures_low h e l = record { large = λ x y q. absurd (omega arith); low = λ x. (e, l); high = λ x. (e, l); given = λ x. (e, l) }

  pub measures_high : 15 ≤ m → r.answer ≡ a → r.length ≡ n → Measures a m n r
  measures_high h e l = record { large = λ x y q. absurd (omega arith); low = λ x. (e, l); high = λ x. (e, l); given = λ x. (e, l) }

  pub measures_some : (n ≡ 0 → ⊥) → r.answer ≡ a → r.length ≡ n → Measures a m n r
  measures_some h e l = record { large = λ x y q. absurd (h x); low = λ x. (e, l); high = λ x. (e, l); given = λ x. (e, l) }
