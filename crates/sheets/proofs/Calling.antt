-- What the call answers and leaves in the areas, case by case, against the model's sheet.
use Prim.Native.Nat.{ℕ, ◌-◌, ◌*◌, ◌≤◌, ◌<◌}
use native.Mathlib.Omega.{arith}
use mathlib.Core.Path.{◌≡◌, refl, sym, ap, ◌∙◌, subst}
use mathlib.Core.Bool.{Bool, true, false, cond, ◌||◌}
use mathlib.Core.Option.{none, some}
use mathlib.Core.List.{List, []}
use lib.ListN.{length, drop, length-map}
use Rattle.limits.specs.Limits.{work_length, max_queries, result_length}
use Rattle.calculus.specs.Tools.{is_some}
use Rattle.calculus.specs.Refusals.{Refusal, short_area, too_long}
use Rattle.format.specs.Lines.{lines}
use Rattle.model.specs.Services.{Verdict, accepted, refused, verdict, filled, table_after, work_after, short, unless, answer_of, refusal_by, check}
use Rattle.model.specs.Sheet.{answers_to, numbers_after, letters_after, narrow_sheet, sheet_verdict, sheet}
use Rattle.format.specs.Code.{refusal_view, numbered}
use Rattle.format.specs.declared.Answer as A
use Rattle.calculus.proofs.Basic.{none≢some, is_some_true, lt_ltb, not_ltb}
use Rattle.area_parts.specs.Cleared.{cleared}
use Rattle.checker.specs.CheckSays.{CheckSays, Accepted}
use Rattle.checker.specs.declared.Checked as C
use Rattle.model.proofs.Files.{number_by}
use Rattle.checker.proofs.Checks.{flag_none}
use Rattle.checker.proofs.Going.{cleared_work}
use Rattle.runner.specs.RunSays.{OnAccepted}
use Rattle.sheets.specs.Answering.{AllAnswered}
use Rattle.sheets.specs.SheetSays.{SheetSays}
use Rattle.sheets.specs.declared.Answered as S
use Rattle.sheets.proofs.Storing.{roomy}

-- ---- the call, by the verdict

-- an answer and areas that agree with a verdict
record Agrees (t w : List ℕ) (ls : List (List ℕ)) (n o t' w' n' o' : List ℕ) (r : S.Answered) (v : Verdict) : Type 0 where
  refusal : refusal_view r.answer.refusal ≡ refusal_by v
  line : r.answer.place ≡ (answer_of v).line
  answered : r.queries ≡ length (answers_to v ls)
  table : t' ≡ table_after v t
  work : w' ≡ work_after v w
  numbers : n' ≡ numbers_after (answers_to v ls) n
  letters : o' ≡ letters_after (answers_to v ls) o

-- the verdict by which the call goes
abbrev sheet_for : List ℕ → List ℕ → List ℕ → List ℕ → List ℕ → List ℕ → Verdict
sheet_for s t w q n o = unless (short t w || narrow_sheet (length (lines q)) n o) (sheet_verdict (length (lines q)) (verdict s))

-- agree with the call where that is its verdict
sheet_says : (s t w q n o t' w' n' o' : List ℕ) (r : S.Answered) (v : Verdict) → sheet_for s t w q n o ≡ v
    → Agrees t w (lines q) n o t' w' n' o' r v → SheetSays s t w q n o t' w' n' o' r
unfolding sheet
sheet_says s t w q n o t' w' n' o' r v e a =
    let g : Agrees t w (lines q) n o t' w' n' o' r (sheet_for s t w q n o) =
    subst (Agrees t w (lines q) n o t' w' n' o' r) (sym e) a in
    record {
      refusal = g.refusal;
      number = ap numbered g.refusal ∙ number_by (sheet_for s t w q n o);
      line = g.line;
      answered = g.answered;
      table = g.table;
      work = g.work;
      numbers =
          g.numbers;
      letters = g.letters;
    }

-- 1: a lent area is short
pub sheet_short : (s t w q n o : List ℕ) (r : S.Answered) {b : Bool} {m : ℕ} → m ≡ length (lines q) → b ≡ (short t w || narrow_sheet m n o) → b ≡ true
    → refusal_view r.answer.refusal ≡ some short_area → r.answer.place ≡ 0 → r.queries ≡ 0 → SheetSays s t w q n o t w n o r
sheet_short s t w q n o r {b} {m} c e y f p k =
    sheet_says s t w q n o t w n o r (refused short_area 0)
    (ap (λ x. unless x (sheet_verdict (length (lines q)) (verdict s))) (ap (λ x. short t w || narrow_sheet x n o) (sym c) ∙ sym e ∙ y))
    (record { refusal = f; line = p; answered = k; table = refl; work = refl; numbers = refl; letters = refl })

-- the areas are long enough
enough : (s t w q n o : List ℕ) {b : Bool} {m : ℕ} → m ≡ length (lines q) → b ≡ (short t w || narrow_sheet m n o) → b ≡ false
    → unless (short t w || narrow_sheet (length (lines q)) n o) (sheet_verdict (length (lines q)) (verdict s)) ≡ sheet_verdict m (verdict s)
enough s t w q n o {b} {m} c e y =
    ap (λ x. unless (short t w || narrow_sheet x n o) (sheet_verdict x (verdict s))) (sym c) ∙ ap (λ x. unless x (sheet_verdict m (verdict s))) (sym e ∙ y)

-- 2: over 600 queries
pub sheet_many : (s t w q n o : List ℕ) (r : S.Answered) {b : Bool} {m : ℕ} → m ≡ length (lines q) → b ≡ (short t w || narrow_sheet m n o) → b ≡ false → max_queries < m
    → refusal_view r.answer.refusal ≡ some too_long → r.answer.place ≡ 0 → r.queries ≡ 0 → SheetSays s t w q n o t w n o r
sheet_many s t w q n o r c e y h f p k =
    sheet_says s t w q n o t w n o r (refused too_long 0)
    (enough s t w q n o c e y ∙ ap (λ x. cond x (refused too_long 0) (verdict s)) (lt_ltb h))
    (record { refusal = f; line = p; answered = k; table = refl; work = refl; numbers = refl; letters = refl })

-- at most 600: the verdict is the file's
few : (s t w q n o : List ℕ) {b : Bool} {m : ℕ} → m ≡ length (lines q) → b ≡ (short t w || narrow_sheet m n o) → b ≡ false → m ≤ max_queries
    → unless (short t w || narrow_sheet (length (lines q)) n o) (sheet_verdict (length (lines q)) (verdict s)) ≡ verdict s
few s t w q n o c e y h = enough s t w q n o c e y ∙ ap (λ x. cond x (refused too_long 0) (verdict s)) (not_ltb h)

-- Check's answer and areas, for areas that are long enough
record Checks (s t w t' w' : List ℕ) (a : A.Answer) : Type 0 where
  refusal : refusal_view a.refusal ≡ refusal_by (verdict s)
  line : a.place ≡ (answer_of (verdict s)).line
  table : t' ≡ table_after (verdict s) t
  work : w' ≡ work_after (verdict s) w

checks : {s t w t' w' : List ℕ} {a : A.Answer} → short t w ≡ false → CheckSays s t w t' w' a → Checks s t w t' w' a
unfolding check
checks {s} {t} {w} {t'} {w'} {a} e c =
    let v : unless (short t w) (verdict s) ≡ verdict s = ap (λ b. unless b (verdict s)) e in
    record {
      refusal = c.refusal ∙ ap refusal_by v;
      line = c.line ∙ ap (λ x. (answer_of x).line) v;
      table = c.table ∙ ap (λ x. table_after x t) v;
      work = c.work ∙ ap (λ x. work_after x w) v;
    }

-- a refused file answers no query
no_answers : (v : Verdict) (ls : List (List ℕ)) {f : Refusal} → refusal_by v ≡ some f → answers_to v ls ≡ []
no_answers (accepted rs) ls h = absurd (none≢some h)
no_answers (refused f k) ls h = refl

pub sheet_refused : (s t w q n o t' w' : List ℕ) (r : S.Answered) {b g : Bool} {m : ℕ} → m ≡ length (lines q) → b ≡ (short t w || narrow_sheet m n o) → b ≡ false → m ≤ max_queries
    → CheckSays s t w t' w' r.answer → g ≡ is_some (refusal_view r.answer.refusal) → g ≡ true → r.queries ≡ 0 → SheetSays s t w q n o t' w' n o r
sheet_refused s t w q n o t' w' r {b} {g} {m} c e y h says f z k =
    let room = roomy t w n o m (sym e ∙ y) in
    let x = checks room.enough says in
    let u = is_some_true (refusal_view r.answer.refusal) (sym f ∙ z) in
    let none' : answers_to (verdict s) (lines q) ≡ [] = no_answers (verdict s) (lines q) (sym x.refusal ∙ u.1) in
    sheet_says s t w q n o t' w' n o r (verdict s) (few s t w q n o c e y h)
    (record {
      refusal = x.refusal;
      line = x.line;
      answered = k ∙ ap length (sym none');
      table = x.table;
      work = x.work;
      numbers = ap (λ as'. numbers_after as' n) (sym none');
      letters = ap (λ as'. letters_after as' o) (sym none');
    })

-- ---- an accepted file

-- the work area has the room that the runs need, and the other areas have room for the answers
pub call_room : (t w n o w₁ : List ℕ) (m : ℕ) {b : Bool} → b ≡ (short t w || narrow_sheet m n o) → b ≡ false → length w₁ ≡ length w → work_length ≤ length w₁
call_room t w n o w₁ m e y wide =
    let h = (roomy t w n o m (sym e ∙ y)).works in omega (arith, wide, h)

pub answers_room : (t w q n o : List ℕ) {b : Bool} {m : ℕ} → m ≡ length (lines q) → b ≡ (short t w || narrow_sheet m n o) → b ≡ false
    → (length (lines q) * 3 ≤ length n) × (length (lines q) * result_length ≤ length o)
answers_room t w q n o {m = m} c e y =
    let h = roomy t w n o m (sym e ∙ y) in
    let i = h.numbers in
    let j = h.letters in
    (omega (arith, c, i), omega (arith, c, j))

pub sheet_accepted : (s t w q n o t' w₁ w₂ w' n' o' : List ℕ) (c : C.Checked) (r : S.Answered) {b g : Bool} {m : ℕ} → m ≡ length (lines q)
    → b ≡ (short t w || narrow_sheet m n o) → b ≡ false → m ≤ max_queries
    → length w₁ ≡ length w → CheckSays s t w t' w₁ c.answer → (refusal_view c.answer.refusal ≡ none → Accepted s t' c)
    → g ≡ is_some (refusal_view c.answer.refusal) → g ≡ false
    → length w₂ ≡ length w₁ → drop work_length w₂ ≡ drop work_length w₁
    → OnAccepted t' c work_length (λ rs. AllAnswered rs q n o n' o')
    → w' ≡ cleared work_length w₂ → r.answer ≡ c.answer → r.queries ≡ m → SheetSays s t w q n o t' w' n' o' r
sheet_accepted s t w q n o t' w₁ w₂ w' n' o' c r {b} {g} {m} count e y h wide says acc f z still rest all e' same k =
    let room = roomy t w n o m (sym e ∙ y) in
    let x = checks room.enough says in
    let a = acc (flag_none g (refusal_view c.answer.refusal) f z) in
    let d = all s a (omega arith) (omega arith) in
    let front : w₁ ≡ filled work_length [] w = x.work ∙ ap (λ v. work_after v w) a.accepts in
    sheet_says s t w q n o t' w' n' o' r (accepted a.file) (few s t w q n o count e y h ∙ a.accepts)
    (record {
      refusal = ap (λ y. refusal_view y.refusal) same ∙ x.refusal ∙ ap refusal_by a.accepts;
      line = ap (λ y. y.place) same ∙ x.line ∙ ap (λ v. (answer_of v).line) a.accepts;
      answered = k ∙ count ∙ sym (length-map (lines q) _);
      table = x.table ∙ ap (λ v. table_after v t) a.accepts;
      work = cleared_work w w₁ w₂ w' room.works wide front still rest e';
      numbers = d.numbers;
      letters = d.letters;
    })
