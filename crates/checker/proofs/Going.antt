-- The services that go on from Check, whatever they ask of an accepted file: what each answers and leaves, in its three cases. Every such service
-- cites these, and says only what it answers itself.
use Rattle.std.specs.Prelude.{Option as CodeOption}
use Prim.Native.Nat.{ℕ, ◌-◌, ◌≤◌, ◌<◌, min}
use native.Mathlib.Nat.{sub-zero}
use mathlib.Core.Path.{◌≡◌, refl, sym, ap, ap₂, ◌∙◌, subst}
use mathlib.Core.Bool.{Bool, true, false, ◌||◌, or-true, or-false}
use mathlib.Core.Option.{none, some}
use mathlib.Core.List.{List, [], ◌++◌}
use lib.Dec.{ltb}
use lib.ListN.{length, drop, replicate, length-replicate}
use lib.Seq.{drop_at}
use borrow.Author.Tests.{lt-ltb, le-ltb}
use Rattle.limits.specs.Limits.{work_length}
use Rattle.calculus.specs.Tools.{is_some}
use Rattle.calculus.specs.Refusals.{Refusal, short_area}
use Rattle.format.specs.Lines.{Row}
use Rattle.model.specs.Services.{Verdict, accepted, refused, verdict, filled, table_after, work_after, short, unless, answer_of, refusal_by, check, Outcome, fails}
use Rattle.model.specs.Services.{go_on, refusal_of, refusal_number, Served, served, serve}
use Rattle.format.specs.Code.{refusal_view, number_of, numbered}
use Rattle.format.specs.declared.Answer as A
use Rattle.format.specs.declared.Refusal as F
use Rattle.calculus.proofs.Basic.{none≢some, is_some_true}
use Rattle.area_parts.specs.Cleared.{cleared}
use Rattle.checker.specs.CheckSays.{CheckSays, Accepted}
use Rattle.checker.specs.declared.Checked as C
use Rattle.checker.proofs.Checks.{cleared_filled}
use Rattle.checker.proofs.Whole.{whole}

-- a refusal, a line and two areas that are those of a service, with P of what it is asked for
pub record ServedAs {G : Type 0} (x : Served G) (P : Outcome G → Type 0) (f : CodeOption F.Refusal) (place : ℕ) (t' w' : List ℕ) : Type 0 where
  pub refusal : refusal_view f ≡ refusal_of x.outcome
  pub number : number_of f ≡ refusal_number x.outcome
  pub line : place ≡ x.line
  pub table : t' ≡ x.table
  pub work : w' ≡ x.work
  pub answers : P x.outcome

-- ---- the areas

-- another lent area, of n elements where m are needed
pub narrow : (t w : List ℕ) {n m : ℕ} → n < m → (short t w || ltb n m) ≡ true
narrow t w {n} {m} h = ap (λ b. short t w || b) (lt-ltb n m h) ∙ or-true (short t w)

pub roomy : (t w : List ℕ) {n m : ℕ} → m ≤ n → (short t w || ltb n m) ≡ short t w
roomy t w {n} {m} h = ap (λ b. short t w || b) (le-ltb n m h) ∙ or-false (short t w)

-- what lies behind a cleared work area
filled_drop : (w : List ℕ) → drop work_length (filled work_length [] w) ≡ drop work_length w
filled_drop w = drop_at (replicate (work_length - 0) 0) (drop work_length w) work_length (length-replicate {A = ℕ} (work_length - 0) 0 ∙ sub-zero work_length)

-- a work area that was used, and cleared again
pub cleared_work : (w w₁ w₂ w' : List ℕ) → work_length ≤ length w → length w₁ ≡ length w → w₁ ≡ filled work_length [] w → length w₂ ≡ length w₁
    → drop work_length w₂ ≡ drop work_length w₁ → w' ≡ cleared work_length w₂ → w' ≡ filled work_length [] w
cleared_work w w₁ w₂ w' long wide e₁ same rest e' =
    e' ∙ ap₂ (λ k l. replicate (min work_length k) 0 ++ l) (same ∙ wide) (rest ∙ ap (drop work_length) e₁ ∙ filled_drop w) ∙ cleared_filled work_length w long

-- ---- the three cases; b says whether a lent area is short

module _ {G : Type 0} (asked : List Row → Outcome G) (P : Outcome G → Type 0) (s t w : List ℕ) {b : Bool} where
  -- another lent area is short
  pub short_area_lem : b ≡ true → {f : CodeOption F.Refusal} {place : ℕ} → refusal_view f ≡ some short_area → place ≡ 0 → P (fails short_area)
      → ServedAs (serve b (verdict s) asked t w) P f place t w
  short_area_lem e {f} {place} n p q =
      subst (λ c. ServedAs (serve c (verdict s) asked t w) P f place t w) (sym e)
      (record { refusal = n; number = ap numbered n; line = p; table = refl; work = refl; answers = q })

  module _ (e : b ≡ short t w) {t' : List ℕ} where
    by_check : {f : CodeOption F.Refusal} {place : ℕ} {w' : List ℕ} → ServedAs (serve (short t w) (verdict s) asked t w) P f place t' w'
        → ServedAs (serve b (verdict s) asked t w) P f place t' w'
    by_check {f} {place} {w'} = subst (λ c. ServedAs (serve c (verdict s) asked t w) P f place t' w') (sym e)

    -- a refusal of Check
    pub check_refused : {w' : List ℕ} {a : A.Answer} {c : Bool} → CheckSays s t w t' w' a → c ≡ is_some (refusal_view a.refusal) → c ≡ true
        → ((g : Refusal) → P (fails g)) → ServedAs (serve b (verdict s) asked t w) P a.refusal a.place t' w'
    unfolding check
    check_refused {w'} {a} {c} says d y h =
        by_check (go (unless (short t w) (verdict s)) (sym says.refusal ∙ f.1) says.refusal says.line says.table says.work)
      where
        f : (g : Refusal) × (refusal_view a.refusal ≡ some g)
        f = is_some_true (refusal_view a.refusal) (sym d ∙ y)

        go : (v : Verdict) → refusal_by v ≡ some f.0 → refusal_view a.refusal ≡ refusal_by v → a.place ≡ (answer_of v).line → t' ≡ table_after v t
            → w' ≡ work_after v w → ServedAs (served v (go_on v asked) t w) P a.refusal a.place t' w'
        go (accepted rs) z n p x u = absurd (none≢some z)
        go (refused g m) z n p x u = record { refusal = n; number = ap numbered n; line = p; table = x; work = u; answers = h g }

    -- an accepted file: the service's own answer, and a work area that is left as Check leaves it
    pub check_accepted : {w₁ w' : List ℕ} (c : C.Checked) {d : Bool} → CheckSays s t w t' w₁ c.answer → (refusal_view c.answer.refusal ≡ none → Accepted s t' c)
        → d ≡ is_some (refusal_view c.answer.refusal) → d ≡ false → {f : CodeOption F.Refusal} {place : ℕ} → place ≡ 0
        → ((a : Accepted s t' c) → (refusal_view f ≡ refusal_of (asked a.file)) × P (asked a.file))
        → (work_length ≤ length w → w₁ ≡ filled work_length [] w → w' ≡ filled work_length [] w) → ServedAs (serve b (verdict s) asked t w) P f place t' w'
    check_accepted {w₁} {w'} c {d} says acc x y {f} {place} p own left =
        let g = whole s t w t' w₁ c d says acc x y in
        let q = own g.file in
        by_check
        (subst (λ v. ServedAs (served v (go_on v asked) t w) P f place t' w') (sym g.verdict_is)
        (record {
          refusal = q.0;
          number = ap numbered q.0;
          line = p;
          table = g.table_is;
          work = left g.work_long g.work_is;
          answers = q.1;
        }))
