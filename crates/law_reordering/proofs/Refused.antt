-- "For refused files the line may differ, and the number too where a file has two faults": what the refusals of two such files have in common.
use Prim.Native.Nat.{ℕ}
use mathlib.Core.Path.{◌≡◌, refl, sym, ap, ◌∙◌}
use mathlib.Core.Logic.{◌↔◌}
use mathlib.Core.Bool.{Bool, true, false}
use mathlib.Core.List.{List}
use Rattle.calculus.specs.Refusals.{Refusal}
use Rattle.format.specs.Lines.{Row}
use Rattle.format.specs.Unfold.{isos_of}
use Rattle.calculus.specs.Clauses.{fault, sigs_of}
use Rattle.model.specs.Services.{Verdict, accepted, refused, judged, verdict, answer_of, check, short, unless}
use Rattle.model.proofs.Files.{InForm, verdict_in_form, judged_refused}
use Rattle.law_reordering.specs.Reordered.{SameButOrder}
use Rattle.law_reordering.specs.Answers.{FaultsAgree}
use Rattle.law_reordering.proofs.Alike.{Near, fault_near, near_number}
use Rattle.law_reordering.proofs.Files.{reordered_sym, in_form_lem, accepted_too}

-- The lines of both are in form, or of neither: 3 to 7 for the one is 3 to 7 for the other, and so is 8 to 14 or 23.
pub form_both : (file other : List ℕ) → SameButOrder file other → ((rs : List Row) × InForm file rs) ↔ ((rs : List Row) × InForm other rs)
form_both file other r = (
  (λ h. let (qs, k, t) = in_form_lem file other r h.0 h.1 in (qs, k)),
  (λ h. let (qs, k, t) = in_form_lem other file (reordered_sym r) h.0 h.1 in (qs, k)),
)

-- In form, the other file is refused with the same number at the same I line, or both 23 at C lines, or both with faults of clauses of one iso.
pub refused_too : (file other : List ℕ) → SameButOrder file other → (rs : List Row) → InForm file rs → (f : Refusal) (n : ℕ) → verdict file ≡ refused f n
    → (g : Refusal) × (m : ℕ) × (verdict other ≡ refused g m) × Near (sigs_of (isos_of rs)) (isos_of rs) (f, n) (g, m)
refused_too file other r rs h f n e =
    let (qs, k, t) = in_form_lem file other r rs h in
    let (q, x, z) = fault_near t.alike (f, n) (judged_refused rs (fault (isos_of rs)) f n (sym (verdict_in_form file rs h) ∙ e)) in
    (q.0, q.1, verdict_in_form other qs k ∙ ap (judged qs) x, z)

verdict_number : (file other : List ℕ) → SameButOrder file other → (rs : List Row) → InForm file rs → FaultsAgree (isos_of rs)
    → (answer_of (verdict file)).number ≡ (answer_of (verdict other)).number
verdict_number file other r rs h one = go (verdict file) refl
  where
    go : (v : Verdict) → verdict file ≡ v → (answer_of v).number ≡ (answer_of (verdict other)).number
    go (accepted ss) e = let (qs, b, t) = accepted_too file other r ss e in ap (λ v. (answer_of v).number) (sym b)
    go (refused f n) e = let (g, m, x, z) = refused_too file other r rs h f n e in near_number z one ∙ ap (λ v. (answer_of v).number) (sym x)

-- Check's number is the same where no two clauses of one iso have faults of two numbers, and so where one clause or side has a fault.
pub same_number : (file other : List ℕ) → SameButOrder file other → (rs : List Row) → InForm file rs → FaultsAgree (isos_of rs)
    → (table work : List ℕ) → (check file table work).answer.number ≡ (check other table work).answer.number
unfolding check
same_number file other r rs h one table work = go (short table work)
  where
    go : (b : Bool) → (answer_of (unless b (verdict file))).number ≡ (answer_of (unless b (verdict other))).number
    go true = refl
    go false = verdict_number file other r rs h one
