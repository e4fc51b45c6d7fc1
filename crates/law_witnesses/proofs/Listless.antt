-- Request 09 for isos without lists: the least value that shows a fault never has over 127 letters, so the service answers as Check does.
use Prim.Native.Nat.{ℕ, ◌≤◌}
use native.Mathlib.Nat.{not-suc-le-zero}
use native.Mathlib.Omega.{arith}
use mathlib.Core.Path.{◌≡◌, refl, sym, ap, ap₂, ◌∙◌}
use mathlib.Core.Bool.{Bool, true, false, cond, ◌||◌}
use mathlib.Core.Option.{Option, none, some}
use mathlib.Core.List.{List, [], ◌∷◌, Memᴰ}
use lib.Dec.{ltb}
use lib.ListN.{length}
use Rattle.limits.specs.Limits.{max_nodes, result_length}
use Rattle.calculus.specs.Trees.{Ty, Val, Iso, type_nodes}
use Rattle.calculus.specs.Lists.{Finite}
use Rattle.calculus.specs.Refusals.{Refusal, too_large}
use Rattle.calculus.specs.Clauses.{fault}
use Rattle.format.specs.Lines.{Row}
use Rattle.format.specs.Unfold.{isos_of}
use Rattle.model.specs.Services.{refused, judged, verdict, answer_of, refusal_by, table_after, work_after, short, unless, check}
use Rattle.model.proofs.Sizes.{of_small}
use Rattle.model.proofs.Files.{InForm, verdict_in_form}
use Rattle.law_witnesses.specs.Showing.{Large, TooLarge, sided, showing, measured, show_service}
use Rattle.law_witnesses.proofs.Showing.{Told, known_isos, shows}
use Rattle.law_witnesses.proofs.Served.{Cases, cases}

-- a value of a type without lists of at most 127 nodes has at most 127 letters
pub never_large : {a : Ty} {F : Val → Type 0} → Finite a → type_nodes a ≤ max_nodes → Large a F → ⊥
never_large f h l =
    let k = of_small f l.of in
    let m = l.longer l.value l.of l.shows in
    absurd (omega arith)

-- the isos hold no list
abbrev pub FiniteSides : List Iso → Type 0
FiniteSides os = (o : Iso) → Memᴰ o os → Finite o.from × Finite o.to

module _ (bs : List ℕ) (rs : List Row) (h : InForm bs rs) (free : FiniteSides (isos_of rs)) where
  pub never_too_large : {n : ℕ} {f : Refusal} → TooLarge (isos_of rs) n f → ⊥
  never_too_large (TooLarge.overlap_left o m e l) = never_large (free o m).0 (known_isos bs rs h o m).from l
  never_too_large (TooLarge.overlap_right o m e l) = never_large (free o m).1 (known_isos bs rs h o m).to l
  never_too_large (TooLarge.gap_left o m e l) = never_large (free o m).0 (known_isos bs rs h o m).from l
  never_too_large (TooLarge.gap_right o m e l) = never_large (free o m).1 (known_isos bs rs h o m).to l

-- where the refusal is of no side, it stands
unsided : (f : Refusal) (n : ℕ) (ls : List ℕ) → sided f ≡ false → measured (refused f n) ls ≡ refused f n
unsided f n [] s = ap (λ b. cond b (refused too_large 0) (refused f n)) s
unsided f n (l ∷ ls) s = refl

-- 24 takes the place of no verdict
pub as_verdict : (bs : List ℕ) → ((rs : List Row) → InForm bs rs → FiniteSides (isos_of rs)) → measured (verdict bs) (showing bs) ≡ verdict bs
as_verdict bs free = go (cases bs)
  where
    told : (rs : List Row) (f : Refusal) (n : ℕ) → InForm bs rs → verdict bs ≡ refused f n → (ls : List ℕ) → showing bs ≡ ls → Told (isos_of rs) n f ls
        → measured (verdict bs) (showing bs) ≡ verdict bs
    told rs f n i v ls q (Told.large x) = absurd (never_too_large bs rs i (free rs i) x)
    told rs f n i v [] q (Told.value x p l) = absurd (not-suc-le-zero p)
    told rs f n i v (b ∷ ls) q (Told.value x p l) = ap₂ measured v q ∙ sym v

    at : (rs : List Row) → InForm bs rs → (x : Option (Refusal × ℕ)) → fault (isos_of rs) ≡ x → measured (verdict bs) (showing bs) ≡ verdict bs
    at rs i none e = let v = verdict_in_form bs rs i ∙ ap (judged rs) e in ap (λ x. measured x (showing bs)) v ∙ sym v
    at rs i (some (f, n)) e = by (sided f) refl (verdict_in_form bs rs i ∙ ap (judged rs) e)
      where
        by : (b : Bool) → sided f ≡ b → verdict bs ≡ refused f n → measured (verdict bs) (showing bs) ≡ verdict bs
        by true s v = told rs f n i v (showing bs) refl (shows bs rs i f n e s)
        by false s v = ap (λ x. measured x (showing bs)) v ∙ unsided f n (showing bs) s ∙ sym v

    go : Cases bs → measured (verdict bs) (showing bs) ≡ verdict bs
    go (Cases.in_form rs i) = at rs i (fault (isos_of rs)) refl
    go (Cases.other f n e u l d) = ap (λ x. measured x (showing bs)) e ∙ unsided f n (showing bs) u ∙ sym e

or_off : (b : Bool) {c : Bool} → c ≡ false → (b || c) ≡ b
or_off true h = refl
or_off false h = h

-- "answers as Check does", and leaves table and work area so, with a result area of 127 bytes or more
module _ (bs t w r : List ℕ) (free : (rs : List Row) → InForm bs rs → FiniteSides (isos_of rs)) (long : ltb (length r) result_length ≡ false) where
  pub always_check : ((show_service bs t w r).answer ≡ (check bs t w).answer)
      × ((show_service bs t w r).table ≡ (check bs t w).table)
      × ((show_service bs t w r).work ≡ (check bs t w).work)
  unfolding show_service check
  always_check =
      let e = or_off (short t w) long in
      let v = as_verdict bs free in (
        ap₂ (λ b x. answer_of (unless b x)) e v,
        ap₂ (λ b x. table_after (unless b x) t) e v,
        ap₂ (λ b x. work_after (unless b x) w) e v,
      )

  pub always_refused : (show_service bs t w r).refusal ≡ refusal_by (unless (short t w) (verdict bs))
  unfolding show_service
  always_refused = ap₂ (λ b x. refusal_by (unless b x)) (or_off (short t w) long) (as_verdict bs free)
