-- Request 11: the verdict of files without idle lines is as before, that of a file with one is 21 at the first, and turned and resaved files have the idle lines
-- that their originals have.
use Prim.Native.Nat.{ℕ, ◌≤◌}
use mathlib.Core.Path.{◌≡◌, refl, sym, ap, ◌∙◌}
use mathlib.Core.Logic.{◌↔◌}
use mathlib.Core.Bool.{false, cond}
use mathlib.Core.Option.{none}
use mathlib.Core.List.{List, []}
use lib.ListN.{length}
use Rattle.limits.specs.Limits.{max_bytes}
use Rattle.calculus.specs.Tools.{or_else}
use Rattle.calculus.specs.Refusals.{Kind, Refusal, too_long, idle}
use Rattle.calculus.specs.Clauses.{fault, sigs_of}
use Rattle.format.specs.Lines.{Row, lines}
use Rattle.format.specs.Judge.{Reading, rows, faulty, start, read_from}
use Rattle.format.specs.Unfold.{isos_of, turn_rows}
use Rattle.format.specs.Idle.{NoneIdle, FirstIdle, idle_fault}
use Rattle.format.proofs.Passing.{Passes}
use Rattle.format.proofs.Turning.{passes_turn}
use Rattle.format.proofs.Idling.{idle_none, idle_some, idle_turn}
use Rattle.model.specs.Services.{accepted, refused, judged, over, verdict}
use Rattle.model.specs.Services as today
use Rattle.model.proofs.Files.{passes_read, verdict_read, accepted_form}
use Rattle.law_witnesses.specs.Showing.{shown_first, letters_of?, shown_unless, shown_of, showing}
use Rattle.law_endings.specs.Resaved.{Resaved}
use Rattle.law_endings.proofs.Lines.{read_same}
use Rattle.law_endings.proofs.Alike.{verdict_alike}
use Rattle.law_idle.specs.Former.{after_reading, former, shown_after, former_showing, WithoutIdle, IdleAt}

-- ---- files without idle lines

same_reading : (r : Reading) → ((rs : List Row) → r ≡ rows rs → idle_fault rs ≡ none) → today.after_reading r ≡ after_reading r
same_reading (faulty f n) h = refl
same_reading (rows rs) h = ap (λ o. judged rs (or_else o (fault (isos_of rs)))) (h rs refl)

-- "Files without idle lines answer as before"
pub same_verdict : (bs : List ℕ) → WithoutIdle bs → verdict bs ≡ former bs
unfolding verdict former
same_verdict bs h =
    ap (cond (over bs) (refused too_long 0)) (same_reading (read_from start 1 (lines bs)) (λ rs e. (idle_none (passes_read bs rs e)).1 (h rs e)))

-- and so is the setting that shows a fault
same_shown_reading : (r : Reading) → ((rs : List Row) → r ≡ rows rs → idle_fault rs ≡ none) → shown_of r ≡ shown_after r
same_shown_reading (faulty f n) h = refl
same_shown_reading (rows rs) h = ap (λ o. shown_unless o (letters_of? (shown_first (sigs_of (isos_of rs)) 0 (isos_of rs)))) (h rs refl)

pub same_showing : (bs : List ℕ) → WithoutIdle bs → showing bs ≡ former_showing bs
unfolding showing former_showing
same_showing bs h =
    ap (cond (over bs) []) (same_shown_reading (read_from start 1 (lines bs)) (λ rs e. (idle_none (passes_read bs rs e)).1 (h rs e)))

-- what is accepted was accepted before, with the same rows
pub accepted_before : (bs : List ℕ) (rs : List Row) → verdict bs ≡ accepted rs → former bs ≡ accepted rs
unfolding former
accepted_before bs rs e =
    let (form, clear) = accepted_form bs rs e in
    ap (λ b. cond b (refused too_long 0) (after_reading (read_from start 1 (lines bs)))) form.fits
    ∙ ap after_reading form.reads
    ∙ ap (judged rs) clear

-- ---- files with an idle line

-- "refused at the first such line"
module _ (bs : List ℕ) (rs : List Row) (fits : over bs ≡ false) (reads : read_from start 1 (lines bs) ≡ rows rs) (f : Refusal) (n : ℕ) (first : FirstIdle rs f n) where
  pub idle_refused : verdict bs ≡ refused (idle first.row.kind) n
  idle_refused =
      verdict_read bs rs fits reads
      ∙ ap (λ o. judged rs (or_else o (fault (isos_of rs)))) ((idle_some (passes_read bs rs reads) f n).1 first)
      ∙ ap (λ g. refused g n) first.refusal

  -- no setting is shown
  pub idle_showing : showing bs ≡ []
  unfolding showing
  idle_showing =
      ap (λ b. cond b [] (shown_of (read_from start 1 (lines bs)))) fits
      ∙ ap shown_of reads
      ∙ ap (λ o. shown_unless o (letters_of? (shown_first (sigs_of (isos_of rs)) 0 (isos_of rs)))) ((idle_some (passes_read bs rs reads) f n).1 first)

-- ---- turned files

-- "A turned file has an idle line only if its original had", and then at the same line
pub turned_idle : (rs : List Row) → Passes start rs → (f : Refusal) (n : ℕ) → FirstIdle (turn_rows rs) f n ↔ FirstIdle rs f n
turned_idle rs d f n = (
  (λ h. (idle_some d f n).0 (sym (idle_turn d) ∙ (idle_some (passes_turn d) f n).1 h)),
  (λ h. (idle_some (passes_turn d) f n).0 (idle_turn d ∙ (idle_some d f n).1 h)),
)

pub turned_none : (rs : List Row) → Passes start rs → NoneIdle (turn_rows rs) ↔ NoneIdle rs
turned_none rs d = (
  (λ h. (idle_none d).0 (sym (idle_turn d) ∙ (idle_none (passes_turn d)).1 h)),
  (λ h. (idle_none (passes_turn d)).0 (idle_turn d ∙ (idle_none d).1 h)),
)

-- ---- files with other endings

-- request 06's files have the same rows, and so the same idle lines
resaved_to : (bs cs : List ℕ) → read_from start 1 (lines bs) ≡ read_from start 1 (lines cs) → (f : Refusal) (n : ℕ) → IdleAt bs f n → IdleAt cs f n
resaved_to bs cs e f n h = record { read = h.read; reads = sym e ∙ h.reads; first = h.first }

pub resaved_idle : (bs cs : List ℕ) → Resaved bs cs → (f : Refusal) (n : ℕ) → IdleAt bs f n ↔ IdleAt cs f n
resaved_idle bs cs h f n = let e = read_same start 1 h in (resaved_to bs cs e f n, resaved_to cs bs (sym e) f n)

pub resaved_without : (bs cs : List ℕ) → Resaved bs cs → WithoutIdle bs ↔ WithoutIdle cs
resaved_without bs cs h = let e = read_same start 1 h in ((λ w rs q. w rs (e ∙ q)), (λ w rs q. w rs (sym e ∙ q)))

-- and 21 is at the same line of both
pub resaved_refused : (bs cs : List ℕ) → Resaved bs cs → length bs ≤ max_bytes → length cs ≤ max_bytes → (k : Kind) (n : ℕ)
    → (verdict bs ≡ refused (idle k) n) ↔ (verdict cs ≡ refused (idle k) n)
resaved_refused bs cs h m l k n = let e = verdict_alike bs cs h m l in ((λ q. sym e ∙ q), (λ q. e ∙ q))
