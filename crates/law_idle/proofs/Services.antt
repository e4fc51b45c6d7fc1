-- Request 11, for all services at once: where no line is idle each answers as before; where one is, each answers 21 as it does any refusal from 3 on.
use Prim.Native.Nat.{ℕ, ◌≤◌}
use native.Mathlib.Omega.{arith}
use mathlib.Core.Path.{◌≡◌, sym, ap, ap₂, ◌∙◌, subst}
use mathlib.Core.Bool.{false}
use mathlib.Core.List.{List}
use lib.ListN.{length}
use Rattle.calculus.specs.Refusals.{Refusal, number}
use Rattle.format.specs.Lines.{Row, lines}
use Rattle.format.specs.Judge.{rows, start, read_from}
use Rattle.format.specs.Idle.{FirstIdle}
use Rattle.model.specs.Services.{refused, over, verdict}
use Rattle.model.specs.Desk.{desk_by, file_part, desk}
use Rattle.law_witnesses.specs.Showing.{sided}
use Rattle.law_pairlists.specs.PairLists.{import_rows}
use Rattle.law_refused.specs.Services.{today, by_verdict, Refuses}
use Rattle.law_refused.specs.Refused.{desk_refused}
use Rattle.law_refused.proofs.Refused.{refused_desk}
use Rattle.law_refused.proofs.Services.{same_services, today_by, refuses}
use Rattle.law_idle.specs.Former.{former, former_showing, WithoutIdle}
use Rattle.law_idle.proofs.Former.{same_verdict, same_showing, idle_refused, idle_showing}

-- ---- files without idle lines: "answer as before"

pub as_before : (bs : List ℕ) → WithoutIdle bs → by_verdict (former bs) (former_showing bs) (length bs) import_rows ≡ today bs
as_before bs h = same_services bs (former bs) (former_showing bs) (sym (same_verdict bs h)) (sym (same_showing bs h))

-- the desk program, whose file is a part of its input
pub same_desk : (bs : List ℕ) → WithoutIdle (file_part bs) → desk_by (former (file_part bs)) bs ≡ desk bs
unfolding desk
same_desk bs h = ap (λ v. desk_by v bs) (sym (same_verdict (file_part bs) h))

-- ---- files with an idle line: 21 "with the table all zero", nothing given, every other area as it was

module _ (bs : List ℕ) (rs : List Row) (fits : over bs ≡ false) (reads : read_from start 1 (lines bs) ≡ rows rs) (f : Refusal) (n : ℕ) (first : FirstIdle rs f n) where
  pub idle_number : number f ≡ 21
  idle_number = ap number first.refusal

  high : 3 ≤ number f
  high = let e = idle_number in omega arith

  pub idle_found : verdict bs ≡ refused f n
  idle_found = idle_refused bs rs fits reads f n first ∙ ap (λ g. refused g n) (sym first.refusal)

  pub idle_refuses : Refuses f n (length bs) (today bs)
  idle_refuses =
      subst (Refuses f n (length bs))
      (ap₂ (λ v ls. by_verdict v ls (length bs) import_rows) (sym idle_found) (sym (idle_showing bs rs fits reads f n first)) ∙ today_by bs)
      (refuses f n (length bs) import_rows high (ap sided first.refusal))

pub idle_desk : (bs : List ℕ) (rs : List Row) → over (file_part bs) ≡ false → read_from start 1 (lines (file_part bs)) ≡ rows rs → (f : Refusal) (n : ℕ) → FirstIdle rs f n
    → desk bs ≡ desk_refused f n
unfolding desk
idle_desk bs rs fits reads f n first = ap (λ v. desk_by v bs) (idle_found (file_part bs) rs fits reads f n first) ∙ refused_desk f n bs
