-- Request 13, for all services at once: within the old ceiling the former checker and all that goes by it answer as today; a file that only the new ceiling admits they
-- refuse 7, at the first C line that is the 33rd of its iso, and give nothing. Import within it: proofs/Lists.antt.
use Prim.Native.Nat.{ℕ}
use native.Mathlib.Omega.{arith}
use mathlib.Core.Path.{◌≡◌, refl, sym, ap, ap₂, ◌∙◌, subst}
use mathlib.Core.Bool.{false, cond}
use mathlib.Core.Option.{some}
use mathlib.Core.List.{List, []}
use lib.ListN.{length}
use Rattle.calculus.specs.Refusals.{Refusal, clause_line, ceiling}
use Rattle.format.specs.Lines.{Row, lines}
use Rattle.format.specs.Judge.{rows, start, read_from}
use Rattle.model.specs.Services.{refused, over}
use Rattle.model.specs.Desk.{desk_by, file_part, desk}
use Rattle.model.proofs.Files.{passes_read}
use Rattle.law_witnesses.specs.Showing.{shown_of, showing}
use Rattle.law_pairlists.specs.PairLists.{import_rows}
use Rattle.law_refused.specs.Services.{today, by_verdict, Refuses}
use Rattle.law_refused.specs.Refused.{desk_refused}
use Rattle.law_refused.proofs.Refused.{refused_desk}
use Rattle.law_refused.proofs.Services.{same_services, refuses}
use Rattle.law_longer.specs.Former.{former, former_showing, FewClauses, former_import_rows}
use Rattle.law_longer.specs.Over.{first_over}
use Rattle.law_longer.proofs.Former.{few_clauses, few_read, same_verdict}
use Rattle.law_longer.proofs.Over.{over_refused, over_showing}

-- ---- within the old ceiling: "keep their bytes and answers"

module _ (bs : List ℕ) (rs : List Row) (reads : read_from start 1 (lines bs) ≡ rows rs) (h : FewClauses rs) where
  same_showing : former_showing bs ≡ showing bs
  unfolding showing former_showing
  same_showing = ap (λ r. cond (over bs) [] (shown_of r)) (few_read start 1 (lines bs) rs reads ((few_clauses rs (passes_read bs rs reads)).0 h) ∙ sym reads)

  -- an import here has a list of today's length: of one within the old, `Lists.same_import`
  pub as_before : by_verdict (former bs) (former_showing bs) (length bs) import_rows ≡ today bs
  as_before = same_services bs (former bs) (former_showing bs) (same_verdict bs rs reads h) same_showing

-- the desk program, whose file is a part of its input
pub same_desk : (bs : List ℕ) (rs : List Row) → read_from start 1 (lines (file_part bs)) ≡ rows rs → FewClauses rs → desk_by (former (file_part bs)) bs ≡ desk bs
unfolding desk
same_desk bs rs reads h = ap (λ v. desk_by v bs) (same_verdict (file_part bs) rs reads h)

-- ---- what only the new ceiling admits: lines that pass 3 to 7 today, of which line n is the first 33rd C line of an iso

abbrev pub seven : Refusal
seven = ceiling clause_line

module _ (bs : List ℕ) (rs : List Row) (fits : over bs ≡ false) (reads : read_from start 1 (lines bs) ≡ rows rs) (n : ℕ) (first : first_over rs ≡ some n) where
  pub over_found : former bs ≡ refused seven n
  over_found = over_refused bs rs fits reads n first

  -- all of the former services, the former import among them
  pub over_refuses : Refuses seven n (length bs) (by_verdict (former bs) (former_showing bs) (length bs) former_import_rows)
  over_refuses =
      subst (Refuses seven n (length bs))
      (ap₂ (λ v ls. by_verdict v ls (length bs) former_import_rows) (sym over_found) (sym (over_showing bs rs fits reads n first)))
      (refuses seven n (length bs) former_import_rows (omega arith) refl)

pub over_desk : (bs : List ℕ) (rs : List Row) → over (file_part bs) ≡ false → read_from start 1 (lines (file_part bs)) ≡ rows rs → (n : ℕ) → first_over rs ≡ some n
    → desk_by (former (file_part bs)) bs ≡ desk_refused seven n
over_desk bs rs fits reads n first = ap (λ v. desk_by v bs) (over_found (file_part bs) rs fits reads n first) ∙ refused_desk seven n bs
