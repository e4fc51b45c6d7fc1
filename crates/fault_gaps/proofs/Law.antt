-- What is written are the letters of the value that request 09 asks for.
use Prim.Native.Nat.{ℕ, ◌<◌}
use native.Mathlib.Omega.{arith}
use mathlib.Core.Path.{◌≡◌, refl, sym, ap, ◌∙◌}
use mathlib.Core.Option.{none, some}
use mathlib.Core.List.{List, [], ◌∷◌, ◌++◌}
use lib.ListN.{length, drop}
use Rattle.calculus.specs.Trees.{Ty, Pat, Val}
use Rattle.calculus.specs.Letters.{letters}
use Rattle.model.specs.Services.{written}
use Rattle.calculus.specs.Paper.{Apart}
use Rattle.law_witnesses.specs.Showing.{never, setting}
use Rattle.law_witnesses.specs.Shapes.{Side}
use Rattle.law_witnesses.specs.Seeking.{on, alone, gap_word, gap_length}
use Rattle.calculus.proofs.Basic.{none≢some, some_inj}
use Rattle.law_witnesses.proofs.Gaps.{gap_setting}
use Rattle.law_witnesses.proofs.Descent.{gap_in_lem, word_length, length_lacks}
use Rattle.fault_gaps.specs.Gaps.{GapValue}
use Rattle.fault_gaps.proofs.Descending.{good_start}
use Rattle.fault_gaps.proofs.Writing.{Searched}

module _ {a : Ty} {ps : List Pat} {out₀ out : List ℕ} {r : ℕ} (s : Searched a ps out₀ out r) where
  words : Apart ps → on letters (setting a (never ps)) ≡ on (λ n. gap_word n (a ∷ []) (alone ps)) (gap_length a ps)
  words apart = sym (gap_setting a ps apart) ∙ gap_in_lem a ps

  -- a length was found
  pub value_found : r < 128 → GapValue a ps out₀ out r
  value_found h = record { given = found; nothing = λ side apart e. absurd (none≢some (sym (ap (on letters) e) ∙ are side apart)) }
    where
      x : Side a ps → Apart ps → (gap_length a ps ≡ some r) × (out ≡ gap_word r (a ∷ []) (alone ps) ++ drop r out₀)
      x side apart = s.some_gap (good_start ps apart side.shapes side.small) h

      are : Side a ps → Apart ps → on letters (setting a (never ps)) ≡ some (gap_word r (a ∷ []) (alone ps))
      are side apart = words apart ∙ ap (on (λ n. gap_word n (a ∷ []) (alone ps))) (x side apart).0

      found : Side a ps → Apart ps → (v : Val) → setting a (never ps) ≡ some v → (r ≡ length (letters v)) × (out ≡ written (letters v) out₀)
      found side apart v e =
          let same = some_inj (sym (are side apart) ∙ ap (on letters) e) in
          let l = sym (word_length r (a ∷ []) (alone ps) (length_lacks a ps r (x side apart).0)) ∙ ap length same in
          (l, (x side apart).1 ∙ ap (λ w. w ++ drop r out₀) same ∙ ap (λ n. letters v ++ drop n out₀) l)

-- no length was
pub value_missing : {a : Ty} {ps : List Pat} {out : List ℕ} → Searched a ps out out 128 → GapValue a ps out out 0
value_missing {a} {ps} {out} s = record { given = λ side apart v e. absurd (none≢some (sym (none_left side apart) ∙ ap (on letters) e)); nothing = λ side apart e. (refl, refl) }
  where
    none_left : Side a ps → Apart ps → on letters (setting a (never ps)) ≡ none
    none_left side apart = words s apart ∙ ap (on (λ n. gap_word n (a ∷ []) (alone ps))) (s.no_gap (good_start ps apart side.shapes side.small) (omega arith)).0
