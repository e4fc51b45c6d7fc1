-- Letters that are copied within an area, to a place behind them or before them.
use Rattle.std.proofs.Common.{ℕ, ◌≡◌, ◌+◌, ◌-◌, ◌≤◌, ◌<◌, List, ◌++◌, length, take, drop, ltb, cond, true, false, suc, ◌⊎◌, inl, inr, sym, ap, ap₂, ◌∙◌, refl, arith, length-take, length-drop}
use Rattle.std.proofs.Math.ListN.{drop_of_length-le}
use Rattle.std.proofs.Math.Seq.{slice, paste, sets-eq}
use Rattle.std.proofs.lemmas.List.Edits.{length-paste}
use Rattle.calculus.proofs.Basic.{bool_cases}
use Rattle.area_cells.specs.Areas.{Writes}
use Rattle.area_cells.proofs.Writing.{writes_none, writes_as}
use Rattle.run_values.proofs.Agreeing.{drop_take}

-- the place behind a byte is the place itself or the next one
pub put_place : (l : List ℕ) (at : ℕ) {r : ℕ} → r ≡ cond (ltb at (length l)) (suc at) at → (at ≤ r) × (r ≤ at + 1)
put_place l at {r} e = go (bool_cases (ltb at (length l)))
  where
    go : (ltb at (length l) ≡ true) ⊎ (ltb at (length l) ≡ false) → (at ≤ r) × (r ≤ at + 1)
    go (inl q) = let z : r ≡ suc at = e ∙ ap (λ c. cond c (suc at) at) q in (omega arith, omega arith)
    go (inr q) = let z : r ≡ at = e ∙ ap (λ c. cond c (suc at) at) q in (omega arith, omega arith)

-- the letters copied
slice_length : (from to : ℕ) (l : List ℕ) → to ≤ length l → length (slice from to l) ≡ to - from
slice_length from to l h = let d = length-drop from (take to l) in let t = length-take to l in omega arith

module _ (l : List ℕ) (from to at : ℕ) where
  -- all of them
  pub copy_all : {l' : List ℕ} → from ≤ to → to ≤ length l → at + (to - from) ≤ length l → l' ≡ paste l at (drop from l) (to - from)
      → Writes l l' at (at + (to - from)) (slice from to l)
  copy_all h t room e =
      let n = slice_length from to l t in
      let same : take (to - from) (drop from l) ≡ slice from to l = sym (drop_take from (to - from) l) ∙ ap (λ k. drop from (take k l)) (omega arith) in
      let d = length-drop from l in
      record {
        kept = ap length e ∙ length-paste l at (drop from l) (to - from) room (omega arith);
        area = λ f. e ∙ ap₂ (λ x k. take at l ++ x ++ drop (at + k) l) same (sym n) ∙ sym (sets-eq (slice from to l) l at f);
        place = λ f. ap (λ k. at + k) (sym n);
      }
