-- The value that shows the fault of the iso refused: the rows of its clauses and its types are those of the table.
use Prim.Native.Nat.{ℕ, suc, ◌-◌, ◌≤◌, ◌<◌}
use native.Mathlib.Omega.{arith}
use mathlib.Core.Path.{◌≡◌, refl, sym, ap, ◌∙◌, subst}
use mathlib.Core.Bool.{true}
use mathlib.Core.Logic.{◌⊎◌, ⊎_elim}
use mathlib.Core.Option.{Option, none, some}
use mathlib.Core.List.{List, map}
use lib.Dec.{leb}
use lib.ListN.{length, take, drop, length-drop}
use lib.Seq.{take_all}
use Rattle.limits.specs.Limits.{max_clauses}
use Rattle.calculus.specs.Trees.{Ty, Pat, Val, Iso}
use Rattle.calculus.specs.Paper.{Apart}
use Rattle.calculus.specs.Refusals.{Refusal, number}
use Rattle.format.specs.Lines.{Row}
use Rattle.format.specs.Unfold.{isos_of}
use Rattle.calculus.specs.Clauses.{lefts, rights, fault}
use Rattle.model.specs.Services.{written}
use Rattle.calculus.proofs.Basic.{and_true, leb_le}
use Rattle.model.proofs.Files.{InForm}
use Rattle.law_witnesses.specs.Shapes.{Side}
use Rattle.law_witnesses.specs.Showing.{setting, twice, never, sided, shown, letters_of?, showing}
use Rattle.law_witnesses.proofs.Sides.{Found}
use Rattle.law_witnesses.proofs.Showing.{refused_iso, showing_rows}
use Rattle.table_trees.specs.Unfolding.{cell_of, type_of}
use Rattle.table_walks.specs.InTable.{patterns_at}
use Rattle.table_walks.specs.Walk.{FileIn, tail_at}
use Rattle.fault_pairs.specs.Pairs.{OverlapValue}
use Rattle.fault_gaps.specs.Gaps.{GapValue}
use Rattle.fault_values.specs.Faults.{Collected, SideShown, FaultShown}
use Rattle.fault_values.specs.declared.Clauses as C
use Rattle.fault_values.proofs.Heads.{head}

abbrev Given : List ℕ → List ℕ → ℕ → List ℕ → Type 0
Given out₀ out r ls = (r ≡ length ls) × (out ≡ written ls out₀)

overlapped : {a : Ty} {ps : List Pat} {out₀ out : List ℕ} {r : ℕ} → OverlapValue a ps out₀ out r → Side a ps → Given out₀ out r (letters_of? (setting a (twice ps)))
overlapped {a} {ps} {out₀} {out} {r} v side = go (setting a (twice ps)) refl
  where
    go : (x : Option Val) → setting a (twice ps) ≡ x → Given out₀ out r (letters_of? x)
    go none e = v.nothing side e
    go (some w) e = v.given side w e

missed : {a : Ty} {ps : List Pat} {out₀ out : List ℕ} {r : ℕ} → GapValue a ps out₀ out r → Side a ps → Apart ps
    → Given out₀ out r (letters_of? (setting a (never ps)))
missed {a} {ps} {out₀} {out} {r} v side apart = go (setting a (never ps)) refl
  where
    go : (x : Option Val) → setting a (never ps) ≡ x → Given out₀ out r (letters_of? x)
    go none e = v.nothing side apart e
    go (some w) e = v.given side apart w e

-- the search finds what the definition says
found_given : {o : Iso} {f : Refusal} {n : ℕ} {out₀ out : List ℕ} {r : ℕ} → Found o f → number f ≡ n
    → SideShown n o.from o.to (lefts o) (rights o) out₀ out r → Given out₀ out r (letters_of? (shown f o))
found_given {o} {out₀ = out₀} {out} {r} (Found.overlap_left side x) k s = overlapped (s.overlap_left (sym k)) side
found_given {o} {out₀ = out₀} {out} {r} (Found.overlap_right side x) k s = overlapped (s.overlap_right (sym k)) side
found_given {o} {out₀ = out₀} {out} {r} (Found.gap_left side a x) k s = missed (s.gap_left (sym k)) side a
found_given {o} {out₀ = out₀} {out} {r} (Found.gap_right side a x) k s = missed (s.gap_right (sym k)) side a

-- each of the four searches, x being the T line of the side
module _ (t : List ℕ) {n x y : ℕ} {b : Ty} {ps qs : List Pat} {out₀ out : List ℕ} {r : ℕ} (e : x ≡ y) where
  pub overlap_left_lem : n ≡ 11 → OverlapValue (type_of t x) ps out₀ out r → SideShown n (type_of t y) b ps qs out₀ out r
  overlap_left_lem k v = record {
    overlap_left = λ z. subst (λ i. OverlapValue (type_of t i) ps out₀ out r) e v;
    overlap_right = λ z. absurd (omega arith);
    gap_left = λ z. absurd (omega arith);
    gap_right = λ z. absurd (omega arith);
  }

  pub overlap_right_lem : n ≡ 12 → OverlapValue (type_of t x) ps out₀ out r → SideShown n b (type_of t y) qs ps out₀ out r
  overlap_right_lem k v = record {
    overlap_left = λ z. absurd (omega arith);
    overlap_right = λ z. subst (λ i. OverlapValue (type_of t i) ps out₀ out r) e v;
    gap_left = λ z. absurd (omega arith);
    gap_right = λ z. absurd (omega arith);
  }

  pub gap_left_lem : n ≡ 13 → GapValue (type_of t x) ps out₀ out r → SideShown n (type_of t y) b ps qs out₀ out r
  gap_left_lem k v = record {
    overlap_left = λ z. absurd (omega arith);
    overlap_right = λ z. absurd (omega arith);
    gap_left = λ z. subst (λ i. GapValue (type_of t i) ps out₀ out r) e v;
    gap_right = λ z. absurd (omega arith);
  }

  pub gap_right_lem : (n ≡ 11 → ⊥) → (n ≡ 12 → ⊥) → (n ≡ 13 → ⊥) → GapValue (type_of t x) ps out₀ out r → SideShown n b (type_of t y) qs ps out₀ out r
  gap_right_lem not_11 not_12 not_13 v = record {
    overlap_left = λ z. absurd (not_11 z);
    overlap_right = λ z. absurd (not_12 z);
    gap_left = λ z. absurd (not_13 z);
    gap_right = λ z. subst (λ i. GapValue (type_of t i) ps out₀ out r) e v;
  }

-- two places with the same types and patterns
sides_same : {n : ℕ} {a a' b b' : Ty} {ls ls' rs rs' : List Pat} {out₀ out : List ℕ} {r : ℕ} → a ≡ a' → b ≡ b' → ls ≡ ls' → rs ≡ rs'
    → SideShown n a b ls rs out₀ out r → SideShown n a' b' ls' rs' out₀ out r
sides_same {n} {a} {a'} {b} {b'} {ls} {ls'} {rs} {rs'} {out₀} {out} {r} ea eb el er s =
    subst (λ z. SideShown n a' b' ls' z out₀ out r) er
    (subst (λ z. SideShown n a' b' z rs out₀ out r) el (subst (λ z. SideShown n a' z ls rs out₀ out r) eb (subst (λ z. SideShown n z b ls rs out₀ out r) ea s)))

module _ (t : List ℕ) (base lines n place : ℕ) (out₀ out : List ℕ) (r : ℕ) (c : C.Clauses)
    (collected : (rs : List Row) (types patterns : ℕ) → FileIn t types patterns lines rs → place ≤ lines → Collected t types rs place c) where
  abbrev rows_of : List ℕ
  rows_of = drop c.first c.rows

  -- the iso's line is the one refused, so its rows are those collected
  shown_given : (s : List ℕ) (rs : List Row) (patterns : ℕ) → InForm s rs → FileIn t base patterns lines rs → (f : Refusal) → number f ≡ n
      → fault (isos_of rs) ≡ some (f, place) → sided f ≡ true
      → SideShown n (type_of t (cell_of t (place - 1) 1)) (type_of t (cell_of t (place - 1) 2)) (patterns_at t base 1 rows_of) (patterns_at t base 2 rows_of) out₀ out r
      → Given out₀ out r (showing s)
  shown_given s rs patterns form file f k e sd shows =
      let q = refused_iso s rs form f place e sd in
      let h = head file q.iso q.mem in
      let at : place ≡ suc h.row = q.line ∙ h.line in
      let up : place - 1 ≡ h.row = omega (arith, at) in
      let d = collected rs base patterns file (omega (arith, at, h.within)) in
      let same = h.clauses ∙ ap (λ m. (tail_at rs m).clauses) (sym at) in
      subst (Given out₀ out r) (sym (showing_rows s rs form ∙ ap letters_of? q.first))
      (found_given q.found k
      (sides_same (ap (λ m. type_of t (cell_of t m 1)) up ∙ sym h.from) (ap (λ m. type_of t (cell_of t m 2)) up ∙ sym h.to)
      (sym (ap (map (λ x. x.lhs)) same ∙ d.lefts)) (sym (ap (map (λ x. x.rhs)) same ∙ d.rights)) shows))

  -- an iso's line is not 0, and its clauses are at most 32
  neither : (s : List ℕ) (rs : List Row) (patterns : ℕ) → InForm s rs → FileIn t base patterns lines rs → (f : Refusal)
      → fault (isos_of rs) ≡ some (f, place) → sided f ≡ true → (place ≡ 0 → ⊥) × (max_clauses < c.first → ⊥)
  neither s rs patterns form file f e sd =
      let q = refused_iso s rs form f place e sd in
      let h = head file q.iso q.mem in
      let at : place ≡ suc h.row = q.line ∙ h.line in
      let d = collected rs base patterns file (omega (arith, at, h.within)) in
      (λ z. absurd (omega (arith, at, z)), λ z. absurd (omega (arith, z, d.within)))

  -- whatever file it is
  pub fault_shown : 11 ≤ n → n ≤ 14
      → SideShown n (type_of t (cell_of t (place - 1) 1)) (type_of t (cell_of t (place - 1) 2)) (patterns_at t base 1 (take (max_clauses - c.first) rows_of))
      (patterns_at t base 2 (take (max_clauses - c.first) rows_of)) out₀ out r
      → FaultShown t base lines n place out₀ out r
  fault_shown low high shows = record {
    given = λ s rs patterns form file f k e sd.
        let q = refused_iso s rs form f place e sd in
        let h = head file q.iso q.mem in
        let at : place ≡ suc h.row = q.line ∙ h.line in
        let d = collected rs base patterns file (omega (arith, at, h.within)) in
        let whole : take (max_clauses - c.first) rows_of ≡ rows_of = take_all (max_clauses - c.first) rows_of (omega (arith, length-drop c.first c.rows, d.places)) in
        shown_given s rs patterns form file f k e sd
        (sides_same refl refl (ap (patterns_at t base 1) whole) (ap (patterns_at t base 2) whole) shows);
    below = λ h. absurd (omega arith);
    above = λ h. absurd (omega arith);
  }

  pub fault_nowhere : 11 ≤ n → n ≤ 14 → place ≡ 0 → FaultShown t base lines n place out₀ out r
  fault_nowhere low high z = record {
    given = λ s rs patterns form file f k e sd. absurd ((neither s rs patterns form file f e sd).0 z);
    below = λ h. absurd (omega arith);
    above = λ h. absurd (omega arith);
  }

  pub fault_many : 11 ≤ n → n ≤ 14 → max_clauses < c.first → FaultShown t base lines n place out₀ out r
  fault_many low high z = record {
    given = λ s rs patterns form file f k e sd. absurd ((neither s rs patterns form file f e sd).1 z);
    below = λ h. absurd (omega arith);
    above = λ h. absurd (omega arith);
  }

-- another number
other_number : (n : ℕ) → (n < 11) ⊎ (14 < n) → (f : Refusal) → number f ≡ n → sided f ≡ true → ⊥
other_number n h f k sd =
    let b = and_true (leb 11 (number f)) (leb (number f) 14) sd in
    let low = leb_le 11 (number f) b.0 in
    let high = leb_le (number f) 14 b.1 in
    ⊎_elim (λ z. absurd (omega arith)) (λ z. absurd (omega arith)) h

pub fault_other : (t : List ℕ) (base lines n place : ℕ) (out : List ℕ) → (n < 11) ⊎ (14 < n) → FaultShown t base lines n place out out 0
fault_other t base lines n place out h = record {
  given = λ s rs patterns form file f k e sd. absurd (other_number n h f k sd);
  below = λ z. (refl, refl);
  above = λ z. (refl, refl);
}
