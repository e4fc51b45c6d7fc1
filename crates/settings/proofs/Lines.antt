-- The T lines of a file in the table: the type of line i, and what 15 and 18 say of it.
use Prim.Native.Nat.{ℕ, ◌≤◌, ◌<◌}
use native.Mathlib.Omega.{arith}
use mathlib.Core.Path.{◌≡◌, refl, sym, ap, ◌∙◌, subst}
use mathlib.Core.Bool.{Bool, true, false, cond}
use mathlib.Core.Option.{Option, none, some}
use mathlib.Core.List.{List}
use lib.Dec.{leb, ltb}
use Rattle.limits.specs.Limits.{max_values}
use Rattle.calculus.specs.Tools.{is_some}
use Rattle.calculus.specs.Trees.{Ty}
use Rattle.calculus.specs.Refusals.{Refusal, no_iso, too_many}
use Rattle.format.specs.Lines.{Row}
use Rattle.law_ranking.specs.Numbering.{count}
use Rattle.law_ranking.specs.Answers.{LineFault, LineOf}
use Rattle.format.specs.declared.Refusal as F
use Rattle.calculus.proofs.Basic.{is_some_true, none≢some, some_inj, leb_le, leb_false, le_leb, not_leb, ltb_lt, ltb_false, lt_ltb, not_ltb}
use Rattle.table_trees.specs.Unfolding.{type_of}
use Rattle.table_walks.specs.Walk.{FileIn}
use Rattle.checker.proofs.Checks.{flag_none}
use Rattle.number_values.specs.Numbers.{Counts}
use Rattle.number_values.proofs.TypeLines.{absent, there}
use Rattle.settings.specs.SettingSays.{type_fault}

-- ---- the test

abbrev fault_by : Bool → Bool → Option Refusal
fault_by p q = cond p (some no_iso) (cond q (some too_many) none)

module _ (types i : ℕ) (a : Ty) where
  -- 15
  pub fault_absent : types ≤ i → some no_iso ≡ type_fault types i a
  fault_absent h = sym (ap (λ p. fault_by p (ltb max_values (count a))) (le_leb h))

  -- 18
  pub fault_many : {n : ℕ} → i < types → Counts a n → 4294967295 < n → some too_many ≡ type_fault types i a
  fault_many h e l =
      let m : max_values < count a = omega arith in
      sym (ap (λ p. fault_by p (ltb max_values (count a))) (not_leb h) ∙ ap (fault_by false) (lt_ltb m))

  -- neither
  pub fault_none : {n : ℕ} → i < types → Counts a n → n ≤ 4294967295 → none ≡ type_fault types i a
  fault_none h e l =
      let m : count a ≤ max_values = omega arith in
      sym (ap (λ p. fault_by p (ltb max_values (count a))) (not_leb h) ∙ ap (fault_by false) (not_ltb m))

  -- a line that passes it
  pub fault_passed : {x : Option Refusal} {b : Bool} → x ≡ type_fault types i a → b ≡ is_some x → b ≡ false → (i < types) × (count a ≤ max_values)
  fault_passed {x} {b} e f y = go (leb types i) (ltb max_values (count a)) refl refl (sym e ∙ flag_none b x f y)
    where
      go : (p q : Bool) → leb types i ≡ p → ltb max_values (count a) ≡ q → fault_by p q ≡ none → (i < types) × (count a ≤ max_values)
      go true q hp hq k = absurd (none≢some (sym k))
      go false true hp hq k = absurd (none≢some (sym k))
      go false false hp hq k = (leb_false types i hp, ltb_false max_values (count a) hq)

-- ---- a file in the table

module _ {t : List ℕ} {types patterns lines : ℕ} {rs : List Row} (f : FileIn t types patterns lines rs) (i : ℕ) where
  -- a line that passes the test
  pub line_good : i < types → count (type_of t i) ≤ max_values → LineOf rs i (type_of t i)
  line_good h k = record { there = there f i h; few = k }

  -- and another
  faulty_by : (z : Refusal) (p q : Bool) → leb types i ≡ p → ltb max_values (count (type_of t i)) ≡ q → fault_by p q ≡ some z → LineFault rs i z
  faulty_by z true q hp hq k = subst (LineFault rs i) (some_inj k) (LineFault.absent (absent f i (leb_le types i hp)))
  faulty_by z false true hp hq k =
      subst (LineFault rs i) (some_inj k) (LineFault.many (type_of t i) (there f i (leb_false types i hp)) (ltb_lt max_values (count (type_of t i)) hq))
  faulty_by z false false hp hq k = absurd (none≢some k)

  pub line_faulty : {x : Option Refusal} {b : Bool} → x ≡ type_fault types i (type_of t i) → b ≡ is_some x → b ≡ true
      → (z : Refusal) × (x ≡ some z) × LineFault rs i z
  line_faulty {x} e h y =
      let s = is_some_true x (sym h ∙ y) in
      (s.0, s.1, faulty_by s.0 (leb types i) (ltb max_values (count (type_of t i))) refl refl (sym e ∙ s.1))
