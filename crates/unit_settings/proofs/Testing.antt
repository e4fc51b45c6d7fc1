-- The tests of the units, one after the other.
use Prim.Native.Nat.{ℕ, suc, ◌+◌, ◌≤◌, ◌<◌}
use native.Mathlib.Numerals.{add-one}
use native.Mathlib.Omega.{arith}
use mathlib.Core.Path.{◌≡◌, refl, sym, ap, ap₂, ◌∙◌}
use mathlib.Core.Bool.{Bool, true, false}
use mathlib.Core.Option.{Option, none, some}
use mathlib.Core.List.{List, [], ◌∷◌}
use lib.ListN.{length, get_or, drop, drop_of_length-le}
use lib.Seq.{drop-cons}
use Rattle.calculus.specs.Tools.{is_some, or_else}
use Rattle.calculus.specs.Refusals.{Refusal}
use Rattle.format.specs.Lines.{Row}
use Rattle.calculus.proofs.Basic.{is_some_true}
use Rattle.checker.proofs.Checks.{flag_none}
use Rattle.table_walks.specs.Walk.{FileIn}
use Rattle.law_units.specs.Units.{unit_fault, units_fault}

-- what the loop knows before unit k
pub record Through (t : List ℕ) (types : ℕ) (is ns : List ℕ) (k : ℕ) : Type 0 where
  pub within : k ≤ length is
  pub so : (patterns rows : ℕ) (rs : List Row) → FileIn t types patterns rows rs → length is ≡ length ns
      → units_fault rs is ns ≡ units_fault rs (drop k is) (drop k ns)

pub through_start : (t : List ℕ) (types : ℕ) (is ns : List ℕ) → Through t types is ns 0
through_start t types is ns = record { within = omega arith; so = λ patterns rows rs f e. refl }

module _ {t : List ℕ} {types : ℕ} {is ns : List ℕ} {k : ℕ} (x : Through t types is ns k) where
  module _ (h : k < length is) {z : Option Refusal} {i n : ℕ}
      (one : (patterns rows : ℕ) (rs : List Row) → FileIn t types patterns rows rs → z ≡ unit_fault rs i n) (ei : i ≡ get_or is k 0) (en : n ≡ get_or ns k 0) where
    by_unit : (patterns rows : ℕ) (rs : List Row) → FileIn t types patterns rows rs → length is ≡ length ns
        → units_fault rs is ns ≡ or_else z (units_fault rs (drop (k + 1) is) (drop (k + 1) ns))
    by_unit patterns rows rs f e =
        x.so patterns rows rs f e
        ∙ ap₂ (units_fault rs) (drop-cons is k 0 h) (drop-cons ns k 0 (omega arith))
        ∙ ap (λ y. or_else y (units_fault rs (drop (suc k) is) (drop (suc k) ns))) (sym (one patterns rows rs f ∙ ap₂ (unit_fault rs) ei en))
        ∙ ap (λ m. or_else z (units_fault rs (drop m is) (drop m ns))) (sym (add-one k))

    pub through_fault : {b : Bool} → b ≡ is_some z → b ≡ true
        → (patterns rows : ℕ) (rs : List Row) → FileIn t types patterns rows rs → length is ≡ length ns → z ≡ units_fault rs is ns
    through_fault g y patterns rows rs f e =
        let s = is_some_true z (sym g ∙ y) in
        s.1 ∙ sym (by_unit patterns rows rs f e ∙ ap (λ u. or_else u (units_fault rs (drop (k + 1) is) (drop (k + 1) ns))) s.1)

    pub through_next : {b : Bool} → b ≡ is_some z → b ≡ false → Through t types is ns (k + 1)
    through_next {b} g y =
        record {
          within = omega arith;
          so = λ patterns rows rs f e.
              by_unit patterns rows rs f e ∙ ap (λ u. or_else u (units_fault rs (drop (k + 1) is) (drop (k + 1) ns))) (flag_none b z g y);
        }

  pub through_end : length is ≤ k → (patterns rows : ℕ) (rs : List Row) → FileIn t types patterns rows rs → length is ≡ length ns → none ≡ units_fault rs is ns
  through_end h patterns rows rs f e =
      sym (x.so patterns rows rs f e ∙ ap (λ l. units_fault rs l (drop k ns)) (drop_of_length-le is {i = k} h))
