-- The refusal of a row by its four tests.
use Prim.Native.Nat.{ℕ}
use mathlib.Core.Path.{◌≡◌, refl, sym, ◌∙◌}
use mathlib.Core.Bool.{Bool, true, false, cond}
use mathlib.Core.Option.{Option, none, some}
use mathlib.Core.List.{List}
use Rattle.calculus.specs.Refusals.{Kind, misplaced, bad_field, bad_name, ceiling}
use Rattle.format.specs.Lines.{Row}
use Rattle.format.specs.Judge.{Seen, stage, in_order, fields_fit, named, within_ceilings, judge}
use Rattle.format.specs.declared.Row as R
use Rattle.format.specs.Code.{kind_view, row_view}
use Rattle.read_seen.specs.declared.Seen as C
use Rattle.read_seen.specs.Told.{Counts, Weighed}
use Rattle.read_ceilings.specs.Reckoned.{CeilingsTold}

-- ---- a row

judge_open : (s : Seen) (r : Row) →
    judge s r
    ≡ cond (in_order s.above r.kind)
    (cond (fields_fit r.kind r) (cond (named s r.kind r) (cond (within_ceilings s r.kind r) none (some (ceiling r.kind))) (some (bad_name r.kind))) (some (bad_field r.kind)))
    (some (misplaced r.kind))
unfolding judge
judge_open s r = refl

-- o, f, n and w are the answers of the tests on order, fields, names and ceilings
module _ (t g : List ℕ) (c : C.Seen) (r : R.Row) {o : Bool}
    (order : (a : Option Kind) → c.stage ≡ stage a → o ≡ in_order a (kind_view r.kind)) where
  pub out_of_order : o ≡ false → (s : Seen) → Weighed t g c s → some (misplaced (kind_view r.kind)) ≡ judge s (row_view r)
  out_of_order e s told = rw (judge_open s (row_view r), ← order s.above told.counts.stage, e)

  module _ (a : o ≡ true) {f : Bool} (fields : f ≡ fields_fit (kind_view r.kind) (row_view r)) where
    pub bad_field_lem : f ≡ false → (s : Seen) → Weighed t g c s → some (bad_field (kind_view r.kind)) ≡ judge s (row_view r)
    bad_field_lem e s told = rw (judge_open s (row_view r), ← order s.above told.counts.stage, a, ← fields, e)

    module _ (b : f ≡ true) {n : Bool} (names : (s : Seen) → Counts c s → n ≡ named s (kind_view r.kind) (row_view r)) where
      pub bad_name_lem : n ≡ false → (s : Seen) → Weighed t g c s → some (bad_name (kind_view r.kind)) ≡ judge s (row_view r)
      bad_name_lem e s told =
          rw (judge_open s (row_view r), ← order s.above told.counts.stage, a, ← fields, b, ← names s told.counts, e)

      module _ (d : n ≡ true) {w : Bool} (within : CeilingsTold (kind_view r.kind) t g c r w) where
        stands : (s : Seen) → Weighed t g c s → named s (kind_view r.kind) (row_view r) ≡ true
        stands s told = sym (names s told.counts) ∙ d

        pub past_ceiling : w ≡ false → (s : Seen) → Weighed t g c s → some (ceiling (kind_view r.kind)) ≡ judge s (row_view r)
        past_ceiling e s told =
            rw (
              judge_open s (row_view r),
              ← order s.above told.counts.stage,
              a,
              ← fields,
              b,
              stands s told,
              ← within s told (stands s told),
              e,
            )

        pub no_refusal : w ≡ true → (s : Seen) → Weighed t g c s → none ≡ judge s (row_view r)
        no_refusal e s told =
            rw (
              judge_open s (row_view r),
              ← order s.above told.counts.stage,
              a,
              ← fields,
              b,
              stands s told,
              ← within s told (stands s told),
              e,
            )
