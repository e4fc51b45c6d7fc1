use native.Mathlib.Omega.{arith}
use mathlib.Core.Path.{sym, ◌∙◌}
use mathlib.Core.Bool.{true≢false}
use Rattle.table_trees.proofs.Cases.{injects, Injects}
use Rattle.check_places.proofs.Walking.{told_tagless, ready_first, ready_second, told_pair, tag_place, ready_only, told_tag, told_no, falls_by}
use Rattle.check_places.proofs.+walk.Goals.{then-walk, else-walk, in-2, in_default-matches, in_default-matches-2}
use Rattle.check_places.proofs.+walk.Goals as goal

pub returns-then-number-eq0 : goal.returns-then-number-eq0
returns-then-number-eq0 t c = told_tagless c.requires c.number.ensures.0 c.if-number-eq0.true

pub walk-requires : goal.walk-requires
walk-requires t c = (
  falls_by c.decreases c.in-Some.ensures.lower,
  ready_first c.requires c.field-kind.ensures c.field-over.ensures c.if-kind-eq-PAIR.true c.if-over-eq-PRODUCT.true c.in-Some.ensures c.in-Some-parts_of.ensures,
)

pub walk-requires-then-walk : goal.walk-requires-then-walk
walk-requires-then-walk t c = (
  falls_by c.decreases c.in-Some-parts_of.ensures.lower,
  ready_second c.requires c.field-kind.ensures c.field-over.ensures c.if-kind-eq-PAIR.true c.if-over-eq-PRODUCT.true c.in-Some.ensures c.in-Some-parts_of.ensures
      c.number-then-walk.ensures.0 c.walk.ensures.long,
)

pub returns-then-over-eq-PRODUCT : goal.returns-then-over-eq-PRODUCT
returns-then-over-eq-PRODUCT t c =
    elim c.if-walk.branch [
      | then-walk w ↦
          rw w.s-is
          (rw w.result-is
          (told_pair c.requires c.field-kind.ensures c.field-over.ensures c.if-kind-eq-PAIR.true c.if-over-eq-PRODUCT.true c.in-Some.ensures c.in-Some-parts_of.ensures
          w.number-then-walk.ensures.0 c.walk.ensures w.if-walk.true w.walk-then-walk.ensures))
      | else-walk w ↦ rw w.s-is (rw w.result-is (rw w.if-walk.false (told_no c.walk.ensures.long)))
    ]

pub mark-requires : goal.mark-requires
mark-requires t c = (tag_place c.requires c.field-over.ensures c.if-over-eq-SUM.true, c.requires.one)

pub walk-requires-then-matches : goal.walk-requires-then-matches
walk-requires-then-matches t c =
    let tag : Injects c.field-kind.result =
    elim c.if-matches-2.branch [
      | in-2 w ↦ injects _ (omega arith) (omega arith)
      | in_default-matches w ↦ absurd (true≢false (sym c.if-matches.true ∙ w.matches-is))
      | in_default-matches-2 w ↦ absurd (true≢false (sym c.if-matches.true ∙ w.matches-is))
    ] in (
      falls_by c.decreases c.in-Some-parts_of-2.ensures.lower,
      ready_only c.requires c.field-over.ensures c.if-over-eq-SUM.true tag c.in-Some-parts_of-2.ensures c.mark.ensures.long,
    )

pub returns-then-matches : goal.returns-then-matches
returns-then-matches t c =
    let tag : Injects c.field-kind.result =
    elim c.if-matches-2.branch [
      | in-2 w ↦ injects _ (omega arith) (omega arith)
      | in_default-matches w ↦ absurd (true≢false (sym c.if-matches.true ∙ w.matches-is))
      | in_default-matches-2 w ↦ absurd (true≢false (sym c.if-matches.true ∙ w.matches-is))
    ] in
    told_tag c.requires c.field-over.ensures c.if-over-eq-SUM.true tag c.field-kind.ensures c.in-Some-parts_of-2.ensures c.mark.ensures c.walk-then-matches.ensures
