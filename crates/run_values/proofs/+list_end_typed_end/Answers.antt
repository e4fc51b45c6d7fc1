use Rattle.run_values.proofs.Typing.{typed_none, typed_unit, typed_not_unit, typed_list, typed_left, typed_right, typed_not_sum, typed_pair, typed_not_first, typed_not_pair}
use Rattle.run_values.proofs.Typing.{list_falls, list_goes}
use mathlib.Core.Path.{refl, ap, ◌∙◌}
use Rattle.run_values.specs.Texts.{as_upto}
use Rattle.table_trees.specs.Unfolding.{type_of}
use Rattle.table_trees.proofs.Lines.{part_of}
use Rattle.run_values.proofs.+list_end_typed_end.Goals as goal

pub list_end-loop-next-smaller : goal.list_end-loop-next-smaller
list_end-loop-next-smaller t c =
    list_falls (type_of c.args.t.now c.args.i) c.args.s.now c.args.at c.loop-next.next c.loop-next.invariant c.loop-next-test.true refl c.if-b-eq-LETTER_EMPTY.false
    c.if-b-ne-LETTER_ELEMENT.false c.typed_end.ensures c.in_ok-next.was

pub list_end-loop-next-preserved : goal.list_end-loop-next-preserved
list_end-loop-next-preserved t c =
    list_goes (type_of c.args.t.now c.args.i) c.args.s.now c.args.at c.loop-next.next c.loop-next.invariant c.loop-next-test.true refl c.if-b-eq-LETTER_EMPTY.false
    c.if-b-ne-LETTER_ELEMENT.false c.typed_end.ensures c.in_ok-next.was

pub typed_end-returns-then-s-at : goal.typed_end-returns-then-s-at
typed_end-returns-then-s-at t c = typed_none c.args.t.now c.args.i c.args.s.now c.args.at c.if-s-at.true

pub typed_end-returns-then-b-eq-LETTER_LEFT : goal.typed_end-returns-then-b-eq-LETTER_LEFT
typed_end-returns-then-b-eq-LETTER_LEFT t c =
    typed_left c.args.t.now c.args.i c.args.s.now c.args.at c.if-s-at.false c.cell-kind.ensures.0 refl (part_of c.args.i c.cell.ensures.0 c.smaller.ensures) refl c.typed_end.result
    c.if-kind-eq-SUM.true c.if-b-eq-LETTER_LEFT.true c.typed_end.ensures

pub typed_end-returns-then-b-eq-LETTER_RIGHT : goal.typed_end-returns-then-b-eq-LETTER_RIGHT
typed_end-returns-then-b-eq-LETTER_RIGHT t c =
    typed_right c.args.t.now c.args.i c.args.s.now c.args.at c.if-s-at.false c.cell-kind.ensures.0 refl refl
    (part_of c.args.i c.cell-then-b-eq-LETTER_RIGHT.ensures.0 c.smaller-then-b-eq-LETTER_RIGHT.ensures) c.typed_end-then-b-eq-LETTER_RIGHT.result c.if-kind-eq-SUM.true
    c.if-b-eq-LETTER_LEFT.false c.if-b-eq-LETTER_RIGHT.true c.typed_end-then-b-eq-LETTER_RIGHT.ensures

pub typed_end-returns-then-kind-eq-SUM : goal.typed_end-returns-then-kind-eq-SUM
typed_end-returns-then-kind-eq-SUM t c =
    typed_not_sum c.args.t.now c.args.i c.args.s.now c.args.at c.if-s-at.false c.cell-kind.ensures.0 refl refl refl c.if-kind-eq-SUM.true c.if-b-eq-LETTER_LEFT.false c.if-b-eq-LETTER_RIGHT.false

pub typed_end-returns-then-b-eq-LETTER_PAIR : goal.typed_end-returns-then-b-eq-LETTER_PAIR
typed_end-returns-then-b-eq-LETTER_PAIR t c =
    typed_pair c.args.t.now c.args.i c.args.s.now c.args.at c.if-s-at.false c.cell-kind.ensures.0 refl
    (part_of c.args.i c.cell-then-b-eq-LETTER_PAIR.ensures.0 c.smaller-then-b-eq-LETTER_PAIR.ensures)
    (part_of c.args.i c.cell-then-b-eq-LETTER_PAIR-2.ensures.0 c.smaller-then-b-eq-LETTER_PAIR-2.ensures)
    c.if-kind-eq-PRODUCT.true c.typed_end-then-b-eq-LETTER_PAIR-2.result c.if-b-eq-LETTER_PAIR.true c.in_ok-m.was c.typed_end-then-b-eq-LETTER_PAIR.ensures
    c.typed_end-then-b-eq-LETTER_PAIR-2.ensures

pub typed_end-returns-in_err-m : goal.typed_end-returns-in_err-m
typed_end-returns-in_err-m t c =
    ap (as_upto c.args.s.now) c.from_residual.ensures
    ∙ typed_not_first c.args.t.now c.args.i c.args.s.now c.args.at c.if-s-at.false c.cell-kind.ensures.0 refl
    (part_of c.args.i c.cell-then-b-eq-LETTER_PAIR.ensures.0 c.smaller-then-b-eq-LETTER_PAIR.ensures) refl c.if-kind-eq-PRODUCT.true c.if-b-eq-LETTER_PAIR.true c.in_err-m.was
    c.typed_end-then-b-eq-LETTER_PAIR.ensures

pub typed_end-returns-then-kind-eq-PRODUCT : goal.typed_end-returns-then-kind-eq-PRODUCT
typed_end-returns-then-kind-eq-PRODUCT t c =
    typed_not_pair c.args.t.now c.args.i c.args.s.now c.args.at c.if-s-at.false c.cell-kind.ensures.0 refl refl refl c.if-kind-eq-PRODUCT.true c.if-b-eq-LETTER_PAIR.false

pub typed_end-returns-then-kind-eq-LIST : goal.typed_end-returns-then-kind-eq-LIST
typed_end-returns-then-kind-eq-LIST t c =
    typed_list c.args.t.now c.args.i c.args.s.now c.args.at c.if-s-at.false c.cell-kind.ensures.0 refl
    (part_of c.args.i c.cell-then-kind-eq-LIST.ensures.0 c.smaller-then-kind-eq-LIST.ensures) c.list_end.result c.if-kind-eq-LIST.true c.list_end.ensures

pub typed_end-returns-then-b-eq-LETTER_UNIT : goal.typed_end-returns-then-b-eq-LETTER_UNIT
typed_end-returns-then-b-eq-LETTER_UNIT t c =
    typed_unit c.args.t.now c.args.i c.args.s.now c.args.at c.if-s-at.false c.cell-kind.ensures.0 refl c.if-kind-eq-SUM.false c.if-kind-eq-PRODUCT.false c.if-kind-eq-LIST.false
    c.if-b-eq-LETTER_UNIT.true

pub typed_end-returns : goal.typed_end-returns
typed_end-returns t c =
    typed_not_unit c.args.t.now c.args.i c.args.s.now c.args.at c.if-s-at.false c.cell-kind.ensures.0 refl c.if-kind-eq-SUM.false c.if-kind-eq-PRODUCT.false c.if-kind-eq-LIST.false
    c.if-b-eq-LETTER_UNIT.false
