use native.Mathlib.Omega.{arith}
use mathlib.Core.Path.{refl}
use Rattle.table_trees.proofs.Cases.{plain_unit, plain_past}
use Rattle.check_typing.proofs.Meeting.{has_parts, parts_call}
use Rattle.check_typing.proofs.Steps.{reached_rank, fitted_from, fitted_bare, fitted_var, fitted_unit, fitted_tag_not, fitted_tag, fitted_pair_not, fitted_pair, fitted_pair_stop}
use Rattle.check_typing.proofs.Steps.{fitted_empty, fitted_element_not, fitted_element, fitted_element_stop}
use Rattle.check_typing.proofs.+fit_element_fit_lines_fit_parts.Goals as goal
use Rattle.check_typing.proofs.+fit_element_fit_lines_fit_parts.Goals.{fit_lines-in_default-via-then-kp-lt1, fit_lines-in_default-via-else-kp-lt1+else-kp-lt5}

pub fit_element-returns-then-ka-ne-LIST : goal.fit_element-returns-then-ka-ne-LIST
fit_element-returns-then-ka-ne-LIST t c = fitted_element_not c.args.t.now c.args.base c.args.p c.args.a c.args.binds c.args.line.now refl c.requires.0.type c.requires.0.pattern c.if-ka-ne-LIST.true

pub fit_element-returns-then-fit_lines : goal.fit_element-returns-then-fit_lines
fit_element-returns-then-fit_lines t c =
    fitted_element c.args.t.now c.args.base c.args.p c.args.a c.args.binds c.args.line.now refl c.requires.0.type c.requires.0.pattern c.if-ka-ne-LIST.false c.sooner-k.ensures
    c.pattern_part-first.ensures c.list_part-b.ensures c.fit_lines.ensures c.if-fit_lines.true c.later-l.ensures c.pattern_part-second.ensures c.list_part-c.ensures
    c.fit_lines-then-fit_lines.ensures

pub fit_element-returns : goal.fit_element-returns
fit_element-returns t c =
    fitted_element_stop c.args.t.now c.args.base c.args.p c.args.a c.args.binds c.args.line.now refl c.requires.0.type c.requires.0.pattern c.if-ka-ne-LIST.false c.sooner-k.ensures
    c.pattern_part-first.ensures c.list_part-b.ensures c.fit_lines.ensures c.if-fit_lines.false

pub fit_lines-returns-then-is_bare : goal.fit_lines-returns-then-is_bare
fit_lines-returns-then-is_bare t c = fitted_from c.reach-at.ensures (fitted_bare (c.is_bare.ensures c.if-is_bare.true c.args.t.now c.requires.0))

pub fit_lines-fit_parts-requires : goal.fit_lines-fit_parts-requires
fit_lines-fit_parts-requires t c = (
  parts_call (reached_rank c.reach-at.ensures) c.decreases,
  (record { pattern = c.pattern_cell-kp.ensures.0; type = c.cell-ka.ensures.0; parts = has_parts _ (omega arith) c.in-2.in_default-own.rest.0.0.1 (omega arith) }, c.requires.0, c.requires.1),
)

pub fit_lines-returns-in-1 : goal.fit_lines-returns-in-1
fit_lines-returns-in-1 t c =
    fitted_from c.reach-at.ensures
    (fitted_var c.args.t.now c.args.base c.reach-at.result.p c.reach-at.result.a c.args.binds c.args.line.now c.pattern_cell-kp.ensures.0 c.cell-ka.ensures.0 c.in-1.is
    c.pattern_cell.ensures.0 c.assign.ensures)

pub fit_lines-returns-in-5 : goal.fit_lines-returns-in-5
fit_lines-returns-in-5 t c =
    fitted_from c.reach-at.ensures
    (fitted_empty c.args.t.now c.args.base c.reach-at.result.p c.reach-at.result.a c.args.binds c.args.line.now c.pattern_cell-kp.ensures.0 c.cell-ka.ensures.0 c.in-5.is refl)

pub fit_lines-returns-in-6 : goal.fit_lines-returns-in-6
fit_lines-returns-in-6 t c = fitted_from c.reach-at.ensures c.fit_element.ensures

pub fit_lines-returns-in-2 : goal.fit_lines-returns-in-2
fit_lines-returns-in-2 t c = fitted_from c.reach-at.ensures c.fit_parts.ensures

pub fit_lines-returns-in_default : goal.fit_lines-returns-in_default
fit_lines-returns-in_default t c =
    fitted_from c.reach-at.ensures
    (fitted_unit c.args.t.now c.args.base c.reach-at.result.p c.reach-at.result.a c.args.binds c.args.line.now c.pattern_cell-kp.ensures.0 c.cell-ka.ensures.0
    (elim c.in_default.branch [
      | fit_lines-in_default-via-then-kp-lt1 w ↦ plain_unit _ (omega arith)
      | fit_lines-in_default-via-else-kp-lt1+else-kp-lt5 w ↦ plain_past _ (omega arith) c.in_default-1.rest.0.1 c.in_default-1.rest.1
    ]) c.in_default-1.rest.0.0.1 c.names_nothing.ensures)

pub fit_parts-returns-then-ka-eq-SUM : goal.fit_parts-returns-then-ka-eq-SUM
fit_parts-returns-then-ka-eq-SUM t c =
    fitted_tag c.args.t.now c.args.base c.args.p c.args.a c.args.binds c.args.line.now c.requires.0.pattern c.requires.0.type c.requires.0.parts c.if-kp-ne-PAIR.true c.if-ka-eq-SUM.true
    c.pattern_part-only.ensures c.type_part-part.ensures c.fit_lines.ensures

pub fit_parts-returns-then-kp-ne-PAIR : goal.fit_parts-returns-then-kp-ne-PAIR
fit_parts-returns-then-kp-ne-PAIR t c =
    fitted_tag_not c.args.t.now c.args.base c.args.p c.args.a c.args.binds c.args.line.now c.requires.0.pattern c.requires.0.type c.requires.0.parts c.if-kp-ne-PAIR.true c.if-ka-eq-SUM.false

pub fit_parts-returns-then-ka-ne-PRODUCT : goal.fit_parts-returns-then-ka-ne-PRODUCT
fit_parts-returns-then-ka-ne-PRODUCT t c =
    fitted_pair_not c.args.t.now c.args.base c.args.p c.args.a c.args.binds c.args.line.now c.requires.0.pattern c.requires.0.type c.if-kp-ne-PAIR.false c.if-ka-ne-PRODUCT.true

pub fit_parts-returns-then-fit_lines : goal.fit_parts-returns-then-fit_lines
fit_parts-returns-then-fit_lines t c =
    fitted_pair c.args.t.now c.args.base c.args.p c.args.a c.args.binds c.args.line.now c.requires.0.pattern c.requires.0.type c.if-kp-ne-PAIR.false c.if-ka-ne-PRODUCT.false
    c.sooner-k.ensures c.pattern_part-first.ensures c.type_part-b.ensures c.fit_lines-2.ensures c.if-fit_lines.true c.later-l.ensures c.pattern_part-second.ensures c.type_part-c.ensures
    c.fit_lines-then-fit_lines.ensures

pub fit_parts-returns : goal.fit_parts-returns
fit_parts-returns t c =
    fitted_pair_stop c.args.t.now c.args.base c.args.p c.args.a c.args.binds c.args.line.now c.requires.0.pattern c.requires.0.type c.if-kp-ne-PAIR.false c.if-ka-ne-PRODUCT.false
    c.sooner-k.ensures c.pattern_part-first.ensures c.type_part-b.ensures c.fit_lines-2.ensures c.if-fit_lines.false
