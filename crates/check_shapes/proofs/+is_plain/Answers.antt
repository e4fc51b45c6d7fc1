use native.Mathlib.Omega.{arith}
use mathlib.Core.Path.{◌∙◌}
use Rattle.check_shapes.proofs.Plainness.{plain_end, plain_not, plain_no_list, plain_no_element, plain_first, plain_second}
use Rattle.table_trees.proofs.Cases.{injects, plain_below, plain_beyond}
use Rattle.check_shapes.proofs.+is_plain.Goals as goal

pub returns-then-is_plain : goal.returns-then-is_plain
returns-then-is_plain t c =
    plain_second c.args.t.now c.args.base c.args.p c.pattern_cell.ensures.0 c.in-4.is c.pattern_part-a.ensures c.is_plain.ensures c.if-is_plain.true c.pattern_part.ensures
    c.is_plain-then-is_plain.ensures

pub returns-else-is_plain : goal.returns-else-is_plain
returns-else-is_plain t c =
    c.if-is_plain.false ∙ plain_first c.args.t.now c.args.base c.args.p c.pattern_cell.ensures.0 c.in-4.is c.pattern_part-a.ensures c.is_plain.ensures c.if-is_plain.false

pub returns-in-5 : goal.returns-in-5
returns-in-5 t c = plain_no_list c.args.t.now c.args.base c.args.p c.pattern_cell.ensures.0 c.in-5.is

pub returns-in-6 : goal.returns-in-6
returns-in-6 t c = plain_no_element c.args.t.now c.args.base c.args.p c.pattern_cell.ensures.0 c.in-6.is

pub returns-in-2 : goal.returns-in-2
returns-in-2 t c = plain_not c.args.t.now c.args.base c.args.p c.pattern_cell.ensures.0 (injects _ (omega arith) (omega arith))

pub returns-in_default : goal.returns-in_default
returns-in_default t c = plain_end c.args.t.now c.args.base c.args.p c.pattern_cell.ensures.0 (plain_below _ (omega arith))

pub returns-in_default-2 : goal.returns-in_default-2
returns-in_default-2 t c =
    plain_end c.args.t.now c.args.base c.args.p c.pattern_cell.ensures.0
    (plain_beyond _ (omega arith) c.in_default.in_default-own.rest.0.0.1 c.in_default.in_default-own.rest.0.1 c.in_default.in_default-own.rest.1)
