use mathlib.Core.Path.{refl, ◌∙◌}
use Rattle.check_recursion.proofs.Rows.{fault_quiet, fault_written, fault_turned, fault_clause, fault_never, fault_iso}
use Rattle.check_recursion.proofs.recursion_fault.Goals as goal

pub returns-then-is_quiet : goal.returns-then-is_quiet
returns-then-is_quiet c = c.passed.ensures ∙ fault_quiet c.args.t.now c.args.base c.args.i c.args.row c.args.rows.now c.args.last c.is_quiet.ensures c.if-is_quiet.true

pub returns-then-is_structural : goal.returns-then-is_structural
returns-then-is_structural c =
    c.passed-then-is_structural.ensures
    ∙ fault_written c.args.t.now c.args.base c.args.i c.args.row c.args.rows.now c.args.last c.is_quiet.ensures c.if-is_quiet.false c.cell.ensures.0 c.is_structural.ensures c.if-is_structural.true

pub returns-then-is_structural-2 : goal.returns-then-is_structural-2
returns-then-is_structural-2 c =
    c.passed-then-is_structural-2.ensures
    ∙ fault_turned c.args.t.now c.args.base c.args.i c.args.row c.args.rows.now c.args.last c.is_quiet.ensures c.if-is_quiet.false c.cell.ensures.0 c.is_structural.ensures
    c.if-is_structural.false c.cell-2.ensures.0 c.is_structural-2.ensures c.if-is_structural-2.true

pub returns-then-k-rows : goal.returns-then-k-rows
returns-then-k-rows c =
    fault_clause c.args.t.now c.args.base c.args.i c.args.row c.args.rows.now c.args.last c.is_quiet.ensures c.if-is_quiet.false c.cell.ensures.0 c.is_structural.ensures
    c.if-is_structural.false c.cell-2.ensures.0 c.is_structural-2.ensures c.if-is_structural-2.false c.cell-3.ensures.0 c.is_zoned.ensures c.if-is_zoned.true c.kept-k.ensures
    c.if-k-rows.true (c.wide.ensures.value ∙ c.item_at.ensures) refl

pub returns-then-is_zoned : goal.returns-then-is_zoned
returns-then-is_zoned c =
    c.passed-then-is_zoned.ensures
    ∙ fault_never c.args.t.now c.args.base c.args.i c.args.row c.args.rows.now c.args.last c.is_quiet.ensures c.if-is_quiet.false c.cell.ensures.0 c.is_structural.ensures
    c.if-is_structural.false c.cell-2.ensures.0 c.is_structural-2.ensures c.if-is_structural-2.false c.cell-3.ensures.0 c.is_zoned.ensures c.if-is_zoned.true c.kept-k.ensures c.if-k-rows.false

pub returns : goal.returns
returns c =
    fault_iso c.args.t.now c.args.base c.args.i c.args.row c.args.rows.now c.args.last c.is_quiet.ensures c.if-is_quiet.false c.cell.ensures.0 c.is_structural.ensures
    c.if-is_structural.false c.cell-2.ensures.0 c.is_structural-2.ensures c.if-is_structural-2.false c.cell-3.ensures.0 c.is_zoned.ensures c.if-is_zoned.false refl
