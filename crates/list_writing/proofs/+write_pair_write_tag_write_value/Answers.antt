use mathlib.Core.Path.{sym, subst}
use Rattle.table_trees.specs.Unfolding.{type_of}
use Rattle.number_values.proofs.Counting.{counted_some}
use Rattle.number_values.proofs.TypeLines.{line_rest}
use Rattle.table_trees.proofs.Lines.{part_of, line_sum, line_product}
use Rattle.list_writing.specs.Writing.{ValueDone}
use Rattle.list_writing.proofs.Following.{value_unit, value_list, value_left, value_right, value_pair}
use Rattle.list_writing.proofs.+write_pair_write_tag_write_value.Goals as goal

pub write_pair-nonzero_div-n : goal.write_pair-nonzero_div-n
write_pair-nonzero_div-n t c = counted_some (type_of c.args.t.now c.args.right) c.count_values-c.ensures

pub write_pair-nonzero_rem-n : goal.write_pair-nonzero_rem-n
write_pair-nonzero_rem-n t c = counted_some (type_of c.args.t.now c.args.right) c.count_values-c.ensures

pub write_pair-returns : goal.write_pair-returns
write_pair-returns t c =
    value_pair c.args.n (type_of c.args.t.now c.args.left) (type_of c.args.t.now c.args.right) c.count_values-c.ensures c.write_value-v.ensures c.write_value-w.ensures c.enter_entry.ensures

pub write_tag-returns-then-n-c : goal.write_tag-returns-then-n-c
write_tag-returns-then-n-c t c =
    value_left c.args.n (type_of c.args.t.now c.args.left) (type_of c.args.t.now c.args.right) c.count_values-c.ensures c.if-n-c.true c.write_value-v.ensures c.enter_entry.ensures

pub write_tag-returns : goal.write_tag-returns
write_tag-returns t c =
    value_right c.args.n (type_of c.args.t.now c.args.left) (type_of c.args.t.now c.args.right) c.count_values-c.ensures c.if-n-c.false c.write_value-w.ensures c.enter_entry-2.ensures

pub write_value-returns-in-1 : goal.write_value-returns-in-1
write_value-returns-in-1 t c =
    subst (λ x. ValueDone x c.args.n c.args.s.now c.write_tag.new.s c.args.to c.write_tag.result.number c.write_tag.result.end)
    (sym (line_sum c.args.t.now c.args.i c.cell-3.ensures.0 (part_of c.args.i c.cell.ensures.0 c.smaller-left.ensures) (part_of c.args.i c.cell-2.ensures.0 c.smaller-right.ensures)
    c.in-1.is)) c.write_tag.ensures

pub write_value-returns-in-2 : goal.write_value-returns-in-2
write_value-returns-in-2 t c =
    subst (λ x. ValueDone x c.args.n c.args.s.now c.write_pair.new.s c.args.to c.write_pair.result.number c.write_pair.result.end)
    (sym (line_product c.args.t.now c.args.i c.cell-3.ensures.0 (part_of c.args.i c.cell.ensures.0 c.smaller-left.ensures) (part_of c.args.i c.cell-2.ensures.0 c.smaller-right.ensures)
    c.in-2.is)) c.write_pair.ensures

pub write_value-returns-in_default : goal.write_value-returns-in_default
write_value-returns-in_default t c =
    line_rest (λ x. ValueDone x c.args.n c.args.s.now c.enter_entry.new.s c.args.to c.enter_entry.result.number c.enter_entry.result.end) c.args.t.now c.args.i c.cell-3.ensures.0
    c.in_default.in_default-own.rest.0.1 c.in_default.in_default-own.rest.1 (value_unit c.enter_entry.ensures)
    (λ b. value_list b c.args.n c.args.s.now c.enter_entry.new.s c.args.to c.enter_entry.result.number c.enter_entry.result.end)
