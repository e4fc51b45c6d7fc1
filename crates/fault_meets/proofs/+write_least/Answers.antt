use mathlib.Core.Path.{refl}
use native.Mathlib.Omega.{arith}
use Rattle.table_trees.proofs.Lines.{line_sum, line_product, line_list, line_other}
use Rattle.area_cells.proofs.Writing.{prints_one}
use Rattle.fault_meets.proofs.Least.{spells_unit, spells_list, spells_left, spells_right, spells_pair}
use Rattle.fault_meets.proofs.+write_least.Goals as goal

pub returns-then-least_length : goal.returns-then-least_length
returns-then-least_length t c =
    spells_left (line_sum c.args.t.now c.args.i c.cell.ensures.0 c.type_part-a.ensures c.type_part-b.ensures c.in-1.is) c.least_length.ensures
    c.least_length-in-1.ensures c.if-least_length.true (prints_one c.put_byte-next.ensures.bytes_after c.put_byte-next.ensures.value) c.write_least.ensures

pub returns-else-least_length : goal.returns-else-least_length
returns-else-least_length t c =
    spells_right (line_sum c.args.t.now c.args.i c.cell.ensures.0 c.type_part-a.ensures c.type_part-b.ensures c.in-1.is) c.least_length.ensures
    c.least_length-in-1.ensures c.if-least_length.false (prints_one c.put_byte-next-else-least_length.ensures.bytes_after c.put_byte-next-else-least_length.ensures.value)
    c.write_least-else-least_length.ensures

pub returns-in-2 : goal.returns-in-2
returns-in-2 t c =
    spells_pair (line_product c.args.t.now c.args.i c.cell.ensures.0 c.type_part.ensures c.type_part-in-2.ensures c.in-2.is)
    (prints_one c.put_byte-next-in-2.ensures.bytes_after c.put_byte-next-in-2.ensures.value) c.write_least-middle.ensures c.write_least-in-2.ensures

pub returns-in-3 : goal.returns-in-3
returns-in-3 t c =
    spells_list (line_list c.args.t.now c.args.i c.cell.ensures.0 refl c.in-3.is) (prints_one c.put_byte.ensures.bytes_after c.put_byte.ensures.value)

pub returns-in_default : goal.returns-in_default
returns-in_default t c =
    spells_unit (line_other c.args.t.now c.args.i c.cell.ensures.0 (λ z. absurd (omega arith)) (λ z. absurd (omega arith)) (λ z. absurd (omega arith)))
    (prints_one c.put_byte-in_default.ensures.bytes_after c.put_byte-in_default.ensures.value)
