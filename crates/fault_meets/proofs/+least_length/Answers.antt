use Rattle.table_trees.proofs.Lines.{line_sum, line_product}
use Rattle.fault_meets.proofs.Least.{length_leaf, length_sum, length_pair}
use native.Mathlib.Omega.{arith}
use Rattle.fault_meets.proofs.+least_length.Goals as goal

pub returns-in-1 : goal.returns-in-1
returns-in-1 t c =
    length_sum (line_sum c.args.t.now c.args.i c.cell.ensures.0 c.type_part.ensures c.type_part-in-1.ensures c.in-1.is) c.least_length-m.ensures
    c.least_length-n.ensures c.min.ensures c.above.ensures

pub returns-in-2 : goal.returns-in-2
returns-in-2 t c =
    length_pair (line_product c.args.t.now c.args.i c.cell.ensures.0 c.type_part-in-2.ensures c.type_part-in-2-2.ensures c.in-2.is)
    c.least_length-m-in-2.ensures c.least_length.ensures c.above-in-2.ensures

pub returns-in_default : goal.returns-in_default
returns-in_default t c = length_leaf c.args.t.now c.args.i c.cell.ensures.0 (λ z. absurd (omega arith)) (λ z. absurd (omega arith))
