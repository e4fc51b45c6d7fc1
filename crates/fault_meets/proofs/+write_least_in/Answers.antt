use mathlib.Core.Logic.{inl, inr}
use native.Mathlib.Omega.{arith}
use Rattle.table_trees.proofs.Cases.{joins_key}
use Rattle.fault_meets.proofs.Patterns.{node_line, left_line, right_line, leaf_line, in_var, in_leaf, in_tag, in_node}
use Rattle.area_cells.proofs.Writing.{prints_one}
use Rattle.table_trees.proofs.Lines.{is_var}
use Rattle.calculus.specs.Trees.{left, right}
use Rattle.fault_meets.proofs.+write_least_in.Goals as goal

pub returns-then-kind-eq-VARIABLE : goal.returns-then-kind-eq-VARIABLE
returns-then-kind-eq-VARIABLE t c = in_var (is_var c.args.t.now c.args.base c.args.p c.pattern_cell-kind.ensures.0 c.if-kind-eq-VARIABLE.true) c.write_least.ensures

pub returns-in-4 : goal.returns-in-4
returns-in-4 t c =
    let line = node_line c.args.t.now c.args.base c.args.p c.pattern_cell-kind.ensures.0 c.letter.ensures (joins_key c.in-4.is)
    c.pattern_part-a.ensures c.pattern_part-b.ensures in
    in_node (prints_one c.put_byte-next.ensures.bytes_after c.put_byte-next.ensures.value) line.0 line.1 line.2 c.first_part.ensures c.second_part.ensures c.write_least_in-middle.ensures
    c.write_least_in.ensures

pub returns-in-2 : goal.returns-in-2
returns-in-2 t c =
    let line = left_line c.args.t.now c.args.base c.args.p c.pattern_cell-kind.ensures.0 c.letter.ensures c.in-2.is c.pattern_part-a.ensures in
    in_tag (prints_one c.put_byte-next.ensures.bytes_after c.put_byte-next.ensures.value) left line.0 line.1 c.first_part-in-2.ensures c.write_least_in-in-2.ensures

pub returns-in-3 : goal.returns-in-3
returns-in-3 t c =
    let line = right_line c.args.t.now c.args.base c.args.p c.pattern_cell-kind.ensures.0 c.letter.ensures c.in-3.is c.pattern_part-a.ensures in
    in_tag (prints_one c.put_byte-next.ensures.bytes_after c.put_byte-next.ensures.value) right line.0 line.1 c.second_part-in-3.ensures c.write_least_in-in-3.ensures

pub returns-in_default : goal.returns-in_default
returns-in_default t c =
    let line = leaf_line c.args.t.now c.args.base c.args.p c.pattern_cell-kind.ensures.0 c.letter.ensures c.if-kind-eq-VARIABLE.false (λ z. c.in_default.in_default-own.rest.0.0.1 (inl z))
    (λ z. c.in_default.in_default-own.rest.0.0.1 (inr z)) (λ z. absurd (omega arith)) (λ z. absurd (omega arith)) in
    in_leaf line.0 line.1 line.2 (prints_one c.put_byte-next.ensures.bytes_after c.put_byte-next.ensures.value)
