use mathlib.Core.Logic.{inl, inr}
use native.Mathlib.Omega.{arith}
use Rattle.table_trees.proofs.Cases.{joins_key}
use Rattle.fault_meets.proofs.Common.{both_var, both_any, both_leaf, both_tag, both_node, node_of}
use Rattle.fault_meets.proofs.Patterns.{node_line, left_line, right_line, leaf_line}
use Rattle.area_cells.proofs.Writing.{prints_one}
use Rattle.table_trees.proofs.Lines.{is_var}
use Rattle.table_trees.specs.Unfolding.{cell_of, smaller_of, pattern_of}
use Rattle.calculus.specs.Trees.{left, right}
use Prim.Native.Nat.{◌+◌}
use mathlib.Core.Path.{refl}
use Rattle.fault_meets.proofs.+write_common.Goals as goal

pub returns-then-kp-eq-VARIABLE : goal.returns-then-kp-eq-VARIABLE
returns-then-kp-eq-VARIABLE t c = both_var (is_var c.args.t.now c.args.base c.args.p c.pattern_cell-kp.ensures.0 c.if-kp-eq-VARIABLE.true) c.write_least_in.ensures

pub returns-then-kq-eq-VARIABLE : goal.returns-then-kq-eq-VARIABLE
returns-then-kq-eq-VARIABLE t c =
    both_any c.pattern_cell-kp.result (cell_of c.args.t.now (c.args.base + c.args.p) 2)
    (pattern_of c.args.t.now c.args.base (smaller_of (cell_of c.args.t.now (c.args.base + c.args.p) 2) c.args.p))
    (pattern_of c.args.t.now c.args.base (smaller_of (cell_of c.args.t.now (c.args.base + c.args.p) 3) c.args.p))
    (node_of c.args.t.now c.args.base c.args.p c.pattern_cell-kp.ensures.0 refl refl) c.if-kp-eq-VARIABLE.false
    (is_var c.args.t.now c.args.base c.args.q c.pattern_cell-kq.ensures.0 c.if-kq-eq-VARIABLE.true) c.write_least_in-then-kq-eq-VARIABLE.ensures

pub returns-in-4 : goal.returns-in-4
returns-in-4 t c =
    let line = node_line c.args.t.now c.args.base c.args.p c.pattern_cell-kp.ensures.0 c.letter.ensures (joins_key c.in-4.is)
    c.pattern_part-a.ensures c.pattern_part-b.ensures in
    both_node c.pattern_cell-kq.result (cell_of c.args.t.now (c.args.base + c.args.q) 2) (pattern_of c.args.t.now c.args.base c.pattern_part-c.result)
    (pattern_of c.args.t.now c.args.base c.pattern_part-d.result)
    (node_of c.args.t.now c.args.base c.args.q c.pattern_cell-kq.ensures.0 c.pattern_part-c.ensures c.pattern_part-d.ensures) c.if-kq-eq-VARIABLE.false
    (prints_one c.put_byte-next.ensures.bytes_after c.put_byte-next.ensures.value)
    line.0 line.1 line.2 c.first_part.ensures c.second_part.ensures c.write_common-middle.ensures c.write_common.ensures

pub returns-in-2 : goal.returns-in-2
returns-in-2 t c =
    let line = left_line c.args.t.now c.args.base c.args.p c.pattern_cell-kp.ensures.0 c.letter.ensures c.in-2.is c.pattern_part-a.ensures in
    both_tag c.pattern_cell-kq.result (cell_of c.args.t.now (c.args.base + c.args.q) 2) (pattern_of c.args.t.now c.args.base c.pattern_part-c.result)
    (pattern_of c.args.t.now c.args.base (smaller_of (cell_of c.args.t.now (c.args.base + c.args.q) 3) c.args.q))
    (node_of c.args.t.now c.args.base c.args.q c.pattern_cell-kq.ensures.0 c.pattern_part-c.ensures refl) c.if-kq-eq-VARIABLE.false
    (prints_one c.put_byte-next.ensures.bytes_after c.put_byte-next.ensures.value) left line.0 line.1 c.first_part-in-2.ensures c.write_common-in-2.ensures

pub returns-in-3 : goal.returns-in-3
returns-in-3 t c =
    let line = right_line c.args.t.now c.args.base c.args.p c.pattern_cell-kp.ensures.0 c.letter.ensures c.in-3.is c.pattern_part-a.ensures in
    both_tag c.pattern_cell-kq.result (cell_of c.args.t.now (c.args.base + c.args.q) 2) (pattern_of c.args.t.now c.args.base c.pattern_part-c.result)
    (pattern_of c.args.t.now c.args.base (smaller_of (cell_of c.args.t.now (c.args.base + c.args.q) 3) c.args.q))
    (node_of c.args.t.now c.args.base c.args.q c.pattern_cell-kq.ensures.0 c.pattern_part-c.ensures refl) c.if-kq-eq-VARIABLE.false
    (prints_one c.put_byte-next.ensures.bytes_after c.put_byte-next.ensures.value) right line.0 line.1 c.second_part-in-3.ensures c.write_common-in-3.ensures

pub returns-in_default : goal.returns-in_default
returns-in_default t c =
    let line = leaf_line c.args.t.now c.args.base c.args.p c.pattern_cell-kp.ensures.0 c.letter.ensures c.if-kp-eq-VARIABLE.false (λ z. c.in_default.in_default-own.rest.0.0.1 (inl z))
    (λ z. c.in_default.in_default-own.rest.0.0.1 (inr z)) (λ z. absurd (omega arith)) (λ z. absurd (omega arith)) in
    both_leaf line.0 line.1 line.2 (prints_one c.put_byte-next.ensures.bytes_after c.put_byte-next.ensures.value)
