use Rattle.fault_tallies.proofs.Patterns.{as_leaf, as_var, as_tag, as_node, a_leaf, a_node}
use Rattle.table_trees.proofs.Lines.{is_var, is_left, is_right}
use Rattle.table_trees.specs.Unfolding.{type_of}
use Rattle.calculus.specs.Trees.{left, right}
use Rattle.fault_tallies.proofs.+count_pattern.Goals as goal

pub returns-then-kind-eq-VARIABLE : goal.returns-then-kind-eq-VARIABLE
returns-then-kind-eq-VARIABLE t c =
    as_var c.args.m (type_of c.args.t.now c.args.i) (is_var c.args.t.now c.args.base c.args.p c.pattern_cell-kind.ensures.0 c.if-kind-eq-VARIABLE.true) c.count_type.ensures

pub returns-then-kind-eq-LEFT : goal.returns-then-kind-eq-LEFT
returns-then-kind-eq-LEFT t c =
    as_tag c.args.m (type_of c.args.t.now c.args.i) left (is_left c.args.t.now c.args.base c.args.p c.pattern_cell-kind.ensures.0 c.if-kind-eq-LEFT.true c.pattern_part.ensures)
    c.first_part.ensures c.count_pattern.ensures c.shift.ensures

pub returns-then-kind-eq-RIGHT : goal.returns-then-kind-eq-RIGHT
returns-then-kind-eq-RIGHT t c =
    as_tag c.args.m (type_of c.args.t.now c.args.i) right
    (is_right c.args.t.now c.args.base c.args.p c.pattern_cell-kind.ensures.0 c.if-kind-eq-RIGHT.true c.pattern_part-then-kind-eq-RIGHT.ensures) c.second_part.ensures
    c.count_pattern-then-kind-eq-RIGHT.ensures c.shift-then-kind-eq-RIGHT.ensures

pub returns-then-has_two : goal.returns-then-has_two
returns-then-has_two t c =
    let line = a_node c.args.t.now c.args.base c.args.p c.pattern_cell-kind.ensures.0 (c.has_two.ensures.joins c.if-has_two.true) c.pattern_part-then-has_two-2.ensures
    c.pattern_part-then-has_two.ensures in
    as_node c.args.m (type_of c.args.t.now c.args.i) line.0 line.1 c.first_part-then-has_two.ensures c.second_part-then-has_two.ensures c.count_pattern-then-has_two.ensures
    c.count_pattern-then-has_two-2.ensures c.shift-then-has_two.ensures

pub returns : goal.returns
returns t c =
    let line = a_leaf c.args.t.now c.args.base c.args.p c.pattern_cell-kind.ensures.0 c.if-kind-eq-VARIABLE.false c.if-kind-eq-LEFT.false c.if-kind-eq-RIGHT.false
    (c.has_two.ensures.no_pair c.if-has_two.false)
    (c.has_two.ensures.no_element c.if-has_two.false) in
    as_leaf c.args.m (type_of c.args.t.now c.args.i) line.0 line.1 c.shift-2.ensures
