use Rattle.fault_tallies.proofs.Laying.{lays_never, lays_unit, lays_list, lays_sum, lays_product}
use Rattle.table_trees.proofs.Lines.{line_sum, line_product, line_list, line_other}
use Rattle.table_trees.specs.Unfolding.{type_of}
use borrow.Author.Rules.{rules}
use Rattle.fault_tallies.proofs.+lay.Goals as goal

pub returns-then-at-ge-MAX_NODES : goal.returns-then-at-ge-MAX_NODES
returns-then-at-ge-MAX_NODES t c = lays_never (type_of c.args.t.now c.args.i) c.args.one.now c.args.two.now c.if-at-ge-MAX_NODES.true

pub returns-then-kind-eq-SUM : goal.returns-then-kind-eq-SUM
returns-then-kind-eq-SUM t c =
    lays_sum c.args.one.now c.args.two.now c.if-at-ge-MAX_NODES.false (search rules)
    (search rules)
    (line_sum c.args.t.now c.args.i c.cell-kind.ensures.0 c.type_part.ensures c.type_part-then-kind-eq-SUM.ensures c.if-kind-eq-SUM.true) c.lay-middle.ensures c.lay-last.ensures

pub returns-then-kind-eq-PRODUCT : goal.returns-then-kind-eq-PRODUCT
returns-then-kind-eq-PRODUCT t c =
    lays_product c.args.one.now c.args.two.now c.if-at-ge-MAX_NODES.false (search rules)
    (search rules)
    (line_product c.args.t.now c.args.i c.cell-kind.ensures.0 c.type_part-then-kind-eq-PRODUCT-2.ensures c.type_part-then-kind-eq-PRODUCT.ensures c.if-kind-eq-PRODUCT.true)
    c.lay-middle-then-kind-eq-PRODUCT.ensures c.lay-last-then-kind-eq-PRODUCT.ensures

pub returns-then-kind-eq-LIST : goal.returns-then-kind-eq-LIST
returns-then-kind-eq-LIST t c =
    lays_list c.args.one.now c.args.two.now c.if-at-ge-MAX_NODES.false (search rules) (search rules)
    (line_list c.args.t.now c.args.i c.cell-kind.ensures.0 c.type_part-then-kind-eq-LIST.ensures c.if-kind-eq-LIST.true) c.lay-last-then-kind-eq-LIST.ensures

pub returns : goal.returns
returns t c =
    lays_unit c.args.one.now c.args.two.now c.if-at-ge-MAX_NODES.false (search rules) (search rules)
    (line_other c.args.t.now c.args.i c.cell-kind.ensures.0 c.if-kind-eq-SUM.false c.if-kind-eq-PRODUCT.false c.if-kind-eq-LIST.false)
