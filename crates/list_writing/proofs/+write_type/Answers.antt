use Rattle.table_trees.specs.Unfolding.{type_of}
use Rattle.table_trees.proofs.Lines.{part_of, line_sum, line_product, line_list, line_other}
use Rattle.list_writing.proofs.Following.{unit_done, list_done, sum_done, product_done}
use Rattle.list_writing.proofs.+write_type.Goals as goal

pub returns-then-kind-eq-SUM : goal.returns-then-kind-eq-SUM
returns-then-kind-eq-SUM t c =
    sum_done (type_of c.args.t.now c.smaller.result) (type_of c.args.t.now c.smaller-then-kind-eq-SUM.result) c.write_type-a.ensures c.write_type-b.ensures
    (line_sum c.args.t.now c.args.i c.cell-kind.ensures.0 (part_of c.args.i c.cell.ensures.0 c.smaller.ensures)
    (part_of c.args.i c.cell-then-kind-eq-SUM.ensures.0 c.smaller-then-kind-eq-SUM.ensures) c.if-kind-eq-SUM.true) c.enter_entry.ensures

pub returns-then-kind-eq-PRODUCT : goal.returns-then-kind-eq-PRODUCT
returns-then-kind-eq-PRODUCT t c =
    product_done (type_of c.args.t.now c.smaller-then-kind-eq-PRODUCT.result) (type_of c.args.t.now c.smaller-then-kind-eq-PRODUCT-2.result) c.write_type-a-then-kind-eq-PRODUCT.ensures
    c.write_type-b-then-kind-eq-PRODUCT.ensures
    (line_product c.args.t.now c.args.i c.cell-kind.ensures.0 (part_of c.args.i c.cell-then-kind-eq-PRODUCT.ensures.0 c.smaller-then-kind-eq-PRODUCT.ensures)
    (part_of c.args.i c.cell-then-kind-eq-PRODUCT-2.ensures.0 c.smaller-then-kind-eq-PRODUCT-2.ensures) c.if-kind-eq-PRODUCT.true) c.enter_entry-then-kind-eq-PRODUCT.ensures

pub returns-then-kind-eq-LIST : goal.returns-then-kind-eq-LIST
returns-then-kind-eq-LIST t c =
    list_done (type_of c.args.t.now c.smaller-then-kind-eq-LIST.result) c.write_type-a-then-kind-eq-LIST.ensures
    (line_list c.args.t.now c.args.i c.cell-kind.ensures.0 (part_of c.args.i c.cell-then-kind-eq-LIST.ensures.0 c.smaller-then-kind-eq-LIST.ensures) c.if-kind-eq-LIST.true)
    c.enter_entry-then-kind-eq-LIST.ensures

pub returns : goal.returns
returns t c =
    unit_done (line_other c.args.t.now c.args.i c.cell-kind.ensures.0 c.if-kind-eq-SUM.false c.if-kind-eq-PRODUCT.false c.if-kind-eq-LIST.false) c.enter_entry-2.ensures
