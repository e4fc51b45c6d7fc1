use mathlib.Core.Path.{refl}
use Rattle.table_trees.specs.Unfolding.{type_of}
use Rattle.table_trees.proofs.Lines.{part_of, line_sum, line_product, line_list, line_other}
use Rattle.number_values.proofs.Counting.{counts_sum, counts_product, counts_as}
use Rattle.number_values.proofs.+count_values.Goals as goal

pub returns-then-kind-eq-SUM : goal.returns-then-kind-eq-SUM
returns-then-kind-eq-SUM t c =
    let a = (c.args) in
    counts_as (c.both.result)
    (line_sum a.t.now a.i (c.cell-kind.ensures.0) (part_of a.i (c.cell.ensures.0) (c.smaller.ensures)) (part_of a.i (c.cell-then-kind-eq-SUM.ensures.0) (c.smaller-then-kind-eq-SUM.ensures))
    (c.if-kind-eq-SUM.true))
    (counts_sum (type_of a.t.now (c.smaller.result)) (type_of a.t.now (c.smaller-then-kind-eq-SUM.result)) (c.count_values-a.ensures) (c.count_values-b.ensures) (c.both.ensures))

pub returns-then-kind-eq-PRODUCT : goal.returns-then-kind-eq-PRODUCT
returns-then-kind-eq-PRODUCT t c =
    let a = (c.args) in
    counts_as (c.pairs.result)
    (line_product a.t.now a.i (c.cell-kind.ensures.0) (part_of a.i (c.cell-then-kind-eq-PRODUCT.ensures.0) (c.smaller-then-kind-eq-PRODUCT.ensures))
    (part_of a.i (c.cell-then-kind-eq-PRODUCT-2.ensures.0) (c.smaller-then-kind-eq-PRODUCT-2.ensures))
    (c.if-kind-eq-PRODUCT.true))
    (counts_product (type_of a.t.now (c.smaller-then-kind-eq-PRODUCT.result)) (type_of a.t.now (c.smaller-then-kind-eq-PRODUCT-2.result)) (c.count_values-a-then-kind-eq-PRODUCT.ensures)
    (c.count_values-b-then-kind-eq-PRODUCT.ensures) (c.pairs.ensures))

pub returns-then-kind-eq-LIST : goal.returns-then-kind-eq-LIST
returns-then-kind-eq-LIST t c = counts_as 4294967296 (line_list c.args.t.now c.args.i c.cell-kind.ensures.0 refl c.if-kind-eq-LIST.true) refl

pub returns : goal.returns
returns t c = counts_as 1 (line_other c.args.t.now c.args.i c.cell-kind.ensures.0 c.if-kind-eq-SUM.false c.if-kind-eq-PRODUCT.false c.if-kind-eq-LIST.false) refl
