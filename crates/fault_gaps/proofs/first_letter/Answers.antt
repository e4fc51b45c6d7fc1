use Rattle.fault_gaps.proofs.Descending.{first_unit, first_pair, first_sum, first_list}
use Rattle.table_trees.proofs.Lines.{line_sum, line_product, line_list, line_other}
use mathlib.Core.Path.{refl}
use Rattle.fault_gaps.proofs.first_letter.Goals as goal

pub returns-then-kind-eq-SUM : goal.returns-then-kind-eq-SUM
returns-then-kind-eq-SUM c = first_sum (line_sum c.args.t.now c.args.j c.cell-kind.ensures.0 refl refl c.if-kind-eq-SUM.true)

pub returns-then-kind-eq-PRODUCT : goal.returns-then-kind-eq-PRODUCT
returns-then-kind-eq-PRODUCT c = first_pair (line_product c.args.t.now c.args.j c.cell-kind.ensures.0 refl refl c.if-kind-eq-PRODUCT.true)

pub returns-then-kind-eq-LIST : goal.returns-then-kind-eq-LIST
returns-then-kind-eq-LIST c = first_list (line_list c.args.t.now c.args.j c.cell-kind.ensures.0 refl c.if-kind-eq-LIST.true)

pub returns : goal.returns
returns c = first_unit (line_other c.args.t.now c.args.j c.cell-kind.ensures.0 c.if-kind-eq-SUM.false c.if-kind-eq-PRODUCT.false c.if-kind-eq-LIST.false)
