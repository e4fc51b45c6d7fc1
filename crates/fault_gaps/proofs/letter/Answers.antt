use Rattle.fault_gaps.proofs.Descending.{picks_unit, picks_pair, picks_sum, picks_list}
use Rattle.table_trees.proofs.Lines.{line_sum, line_product, line_list, line_other}
use Rattle.fault_gaps.specs.Gaps.{Leaves}
use mathlib.Core.Path.{refl, subst}
use Rattle.fault_gaps.proofs.letter.Goals as goal

pub returns-then-has_gap : goal.returns-then-has_gap
returns-then-has_gap c =
    picks_sum c.args.n (line_sum c.args.t.now c.args.j c.cell-kind.ensures.0 refl refl c.if-kind-eq-SUM.true) (subst (Leaves _ _ _ _) c.if-has_gap.true c.has_gap.ensures)

pub returns-then-kind-eq-SUM : goal.returns-then-kind-eq-SUM
returns-then-kind-eq-SUM c =
    picks_sum c.args.n (line_sum c.args.t.now c.args.j c.cell-kind.ensures.0 refl refl c.if-kind-eq-SUM.true) (subst (Leaves _ _ _ _) c.if-has_gap.false c.has_gap.ensures)

pub returns-then-kind-eq-PRODUCT : goal.returns-then-kind-eq-PRODUCT
returns-then-kind-eq-PRODUCT c = picks_pair c.args.n (line_product c.args.t.now c.args.j c.cell-kind.ensures.0 refl refl c.if-kind-eq-PRODUCT.true)

pub returns-then-has_gap-2 : goal.returns-then-has_gap-2
returns-then-has_gap-2 c =
    picks_list c.args.n (line_list c.args.t.now c.args.j c.cell-kind.ensures.0 refl c.if-kind-eq-LIST.true) (subst (Leaves _ _ _ _) c.if-has_gap-2.true c.has_gap-then-kind-eq-LIST.ensures)

pub returns-then-kind-eq-LIST : goal.returns-then-kind-eq-LIST
returns-then-kind-eq-LIST c =
    picks_list c.args.n (line_list c.args.t.now c.args.j c.cell-kind.ensures.0 refl c.if-kind-eq-LIST.true) (subst (Leaves _ _ _ _) c.if-has_gap-2.false c.has_gap-then-kind-eq-LIST.ensures)

pub returns : goal.returns
returns c = picks_unit c.args.n (line_other c.args.t.now c.args.j c.cell-kind.ensures.0 c.if-kind-eq-SUM.false c.if-kind-eq-PRODUCT.false c.if-kind-eq-LIST.false)
