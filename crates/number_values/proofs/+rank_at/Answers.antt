use mathlib.Core.Path.{refl, sym, subst}
use Rattle.table_trees.specs.Unfolding.{cell_of, smaller_of, type_of}
use Rattle.table_trees.proofs.Lines.{part_of, line_sum, line_product}
use Rattle.number_values.specs.Numbers.{Ranks}
use Rattle.number_values.proofs.TypeLines.{line_rest}
use Rattle.number_values.proofs.Ranking.{ranks_list, ranks_unit, ranks_left, ranks_right, ranks_pair}
use Rattle.number_values.proofs.+rank_at.Goals as goal

pub returns-then-item_at-eq-LETTER_LEFT : goal.returns-then-item_at-eq-LETTER_LEFT
returns-then-item_at-eq-LETTER_LEFT t c =
    let a = (c.args) in
    subst (λ x. Ranks x a.s.now a.at (c.rank_at.result.number) (c.rank_at.result.end))
    (sym (line_sum a.t.now a.i (c.cell-kind.ensures.0) (part_of a.i (c.cell.ensures.0) (c.smaller-left.ensures)) refl (c.if-kind-eq-SUM.true)))
    (ranks_left a.s.now a.at (c.behind-next.ensures) (type_of a.t.now (c.smaller-left.result)) (type_of a.t.now (smaller_of (cell_of a.t.now a.i 3) a.i)) (c.item_at.ensures)
    (c.if-item_at-eq-LETTER_LEFT.true) (c.rank_at.ensures))

pub returns-then-kind-eq-SUM : goal.returns-then-kind-eq-SUM
returns-then-kind-eq-SUM t c =
    let a = (c.args) in
    subst (λ x. Ranks x a.s.now a.at (c.times_plus.result) (c.rank_at-r.result.end))
    (sym (line_sum a.t.now a.i (c.cell-kind.ensures.0) (part_of a.i (c.cell.ensures.0) (c.smaller-left.ensures)) (part_of a.i (c.cell-then-kind-eq-SUM.ensures.0) (c.smaller-right.ensures))
    (c.if-kind-eq-SUM.true)))
    (ranks_right a.s.now a.at (c.behind-next.ensures) (type_of a.t.now (c.smaller-left.result)) (type_of a.t.now (c.smaller-right.result)) (c.item_at.ensures) (c.if-item_at-eq-LETTER_LEFT.false)
    (c.rank_at-r.ensures) (c.count_values.ensures) (c.times_plus.ensures))

pub returns-then-kind-eq-PRODUCT : goal.returns-then-kind-eq-PRODUCT
returns-then-kind-eq-PRODUCT t c =
    let a = (c.args) in
    subst (λ x. Ranks x a.s.now a.at (c.times_plus-then-kind-eq-PRODUCT.result) (c.rank_at-u.result.end))
    (sym (line_product a.t.now a.i (c.cell-kind.ensures.0) (part_of a.i (c.cell-then-kind-eq-PRODUCT.ensures.0) (c.smaller-left-then-kind-eq-PRODUCT.ensures))
    (part_of a.i (c.cell-then-kind-eq-PRODUCT-2.ensures.0) (c.smaller-right-then-kind-eq-PRODUCT.ensures))
    (c.if-kind-eq-PRODUCT.true)))
    (ranks_pair a.s.now a.at (c.behind-next.ensures) (type_of a.t.now (c.smaller-left-then-kind-eq-PRODUCT.result)) (type_of a.t.now (c.smaller-right-then-kind-eq-PRODUCT.result))
    (c.rank_at-r-then-kind-eq-PRODUCT.ensures) (c.rank_at-u.ensures)
    (c.count_values-then-kind-eq-PRODUCT.ensures) (c.times_plus-then-kind-eq-PRODUCT.ensures))

pub returns : goal.returns
returns t c =
    let a = (c.args) in
    line_rest (λ x. Ranks x a.s.now a.at 0 (c.behind-next.result)) a.t.now a.i (c.cell-kind.ensures.0) (c.if-kind-eq-SUM.false) (c.if-kind-eq-PRODUCT.false)
    (ranks_unit a.s.now a.at (c.behind-next.ensures)) (λ b. ranks_list b a.s.now a.at 0 c.behind-next.result)
