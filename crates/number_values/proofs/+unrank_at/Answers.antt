use mathlib.Core.Path.{refl, sym, subst}
use lib.ListN.{set}
use Rattle.table_trees.specs.Unfolding.{cell_of, smaller_of, type_of}
use Rattle.table_trees.proofs.Lines.{part_of, line_sum, line_product}
use Rattle.number_values.specs.Numbers.{Unranks}
use Rattle.number_values.proofs.TypeLines.{line_rest}
use Rattle.number_values.proofs.Counting.{counted_some}
use Rattle.number_values.proofs.Spelling.{unranks_list, unranks_unit, unranks_left, unranks_right, unranks_pair}
use Prim.Native.Nat.{◌+◌}
use Rattle.number_values.proofs.+unrank_at.Goals as goal

pub returns-then-n-c : goal.returns-then-n-c
returns-then-n-c t c =
    let a = (c.args) in
    subst (λ x. Unranks x a.n a.out.now (c.unrank_at.new.out) a.at (c.unrank_at.result))
    (sym (line_sum a.t.now a.i (c.cell-kind.ensures.0) (part_of a.i (c.cell.ensures.0) (c.smaller-left.ensures)) refl (c.if-kind-eq-SUM.true)))
    (unranks_left a.n a.out.now a.at (c.if-out-at.false) (type_of a.t.now (c.smaller-left.result)) (type_of a.t.now (smaller_of (cell_of a.t.now a.i 3) a.i))
    (c.count_values-c.ensures) (c.if-n-c.true) (c.unrank_at.auto.out) (c.unrank_at.ensures))

pub returns-then-kind-eq-SUM : goal.returns-then-kind-eq-SUM
returns-then-kind-eq-SUM t c =
    let a = (c.args) in
    subst (λ x. Unranks x a.n a.out.now (c.unrank_at-then-kind-eq-SUM.new.out) a.at (c.unrank_at-then-kind-eq-SUM.result))
    (sym (line_sum a.t.now a.i (c.cell-kind.ensures.0) (part_of a.i (c.cell.ensures.0) (c.smaller-left.ensures)) (part_of a.i (c.cell-then-kind-eq-SUM.ensures.0) (c.smaller.ensures))
    (c.if-kind-eq-SUM.true)))
    (unranks_right a.n a.out.now a.at (c.if-out-at.false) (type_of a.t.now (c.smaller-left.result)) (type_of a.t.now (c.smaller.result)) (c.count_values-c.ensures) (c.if-n-c.false)
    (c.unrank_at-then-kind-eq-SUM.auto.out) (c.unrank_at-then-kind-eq-SUM.ensures))

pub returns-then-kind-eq-PRODUCT : goal.returns-then-kind-eq-PRODUCT
returns-then-kind-eq-PRODUCT t c =
    let a = (c.args) in
    subst (λ x. Unranks x a.n a.out.now (c.unrank_at-then-kind-eq-PRODUCT.new.out) a.at (c.unrank_at-then-kind-eq-PRODUCT.result))
    (sym (line_product a.t.now a.i (c.cell-kind.ensures.0) (part_of a.i (c.cell-then-kind-eq-PRODUCT-2.ensures.0) (c.smaller-then-kind-eq-PRODUCT.ensures))
    (part_of a.i (c.cell-then-kind-eq-PRODUCT.ensures.0) (c.smaller-right.ensures))
    (c.if-kind-eq-PRODUCT.true)))
    (unranks_pair a.n a.out.now a.at (c.if-out-at.false) (type_of a.t.now (c.smaller-then-kind-eq-PRODUCT.result)) (type_of a.t.now (c.smaller-right.result))
    (c.count_values-c-then-kind-eq-PRODUCT.ensures)
    (c.unrank_at-middle.auto.out) (c.unrank_at-middle.ensures) (c.unrank_at-then-kind-eq-PRODUCT.auto.out) (c.unrank_at-then-kind-eq-PRODUCT.ensures))

pub returns : goal.returns
returns t c =
    let a = (c.args) in
    line_rest (λ x. Unranks x a.n a.out.now (set a.out.now a.at 85) a.at (a.at + 1)) a.t.now a.i (c.cell-kind.ensures.0) (c.if-kind-eq-SUM.false) (c.if-kind-eq-PRODUCT.false)
    (unranks_unit a.n a.out.now a.at (c.if-out-at.false)) (λ b. unranks_list b a.n a.out.now (set a.out.now a.at 85) a.at (a.at + 1))

pub nonzero_div-n : goal.nonzero_div-n
nonzero_div-n t c = counted_some (type_of (c.args.t.now) (c.smaller-right.result)) (c.count_values-c-then-kind-eq-PRODUCT.ensures)

pub nonzero_rem-n : goal.nonzero_rem-n
nonzero_rem-n t c = counted_some (type_of (c.args.t.now) (c.smaller-right.result)) (c.count_values-c-then-kind-eq-PRODUCT.ensures)
