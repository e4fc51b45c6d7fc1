use native.Mathlib.Nat.{zero-add}
use Rattle.fault_tallies.proofs.Counting.{held_as, held_zeros}
use Rattle.fault_tallies.proofs.Adding.{going_start, going_end, going_list, going_sum, going_product}
use borrow.Author.Rules.{rules}
use Rattle.fault_tallies.proofs.+add_type_count_type.Goals as goal

pub add_type-loop-k-init : goal.add_type-loop-k-init
add_type-loop-k-init t c = going_start c.args.m c.args.t.now c.args.i (search rules) (search rules)

pub add_type-returns-then-kind-eq-LIST : goal.add_type-returns-then-kind-eq-LIST
add_type-returns-then-kind-eq-LIST t c = going_list c.args.m c.args.t.now c.args.i c.loop-k.invariant c.count_list.ensures c.add.ensures

pub add_type-loop-k-preserved-then-kind-eq-SUM : goal.add_type-loop-k-preserved-then-kind-eq-SUM
add_type-loop-k-preserved-then-kind-eq-SUM t c =
    going_sum c.args.m c.args.t.now c.args.i c.loop-k.invariant c.shift.ensures c.cell-kind.ensures.0 c.halves-h.ensures c.if-kind-eq-SUM.true (search rules) (search rules) c.add_type.ensures

pub add_type-loop-k-preserved : goal.add_type-loop-k-preserved
add_type-loop-k-preserved t c =
    going_product c.args.m c.args.t.now c.args.i c.loop-k.invariant c.shift.ensures c.cell-kind.ensures.0 c.halves-h-then-kind-eq-PRODUCT.ensures c.if-kind-eq-PRODUCT.true (search rules)
    c.count_type.ensures

pub add_type-returns-else-kind-eq-PRODUCT : goal.add_type-returns-else-kind-eq-PRODUCT
add_type-returns-else-kind-eq-PRODUCT t c =
    going_end c.args.m c.args.t.now c.args.i c.loop-k.invariant c.shift.ensures c.cell-kind.ensures.0 c.if-kind-eq-SUM.false c.if-kind-eq-PRODUCT.false c.if-kind-eq-LIST.false
    c.add-else-kind-eq-PRODUCT.ensures

pub count_type-returns : goal.count_type-returns
count_type-returns t c = λ z W h. held_as _ (λ n. zero-add _) (c.add_type.ensures z W (λ n. 0) h (held_zeros h.wide))
