use native.Mathlib.Omega.{arith}
use mathlib.Core.Logic.{inl, inr}
use Rattle.check_overlap.proofs.Walking.{walks_clash, walks_unit, walks_step, walks_end, lines_end, opened_unit, opened_named}
use Rattle.check_overlap.proofs.+compare_below_compare_first.Goals.{compare_below-then-p-a-via-then-p-a, compare_below-then-p-a-via-else-p-a+then-q-b}
use Rattle.check_overlap.proofs.+compare_below_compare_first.Goals.{compare_first-then-p-a-via-then-p-a, compare_first-then-p-a-via-else-p-a+then-q-b}
use Rattle.check_overlap.proofs.+compare_below_compare_first.Goals as goal

pub compare_below-returns-then-n-eq1 : goal.compare_below-returns-then-n-eq1
compare_below-returns-then-n-eq1 t c =
    walks_clash c.args.t.now c.args.base c.args.i c.args.j c.args.count c.loop-m.invariant c.loop-m-test.true c.compare_first-n.ensures c.if-n-eq1.true

pub compare_below-loop-m-preserved : goal.compare_below-loop-m-preserved
compare_below-loop-m-preserved t c =
    walks_step c.args.t.now c.args.base c.args.i c.args.j c.args.count c.loop-m.invariant c.loop-m-test.true c.compare_first-n.ensures c.if-n-eq1.false c.field-a.ensures c.field-b.ensures
    (omega arith) (omega arith)
    c.meeting-m.ensures

pub compare_below-returns : goal.compare_below-returns
compare_below-returns t c = walks_end c.args.t.now c.args.base c.args.i c.args.j c.args.count c.loop-m.invariant c.loop-m-test.false c.wrapping_add_usize-2.ensures.value

pub compare_first-returns-then-k-lt2 : goal.compare_first-returns-then-k-lt2
compare_first-returns-then-k-lt2 t c =
    opened_named c.args.t.now c.args.base c.args.p c.args.q c.args.m c.args.n c.wrapping_add_usize-next.ensures.value c.if-m-ne3.false c.field-a.ensures c.field-b.ensures (omega arith) (omega arith)
    (lines_end c.args.t.now c.args.base _ _ c.meeting-k.ensures _ c.if-k-lt2.true c.wrapping_add_usize-then-k-lt2.ensures.value)

pub compare_below-returns-then-p-a : goal.compare_below-returns-then-p-a
compare_below-returns-then-p-a t c =
    walks_unit c.args.t.now c.args.base c.args.i c.args.j c.args.count c.loop-m.invariant c.loop-m-test.true c.compare_first-n.ensures c.if-n-eq1.false c.field-a.ensures c.field-b.ensures
    (elim c.then-p-a.branch [
      | compare_below-then-p-a-via-then-p-a w ↦ inl w.if-p-a.true
      | compare_below-then-p-a-via-else-p-a+then-q-b w ↦ inr w.if-q-b.true
    ]) c.wrapping_add_usize.ensures.value

pub compare_first-returns-then-p-a : goal.compare_first-returns-then-p-a
compare_first-returns-then-p-a t c =
    opened_unit c.args.t.now c.args.base c.args.p c.args.q c.args.m c.args.n c.wrapping_add_usize-next.ensures.value c.if-m-ne3.false c.field-a.ensures c.field-b.ensures
    (elim c.then-p-a.branch [
      | compare_first-then-p-a-via-then-p-a w ↦ inl w.if-p-a.true
      | compare_first-then-p-a-via-else-p-a+then-q-b w ↦ inr w.if-q-b.true
    ]) c.wrapping_add_usize.ensures.value
