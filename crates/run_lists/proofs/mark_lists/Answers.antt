use Rattle.run_lists.proofs.Marking.{marking_step, marking_end}
use Rattle.run_lists.proofs.mark_lists.Goals as goal

pub loop-i-preserved : goal.loop-i-preserved
loop-i-preserved c =
    marking_step c.loop-i.invariant c.loop-i-test.true _ _ _ _ _ c.place.ensures.0 c.place-in-loop-i.ensures.0 c.iso_free-free.ensures c.from.ensures c.store.auto.items c.store.ensures

pub returns : goal.returns
returns c = marking_end c.loop-i.invariant c.loop-i-test.false
