use Rattle.bound_counts.proofs.Reckoning.{reckoned_step, reckoned_end}
use Rattle.bound_counts.proofs.reckon.Goals as goal

pub loop-i-preserved : goal.loop-i-preserved
loop-i-preserved c = (
  reckoned_step c.loop-i.invariant.0 c.loop-i-test.true _ _ _ _ c.place-m.ensures.0 c.place-end.ensures.0 c.best_cost-low.ensures c.store.auto.items c.store.ensures,
  reckoned_step
      c.loop-i.invariant.1 c.loop-i-test.true _ _ _ _ c.place-m.ensures.0 c.place-end.ensures.0 c.best_cost-high.ensures c.store-in-loop-i.auto.items c.store-in-loop-i.ensures,
)

pub returns-clause-all_reckoned : goal.returns-clause-all_reckoned
returns-clause-all_reckoned c = reckoned_end c.loop-i.invariant.0 c.loop-i-test.false

pub returns-clause-all_reckoned_2 : goal.returns-clause-all_reckoned_2
returns-clause-all_reckoned_2 c = reckoned_end c.loop-i.invariant.1 c.loop-i-test.false
