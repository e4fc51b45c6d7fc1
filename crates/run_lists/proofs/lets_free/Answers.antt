use Rattle.run_lists.proofs.Marking.{lets_marked, lets_next}
use Rattle.run_lists.proofs.lets_free.Goals as goal

pub returns-then-item_at-ne0 : goal.returns-then-item_at-ne0
returns-then-item_at-ne0 c = lets_marked c.loop-n.invariant c.loop-n-test.true c.cell.ensures.0 c.item_at.ensures c.if-item_at-ne0.true

pub loop-n-preserved : goal.loop-n-preserved
loop-n-preserved c = lets_next c.loop-n.invariant c.loop-n-test.true c.cell.ensures.0 c.item_at.ensures c.if-item_at-ne0.false
