use Rattle.exports.proofs.Printing.{printed_next}
use Prim.Native.Nat.{◌-◌}
use Rattle.exports.proofs.put_pairs.Goals as goal

pub loop-k-preserved : goal.loop-k-preserved
loop-k-preserved c = printed_next c.loop-k.invariant c.loop-k-test.true c.item_at.ensures c.wide.ensures.value c.wide.ensures.upper_bound c.put_pair-at.ensures c.put_pair-at.auto.out
