use Rattle.list_writing.proofs.Pairing.{pairs_start, pairs_next}
use Rattle.list_writing.proofs.write_pairs.Goals as goal

pub loop-k-init : goal.loop-k-init
loop-k-init c = pairs_start _ _ _ _ _ _

pub loop-k-preserved : goal.loop-k-preserved
loop-k-preserved c =
    pairs_next c.loop-k.invariant c.loop-k-test.true c.requires.1 c.item_at.ensures c.wide.ensures.value c.write_clause-end.ensures c.write_clause-end.auto.s c.write_clause-end.auto.q
