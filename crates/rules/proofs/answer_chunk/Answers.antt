use Prim.Native.Nat.{◌-◌}
use Rattle.rules.proofs.Going.{fed_next}
use Rattle.rules.proofs.answer_chunk.Goals as goal

pub loop-at-preserved : goal.loop-at-preserved
loop-at-preserved c =
    fed_next c.loop-at.invariant c.requires c.feed-f.result c.tail.ensures c.loop-at-test.true (c.feed-f.ensures.took, c.feed-f.ensures.feed_says)
    (record {
      file = c.feed-f.auto.file;
      line = c.feed-f.auto.line;
      table = c.feed-f.auto.table;
      work = c.feed-f.auto.work;
      index =
          c.feed-f.auto.index;
      out = c.feed-f.auto.out;
    })
