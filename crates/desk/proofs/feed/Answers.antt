use Prim.Native.Nat.{◌-◌}
use Rattle.desk.proofs.Feeding.{feeds_more}
use Rattle.desk.proofs.feed.Goals as goal

pub loop-b-preserved : goal.loop-b-preserved
loop-b-preserved c =
    feeds_more c.loop-b.invariant c.feed_byte-n.result c.goes_on.ensures c.loop-b-test.true c.feed_byte-n.ensures
    (record {
      files = c.feed_byte-n.auto.file;
      lines = c.feed_byte-n.auto.line;
      tables = c.feed_byte-n.auto.table;
      works = c.feed_byte-n.auto.work;
      indices = c.feed_byte-n.auto.index;
      outs = c.feed_byte-n.auto.out;
    })
