use Rattle.read_fields.proofs.Ends.{ahead_step, ahead_feed, ahead_end, ahead_all}
use Rattle.read_fields.proofs.Cursor.line_end.Goals as goal

pub returns-then-s-at-eq-LINE_FEED : goal.returns-then-s-at-eq-LINE_FEED
returns-then-s-at-eq-LINE_FEED c = ahead_feed c.loop-at.invariant c.loop-at-test.true c.if-s-at-eq-LINE_FEED.true

pub loop-at-preserved : goal.loop-at-preserved
loop-at-preserved c = ahead_step c.loop-at.invariant c.loop-at-test.true c.if-s-at-eq-LINE_FEED.false

pub returns : goal.returns
returns c = ahead_all c.loop-at.invariant c.loop-at-test.false c.loop-at.auto.at-end c.max.ensures
