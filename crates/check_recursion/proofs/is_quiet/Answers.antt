use Rattle.check_recursion.proofs.Rows.{quiet_step, quiet_stop}
use Rattle.check_recursion.proofs.is_quiet.Goals as goal

pub loop-k-preserved : goal.loop-k-preserved
loop-k-preserved c = quiet_step c.loop-k.invariant c.loop-k-test.true c.wide.ensures.value c.next_row.ensures c.no_calls.ensures c.if-not-no_calls.false

pub returns-then-not-no_calls : goal.returns-then-not-no_calls
returns-then-not-no_calls c = quiet_stop c.loop-k.invariant c.loop-k-test.true c.wide.ensures.value c.next_row.ensures c.no_calls.ensures c.if-not-no_calls.true
