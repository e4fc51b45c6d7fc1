use Rattle.check_recursion.proofs.Rows.{kept_step, kept_stop}
use Rattle.check_recursion.proofs.kept.Goals as goal

pub loop-k-preserved : goal.loop-k-preserved
loop-k-preserved c = kept_step c.loop-k.invariant c.loop-k-test.true c.wide.ensures.value c.next_row.ensures c.clause_rule.ensures c.if-not-clause_rule.false

pub returns-then-not-clause_rule : goal.returns-then-not-clause_rule
returns-then-not-clause_rule c = kept_stop c.loop-k.invariant c.loop-k-test.true c.wide.ensures.value c.next_row.ensures c.clause_rule.ensures c.if-not-clause_rule.true
