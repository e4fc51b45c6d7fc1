use Rattle.list_entries.proofs.Finding.{searched_step, searched_hit}
use Rattle.list_entries.proofs.find_entry.Goals as goal

pub returns-then-same_entry : goal.returns-then-same_entry
returns-then-same_entry c = searched_hit c.loop-i.invariant c.loop-i-test.true c.same_entry.ensures c.if-same_entry.true

pub loop-i-preserved : goal.loop-i-preserved
loop-i-preserved c = searched_step c.loop-i.invariant c.loop-i-test.true c.same_entry.ensures c.if-same_entry.false
