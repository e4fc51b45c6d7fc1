use Rattle.list_file.proofs.Printing.{printed_start, printed_next}
use Rattle.list_file.proofs.put_entries.Goals as goal

pub loop-i-init : goal.loop-i-init
loop-i-init c = printed_start _ _ _ _ _

pub loop-i-preserved : goal.loop-i-preserved
loop-i-preserved c = printed_next c.loop-i.invariant c.loop-i-test.true c.put_entry-end.ensures c.put_entry-end.auto.out
