use Rattle.fault_gaps.proofs.Descending.{leaves_few, leaves_none, leaves_some}
use native.Mathlib.Omega.{arith}
use Rattle.fault_gaps.proofs.has_gap.Goals as goal

pub returns-then-n-lt-SHORT : goal.returns-then-n-lt-SHORT
returns-then-n-lt-SHORT c = leaves_few c.count_gaps.ensures c.if-n-lt-SHORT.true c.if-k-n-eq0.true

pub returns-then-k-n-eq0-2 : goal.returns-then-k-n-eq0-2
returns-then-k-n-eq0-2 c = leaves_none c.count_gaps.ensures c.count_gaps-then-k-n-eq0.ensures c.requires.1 c.if-k-n-eq0.true c.if-k-n-eq0-2.true

pub returns-else-k-n-eq0-2 : goal.returns-else-k-n-eq0-2
returns-else-k-n-eq0-2 c = leaves_some (omega arith) c.count_gaps-then-k-n-eq0.ensures c.requires.1 c.if-k-n-eq0-2.false

pub returns-else-k-n-eq0 : goal.returns-else-k-n-eq0
returns-else-k-n-eq0 c = leaves_some (omega arith) c.count_gaps.ensures c.requires.1 c.if-k-n-eq0.false
