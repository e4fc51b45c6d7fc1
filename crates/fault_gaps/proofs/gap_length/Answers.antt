use Rattle.fault_gaps.proofs.Descending.{first_few, first_other, first_one}
use Rattle.fault_gaps.proofs.gap_length.Goals as goal

pub returns-then-n-le-SHORT : goal.returns-then-n-le-SHORT
returns-then-n-le-SHORT c = first_few c.count_gaps.ensures c.first_count-n.ensures c.if-n-le-SHORT.true

pub returns-then-p-n : goal.returns-then-p-n
returns-then-p-n c = first_other c.count_gaps.ensures c.first_count-n.ensures c.count_gaps-2.ensures c.first_count-p.ensures c.if-p-n.true

pub returns : goal.returns
returns c = first_one c.count_gaps.ensures c.first_count-n.ensures c.count_gaps-2.ensures c.first_count-p.ensures c.if-p-n.false
