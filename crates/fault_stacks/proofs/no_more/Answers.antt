use Rattle.fault_stacks.proofs.Counting.{empty_counts}
use Rattle.fault_stacks.proofs.no_more.Goals as goal

pub returns : goal.returns
returns c = empty_counts
