use Rattle.fault_pairs.proofs.Gathering.{value_shown}
use Rattle.fault_pairs.proofs.show_overlap.Goals as goal

pub returns : goal.returns
returns c = value_shown c.overlap_value-n.ensures c.copy_front.ensures
