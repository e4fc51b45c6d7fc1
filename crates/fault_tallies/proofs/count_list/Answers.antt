use Rattle.fault_tallies.proofs.Flowing.{counted}
use Rattle.fault_tallies.proofs.count_list.Goals as goal

pub returns-then-n-le-MAX_NODES : goal.returns-then-n-le-MAX_NODES
returns-then-n-le-MAX_NODES c = counted c.lay-n.ensures c.if-n-le-MAX_NODES.true c.flow_counts.ensures
