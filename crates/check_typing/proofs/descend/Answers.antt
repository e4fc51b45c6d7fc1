use Rattle.check_typing.proofs.Steps.{descended_next}
use Rattle.check_typing.proofs.descend.Goals as goal

pub loop-next-preserved : goal.loop-next-preserved
loop-next-preserved c = descended_next c.loop-next.invariant c.in-Some.ensures
