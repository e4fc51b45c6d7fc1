use Rattle.check_typing.proofs.Steps.{Descended}
use Rattle.check_typing.proofs.descend.Given as goal

abbrev pub invariant-loop-next : goal.invariant-loop-next
invariant-loop-next l = Descended l.t l.g l.base l.i l.b l.at.p l.at.a

abbrev pub decreases-loop-next : goal.decreases-loop-next
decreases-loop-next l = l.at.p
