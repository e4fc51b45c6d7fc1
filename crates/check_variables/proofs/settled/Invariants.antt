use Rattle.check_variables.proofs.Marking.{Walked}
use Rattle.check_variables.proofs.settled.Given as goal

abbrev pub invariant-loop-s : goal.invariant-loop-s
invariant-loop-s l = Walked l.s-index l.fn.m.state
