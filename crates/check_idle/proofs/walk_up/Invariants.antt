use Rattle.check_idle.proofs.Marking.{Walking}
use Rattle.check_idle.proofs.walk_up.Given as goal

abbrev pub invariant-loop-n : goal.invariant-loop-n
invariant-loop-n l = Walking l.t l.base l.lines l.initial.marks l.n l.marks l.found
