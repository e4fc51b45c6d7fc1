use Rattle.check_isos.proofs.Stepping.{Walking}
use Rattle.check_isos.proofs.walk_up.Given as goal

abbrev pub invariant-loop-n : goal.invariant-loop-n
invariant-loop-n l = Walking l.t l.base l.starts l.stop l.lines l.isos l.n l.w
