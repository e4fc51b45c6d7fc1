use Rattle.runner.proofs.Copying.{Copied}
use Rattle.runner.proofs.run.copy_front.Given as goal

abbrev pub invariant-loop-i : goal.invariant-loop-i
invariant-loop-i l = Copied l.from l.n l.initial.to l.to l.i
