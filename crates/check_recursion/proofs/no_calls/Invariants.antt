use Rattle.check_recursion.proofs.Laws.{CallsLeft}
use Rattle.check_recursion.proofs.no_calls.Given as goal

abbrev pub invariant-loop-n : goal.invariant-loop-n
invariant-loop-n l = CallsLeft l.t l.base l.i l.from l.to l.n
