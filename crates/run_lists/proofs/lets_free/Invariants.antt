use Rattle.run_lists.proofs.Marking.{LetsFrom}
use Rattle.run_lists.proofs.lets_free.Given as goal

abbrev pub invariant-loop-n : goal.invariant-loop-n
invariant-loop-n l = LetsFrom l.t l.marks l.row l.end l.n
