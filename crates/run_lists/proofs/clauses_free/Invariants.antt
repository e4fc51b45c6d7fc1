use Rattle.run_lists.proofs.Marking.{ClausesFrom}
use Rattle.run_lists.proofs.clauses_free.Given as goal

abbrev pub invariant-loop-n : goal.invariant-loop-n
invariant-loop-n l = ClausesFrom l.t l.marks l.index l.m l.end l.n
