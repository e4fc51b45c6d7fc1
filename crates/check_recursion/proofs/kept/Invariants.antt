use Rattle.check_recursion.proofs.Rows.{KeptLeft}
use Rattle.check_recursion.proofs.kept.Given as goal

abbrev pub invariant-loop-k : goal.invariant-loop-k
invariant-loop-k l = KeptLeft l.t l.base l.i l.back l.rows l.last l.k
