use Rattle.check_recursion.proofs.Rows.{QuietLeft}
use Rattle.check_recursion.proofs.is_quiet.Given as goal

abbrev pub invariant-loop-k : goal.invariant-loop-k
invariant-loop-k l = QuietLeft l.t l.base l.i l.rows l.last l.k
