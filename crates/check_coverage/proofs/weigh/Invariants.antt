use Rattle.check_coverage.proofs.SideLaws.{Weighed}
use Rattle.check_coverage.proofs.weigh.Given as goal

abbrev pub invariant-loop-i : goal.invariant-loop-i
invariant-loop-i l = Weighed l.t l.base l.k l.rows l.i l.sum
