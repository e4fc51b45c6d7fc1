use Rattle.check_coverage.proofs.SideLaws.{Apart}
use Rattle.check_coverage.proofs.apart.Given as goal

abbrev pub invariant-loop-i : goal.invariant-loop-i
invariant-loop-i l = Apart l.t l.base l.k l.rows l.i
