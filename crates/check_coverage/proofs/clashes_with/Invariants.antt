use Rattle.check_coverage.proofs.SideLaws.{Clashing}
use Rattle.check_coverage.proofs.clashes_with.Given as goal

abbrev pub invariant-loop-row : goal.invariant-loop-row
invariant-loop-row l = Clashing l.t l.base l.p l.k l.rows l.row-index
