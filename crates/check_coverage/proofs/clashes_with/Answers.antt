use borrow.Author.Tests.{not-false, not-true}
use Rattle.check_coverage.proofs.SideLaws.{clashing_step, clashing_not}
use Rattle.check_coverage.proofs.clashes_with.Goals as goal

pub loop-row-preserved : goal.loop-row-preserved
loop-row-preserved c = clashing_step _ _ _ _ _ _ c.loop-row.invariant c.loop-row-test.true c.wide.ensures.value c.cell.ensures.0 c.compare-c.ensures.0 (not-false _ c.if-not-c.false)

pub returns-then-not-c : goal.returns-then-not-c
returns-then-not-c c = clashing_not _ _ _ _ _ _ c.loop-row.invariant c.loop-row-test.true c.wide.ensures.value c.cell.ensures.0 c.compare-c.ensures.0 (not-true _ c.if-not-c.true)
