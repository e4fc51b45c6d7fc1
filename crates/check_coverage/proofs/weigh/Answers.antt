use Rattle.check_coverage.proofs.SideLaws.{weighed_fits}
use Rattle.check_coverage.proofs.weigh.Goals as goal

pub overflow_add-sum : goal.overflow_add-sum
overflow_add-sum c =
    record { fits = weighed_fits _ _ _ _ _ _ c.loop-i.invariant c.loop-i-test.true c.wide.ensures.value c.cell-p.ensures.0 c.tags_at.ensures c.weight-sum.ensures c.requires.0 }
