use Rattle.check_coverage.proofs.SideLaws.{overlaps_left, overlaps_right, gap_left_lem, gap_right_lem, no_fault}
use Rattle.check_coverage.proofs.side_fault.Goals as goal

pub returns-then-weigh-eq-FULL-2 : goal.returns-then-weigh-eq-FULL-2
returns-then-weigh-eq-FULL-2 c =
    no_fault _ _ c.orthogonal.ensures c.if-orthogonal.true c.orthogonal-then-orthogonal.ensures c.if-orthogonal-2.true c.weigh.ensures c.if-weigh-eq-FULL.true
    c.weigh-then-weigh-eq-FULL.ensures c.if-weigh-eq-FULL-2.true

pub returns-then-weigh-eq-FULL : goal.returns-then-weigh-eq-FULL
returns-then-weigh-eq-FULL c =
    gap_right_lem _ _ c.orthogonal.ensures c.if-orthogonal.true c.orthogonal-then-orthogonal.ensures c.if-orthogonal-2.true c.weigh.ensures c.if-weigh-eq-FULL.true
    c.weigh-then-weigh-eq-FULL.ensures c.if-weigh-eq-FULL-2.false

pub returns-then-orthogonal-2 : goal.returns-then-orthogonal-2
returns-then-orthogonal-2 c =
    gap_left_lem _ _ c.orthogonal.ensures c.if-orthogonal.true c.orthogonal-then-orthogonal.ensures c.if-orthogonal-2.true c.weigh.ensures c.if-weigh-eq-FULL.false

pub returns-then-orthogonal : goal.returns-then-orthogonal
returns-then-orthogonal c = overlaps_right _ _ c.orthogonal.ensures c.if-orthogonal.true c.orthogonal-then-orthogonal.ensures c.if-orthogonal-2.false

pub returns : goal.returns
returns c = overlaps_left _ _ c.orthogonal.ensures c.if-orthogonal.false
