use Rattle.check_bare.proofs.Marking.{stands_at, unit_is}
use Rattle.check_bare.proofs.unit_mark.Goals as goal

pub returns-then-cell-eq-TYPE_UNIT : goal.returns-then-cell-eq-TYPE_UNIT
returns-then-cell-eq-TYPE_UNIT c =
    (stands_at c.args.t.now c.args.g.now c.requires.1 c.loop-i-test.true (unit_is _ _ c.cell.ensures.0 c.if-cell-eq-TYPE_UNIT.true) c.wide.ensures.value, c.wide.ensures.upper_bound)
