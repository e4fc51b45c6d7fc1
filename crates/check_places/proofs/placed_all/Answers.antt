use mathlib.Core.Path.{ap}
use Rattle.std.proofs.Common.{Some}
use Rattle.check_places.proofs.Sides.{placing_next, placing_not, placing_all}
use Rattle.check_places.proofs.placed_all.Goals as goal

pub returns-then-not-branch : goal.returns-then-not-branch
returns-then-not-branch c =
    placing_not c.loop-i.invariant c.loop-i-test.true c.wide.ensures.value c.cell-p.ensures.0 c.in_ok-placed.ensures (ap Some c.if-not-branch.true)

pub loop-i-preserved : goal.loop-i-preserved
loop-i-preserved c =
    placing_next c.loop-i.invariant c.loop-i-test.true c.wide.ensures.value c.cell-p.ensures.0 c.in_ok-placed.ensures (ap Some c.if-not-branch.false)

pub returns : goal.returns
returns c = placing_all c.loop-i.invariant c.loop-i-test.false
