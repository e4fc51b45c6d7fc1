use Rattle.list_lines.proofs.Reading.{reading_start, to_again, reading_next, reading_end}
use Prim.Native.Nat.{◌-◌}
use Rattle.list_lines.proofs.read_tos.Goals as goal

pub loop-at-init : goal.loop-at-init
loop-at-init c = reading_start _ _ _

pub returns-then-is_among : goal.returns-then-is_among
returns-then-is_among c = to_again c.loop-at.invariant c.loop-at-test.true c.line_end-end.ensures c.to_of.ensures c.in-Some.is c.is_among.ensures c.if-is_among.true

pub loop-at-preserved : goal.loop-at-preserved
loop-at-preserved c =
    reading_next c.loop-at.invariant c.loop-at-test.true c.line_end-end.ensures c.to_of.ensures c.in-Some.is c.if-most-to.false c.is_among.ensures c.if-is_among.false c.narrow.ensures
    c.store.ensures

pub returns : goal.returns
returns c = reading_end c.loop-at.invariant c.loop-at-test.false
