use Prim.Native.Nat.{◌-◌}
use Rattle.sheets.proofs.Answering.{through_room, through_next}
use Rattle.sheets.proofs.answer_lines.Goals as goal

pub loop-at-preserved : goal.loop-at-preserved
loop-at-preserved c =
    through_next c.loop-at.invariant c.loop-at-test.true c.line_end-end.ensures (through_room c.loop-at.invariant c.loop-at-test.true c.line_end-end.ensures c.requires.0 c.requires.1)
    c.answer_one.ensures c.answer_one.auto.work c.answer_one.auto.numbers c.answer_one.auto.letters
