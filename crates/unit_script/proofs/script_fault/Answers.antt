use Prim.Native.Nat.{◌-◌}
use Rattle.unit_script.proofs.Script.{through_bad, through_next}
use Rattle.unit_script.proofs.script_fault.Goals as goal

pub returns-then-is_refused : goal.returns-then-is_refused
returns-then-is_refused c =
    through_bad c.args.units c.args.isos c.args.marks.now c.args.script.now c.loop-at.invariant c.loop-at-test.true c.line_end-end.ensures c.line_fault-f.result c.line_fault-f.ensures
    c.is_refused.ensures c.if-is_refused.true

pub loop-at-preserved : goal.loop-at-preserved
loop-at-preserved c =
    through_next c.args.units c.args.isos c.args.marks.now c.args.script.now c.loop-at.invariant c.loop-at-test.true c.line_end-end.ensures c.line_fault-f.result c.line_fault-f.ensures
    c.is_refused.ensures c.if-is_refused.false
