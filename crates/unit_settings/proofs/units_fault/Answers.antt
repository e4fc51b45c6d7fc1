use Rattle.unit_settings.proofs.Testing.{through_fault, through_next}
use Rattle.unit_settings.proofs.units_fault.Goals as goal

pub returns-then-is_refused : goal.returns-then-is_refused
returns-then-is_refused c =
    through_fault c.loop-k.invariant c.loop-k-test.true c.setting_fault-f.ensures.refusal c.wide_number.ensures.value c.number_at.ensures c.is_refused.ensures c.if-is_refused.true

pub loop-k-preserved : goal.loop-k-preserved
loop-k-preserved c =
    through_next c.loop-k.invariant c.loop-k-test.true c.setting_fault-f.ensures.refusal c.wide_number.ensures.value c.number_at.ensures c.is_refused.ensures c.if-is_refused.false
