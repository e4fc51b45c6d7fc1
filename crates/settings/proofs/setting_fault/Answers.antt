use mathlib.Core.Path.{refl}
use Rattle.settings.proofs.Answering.{fault_faulty, fault_high, fault_neither}
use Rattle.settings.proofs.setting_fault.Goals as goal

pub returns-then-is_refused : goal.returns-then-is_refused
returns-then-is_refused c =
    let a = (c.args) in fault_faulty a.t.now a.types a.i (c.type_fault-f.result) (c.type_fault-f.ensures) (c.is_refused.ensures) (c.if-is_refused.true) a.n

pub returns-then-count_values-n : goal.returns-then-count_values-n
returns-then-count_values-n c =
    let a = (c.args) in fault_high a.t.now a.types a.i (c.type_fault-f.result) (c.type_fault-f.ensures) (c.is_refused.ensures) (c.if-is_refused.false) a.n (c.count_values.ensures) _
    (c.if-count_values-n.true) refl

pub returns : goal.returns
returns c =
    let a = (c.args) in fault_neither a.t.now a.types a.i (c.type_fault-f.result) (c.type_fault-f.ensures) (c.is_refused.ensures) (c.if-is_refused.false) a.n (c.count_values.ensures) _
    (c.if-count_values-n.false) refl
