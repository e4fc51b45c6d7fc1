use mathlib.Core.Path.{refl, ap}
use native.Mathlib.Omega.{arith}
use Rattle.format.specs.Code.{refusal_view}
use Rattle.settings.proofs.Answering.{number_fault, number_strange, number_fits, number_given}
use Rattle.settings.proofs.number_checked.Goals as goal

pub returns-then-is_refused : goal.returns-then-is_refused
returns-then-is_refused c =
    let a = (c.args) in number_fault a.t.now a.types a.i (c.type_fault-f.result) (c.type_fault-f.ensures) (c.is_refused.ensures) (c.if-is_refused.true) a.value.now
    (c.not_numbered.result) (c.not_numbered.ensures.0) (c.not_numbered.ensures.1)

pub returns-then-not-is_value : goal.returns-then-not-is_value
returns-then-not-is_value c =
    let a = (c.args) in number_strange a.t.now a.types a.i (c.type_fault-f.result) (c.type_fault-f.ensures) (c.is_refused.ensures) (c.if-is_refused.false) a.value.now (c.is_value.ensures)
    c.if-not-is_value.true (c.not_numbered-then-not-is_value.result) (ap refusal_view (c.not_numbered-then-not-is_value.ensures.0)) (c.not_numbered-then-not-is_value.ensures.1)

pub overflow_cast-result : goal.overflow_cast-result
overflow_cast-result c =
    let a = (c.args) in omega (
      arith,
      number_fits a.t.now a.types a.i (c.type_fault-f.result) (c.type_fault-f.ensures) (c.is_refused.ensures) (c.if-is_refused.false) a.value.now (c.is_value.ensures)
          c.if-not-is_value.false (c.rank_at-r.ensures),
    )

pub returns : goal.returns
returns c =
    let a = (c.args) in number_given a.t.now a.types a.i (c.type_fault-f.result) (c.type_fault-f.ensures) (c.is_refused.ensures) (c.if-is_refused.false) a.value.now (c.is_value.ensures)
    c.if-not-is_value.false (c.rank_at-r.ensures) _ refl refl
