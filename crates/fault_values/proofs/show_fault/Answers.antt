use mathlib.Core.Logic.{inl, inr}
use Rattle.fault_values.proofs.Faulting.{fault_nowhere, fault_many, fault_shown}
use Rattle.fault_values.proofs.show_fault.Goals as goal

pub returns-then-place-eq0 : goal.returns-then-place-eq0
returns-then-place-eq0 c =
    elim c.then-place-eq0.either [
      | inl z ↦
          fault_nowhere c.args.t.now c.args.base c.args.lines c.args.number c.args.place c.args.out.now c.args.out.now 0 c.clauses_from-c.result c.clauses_from-c.ensures
          c.if-number-lt11.false c.if-number-gt14.false z
      | inr z ↦
          fault_many c.args.t.now c.args.base c.args.lines c.args.number c.args.place c.args.out.now c.args.out.now 0 c.clauses_from-c.result c.clauses_from-c.ensures c.if-number-lt11.false
          c.if-number-gt14.false z.1
    ]

pub returns : goal.returns
returns c =
    fault_shown c.args.t.now c.args.base c.args.lines c.args.number c.args.place c.args.out.now _ _ c.clauses_from-c.result c.clauses_from-c.ensures c.if-number-lt11.false
    c.if-number-gt14.false c.show_side.ensures
