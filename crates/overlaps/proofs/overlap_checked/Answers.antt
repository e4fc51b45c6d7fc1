use Rattle.std.proofs.Common.{inl, inr}
use mathlib.Core.Path.{refl, ap}
use Rattle.format.specs.Code.{refusal_view}
use Rattle.overlaps.proofs.Lines.{left_absent, right_absent, both_there}
use Rattle.overlaps.proofs.overlap_checked.Goals as goal

pub returns-then-patterns-i : goal.returns-then-patterns-i
returns-then-patterns-i c =
    elim c.then-patterns-i.either [
      | inl left ↦
          left_absent c.args.t.now c.args.types c.args.patterns c.args.i c.args.j c.not_compared.result (ap (λ x. refusal_view x.refusal) c.not_compared.ensures.0)
          (ap (λ x. x.place) c.not_compared.ensures.0) c.not_compared.ensures.1 c.not_compared.ensures.2 left
      | inr right ↦
          right_absent c.args.t.now c.args.types c.args.patterns c.args.i c.args.j c.not_compared.result (ap (λ x. refusal_view x.refusal) c.not_compared.ensures.0)
          (ap (λ x. x.place) c.not_compared.ensures.0) c.not_compared.ensures.1 c.not_compared.ensures.2 right.1
    ]

pub returns : goal.returns
returns c =
    both_there c.args.t.now c.args.types c.args.patterns c.args.i c.args.j _ c.if-patterns-i.false c.if-patterns-j.false c.compare-c.ensures refl refl refl c.narrow_number.ensures
