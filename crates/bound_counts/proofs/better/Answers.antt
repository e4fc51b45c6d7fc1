use mathlib.Core.Path.{sym, ap, ◌∙◌}
use Rattle.bound_counts.specs.Held.{pick_two}
use Rattle.bound_counts.proofs.better.Goals as goal

pub returns-then-most : goal.returns-then-most
returns-then-most c = c.max.ensures ∙ sym (ap (λ m. pick_two m c.args.a c.args.b) c.if-most.true)

pub returns-else-most : goal.returns-else-most
returns-else-most c = c.min.ensures ∙ sym (ap (λ m. pick_two m c.args.a c.args.b) c.if-most.false)
