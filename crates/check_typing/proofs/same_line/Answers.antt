use mathlib.Core.Path.{◌∙◌}
use borrow.Author.Tests.{eq-eqb}
use Rattle.check_typing.proofs.Meeting.{same_self}
use Rattle.check_typing.proofs.same_line.Goals as goal

pub returns-then-b-a : goal.returns-then-b-a
returns-then-b-a c = eq-eqb c.args.b c.args.a c.if-b-a.true ∙ same_self c.args.t.now c.args.b c.args.a c.if-b-a.true
