use native.Mathlib.Omega.{arith}
use Rattle.table_trees.proofs.Cases.{injects}
use Rattle.check_typing.proofs.Steps.{stepped_tag}
use Rattle.check_typing.proofs.step.Goals as goal

pub returns-in-2 : goal.returns-in-2
returns-in-2 c = stepped_tag c.args.t.now c.args.base c.args.p c.args.a c.parts_of.result c.field-kind.ensures c.field-over.ensures (injects _ (omega arith) (omega arith))
    c.if-over-eq-SUM.true c.parts_of.ensures
