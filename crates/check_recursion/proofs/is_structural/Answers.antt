use Rattle.check_recursion.proofs.Rows.{structural_told}
use Rattle.check_recursion.proofs.is_structural.Goals as goal

pub returns-then-is_zoned : goal.returns-then-is_zoned
returns-then-is_zoned c =
    structural_told c.args.t.now c.args.base c.args.i c.args.back c.args.a c.args.rows.now c.args.last c.is_zoned.ensures c.if-is_zoned.true c.kept.ensures
