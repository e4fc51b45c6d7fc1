use Rattle.check_recursion.proofs.Laws.{clause_told}
use Rattle.check_recursion.proofs.clause_rule.Goals as goal

pub returns : goal.returns
returns c =
    clause_told c.args.t.now c.args.base c.args.i c.args.back c.args.row c.args.end c.shown_line-s.result c.left_field.ensures c.cell-p.ensures.0 c.shown_line-s.ensures c.shown_rule.ensures
