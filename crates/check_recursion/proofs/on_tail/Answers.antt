use Rattle.check_recursion.proofs.Laws.{tail_var, tail_pair, tail_not}
use Rattle.check_recursion.proofs.on_tail.Goals as goal

pub returns-in-1 : goal.returns-in-1
returns-in-1 c = tail_var c.args.t.now c.args.base c.args.q c.args.n c.pattern_cell.ensures.0 c.in-1.is c.pattern_cell-in-1.ensures.0

pub returns-in-4 : goal.returns-in-4
returns-in-4 c = tail_pair c.args.t.now c.args.base c.args.q c.args.n c.pattern_cell.ensures.0 c.in-4.is c.pattern_part.ensures c.is_var.ensures

pub returns-in_default : goal.returns-in_default
returns-in_default c =
    tail_not c.args.t.now c.args.base c.args.q c.args.n c.pattern_cell.ensures.0 c.in_default.in_default-own.rest.0.1 c.in_default.in_default-own.rest.1
