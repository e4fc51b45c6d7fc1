use Rattle.check_recursion.proofs.Laws.{shown_pair, shown_whole}
use Rattle.check_recursion.proofs.shown_line.Goals as goal

pub returns-then-pattern_cell-eq-PAIR : goal.returns-then-pattern_cell-eq-PAIR
returns-then-pattern_cell-eq-PAIR c = shown_pair c.args.t.now c.args.base c.args.p c.pattern_cell.ensures.0 c.if-pattern_cell-eq-PAIR.true c.pattern_part.ensures

pub returns : goal.returns
returns c = shown_whole c.args.t.now c.args.base c.args.p c.pattern_cell.ensures.0 c.if-pattern_cell-eq-PAIR.false
