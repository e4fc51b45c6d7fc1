use Rattle.check_recursion.proofs.Laws.{list_told}
use Rattle.check_recursion.proofs.is_list.Goals as goal

pub returns : goal.returns
returns c = list_told c.args.t.now c.args.a c.cell.ensures.0
