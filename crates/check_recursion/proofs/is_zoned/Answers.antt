use Rattle.check_recursion.proofs.Laws.{zoned_list, zoned_product, zoned_other}
use Rattle.check_recursion.proofs.is_zoned.Goals as goal

pub returns-in-3 : goal.returns-in-3
returns-in-3 c = zoned_list c.args.t.now c.args.a c.cell.ensures.0 c.in-3.is

pub returns-in-2 : goal.returns-in-2
returns-in-2 c = zoned_product c.args.t.now c.args.a c.cell.ensures.0 c.in-2.is c.type_part.ensures c.is_list.ensures

pub returns-in_default : goal.returns-in_default
returns-in_default c = zoned_other c.args.t.now c.args.a c.cell.ensures.0 c.in_default.in_default-own.rest.0.1 c.in_default.in_default-own.rest.1
