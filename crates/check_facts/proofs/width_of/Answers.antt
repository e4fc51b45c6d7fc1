use Rattle.check_facts.proofs.Finding.{width_sum, width_product, width_other}
use Rattle.check_facts.proofs.width_of.Goals as goal

pub returns-in-1 : goal.returns-in-1
returns-in-1 c = width_sum _ _ _ c.requires.1 c.cell.ensures.0 c.cell-in-1.ensures.0 c.told-m.ensures c.cell-in-1-2.ensures.0 c.told-n.ensures c.in-1.is c.of_sum.ensures

pub returns-in-2 : goal.returns-in-2
returns-in-2 c =
    width_product _ _ _ c.requires.1 c.cell.ensures.0 c.cell-in-2.ensures.0 c.told-m-in-2.ensures c.cell-in-2-2.ensures.0 c.told-n-in-2.ensures c.in-2.is c.of_product.ensures

pub returns-in_default : goal.returns-in_default
returns-in_default c = width_other _ _ _ c.requires.1 c.cell.ensures.0 c.in_default.in_default-own.rest.0.1 c.in_default.in_default-own.rest.1
