use mathlib.Core.Path.{◌∙◌}
use Rattle.calculus.proofs.Basic.{not_eqb}
use Rattle.check_recursion.proofs.Laws.{var_is, var_not}
use Rattle.check_recursion.proofs.is_var.Goals as goal

pub returns-then-pattern_cell-eq-VARIABLE : goal.returns-then-pattern_cell-eq-VARIABLE
returns-then-pattern_cell-eq-VARIABLE c =
    var_is c.args.t.now c.args.base c.args.q c.args.n c.pattern_cell.ensures.0 c.if-pattern_cell-eq-VARIABLE.true c.pattern_cell-then-pattern_cell-eq-VARIABLE.ensures.0

pub returns-else-pattern_cell-eq-VARIABLE : goal.returns-else-pattern_cell-eq-VARIABLE
returns-else-pattern_cell-eq-VARIABLE c = not_eqb c.if-pattern_cell-eq-VARIABLE.false ∙ var_not c.args.t.now c.args.base c.args.q c.args.n c.pattern_cell.ensures.0 c.if-pattern_cell-eq-VARIABLE.false
