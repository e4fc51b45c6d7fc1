use Prim.Native.Nat.{◌-◌}
use mathlib.Core.Path.{◌∙◌}
use Rattle.check_recursion.specs.Turned.{lets_toward}
use Rattle.check_recursion.proofs.Laws.{rule_var, rule_other, quiet_toward}
use Rattle.check_recursion.proofs.tail_rule.Goals as goal

pub returns-then-pattern_cell-eq-VARIABLE : goal.returns-then-pattern_cell-eq-VARIABLE
returns-then-pattern_cell-eq-VARIABLE c =
    rule_var c.args.t.now c.args.base c.args.q c.args.i (lets_toward c.args.back c.args.t.now c.args.base c.args.from (c.args.to - c.args.from)) c.pattern_cell.ensures.0
    c.if-pattern_cell-eq-VARIABLE.true c.pattern_cell-v.ensures.0 c.tail_calls.ensures

pub returns : goal.returns
returns c =
    rule_other c.args.t.now c.args.base c.args.q c.args.i (lets_toward c.args.back c.args.t.now c.args.base c.args.from (c.args.to - c.args.from)) c.pattern_cell.ensures.0
    c.if-pattern_cell-eq-VARIABLE.false (c.no_calls.ensures ∙ quiet_toward c.args.back c.args.t.now c.args.base c.args.i c.args.from (c.args.to - c.args.from))
