use Prim.Native.Nat.{◌-◌}
use mathlib.Core.Path.{◌∙◌}
use Rattle.check_recursion.specs.Turned.{lets_toward}
use Rattle.check_recursion.proofs.Laws.{shown_empty, shown_element, shown_other, quiet_toward}
use Rattle.check_recursion.proofs.shown_rule.Goals as goal

pub returns-in-5 : goal.returns-in-5
returns-in-5 c =
    shown_empty c.args.t.now c.args.base c.args.p c.args.i (lets_toward c.args.back c.args.t.now c.args.base c.args.from (c.args.to - c.args.from)) c.pattern_cell.ensures.0 c.in-5.is
    (c.no_calls.ensures ∙ quiet_toward c.args.back c.args.t.now c.args.base c.args.i c.args.from (c.args.to - c.args.from))

pub returns-in-6 : goal.returns-in-6
returns-in-6 c =
    shown_element c.args.t.now c.args.base c.args.p c.args.i (lets_toward c.args.back c.args.t.now c.args.base c.args.from (c.args.to - c.args.from)) c.pattern_cell.ensures.0 c.in-6.is
    c.pattern_part.ensures c.tail_rule.ensures

pub returns-in_default : goal.returns-in_default
returns-in_default c =
    shown_other c.args.t.now c.args.base c.args.p c.args.i (lets_toward c.args.back c.args.t.now c.args.base c.args.from (c.args.to - c.args.from)) c.pattern_cell.ensures.0
    c.in_default.in_default-own.rest.0.1 c.in_default.in_default-own.rest.1
