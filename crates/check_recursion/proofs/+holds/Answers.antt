use native.Mathlib.Omega.{arith}
use Rattle.check_recursion.proofs.Laws.{holds_var, holds_tag, holds_first, holds_second, holds_none}
use mathlib.Core.Path.{◌∙◌}
use mathlib.Core.Logic.{inl, inr}
use Rattle.table_trees.proofs.Cases.{injects_beyond, joins_key, leaf_unit, leaf_beyond}
use Rattle.check_recursion.proofs.+holds.Goals as goal

pub returns-then-holds : goal.returns-then-holds
returns-then-holds t c =
    c.if-holds.true ∙ holds_first c.args.t.now c.args.base c.args.q c.args.n c.pattern_cell.ensures.0 (joins_key c.in-4.is) c.pattern_part.ensures c.holds.ensures c.if-holds.true

pub returns-in-1 : goal.returns-in-1
returns-in-1 t c = holds_var c.args.t.now c.args.base c.args.q c.args.n c.pattern_cell.ensures.0 c.in-1.is c.pattern_cell-in-1.ensures.0

pub returns-else-holds : goal.returns-else-holds
returns-else-holds t c =
    holds_second c.args.t.now c.args.base c.args.q c.args.n c.pattern_cell.ensures.0 (joins_key c.in-4.is) c.pattern_part.ensures c.holds.ensures c.if-holds.false c.pattern_part-else-holds.ensures
    c.holds-else-holds.ensures

pub returns-in-2 : goal.returns-in-2
returns-in-2 t c =
    holds_tag c.args.t.now c.args.base c.args.q c.args.n c.pattern_cell.ensures.0 (injects_beyond _ (omega arith) c.in-2.in_default-own.rest.0.1 (omega arith)) c.pattern_part-in-2.ensures
    c.holds-in-2.ensures

pub returns-in_default : goal.returns-in_default
returns-in_default t c = holds_none c.args.t.now c.args.base c.args.q c.args.n c.pattern_cell.ensures.0 (leaf_unit _ (omega arith)) c.in_default.in_default-own.rest.0.1

pub returns-in_default-2 : goal.returns-in_default-2
returns-in_default-2 t c =
    holds_none c.args.t.now c.args.base c.args.q c.args.n c.pattern_cell.ensures.0
    (leaf_beyond _ (omega arith) (λ e. c.in_default.in_default-own.rest.1 (inl e)) (λ e. c.in_default.in_default-own.rest.1 (inr e))) c.in_default.in_default-own.rest.0.1
