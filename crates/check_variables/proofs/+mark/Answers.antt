use native.Mathlib.Omega.{arith}
use Rattle.check_variables.proofs.Marking.{mark_unit, mark_leaf, mark_var, mark_injected, mark_pair}
use Rattle.check_variables.specs.Marks.{deed_view}
use Rattle.table_trees.proofs.Cases.{injects, joins_key, leaf_beyond}
use mathlib.Core.Logic.{inl, inr}
use Rattle.check_variables.proofs.+mark.Goals as goal

pub returns-then-kind-eq-UNIT : goal.returns-then-kind-eq-UNIT
returns-then-kind-eq-UNIT t c = mark_unit c.args.t.now c.args.base c.args.p (deed_view c.args.binds) c.args.m.state c.pattern_cell-kind.ensures.0 c.if-kind-eq-UNIT.true

pub returns-then-kind-eq-VARIABLE : goal.returns-then-kind-eq-VARIABLE
returns-then-kind-eq-VARIABLE t c =
    mark_var c.args.t.now c.args.base c.args.p (deed_view c.args.binds) c.args.m.state c.pattern_cell-kind.ensures.0 c.if-kind-eq-VARIABLE.true c.pattern_cell.ensures.0 c.mark_one.ensures

pub returns-in-4 : goal.returns-in-4
returns-in-4 t c =
    mark_pair c.args.t.now c.args.base c.args.p (deed_view c.args.binds) c.args.m.state c.pattern_cell-kind.ensures.0 (joins_key c.in-4.is) c.pattern_part-a.ensures c.mark-first.ensures
    c.pattern_part-b.ensures c.mark.ensures

pub returns-in-2 : goal.returns-in-2
returns-in-2 t c =
    mark_injected c.args.t.now c.args.base c.args.p (deed_view c.args.binds) c.args.m.state c.pattern_cell-kind.ensures.0 (injects _ (omega arith) (omega arith))
    c.pattern_part-a-in-2.ensures c.mark-in-2.ensures

pub returns-in_default-2 : goal.returns-in_default-2
returns-in_default-2 t c =
    mark_leaf c.args.t.now c.args.base c.args.p (deed_view c.args.binds) c.args.m.state c.pattern_cell-kind.ensures.0
    (leaf_beyond _ (omega arith) (λ e. c.in_default.in_default-own.rest.1 (inl e)) (λ e. c.in_default.in_default-own.rest.1 (inr e))) c.if-kind-eq-VARIABLE.false
