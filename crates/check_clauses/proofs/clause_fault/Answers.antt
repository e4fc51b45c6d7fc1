use mathlib.Core.Path.{refl, sym, ◌∙◌}
use native.Mathlib.Omega.{arith}
use Rattle.check_clauses.proofs.Live.{fitted_marked}
use Rattle.check_clauses.proofs.ClauseLaws.{fault_variable, fault_shape, fault_type, fault_none}
use Rattle.check_clauses.proofs.clause_fault.Goals as goal

pub returns-then-types_fit : goal.returns-then-types_fit
returns-then-types_fit c =
    fault_none c.args.t.now c.args.starts.now c.args.base c.args.a c.args.b c.args.row c.args.end (omega arith) (λ h. refl)
    (fitted_marked _ _ _ _ (sym (c.types_fit.ensures (omega arith)) ∙ c.if-types_fit.true)) c.shapes_kept.ensures c.if-shapes_kept.true c.types_fit.ensures c.if-types_fit.true

pub returns-then-variables_kept : goal.returns-then-variables_kept
returns-then-variables_kept c =
    fault_type c.args.t.now c.args.starts.now c.args.base c.args.a c.args.b c.args.row c.args.end (omega arith) c.variables_kept.ensures c.if-variables_kept.true c.shapes_kept.ensures
    c.if-shapes_kept.true c.types_fit.ensures c.if-types_fit.false

pub returns-then-shapes_kept : goal.returns-then-shapes_kept
returns-then-shapes_kept c =
    fault_variable c.args.t.now c.args.starts.now c.args.base c.args.a c.args.b c.args.row c.args.end (omega arith) c.variables_kept.ensures c.if-variables_kept.false

pub returns-then-variables_kept-2 : goal.returns-then-variables_kept-2
returns-then-variables_kept-2 c =
    fault_shape c.args.t.now c.args.starts.now c.args.base c.args.a c.args.b c.args.row c.args.end (omega arith) c.variables_kept-2.ensures c.if-variables_kept-2.true c.shapes_kept.ensures
    c.if-shapes_kept.false

pub returns : goal.returns
returns c =
    fault_variable c.args.t.now c.args.starts.now c.args.base c.args.a c.args.b c.args.row c.args.end (omega arith) c.variables_kept-2.ensures c.if-variables_kept-2.false
