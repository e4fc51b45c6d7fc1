use native.Mathlib.Omega.{arith}
use Rattle.check_idle.proofs.Marking.{row_type, row_pattern, row_iso, row_clause, row_let}
use Rattle.check_idle.proofs.name_row.Goals as goal

pub returns-in-84 : goal.returns-in-84
returns-in-84 c = λ rs patterns lines f r e. row_type f c.args.n e c.cell.ensures.0 c.args.marks.now c.in-84.is c.name_types.ensures

pub returns-in-80 : goal.returns-in-80
returns-in-80 c = λ rs patterns lines f r e. row_pattern f c.args.n e c.cell.ensures.0 c.args.marks.now c.in-80.is c.name_patterns.ensures

pub returns-in-73 : goal.returns-in-73
returns-in-73 c = λ rs patterns lines f r e. row_iso f c.args.n e c.cell.ensures.0 c.args.marks.now c.in-73.is c.mark_both.ensures

pub returns-in-67 : goal.returns-in-67
returns-in-67 c = λ rs patterns lines f r e. row_clause f c.args.n e c.cell.ensures.0 c.args.marks.now c.in-67.is c.mark_both-in-67.ensures

pub returns-in_default : goal.returns-in_default
returns-in_default c =
    λ rs patterns lines f r e. row_let f c.args.n e c.cell.ensures.0 c.args.marks.now (λ z. omega arith) (λ z. omega arith) (λ z. omega arith) (λ z. omega arith)
    c.mark_both-in_default.ensures
