use native.Mathlib.Omega.{arith}
use mathlib.Core.Path.{sym, ◌∙◌}
use Rattle.check_isos.proofs.Stepping.{walked_let}
use Rattle.check_isos.proofs.with_row.Goals as goal

pub returns-in-67 : goal.returns-in-67
returns-in-67 c rs patterns lines f e h late s = c.with_clause.ensures rs patterns lines f e h (sym c.cell.ensures.0 ∙ c.in-67.is) s

pub returns-in-73 : goal.returns-in-73
returns-in-73 c rs patterns lines f e h late s = c.with_iso.ensures rs patterns lines f h (sym c.cell.ensures.0 ∙ c.in-73.is) s

pub returns-in_default : goal.returns-in_default
returns-in_default c rs patterns lines f e h late s = walked_let f h s late c.cell.ensures.0 (λ z. omega arith) (λ z. omega arith)
