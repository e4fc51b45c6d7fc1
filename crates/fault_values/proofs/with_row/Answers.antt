use native.Mathlib.Omega.{arith}
use mathlib.Core.Path.{sym, ◌∙◌}
use Rattle.fault_values.proofs.Collecting.{collected_clause, collected_iso, collected_other}
use Rattle.fault_values.proofs.with_row.Goals as goal

pub returns-in-67 : goal.returns-in-67
returns-in-67 c rs types patterns lines f h s = collected_clause f h s (sym c.cell.ensures.0 ∙ c.in-67.is) c.with_clause.result c.with_clause.ensures

pub returns-in-73 : goal.returns-in-73
returns-in-73 c rs types patterns lines f h s = collected_iso f h s (sym c.cell.ensures.0 ∙ c.in-73.is)

pub returns-in_default : goal.returns-in_default
returns-in_default c rs types patterns lines f h s = collected_other f h s c.cell.ensures.0 (λ z. absurd (omega arith)) (λ z. absurd (omega arith))
