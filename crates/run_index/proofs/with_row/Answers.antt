use native.Mathlib.Omega.{arith}
use mathlib.Core.Path.{sym, ◌∙◌}
use Rattle.run_index.proofs.Indexing.{other_row}
use Rattle.run_index.proofs.with_row.Goals as goal

pub returns-in-67-clause-row_indexed : goal.returns-in-67-clause-row_indexed
returns-in-67-clause-row_indexed c =
    (λ rs types patterns lines f h late s. c.with_clause.ensures.kind_indexed _ rs types patterns lines f h (sym c.cell.ensures.0 ∙ c.in-67.is) s)

pub returns-in-73-clause-row_indexed : goal.returns-in-73-clause-row_indexed
returns-in-73-clause-row_indexed c =
    (λ rs types patterns lines f h late s. c.with_iso.ensures.kind_indexed _ rs types patterns lines f h (sym c.cell.ensures.0 ∙ c.in-73.is) s)

pub returns-in_default-clause-row_indexed : goal.returns-in_default-clause-row_indexed
returns-in_default-clause-row_indexed c = (λ rs types patterns lines f h late s. other_row f h s late c.cell.ensures.0 (λ z. omega (arith, z)) (λ z. omega (arith, z)))
