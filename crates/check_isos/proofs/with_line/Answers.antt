use mathlib.Core.Path.{sym, ◌∙◌}
use Rattle.check_isos.proofs.Collecting.{starts_iso, starts_other}
use Rattle.check_isos.proofs.with_line.Goals as goal

pub returns-then-cell-eq-ISO_LINE : goal.returns-then-cell-eq-ISO_LINE
returns-then-cell-eq-ISO_LINE c rs types patterns lines f h w = starts_iso f c.args.n h (sym c.cell.ensures.0 ∙ c.if-cell-eq-ISO_LINE.true) c.with_start.ensures w

pub returns : goal.returns
returns c rs types patterns lines f h w = starts_other f c.args.n h (λ e. c.if-cell-eq-ISO_LINE.false (c.cell.ensures.0 ∙ e)) w
