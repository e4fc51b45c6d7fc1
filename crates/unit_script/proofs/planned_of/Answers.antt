use mathlib.Core.Path.{sym, ap, ◌∙◌}
use Rattle.unit_script.specs.Views.{as_planned}
use Rattle.unit_script.proofs.Line.{in_text, no_ending}
use Rattle.unit_script.proofs.planned_of.Goals as goal

pub returns-in_err-c : goal.returns-in_err-c
returns-in_err-c c = ap as_planned c.from_residual.ensures ∙ no_ending c.args.line.now (sym c.in_err-c.ensures)

pub returns : goal.returns
returns c = in_text c.args.line.now (sym c.in_ok-c.ensures) c.front.ensures c.planned_in.ensures
