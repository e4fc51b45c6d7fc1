use mathlib.Core.Path.{sym, ap, ◌∙◌}
use Rattle.query_lines.specs.Views.{as_query}
use Rattle.query_lines.proofs.Asking.{too_long_lem, no_ending, text_query}
use Rattle.query_lines.proofs.query_of.Goals as goal

pub returns-then-s-gt-QUERY_LENGTH : goal.returns-then-s-gt-QUERY_LENGTH
returns-then-s-gt-QUERY_LENGTH c = too_long_lem c.args.s.now c.if-s-gt-QUERY_LENGTH.true

pub returns-in_err-c : goal.returns-in_err-c
returns-in_err-c c = ap (as_query c.args.s.now) c.from_residual.ensures ∙ no_ending c.args.s.now c.if-s-gt-QUERY_LENGTH.false (sym c.in_err-c.ensures)

pub returns : goal.returns
returns c =
    text_query c.args.s.now c.if-s-gt-QUERY_LENGTH.false c.in_ok-c.c.at c.query_in.result (sym c.in_ok-c.ensures) c.front.ensures
    c.query_in.ensures.0 c.query_in.ensures.1
