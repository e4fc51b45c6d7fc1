use mathlib.Core.Path.{sym}
use lib.ListN.{drop}
use Rattle.query_lines.proofs.Asking.{all_fields}
use Rattle.query_lines.proofs.after_letter.Goals as goal

pub returns : goal.returns
returns c =
    let bs = drop c.args.c.at c.args.s.now in (
      all_fields bs (sym c.in_ok-iso.ensures) (sym c.in_ok-direction.ensures) (sym c.in_ok-budget.ensures) c.in_ok-g.ensures c.with_letters.ensures.0,
      c.with_letters.ensures.1,
    )
