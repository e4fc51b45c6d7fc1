use mathlib.Core.Path.{ap, ◌∙◌}
use lib.Dec.{eqb}
use Rattle.run_lists.proofs.Marking.{zeros}
use Rattle.run_lists.proofs.is_free.Goals as goal

pub returns : goal.returns
returns c = λ base few. ap (λ z. eqb z 0) c.item_at.ensures ∙ c.mark_lists.ensures base few (zeros 32) c.args.i
