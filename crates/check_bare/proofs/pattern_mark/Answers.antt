use Rattle.check_bare.proofs.Marking.{suits_unit, suits_pair}
use Rattle.check_bare.proofs.pattern_mark.Goals as goal

pub returns-then-kind-eq-UNIT : goal.returns-then-kind-eq-UNIT
returns-then-kind-eq-UNIT c =
    (suits_unit c.args.t.now c.args.base c.args.j c.pattern_cell-kind.ensures.0 c.if-kind-eq-UNIT.true c.unit_mark.ensures.0, c.unit_mark.ensures.1)

pub returns-then-y-gt0 : goal.returns-then-y-gt0
returns-then-y-gt0 c = (
  suits_pair c.args.t.now c.args.base c.args.g.now c.args.j c.requires.2 c.pattern_cell-kind.ensures.0 c.if-kind-eq-PAIR.true c.pattern_cell.ensures.0 c.mark_of-x.ensures
      c.pattern_cell-then-kind-eq-PAIR.ensures.0 c.mark_of-y.ensures c.if-x-gt0.true c.if-y-gt0.true c.product_mark.ensures.0,
  c.product_mark.ensures.1,
)
