use Rattle.check_bare.proofs.Marking.{own_stands, unit_stands, product_stands, product_of}
use Rattle.check_bare.proofs.type_mark.Goals as goal

pub returns-then-kind-eq-TYPE_UNIT : goal.returns-then-kind-eq-TYPE_UNIT
returns-then-kind-eq-TYPE_UNIT c =
    (own_stands c.args.t.now c.args.i (unit_stands c.args.t.now c.args.i c.cell-kind.ensures.0 c.if-kind-eq-TYPE_UNIT.true c.unit_mark.ensures.0) c.or_own.ensures.0, c.or_own.ensures.1)

pub returns-then-y-gt0 : goal.returns-then-y-gt0
returns-then-y-gt0 c = (
  own_stands c.args.t.now c.args.i
      (product_stands c.args.t.now
      (product_of c.args.t.now c.args.g.now c.args.i c.requires.1 c.cell-kind.ensures.0 c.if-kind-eq-PRODUCT.true c.cell.ensures.0 c.mark_of-x.ensures
      c.cell-then-kind-eq-PRODUCT.ensures.0 c.mark_of-y.ensures)
      c.if-x-gt0.true c.if-y-gt0.true c.product_mark.ensures.0) c.or_own-then-y-gt0.ensures.0,
  c.or_own-then-y-gt0.ensures.1,
)
