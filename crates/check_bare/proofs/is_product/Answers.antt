use mathlib.Core.Path.{sym, ◌∙◌}
use borrow.Author.Tests.{eqb-true}
use Rattle.check_bare.proofs.Marking.{product_test, product_of}
use Rattle.check_bare.proofs.is_product.Goals.{then-cell-eq-PRODUCT, else-cell-eq-PRODUCT}
use Rattle.check_bare.proofs.is_product.Goals as goal

pub returns-then-mark_of-x : goal.returns-then-mark_of-x
returns-then-mark_of-x c =
    elim c.if-cell-eq-PRODUCT.branch [
      | then-cell-eq-PRODUCT w ↦
          product_test c.args.t.now _
          (product_of c.args.t.now c.args.g.now c.args.i c.requires.1 c.cell.ensures.0 w.if-cell-eq-PRODUCT.true w.cell-then-cell-eq-PRODUCT.ensures.0 w.mark_of.ensures
          c.cell-then-mark_of-x.ensures.0 c.mark_of-then-mark_of-x.ensures) (eqb-true _ _ (sym w.value-is ∙ c.if-mark_of-x.true))
      | else-cell-eq-PRODUCT w ↦ absurd (w.if-cell-eq-PRODUCT.false (eqb-true _ _ (sym w.value-is ∙ c.if-mark_of-x.true)))
    ]
