use mathlib.Core.Path.{◌∙◌}
use native.Mathlib.Omega.{arith}
use Rattle.table_trees.proofs.Cases.{parted}
use Rattle.table_trees.proofs.Lines.{part_of}
use Rattle.run_lists.proofs.Marking.{whole_other, free_not, free_whole, free_first, free_both}
use Rattle.run_lists.proofs.+is_finite.Goals as goal

pub returns-in-3 : goal.returns-in-3
returns-in-3 t c = free_not c.args.t.now c.args.i c.cell.ensures.0 c.in-3.is

pub returns-then-is_finite : goal.returns-then-is_finite
returns-then-is_finite t c =
    free_both c.args.t.now c.args.i c.cell.ensures.0 (parted _ (omega arith) (omega arith)) (part_of c.args.i c.cell-in-1.ensures.0 c.smaller.ensures)
    c.is_finite.ensures c.if-is_finite.true (part_of c.args.i c.cell-then-is_finite.ensures.0 c.smaller-then-is_finite.ensures)
    c.is_finite-then-is_finite.ensures

pub returns-else-is_finite : goal.returns-else-is_finite
returns-else-is_finite t c =
    c.if-is_finite.false ∙ free_first c.args.t.now c.args.i c.cell.ensures.0 (parted _ (omega arith) (omega arith))
    (part_of c.args.i c.cell-in-1.ensures.0 c.smaller.ensures) c.is_finite.ensures c.if-is_finite.false

pub returns-in_default : goal.returns-in_default
returns-in_default t c =
    free_whole c.args.t.now c.args.i c.cell.ensures.0 (whole_other _ (λ z. omega (arith, z)) (λ z. omega (arith, z)) (λ z. omega (arith, z)))

pub returns-in_default-2 : goal.returns-in_default-2
returns-in_default-2 t c =
    free_whole c.args.t.now c.args.i c.cell.ensures.0 (whole_other _ (λ z. omega (arith, z)) (λ z. omega (arith, z)) (λ z. omega (arith, z)))
