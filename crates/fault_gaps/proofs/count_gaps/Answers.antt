use Prim.Native.Nat.{◌-◌}
use mathlib.Core.Path.{refl}
use mathlib.Core.List.{[], ◌∷◌}
use lib.ListN.{get_or}
use Rattle.table_trees.specs.Unfolding.{type_of}
use Rattle.fault_stacks.specs.Stacks.{types_along}
use Rattle.fault_gaps.proofs.Taking.{rows_more}
use borrow.Author.Rules.{rules}
use Rattle.fault_gaps.proofs.count_gaps.Goals as goal

pub loop-x-preserved : goal.loop-x-preserved
loop-x-preserved c =
    let l = c.loop-x in rows_more c.args.m c.args.t.now c.args.base c.args.f c.args.rows.now l.k c.take_row.new.k c.args.w.now
    (types_along c.args.w.now (type_of c.args.t.now c.args.i ∷ [])) l.x (get_or c.args.rows.now (l.x - 1) 0) c.wide.result c.cell-p.result l.invariant (search rules)
    (search rules) refl c.wide.ensures.value c.cell-p.ensures.0 c.take_row.ensures
