use native.Mathlib.Omega.{arith}
use Rattle.table_trees.proofs.Cases.{parted, whole_below}
use Rattle.table_sizes.proofs.Counts.{type_tags_whole, type_tags_past, type_tags_node}
use Rattle.table_sizes.proofs.+type_tags.Goals as goal

pub returns-in-1 : goal.returns-in-1
returns-in-1 t c =
    type_tags_node c.args.t.now c.args.i c.cell-kind.ensures.0 (parted _ c.in-1.if-kind-lt1-own.false c.in-1.if-kind-lt3-own.true) c.cell.ensures.0 c.smaller-a.ensures c.cell-in-1.ensures.0
    c.smaller-b.ensures c.type_tags.ensures c.type_tags-in-1.ensures c.joined.ensures

pub returns-in_default : goal.returns-in_default
returns-in_default t c = type_tags_whole c.args.t.now c.args.i c.cell-kind.ensures.0 (whole_below _ (omega arith))

pub returns-in_default-2 : goal.returns-in_default-2
returns-in_default-2 t c = type_tags_past c.args.t.now c.args.i c.cell-kind.ensures.0 (omega arith)
