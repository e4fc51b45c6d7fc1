use Rattle.fault_gaps.proofs.Law.{value_found, value_missing}
use Rattle.fault_gaps.proofs.Writing.{value_some, value_none}
use Rattle.table_walks.specs.InTable.{patterns_at}
use Rattle.table_trees.specs.Unfolding.{type_of}
use mathlib.Core.Path.{refl}
use Rattle.fault_gaps.proofs.gap_value.Goals as goal

pub returns-then-n-lt-LENGTHS : goal.returns-then-n-lt-LENGTHS
returns-then-n-lt-LENGTHS c =
    value_found (value_some (type_of c.args.t.now c.args.i) (patterns_at c.args.t.now c.args.base c.args.f c.args.rows.now) c.gap_length-n.ensures refl c.write_gap.ensures
    c.if-n-lt-LENGTHS.true) c.if-n-lt-LENGTHS.true

pub returns : goal.returns
returns c =
    value_missing (value_none (type_of c.args.t.now c.args.i) (patterns_at c.args.t.now c.args.base c.args.f c.args.rows.now) c.gap_length-n.ensures refl c.args.out.now c.if-n-lt-LENGTHS.false)
