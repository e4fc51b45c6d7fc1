use native.Mathlib.Omega.{arith}
use Rattle.table_trees.proofs.Cases.{injects, joins_key, leaf_below}
use Rattle.run_patterns.proofs.Lines.{leaf_high}
use Rattle.run_patterns.proofs.Building.{build_variable, build_leaf, build_tag, build_node}
use Rattle.run_patterns.proofs.+build_at.Goals as goal

pub returns-then-kind-eq-VARIABLE : goal.returns-then-kind-eq-VARIABLE
returns-then-kind-eq-VARIABLE t c =
    build_variable c.args.t.now c.args.base c.args.j c.pattern_cell-kind.ensures.0 c.if-kind-eq-VARIABLE.true c.pattern_cell.ensures.0 c.build_var.ensures

pub returns-in-4 : goal.returns-in-4
returns-in-4 t c =
    build_node c.args.t.now c.args.base c.args.j c.pattern_cell-kind.ensures.0 c.letter.ensures (c.put_byte-next.ensures.bytes_after, c.put_byte-next.ensures.value) c.pattern_part.ensures
    c.build_at-middle.ensures (joins_key c.in-4.is) c.pattern_part-in-4.ensures c.build_at.auto.work c.build_at.ensures

pub returns-in-2 : goal.returns-in-2
returns-in-2 t c =
    build_tag c.args.t.now c.args.base c.args.j c.pattern_cell-kind.ensures.0 c.letter.ensures (c.put_byte-next.ensures.bytes_after, c.put_byte-next.ensures.value) c.pattern_part-in-2.ensures
    c.build_at-in-2.ensures (injects c.pattern_cell-kind.result (omega arith) (omega arith))

pub returns-in_default : goal.returns-in_default
returns-in_default t c =
    build_leaf c.args.t.now c.args.base c.args.j c.pattern_cell-kind.ensures.0 c.letter.ensures (c.put_byte-next.ensures.bytes_after, c.put_byte-next.ensures.value)
    c.if-kind-eq-VARIABLE.false (leaf_below c.pattern_cell-kind.result (omega arith))

pub returns-in_default-2 : goal.returns-in_default-2
returns-in_default-2 t c =
    build_leaf c.args.t.now c.args.base c.args.j c.pattern_cell-kind.ensures.0 c.letter.ensures (c.put_byte-next.ensures.bytes_after, c.put_byte-next.ensures.value)
    c.if-kind-eq-VARIABLE.false (leaf_high c.pattern_cell-kind.result (omega arith) c.in_default.in_default-own.rest.1)
