use native.Mathlib.Omega.{arith}
use Rattle.table_trees.proofs.Cases.{joins_no_unit, joins_key}
use Rattle.table_trees.proofs.Unfolding.{pattern_call}
use Rattle.table_trees.specs.Unfolding.{cell_of}
use Rattle.run_reduction.proofs.Lengths.{line_var, line_pair, line_inj, line_leaf}
use Prim.Native.Nat.{◌+◌}
use Rattle.run_reduction.proofs.+line_length.Goals as goal

pub returns-in-1-clause-by_index : goal.returns-in-1-clause-by_index
returns-in-1-clause-by_index t c =
    line_var c.args.t.now c.args.base c.args.j c.pattern_cell.ensures.0 c.in-1.is c.pattern_cell-in-1.ensures.0 c.range_length.ensures

pub line_length-b-requires : goal.line_length-b-requires
line_length-b-requires t c = (
  pattern_call c.args.t.now c.args.base c.args.j (cell_of c.args.t.now (c.args.base + c.args.j) 3) c.decreases c.pattern_cell.ensures.0
      (joins_no_unit (joins_key c.in-4.is)) c.pattern_part-in-4.ensures,
  tt,
)

pub returns-in-4-clause-by_index : goal.returns-in-4-clause-by_index
returns-in-4-clause-by_index t c =
    line_pair c.args.t.now c.args.base c.args.j c.pattern_cell.ensures.0 (joins_key c.in-4.is) c.pattern_part.ensures c.pattern_part-in-4.ensures
    c.line_length-a.ensures.by_index c.line_length-b.ensures.by_index (omega (arith, c.min.ensures))

pub returns-in-2-clause-by_index : goal.returns-in-2-clause-by_index
returns-in-2-clause-by_index t c =
    line_inj c.args.t.now c.args.base c.args.j c.pattern_cell.ensures.0 (omega arith) (omega arith) c.pattern_part-in-2.ensures c.line_length-a-in-2.ensures.by_index
    (omega (arith, c.min-in-2.ensures))

pub returns-in_default-clause-by_index : goal.returns-in_default-clause-by_index
returns-in_default-clause-by_index t c =
    line_leaf c.args.t.now c.args.base c.args.j c.pattern_cell.ensures.0 (λ z. absurd (omega (arith, z))) (λ z. absurd (omega (arith, z)))
    (λ z. absurd (omega (arith, z))) (λ z. absurd (omega (arith, z))) (λ z. absurd (omega (arith, z)))

pub returns-in_default-2-clause-by_index : goal.returns-in_default-2-clause-by_index
returns-in_default-2-clause-by_index t c =
    line_leaf c.args.t.now c.args.base c.args.j c.pattern_cell.ensures.0 (λ z. absurd (omega (arith, z))) (λ z. absurd (omega (arith, z)))
    (λ z. absurd (omega (arith, z))) (λ z. absurd (grind (arith, z))) (λ z. absurd (grind (arith, z)))
