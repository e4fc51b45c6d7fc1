use native.Mathlib.Omega.{arith}
use mathlib.Core.Path.{◌∙◌, sym, subst}
use Rattle.std.specs.Prelude.{Some, None}
use Rattle.table_trees.specs.Unfolding.{cell_of, pattern_of}
use Rattle.std.proofs.Common.{◌+◌}
use Rattle.table_trees.proofs.Cases.{injects, joins_key, leaf_below}
use Rattle.run_patterns.proofs.Lines.{leaf_high}
use Rattle.run_coding.specs.Coded.{Flattened}
use Rattle.run_coding.proofs.Flattening.{flatten_variable, flatten_leaf, flatten_tag, flatten_node, front_kept, part_ranks}
use Rattle.run_coding.proofs.+flatten.Goals as goal

pub returns-then-kind-eq-VARIABLE : goal.returns-then-kind-eq-VARIABLE
returns-then-kind-eq-VARIABLE t c =
    c.loop-code.invariant.0 c.put_variable.new.code c.put_variable.result
    (flatten_variable c.args.t.now c.args.base c.loop-code.line c.loop-code.code c.loop-code.end c.pattern_cell-kind.ensures.0 c.pattern_cell.result c.put_variable.new.code c.put_variable.result
    c.if-kind-eq-VARIABLE.true c.pattern_cell.ensures.0 c.put_variable.ensures)

pub returns-in_err-end-in-4 : goal.returns-in_err-end-in-4
returns-in_err-end-in-4 t c =
    subst (Flattened (pattern_of c.args.t.now c.args.base c.args.j) c.args.code.now c.flatten.new.code c.args.at) (sym c.from_residual-in_err-end-in-4.ensures)
    (c.loop-code.invariant.0 c.flatten.new.code None (front_kept c.flatten.new.code c.in_ok-end.ensures c.in_err-end-in-4.ensures))

pub returns-in_default : goal.returns-in_default
returns-in_default t c =
    c.loop-code.invariant.0 c.put_number.new.code (Some c.in_ok-end.end)
    (flatten_leaf c.args.t.now c.args.base c.loop-code.line c.loop-code.code c.loop-code.end c.pattern_cell-kind.ensures.0 (c.word_of.ensures ∙ c.letter.ensures) c.in_ok-end.ensures
    c.if-kind-eq-VARIABLE.false (leaf_below c.pattern_cell-kind.result (omega arith)))

pub returns-in_default-2 : goal.returns-in_default-2
returns-in_default-2 t c =
    c.loop-code.invariant.0 c.put_number.new.code (Some c.in_ok-end.end)
    (flatten_leaf c.args.t.now c.args.base c.loop-code.line c.loop-code.code c.loop-code.end c.pattern_cell-kind.ensures.0 (c.word_of.ensures ∙ c.letter.ensures) c.in_ok-end.ensures
    c.if-kind-eq-VARIABLE.false (leaf_high c.pattern_cell-kind.result (omega arith) c.in_default.in_default-own.rest.1))

pub loop-code-preserved-in_ok-end-in-4 : goal.loop-code-preserved-in_ok-end-in-4
loop-code-preserved-in_ok-end-in-4 t c = (
  λ c₂ r v. c.loop-code.invariant.0 c₂ r
      (flatten_node c.args.t.now c.args.base c.loop-code.line c.loop-code.code c.loop-code.end c.pattern_cell-kind.ensures.0 (c.word_of.ensures ∙ c.letter.ensures) c.in_ok-end.ensures
      c.pattern_part.ensures
      c.flatten.new.code c₂ r c.in_ok-end-in-4.ensures (joins_key c.in-4.is) c.pattern_part-line.ensures v),
  part_ranks c.args.t.now c.args.base c.loop-code.line (cell_of c.args.t.now (c.args.base + c.loop-code.line) 3) _ c.pattern_cell-kind.ensures.0
      (λ z. absurd (let k = c.in-4.is in omega (arith, z, k))) c.pattern_part-line.ensures c.loop-code.invariant.1,
)

pub loop-code-preserved : goal.loop-code-preserved
loop-code-preserved t c = (
  λ c₂ r v. c.loop-code.invariant.0 c₂ r
      (flatten_tag c.args.t.now c.args.base c.loop-code.line c.loop-code.code c.loop-code.end c.pattern_cell-kind.ensures.0 (c.word_of.ensures ∙ c.letter.ensures) c.in_ok-end.ensures
      c.pattern_part-line-in-2.ensures c₂ r v (injects c.pattern_cell-kind.result (omega arith) (omega arith))),
  part_ranks c.args.t.now c.args.base c.loop-code.line (cell_of c.args.t.now (c.args.base + c.loop-code.line) 2) _ c.pattern_cell-kind.ensures.0
      (λ z. absurd (omega (arith, z))) c.pattern_part-line-in-2.ensures c.loop-code.invariant.1,
)
