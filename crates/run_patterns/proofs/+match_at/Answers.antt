use native.Mathlib.Omega.{arith}
use mathlib.Core.Path.{◌∙◌}
use Rattle.table_trees.proofs.Cases.{injects, joins_key, leaf_below}
use Rattle.run_patterns.proofs.Lines.{leaf_high}
use Rattle.run_patterns.proofs.Matching.{match_variable, match_miss, match_leaf, match_tag, match_node, miss_first}
use Rattle.run_patterns.proofs.+match_at.Goals as goal

pub returns-then-kind-eq-VARIABLE : goal.returns-then-kind-eq-VARIABLE
returns-then-kind-eq-VARIABLE t c =
    let m = match_variable c.args.t.now c.args.base c.args.j c.args.s.now c.args.at c.args.end c.args.vars.now c.pattern_cell-kind.ensures.0 c.if-kind-eq-VARIABLE.true c.pattern_cell.ensures.0
    (c.match_var.ensures.value, c.match_var.ensures.vars_after) in
    record { value = m.0; vars_after = m.1 }

pub returns-in_err-next : goal.returns-in_err-next
returns-in_err-next t c =
    let m = match_miss c.args.t.now c.args.base c.args.j c.args.s.now c.args.at c.args.end c.args.vars.now c.pattern_cell-kind.ensures.0 c.letter.ensures c.letter_end.ensures
    c.if-kind-eq-VARIABLE.false c.in_err-next.was in
    record { value = λ v a d. c.from_residual.ensures ∙ m.0 v a d; vars_after = m.1 }

pub returns-in_ok-m-in-4 : goal.returns-in_ok-m-in-4
returns-in_ok-m-in-4 t c =
    let m = match_node c.args.t.now c.args.base c.args.j c.args.s.now c.args.at c.args.end c.args.vars.now c.pattern_cell-kind.ensures.0 c.letter.ensures c.letter_end.ensures c.in_ok-next.was
    c.pattern_part.ensures (joins_key c.in-4.is) c.in_ok-m-in-4.was (c.match_at.ensures.value, c.match_at.ensures.vars_after) c.pattern_part-in-4.ensures
    (c.match_at-in-4.ensures.value, c.match_at-in-4.ensures.vars_after) in
    record { value = m.0; vars_after = m.1 }

pub returns-in_err-m-in-4 : goal.returns-in_err-m-in-4
returns-in_err-m-in-4 t c =
    let m = miss_first c.args.t.now c.args.base c.args.j c.args.s.now c.args.at c.args.end c.args.vars.now c.pattern_cell-kind.ensures.0 c.letter.ensures c.letter_end.ensures c.in_ok-next.was
    c.pattern_part.ensures (joins_key c.in-4.is) c.in_err-m-in-4.was (c.match_at.ensures.value, c.match_at.ensures.vars_after) in
    record { value = λ v a d. c.from_residual-in_err-m-in-4.ensures ∙ m.0 v a d; vars_after = m.1 }

pub returns-in-2 : goal.returns-in-2
returns-in-2 t c =
    let m = match_tag c.args.t.now c.args.base c.args.j c.args.s.now c.args.at c.args.end c.args.vars.now c.pattern_cell-kind.ensures.0 c.letter.ensures c.letter_end.ensures c.in_ok-next.was
    c.pattern_part-in-2.ensures (injects c.pattern_cell-kind.result (omega arith) (omega arith)) (c.match_at-in-2.ensures.value, c.match_at-in-2.ensures.vars_after) in
    record { value = m.0; vars_after = m.1 }

pub returns-in_default : goal.returns-in_default
returns-in_default t c =
    let m = match_leaf c.args.t.now c.args.base c.args.j c.args.s.now c.args.at c.args.end c.args.vars.now c.pattern_cell-kind.ensures.0 c.letter.ensures c.letter_end.ensures c.in_ok-next.was
    c.if-kind-eq-VARIABLE.false (leaf_below c.pattern_cell-kind.result (omega arith)) in
    record { value = m.0; vars_after = m.1 }

pub returns-in_default-2 : goal.returns-in_default-2
returns-in_default-2 t c =
    let m = match_leaf c.args.t.now c.args.base c.args.j c.args.s.now c.args.at c.args.end c.args.vars.now c.pattern_cell-kind.ensures.0 c.letter.ensures c.letter_end.ensures c.in_ok-next.was
    c.if-kind-eq-VARIABLE.false (leaf_high c.pattern_cell-kind.result (omega arith) c.in_default.in_default-own.rest.1) in
    record { value = m.0; vars_after = m.1 }
