use Rattle.fault_stacks.proofs.Stepping.{row_var_two, row_var, row_not, row_two, row_one, row_leaf}
use mathlib.Core.Logic.{inl, inr}
use native.Mathlib.Omega.{arith}
use Rattle.fault_stacks.proofs.step_row.Goals as goal
use Rattle.fault_stacks.proofs.step_row.Goals.{then-own-eq-LEFT-via-then-own-eq-LEFT, then-own-eq-LEFT-via-else-own-eq-LEFT+then-own-eq-RIGHT}

pub returns-then-has_two : goal.returns-then-has_two
returns-then-has_two c =
    row_var_two c.args.t.now c.args.base c.args.ps.now c.args.top c.args.c (omega (arith, c.requires.1)) c.kind_of-kind.ensures c.kind_on-own.ensures c.if-kind-eq-VARIABLE.true
    (c.has_two.ensures.joins c.if-has_two.true) c.requires.0

pub returns-else-has_two : goal.returns-else-has_two
returns-else-has_two c =
    row_var c.args.t.now c.args.base c.args.ps.now c.args.top c.args.c (omega (arith, c.requires.1)) c.kind_of-kind.ensures c.kind_on-own.ensures c.if-kind-eq-VARIABLE.true
    (c.has_two.ensures.no_pair c.if-has_two.false) (c.has_two.ensures.no_element c.if-has_two.false)

pub returns-then-kind-own : goal.returns-then-kind-own
returns-then-kind-own c =
    row_not c.args.t.now c.args.base c.args.ps.now c.args.top c.args.c (omega (arith, c.requires.1)) c.kind_of-kind.ensures c.kind_on-own.ensures c.if-kind-eq-VARIABLE.false
    c.if-kind-own.true

pub returns-then-has_two-2 : goal.returns-then-has_two-2
returns-then-has_two-2 c =
    row_two c.args.t.now c.args.base c.args.ps.now c.args.top c.args.c (omega (arith, c.requires.1)) c.kind_of-kind.ensures c.kind_on-own.ensures
    c.pattern_part-then-has_two-2.result c.pattern_part.result c.if-kind-own.false (c.has_two-2.ensures.joins c.if-has_two-2.true) c.requires.0 c.pattern_part-then-has_two-2.ensures
    c.pattern_part.ensures

pub returns-then-own-eq-LEFT : goal.returns-then-own-eq-LEFT
returns-then-own-eq-LEFT c =
    row_one c.args.t.now c.args.base c.args.ps.now c.args.top c.args.c (omega (arith, c.requires.1)) c.kind_of-kind.ensures c.kind_on-own.ensures
    c.pattern_part-then-own-eq-LEFT.result c.if-kind-own.false
    (elim c.then-own-eq-LEFT.branch [
      | then-own-eq-LEFT-via-then-own-eq-LEFT w ↦ inl w.if-own-eq-LEFT.true
      | then-own-eq-LEFT-via-else-own-eq-LEFT+then-own-eq-RIGHT w ↦ inr w.if-own-eq-RIGHT.true
    ]) c.pattern_part-then-own-eq-LEFT.ensures

pub returns-else-own-eq-RIGHT : goal.returns-else-own-eq-RIGHT
returns-else-own-eq-RIGHT c =
    row_leaf c.args.t.now c.args.base c.args.ps.now c.args.top c.args.c (omega (arith, c.requires.1)) c.kind_of-kind.ensures c.kind_on-own.ensures c.if-kind-own.false
    (c.has_two-2.ensures.no_pair c.if-has_two-2.false) (c.has_two-2.ensures.no_element c.if-has_two-2.false) c.if-own-eq-LEFT.false c.if-own-eq-RIGHT.false
