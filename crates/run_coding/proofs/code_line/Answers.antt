use Rattle.run_coding.proofs.Listing.{line_var, line_none, line_flat}
use mathlib.Core.Path.{refl}
use native.Mathlib.Omega.{arith}
use Rattle.run_coding.proofs.code_line.Goals as goal

pub returns-then-pattern_cell-eq-VARIABLE : goal.returns-then-pattern_cell-eq-VARIABLE
returns-then-pattern_cell-eq-VARIABLE c =
    line_var c.args.t.now c.args.base c.args.j c.pattern_cell.ensures.0 c.if-pattern_cell-eq-VARIABLE.true c.pattern_cell-n.ensures.0 c.variable_number.ensures refl c.store.ensures
    c.requires.0 c.requires.2

pub returns-in_default : goal.returns-in_default
returns-in_default c =
    line_none _ c.args.j c.flatten_stopped.new.code c.in_default.ensures refl c.store-in_default.ensures c.requires.0
    (let a = c.flatten_stopped.auto.code in let l = c.requires.2 in omega (arith, a, l))

pub returns : goal.returns
returns c = line_flat _ c.args.j c.in-Some.ensures refl c.narrow.ensures c.store-2.ensures c.requires.0 c.requires.1
