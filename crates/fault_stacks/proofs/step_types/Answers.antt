use Rattle.fault_stacks.proofs.Stepping.{types_two}
use native.Mathlib.Omega.{arith}
use Rattle.fault_stacks.proofs.step_types.Goals as goal

pub returns-then-has_two : goal.returns-then-has_two
returns-then-has_two c =
    types_two c.args.t.now c.args.ts.now c.args.top (omega (arith, c.requires.1)) c.args.c c.kind_on-own.ensures c.first_part.result c.second_part.result
    (c.has_two.ensures.joins c.if-has_two.true) c.requires.0 c.second_part.ensures c.first_part.ensures
