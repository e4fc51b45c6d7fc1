use native.Mathlib.Omega.{arith}
use Rattle.fault_stacks.proofs.Walking.{types_on, types_none}
use borrow.Author.Rules.{rules}
use Rattle.fault_stacks.proofs.walk_types.Goals as goal

pub loop-c-init : goal.loop-c-init
loop-c-init c = types_on c.args.t.now c.args.w.now c.args.ts.now c.args.i (search rules)

pub returns-then-top-gt-MAX_NODES : goal.returns-then-top-gt-MAX_NODES
returns-then-top-gt-MAX_NODES c = (omega arith, types_none c.loop-c.invariant (search rules))
