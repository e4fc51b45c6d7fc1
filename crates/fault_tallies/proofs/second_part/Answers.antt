use native.Mathlib.Omega.{arith}
use Rattle.fault_tallies.proofs.Patterns.{second_of, no_second}
use Rattle.fault_tallies.proofs.second_part.Goals as goal

pub returns-in-1 : goal.returns-in-1
returns-in-1 c = second_of c.args.t.now c.args.i c.cell.ensures.0 (omega arith) (omega arith) c.type_part.ensures

pub returns-in_default : goal.returns-in_default
returns-in_default c = no_second c.args.t.now c.args.i c.cell.ensures.0 (λ z. absurd (omega arith)) (λ z. absurd (omega arith))

pub returns-in_default-2 : goal.returns-in_default-2
returns-in_default-2 c = no_second c.args.t.now c.args.i c.cell.ensures.0 (λ z. absurd (omega arith)) (λ z. absurd (omega arith))
