use native.Mathlib.Omega.{arith}
use Rattle.table_walks.proofs.Walking.{head_few, lines_few}
use Rattle.check_idle.proofs.idle_fault.Goals as goal

pub returns-then-types-gt-MAX_LINES : goal.returns-then-types-gt-MAX_LINES
returns-then-types-gt-MAX_LINES c = λ rs patterns f. absurd (omega (arith, head_few f, lines_few f))
