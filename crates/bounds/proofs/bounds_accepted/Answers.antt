use native.Mathlib.Omega.{arith}
use Rattle.bounds.proofs.bounds_accepted.Goals as goal

pub returns : goal.returns
returns c = λ s x. c.bounds_checked.ensures _ x.file (c.prepare.ensures s x (omega arith))
