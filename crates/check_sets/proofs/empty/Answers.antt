use native.Mathlib.Omega.{arith}
use Rattle.check_sets.proofs.Sets.{emptied}
use Rattle.check_sets.proofs.empty.Goals as goal

pub returns : goal.returns
returns c = emptied _ (omega arith)
