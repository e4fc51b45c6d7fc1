use native.Mathlib.Omega.{arith}
use Rattle.check_sets.proofs.Sets.{ones_test}
use Rattle.check_sets.proofs.ones.Goals as goal

pub returns : goal.returns
returns c = ones_test _ (omega arith)
