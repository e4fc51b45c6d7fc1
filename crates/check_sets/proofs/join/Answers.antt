use native.Mathlib.Omega.{arith}
use Rattle.check_sets.proofs.Sets.{joined, shifted}
use Rattle.check_sets.proofs.join.Goals as goal

pub returns : goal.returns
returns c = joined _ _ _ _ _ (omega arith) c.requires.0 c.requires.1 c.word.ensures (shifted _ (omega arith))
