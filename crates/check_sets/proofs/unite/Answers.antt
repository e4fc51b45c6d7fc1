use mathlib.Core.Path.{refl}
use native.Mathlib.Omega.{arith}
use Rattle.check_sets.proofs.Sets.{united}
use Rattle.check_sets.proofs.unite.Goals as goal

pub returns : goal.returns
returns c = united _ _ (omega arith) c.requires refl refl
