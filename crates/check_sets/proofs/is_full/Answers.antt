use mathlib.Core.Path.{refl}
use Rattle.check_sets.proofs.Sets.{full_high}
use Rattle.check_sets.proofs.is_full.Goals as goal

pub returns-then-ones : goal.returns-then-ones
returns-then-ones c = full_high _ _ c.if-i-lt-BITS.false c.requires refl c.ones.ensures c.if-ones.true refl c.low-then-ones.ensures
