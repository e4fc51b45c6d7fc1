use mathlib.Core.Logic.{⊎_elim}
use Rattle.fault_tallies.proofs.Patterns.{two_pair, two_element}
use Rattle.fault_tallies.proofs.has_two.Goals as goal

pub returns-in-4 : goal.returns-in-4
returns-in-4 c = ⊎_elim two_pair two_element c.in-4.is
