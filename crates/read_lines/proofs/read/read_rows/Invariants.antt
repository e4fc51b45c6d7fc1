use mathlib.Core.Path.{◌≡◌}
use lib.ListN.{length, drop}
use Rattle.format.specs.Lines.{lines}
use Rattle.read_lines.proofs.Reading.{SoFar}
use Rattle.read_lines.proofs.read.read_rows.Given as goal

abbrev pub invariant-loop-at : goal.invariant-loop-at
invariant-loop-at l = SoFar l.s l.initial.t l.t l.g l.at l.n l.seen × (length l.g ≡ length l.initial.g)

abbrev pub decreases-loop-at : goal.decreases-loop-at
decreases-loop-at l = length (lines (drop l.at l.s))
