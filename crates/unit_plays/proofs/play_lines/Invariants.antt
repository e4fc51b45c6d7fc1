use Prim.Native.Nat.{◌-◌}
use lib.ListN.{length}
use Rattle.unit_plays.proofs.Lines.{Through}
use Rattle.unit_plays.proofs.play_lines.Given as goal

abbrev pub invariant-loop-at : goal.invariant-loop-at
invariant-loop-at l = Through l.t l.types l.index l.isos l.script l.budget l.initial.work l.initial.lines l.initial.settings l.work l.lines l.settings l.at l.k

abbrev pub decreases-loop-at : goal.decreases-loop-at
decreases-loop-at l = length l.script - l.at
