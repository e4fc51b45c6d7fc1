use Rattle.std.proofs.Common.{◌≤◌, length}
use Rattle.stdio.proofs.read_area.Given as goal

abbrev pub invariant-loop-turn : goal.invariant-loop-turn
invariant-loop-turn l = l.done ≤ length l.area
