use Rattle.std.proofs.Common.{◌-◌, length}
use Rattle.try_check.proofs.check_each.Given as goal

abbrev pub decreases-loop-at : goal.decreases-loop-at
decreases-loop-at l = length l.s - l.at
