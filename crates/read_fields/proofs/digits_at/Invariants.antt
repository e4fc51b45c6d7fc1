use Rattle.read_fields.proofs.Digits.{Carried}
use lib.ListN.{length}
use Prim.Native.Nat.{◌-◌}
use Rattle.read_fields.proofs.digits_at.Given as goal

abbrev pub invariant-loop-d : goal.invariant-loop-d
invariant-loop-d l = Carried l.most l.s l.from l.at l.n

abbrev pub decreases-loop-d : goal.decreases-loop-d
decreases-loop-d l = length l.s - l.at
