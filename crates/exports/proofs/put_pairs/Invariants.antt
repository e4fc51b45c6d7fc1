use Rattle.exports.proofs.Printing.{Printed}
use Prim.Native.Nat.{◌-◌}
use Rattle.exports.proofs.put_pairs.Given as goal

abbrev pub invariant-loop-k : goal.invariant-loop-k
invariant-loop-k l = Printed l.initial.out l.tos l.n l.out l.at l.k
