use Prim.Native.Nat.{◌-◌}
use lib.ListN.{length}
use Rattle.unit_settings.proofs.Testing.{Through}
use Rattle.unit_settings.proofs.units_fault.Given as goal

abbrev pub invariant-loop-k : goal.invariant-loop-k
invariant-loop-k l = Through l.t l.types l.lines l.settings l.k
