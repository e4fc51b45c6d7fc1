use Prim.Native.Nat.{◌-◌}
use lib.ListN.{length}
use Rattle.unit_script.proofs.Script.{Through}
use Rattle.unit_script.proofs.script_fault.Given as goal

abbrev pub invariant-loop-at : goal.invariant-loop-at
invariant-loop-at l = Through l.units l.isos l.marks l.script l.at

abbrev pub decreases-loop-at : goal.decreases-loop-at
decreases-loop-at l = length l.script - l.at
