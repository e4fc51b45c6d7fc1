use Rattle.list_targets.proofs.Finding.{Through}
use Prim.Native.Nat.{◌-◌}
use Rattle.list_targets.proofs.find_tos.Given as goal

abbrev pub invariant-loop-k : goal.invariant-loop-k
invariant-loop-k l = Through l.t l.base l.index l.isos l.i l.n l.budget l.initial.work l.initial.tos l.work l.tos l.k
