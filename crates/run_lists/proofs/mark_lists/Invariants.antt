use Rattle.run_lists.proofs.Marking.{Marking}
use Rattle.run_lists.proofs.mark_lists.Given as goal

abbrev pub invariant-loop-i : goal.invariant-loop-i
invariant-loop-i l = Marking l.t l.index l.isos l.initial.marks l.marks l.i
