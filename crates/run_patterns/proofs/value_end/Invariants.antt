use Rattle.run_patterns.proofs.Spelling.{Searching}
use Rattle.run_patterns.proofs.value_end.Given as goal

abbrev pub invariant-loop-i : goal.invariant-loop-i
invariant-loop-i l = Searching l.s l.at l.i l.left
