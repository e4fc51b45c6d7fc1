use Rattle.check_variables.proofs.Marking.{Walked}
use Rattle.check_typing.proofs.all_used.Given as goal

abbrev pub invariant-loop-entry : goal.invariant-loop-entry
invariant-loop-entry l = Walked l.entry-index l.fn.e.line
