use Rattle.list_lines.proofs.Reading.{Past}
use Rattle.list_lines.proofs.is_among.Given as goal

abbrev pub invariant-loop-i : goal.invariant-loop-i
invariant-loop-i l = Past l.words l.n l.x l.i
