use Rattle.read_fields.proofs.Ends.{Ahead}
use Rattle.read_fields.proofs.Cursor.line_end.Given as goal

abbrev pub invariant-loop-at : goal.invariant-loop-at
invariant-loop-at l = Ahead l.s l.fn.self.at l.at
