use Rattle.list_file.proofs.Printing.{Printed}
use Rattle.format.specs.Code.{kind_view}
use Rattle.list_file.proofs.put_entries.Given as goal

abbrev pub invariant-loop-i : goal.invariant-loop-i
invariant-loop-i l = Printed (kind_view l.kind) l.s l.initial.out l.out l.at l.n l.i l.end
