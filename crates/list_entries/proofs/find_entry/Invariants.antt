use Rattle.list_entries.proofs.Finding.{Searched}
use Rattle.list_entries.proofs.find_entry.Given as goal

abbrev pub invariant-loop-i : goal.invariant-loop-i
invariant-loop-i l = Searched l.s l.to l.x l.y l.z l.i
