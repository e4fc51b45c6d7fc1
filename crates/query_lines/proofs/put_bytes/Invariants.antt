use Rattle.query_lines.proofs.Answering.{Copied}
use Rattle.query_lines.proofs.put_bytes.Given as goal

abbrev pub invariant-loop-b : goal.invariant-loop-b
invariant-loop-b l = Copied l.s l.initial.out l.out l.at l.end l.b-index
