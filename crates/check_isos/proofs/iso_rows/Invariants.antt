use Rattle.check_isos.proofs.Collecting.{Collected}
use Rattle.check_isos.proofs.iso_rows.Given as goal

abbrev pub invariant-loop-n : goal.invariant-loop-n
invariant-loop-n l = Collected l.t l.from l.to l.n l.s
