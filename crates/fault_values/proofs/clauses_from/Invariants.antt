use Rattle.fault_values.proofs.Collecting.{Walking}
use Rattle.fault_values.proofs.clauses_from.Given as goal

abbrev pub invariant-loop-n : goal.invariant-loop-n
invariant-loop-n l = Walking l.t l.from l.lines l.n l.c
