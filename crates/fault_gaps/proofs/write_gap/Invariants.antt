use Rattle.fault_gaps.proofs.Writing.{Writing}
use Rattle.table_walks.specs.InTable.{patterns_at}
use Rattle.fault_gaps.proofs.write_gap.Given as goal

abbrev pub invariant-loop-m : goal.invariant-loop-m
invariant-loop-m l = Writing l.t l.i (patterns_at l.t l.base l.f l.rows) l.initial.out l.out l.ts l.n l.m l.top
