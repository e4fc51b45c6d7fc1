use Prim.Native.Nat.{◌-◌}
use native.Mathlib.Omega.{arith}
use Rattle.run_index.proofs.Indexing.{clause_row}
use Rattle.run_index.proofs.Tails.{tail_one}
use Rattle.run_index.proofs.with_clause.Goals as goal

pub returns-then-l-eq0-clause-kind_indexed : goal.returns-then-l-eq0-clause-kind_indexed
returns-then-l-eq0-clause-kind_indexed c = (λ t rs types patterns lines f h e s. let room = s.room in absurd (omega arith))

pub returns-clause-kind_indexed : goal.returns-clause-kind_indexed
returns-clause-kind_indexed c = (λ t rs types patterns lines f h e s. clause_row f h s e c.narrow.ensures c.store.ensures)

pub returns-clause-tail_kept : goal.returns-clause-tail_kept
returns-clause-tail_kept c = λ a b. (tail_one c.args.index.now (c.args.l.first - 1) c.narrow.result (omega (arith, a)) c.store.ensures, omega (arith, a), b)
