use Rattle.turner.proofs.Lets.{LetsState}
use Rattle.turner.proofs.put_lets.Given as goal

abbrev pub invariant-loop-n : goal.invariant-loop-n
invariant-loop-n l = LetsState l.t l.initial.out l.out l.from l.to l.at l.n l.end
