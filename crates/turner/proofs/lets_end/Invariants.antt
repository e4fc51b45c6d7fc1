use Rattle.turner.proofs.Lets.{LetsUpTo}
use Rattle.turner.proofs.lets_end.Given as goal

abbrev pub invariant-loop-m : goal.invariant-loop-m
invariant-loop-m l = LetsUpTo l.t l.n l.lines l.m
