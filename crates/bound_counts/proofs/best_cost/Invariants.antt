use Rattle.bound_counts.specs.Held.{pick_of}
use Rattle.bound_counts.proofs.Reckoning.{Best}
use Rattle.bound_counts.proofs.best_cost.Given as goal

abbrev pub invariant-loop-n : goal.invariant-loop-n
invariant-loop-n l = Best (pick_of l.most) l.t l.known l.index l.m l.end l.n l.best
