use Rattle.check_places.proofs.Sides.{Placing}
use Rattle.check_places.proofs.placed_all.Given as goal

abbrev pub invariant-loop-i : goal.invariant-loop-i
invariant-loop-i l = Placing l.t l.f l.base l.a l.k l.rows l.s l.i
