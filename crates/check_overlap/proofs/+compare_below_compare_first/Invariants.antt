use Rattle.std.proofs.Common.{◌+◌, ◌*◌}
use Rattle.check_overlap.proofs.Walking.{Walks}
use Rattle.check_overlap.proofs.+compare_below_compare_first.Given as goal

abbrev pub invariant-compare_below-loop-m : goal.invariant-compare_below-loop-m
invariant-compare_below-loop-m l = Walks l.t l.base l.i l.j l.count l.p l.q l.m l.n

abbrev pub decreases-compare_below-loop-m : goal.decreases-compare_below-loop-m
decreases-compare_below-loop-m l = l.p

abbrev pub decreases-compare_below : goal.decreases-compare_below
decreases-compare_below l = 2 * l.i + 1

abbrev pub decreases-compare_first : goal.decreases-compare_first
decreases-compare_first l = 2 * l.p
