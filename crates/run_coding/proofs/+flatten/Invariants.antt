use Rattle.std.proofs.Common.{◌≤◌}
use Rattle.table_trees.proofs.Unfolding.{rank}
use Rattle.run_coding.proofs.Flattening.{Leads}
use Rattle.run_coding.proofs.+flatten.Given as goal

abbrev pub decreases-flatten : goal.decreases-flatten
decreases-flatten l = rank l.j

abbrev pub invariant-loop-code : goal.invariant-loop-code
invariant-loop-code l = Leads l.t l.base l.fn.j l.fn.code l.fn.at l.line l.code l.end × (rank l.line ≤ rank l.fn.j)

abbrev pub decreases-loop-code : goal.decreases-loop-code
decreases-loop-code l = rank l.line
