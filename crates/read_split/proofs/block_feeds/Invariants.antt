use Rattle.read_split.proofs.Splitting.{Counted}
use Rattle.read_split.proofs.block_feeds.Given as goal

abbrev pub invariant-loop-b : goal.invariant-loop-b
invariant-loop-b l = Counted l.s l.b-index l.n
