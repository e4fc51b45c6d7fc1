use Rattle.read_split.proofs.Splitting.{CountedTo}
use Rattle.read_split.proofs.count_feeds.Given as goal

abbrev pub invariant-loop-block : goal.invariant-loop-block
invariant-loop-block l = CountedTo l.s l.block-iterator.rest.now l.block-iterator.size l.n
