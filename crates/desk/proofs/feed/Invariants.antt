use Prim.Native.Nat.{◌-◌}
use lib.ListN.{length}
use Rattle.desk.proofs.Feeding.{Feeds}
use Rattle.desk.proofs.feed.Given as goal

abbrev pub invariant-loop-b : goal.invariant-loop-b
invariant-loop-b l = Feeds l.chunk l.initial.file l.initial.line l.initial.table l.initial.work l.initial.index l.initial.out
    l.initial.desk l.file l.line l.table l.work l.index l.out l.desk l.taken l.written

abbrev pub decreases-loop-b : goal.decreases-loop-b
decreases-loop-b l = length l.chunk - l.taken
