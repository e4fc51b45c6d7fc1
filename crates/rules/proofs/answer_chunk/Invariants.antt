use Prim.Native.Nat.{◌-◌}
use lib.ListN.{length}
use Rattle.rules.proofs.Going.{Feeds}
use Rattle.rules.proofs.answer_chunk.Given as goal

abbrev pub invariant-loop-at : goal.invariant-loop-at
invariant-loop-at l =
    Feeds l.chunk l.initial.file l.initial.line l.initial.table l.initial.work l.initial.index l.initial.out l.initial.desk l.file l.line l.table l.work l.index l.out l.desk l.at

abbrev pub decreases-loop-at : goal.decreases-loop-at
decreases-loop-at l = length l.chunk - l.at
