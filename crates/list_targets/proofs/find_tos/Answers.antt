use Rattle.list_targets.proofs.Finding.{through_spent, through_next}
use Prim.Native.Nat.{◌-◌}
use Rattle.list_targets.proofs.find_tos.Goals as goal

pub returns-then-not-find_to : goal.returns-then-not-find_to
returns-then-not-find_to c = through_spent c.loop-k.invariant c.loop-k-test.true c.find_to.ensures c.if-not-find_to.true

pub loop-k-preserved : goal.loop-k-preserved
loop-k-preserved c =
    through_next c.loop-k.invariant c.loop-k-test.true c.find_to.ensures c.if-not-find_to.false c.find_to.auto.work
    c.find_to.auto.tos
