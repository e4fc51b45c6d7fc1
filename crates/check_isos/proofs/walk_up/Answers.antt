use Prim.Native.Nat.{ℕ}
use lib.ListN.{length-replicate}
use Rattle.check_isos.proofs.Stepping.{walking_start, walking_step, walking_end}
use Rattle.limits.specs.Limits.{max_clauses}
use Rattle.check_isos.proofs.walk_up.Goals as goal

pub loop-n-init : goal.loop-n-init
loop-n-init c = walking_start _ _ _ _ _ _ _ _ (length-replicate {A = ℕ} max_clauses 0) c.none-clean.ensures.0

pub loop-n-preserved : goal.loop-n-preserved
loop-n-preserved c = walking_step c.loop-n.invariant c.loop-n-test.true c.with_row-w.ensures

pub returns : goal.returns
returns c = walking_end c.loop-n.invariant c.loop-n-test.false
