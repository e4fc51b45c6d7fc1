use Prim.Native.Nat.{ℕ, ◌-◌}
use lib.ListN.{length-replicate}
use mathlib.Core.Path.{refl}
use Rattle.check_isos.proofs.Collecting.{collected_start, collected_step, collected_all}
use Rattle.limits.specs.Limits.{max_isos}
use Rattle.check_isos.proofs.iso_rows.Goals as goal

pub loop-n-init : goal.loop-n-init
loop-n-init c = collected_start _ _ _ _ (length-replicate {A = ℕ} max_isos 0) refl

pub loop-n-preserved : goal.loop-n-preserved
loop-n-preserved c = collected_step c.loop-n.invariant c.loop-n-test.true c.with_line-s.ensures

pub returns : goal.returns
returns c = collected_all c.loop-n.invariant c.loop-n-test.false
