use Rattle.run_reduction.proofs.Framing.{Letting}
use Rattle.run_coding.specs.Coded.{Coded}
use mathlib.Core.Path.{◌≡◌}
use lib.ListN.{length}
use Prim.Native.Nat.{◌+◌, ◌*◌, ◌≤◌}
use Rattle.run_reduction.proofs.+apply_let_step_run_lets.Given as goal

abbrev pub invariant-run_lets-loop-k : goal.invariant-run_lets-loop-k
invariant-run_lets-loop-k l = (Coded l.t l.base l.code → Letting l.t l.base l.index l.back l.depth l.from l.n l.end l.budget l.initial.work l.initial.vars l.k l.r.top l.r.left l.work l.vars)
    × (l.r.left ≤ l.budget) × (length l.work ≡ length l.initial.work) × (length l.vars ≡ length l.initial.vars)

abbrev pub decreases-apply : goal.decreases-apply
decreases-apply l = 3 * l.left

abbrev pub decreases-let_step : goal.decreases-let_step
decreases-let_step l = 3 * l.left + 1

abbrev pub decreases-run_lets : goal.decreases-run_lets
decreases-run_lets l = 3 * l.budget + 2
