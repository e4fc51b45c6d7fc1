use Rattle.bound_counts.proofs.Reckoning.{extreme, no_clause, best_start, best_step}
use native.Mathlib.Omega.{arith}
use Rattle.bound_counts.proofs.best_cost.Goals as goal

pub returns-then-end-m : goal.returns-then-end-m
returns-then-end-m c = no_clause (extreme c.args.most) c.args.t.now c.args.known.now c.args.index.now c.args.m c.args.end c.if-end-m.true

pub loop-n-init : goal.loop-n-init
loop-n-init c = best_start (extreme c.args.most) _ _ _ _ _ _ (omega (arith, c.if-end-m.false)) c.clause_cost-best.ensures

pub loop-n-preserved : goal.loop-n-preserved
loop-n-preserved c = best_step (extreme c.args.most) c.loop-n.invariant c.loop-n-test.true _ _ c.clause_cost.ensures c.better-best.ensures
