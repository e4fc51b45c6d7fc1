use Prim.Native.Nat.{◌-◌}
use Rattle.check_clauses.proofs.ClauseLaws.{fits_step}
use Rattle.check_clauses.proofs.fit_lets.Goals as goal

pub loop-n-preserved : goal.loop-n-preserved
loop-n-preserved c = fits_step c.loop-n.invariant c.loop-n-test.true c.fit_let-env.ensures
