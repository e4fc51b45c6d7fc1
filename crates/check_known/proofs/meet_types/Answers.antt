use mathlib.Core.Path.{refl}
use Rattle.calculus.proofs.Basic.{array_length}
use Prim.Native.Nat.{◌-◌}
use Rattle.check_known.proofs.Keeping.{met_apart, met_all}
use Rattle.check_known.proofs.meet_types.Goals as goal

pub returns-then-m-eq-MISFIT : goal.returns-then-m-eq-MISFIT
returns-then-m-eq-MISFIT c =
    λ w v. met_apart c.args.t.now c.args.k.now c.args.at c.args.binds c.args.e c.well_formed.1.1.1.1.0.1.1.1.0.1.0.1 c.requires.1 w v c.misfit.result c.loop-i.invariant.0 c.loop-i-test.true
    c.wide.ensures.value c.number.ensures.0 c.meet_entry-m.ensures c.if-m-eq-MISFIT.true c.misfit.ensures

pub returns : goal.returns
returns c =
    λ w v. met_all c.args.t.now c.args.k.now c.args.at c.args.binds c.args.e c.well_formed.1.1.1.1.0.1.1.1.0.1.0.1 c.requires.1 w v _ c.loop-i.invariant.0 c.loop-i-test.false refl refl
