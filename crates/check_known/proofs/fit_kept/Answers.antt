use Prim.Native.Nat.{◌<◌}
use mathlib.Core.Path.{sym, subst}
use Rattle.calculus.proofs.Basic.{array_length}
use Rattle.check_known.proofs.Keeping.{known_closed, known_types, known_fails, last_how}
use Rattle.check_known.proofs.fit_kept.Goals as goal

pub returns-then-how-eq-CLOSED : goal.returns-then-how-eq-CLOSED
returns-then-how-eq-CLOSED c =
    known_closed c.args.t.now c.args.k.now c.args.base c.args.p c.args.a c.args.binds c.args.e c.well_formed.1.1.1.1.1.1.1.0.1.1.1.0.1.0.1 c.requires.0 c.requires.1.place
    c.number-how.ensures.0 c.if-how-eq-CLOSED.true

pub returns-then-how-eq-TYPES : goal.returns-then-how-eq-TYPES
returns-then-how-eq-TYPES c =
    known_types c.args.t.now c.args.k.now c.args.base c.args.p c.args.a c.args.binds c.args.e c.well_formed.1.1.1.1.1.1.1.0.1.1.1.0.1.0.1 c.requires.0 c.requires.1.place
    c.number-how.ensures.0 c.meet_kept.result c.if-how-eq-TYPES.true c.meet_kept.ensures

pub returns : goal.returns
returns c =
    known_fails c.args.t.now c.args.k.now c.args.base c.args.p c.args.a c.args.binds c.args.e c.well_formed.1.1.1.1.1.1.1.0.1.1.1.0.1.0.1 c.requires.0 c.requires.1.place
    c.number-how.ensures.0 c.misfit.result
    (last_how _ (subst (λ h. 0 < h) (sym c.number-how.ensures.0) c.requires.1.some) (subst (λ h. h < 4) (sym c.number-how.ensures.0) c.requires.1.few) c.if-how-eq-CLOSED.false
    c.if-how-eq-TYPES.false) c.misfit.ensures
