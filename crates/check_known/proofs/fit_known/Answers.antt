use Rattle.calculus.proofs.Basic.{array_length}
use Rattle.check_typing.specs.Fitting.{env_view}
use Rattle.check_typing.proofs.Meeting.{bare_same}
use Rattle.check_known.proofs.Keeping.{known_closed, known_types, known_fails}
use Rattle.check_known.proofs.fit_known.Goals as goal

pub returns-then-is_bare : goal.returns-then-is_bare
returns-then-is_bare c = bare_same c.args.binds (c.is_bare.ensures c.if-is_bare.true c.args.t.now c.requires.0) (env_view c.args.t.now c.args.e)

pub returns-then-how-eq-TYPES : goal.returns-then-how-eq-TYPES
returns-then-how-eq-TYPES c =
    known_types c.args.t.now c.args.k.now c.args.base c.args.p c.args.a c.args.binds c.args.e c.well_formed.1.1.1.1.1.1.1.0.1.1.1.0.1.0.1 c.requires.1 (c.slot_of-at.ensures c.if-at-k.true)
    c.number-how.ensures.0 c.meet_kept.result c.if-how-eq-TYPES.true c.meet_kept.ensures

pub returns-then-how-eq-CLOSED : goal.returns-then-how-eq-CLOSED
returns-then-how-eq-CLOSED c =
    known_closed c.args.t.now c.args.k.now c.args.base c.args.p c.args.a c.args.binds c.args.e c.well_formed.1.1.1.1.1.1.1.0.1.1.1.0.1.0.1 c.requires.1 (c.slot_of-at.ensures c.if-at-k.true)
    c.number-how.ensures.0 c.if-how-eq-CLOSED.true

pub returns-then-how-eq-FAILS : goal.returns-then-how-eq-FAILS
returns-then-how-eq-FAILS c =
    known_fails c.args.t.now c.args.k.now c.args.base c.args.p c.args.a c.args.binds c.args.e c.well_formed.1.1.1.1.1.1.1.0.1.1.1.0.1.0.1 c.requires.1 (c.slot_of-at.ensures c.if-at-k.true)
    c.number-how.ensures.0 c.misfit.result c.if-how-eq-FAILS.true c.misfit.ensures
