use mathlib.Core.Path.{refl}
use Rattle.check_typing.specs.Fitting.{env_view}
use Rattle.check_typing.proofs.Meeting.{fit_pair}
use Rattle.check_known.proofs.+fit_apart_fit_deep.Goals as goal

pub fit_apart-returns-then-is_parted : goal.fit_apart-returns-then-is_parted
fit_apart-returns-then-is_parted t c =
    let h = c.is_parted.ensures c.if-is_parted.true in fit_pair c.args.t.now
    c.args.base c.args.p c.args.a c.args.binds (env_view c.args.t.now c.args.e) refl refl h.0 h.1 c.sooner-i.ensures c.later-j.ensures c.pattern_part-q.ensures
    c.type_part-b.ensures c.fit_deep-one.ensures c.pattern_part-s.ensures c.type_part-c.ensures c.fit_deep.ensures
