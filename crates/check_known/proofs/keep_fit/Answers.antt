use Rattle.calculus.proofs.Basic.{array_length}
use Rattle.check_known.proofs.Keeping.{known_stored}
use Rattle.check_known.proofs.keep_fit.Goals as goal

pub returns-then-how-lt-NO_ROOM : goal.returns-then-how-lt-NO_ROOM
returns-then-how-lt-NO_ROOM c =
    let n = c.no_types in known_stored c.args.t.now
    c.args.k.now _ c.args.base c.args.p c.args.a c.args.at c.fit_known-e.result n.result c.fit_known-e.type_inv.1.1.1.0.1.0.1 c.requires.1
    c.requires.2 c.store.ensures c.how_of-how.ensures n.ensures c.fit_known-e.ensures
