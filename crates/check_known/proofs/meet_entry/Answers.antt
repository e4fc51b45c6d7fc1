use Rattle.check_known.proofs.Keeping.{use_own}
use Rattle.check_known.proofs.meet_entry.Goals as goal

pub returns-then-known-x : goal.returns-then-known-x
returns-then-known-x c = use_own c.args.t.now _ _ c.requires.0 c.requires.1 c.if-binds.false c.if-known-eq0-2.false c.if-known-x.true
