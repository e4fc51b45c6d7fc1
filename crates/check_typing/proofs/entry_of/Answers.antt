use Rattle.check_typing.proofs.Meeting.{entry_past}
use Rattle.check_typing.proofs.entry_of.Goals as goal

pub returns : goal.returns
returns c = entry_past c.args.a c.if-a-lt-MAX_LINES.false
