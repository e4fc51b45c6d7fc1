use Rattle.check_typing.proofs.Steps.{step_first, step_second}
use Rattle.check_typing.proofs.beside.Goals as goal

pub returns-then-is_marked : goal.returns-then-is_marked
returns-then-is_marked c = step_first c.requires.1 c.requires.2 c.in_ok-one.ensures c.in_ok-two.ensures (c.is_marked.ensures c.if-is_marked.true _ c.requires.0.bares)

pub returns-then-is_marked-2 : goal.returns-then-is_marked-2
returns-then-is_marked-2 c = step_second c.requires.1 c.requires.2 c.in_ok-one.ensures c.in_ok-two.ensures (c.is_marked-2.ensures c.if-is_marked-2.true _ c.requires.0.bares)
