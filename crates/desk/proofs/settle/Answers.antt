use mathlib.Core.Path.{refl}
use Rattle.desk.proofs.Feeding.{reaches_state, settle_refused, settle_accepted}
use Rattle.desk.proofs.Holding.{holds_letter}
use Rattle.desk.proofs.settle.Goals as goal

pub returns-then-is_down : goal.returns-then-is_down
returns-then-is_down c =
    λ file area out out' at k lines indices. reaches_state c.state.ensures (settle_refused file area c.args.c _ k c.is_down.ensures c.args.line.now c.args.index.now c.if-is_down.true refl)

pub returns : goal.returns
returns c =
    λ file area out out' at k lines indices. reaches_state c.ready.ensures
    (settle_accepted file area c.args.c _ k c.is_down.ensures c.if-is_down.false refl
    (holds_letter c.args.line.now lines c.put_byte-held.ensures.bytes_after c.put_byte-held.ensures.value) (λ accepted. c.prepare.ensures file accepted indices))
