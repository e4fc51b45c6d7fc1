use Rattle.desk.proofs.Feeding.{reaches_state, collects_more}
use Rattle.desk.proofs.file_byte.Goals as goal

pub returns : goal.returns
returns c =
    λ bs line table index out h least room.
    reaches_state c.state.ensures (collects_more c.args.b bs (c.hold-more.ensures bs h least) room)
