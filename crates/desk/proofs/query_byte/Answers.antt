use mathlib.Core.Bool.{false}
use Rattle.desk.proofs.Answering.{printed}
use Rattle.desk.proofs.Feeding.{reaches_state, query_ends, query_more}
use Rattle.desk.proofs.query_byte.Goals as goal

pub returns-then-b-eq-LINE_FEED : goal.returns-then-b-eq-LINE_FEED
returns-then-b-eq-LINE_FEED c =
    λ file rs l h roomy room.
    reaches_state c.ready.ensures
    (query_ends c.args.d c.args.b false rs l h c.if-b-eq-LINE_FEED.true (λ x. c.hold-held.ensures l x roomy.lines) c.front.ensures
    (λ p. let x = c.answer-end.ensures rs p roomy.works in printed x.0 x.1 room))

pub returns : goal.returns
returns c =
    λ file rs l h roomy room. reaches_state c.ready-2.ensures (query_more c.args.d c.args.b false rs l h c.if-b-eq-LINE_FEED.false (λ x. c.hold-held.ensures l x roomy.lines) room)
