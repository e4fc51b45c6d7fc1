use Rattle.format.specs.Code.{refusal_view}
use Rattle.check_isos.proofs.Earlier.{by_sides}
use Rattle.check_isos.proofs.iso_found.Goals as goal

pub returns : goal.returns
returns c =
    by_sides c.args.pending.place c.args.n c.recursion_fault-own.result.place (refusal_view c.args.pending.refusal) (refusal_view c.recursion_fault-own.result.refusal) _ _
    c.is_refused.ensures c.if-is_refused.false c.recursion_fault-own.ensures c.is_refused-2.ensures c.if-is_refused-2.false c.side_fault.ensures c.sooner.ensures
