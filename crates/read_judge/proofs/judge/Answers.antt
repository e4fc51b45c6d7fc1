use Rattle.read_judge.proofs.Judging.{out_of_order, bad_field_lem, bad_name_lem, past_ceiling, no_refusal}
use Rattle.read_judge.proofs.judge.Goals as goal

pub returns : goal.returns
returns c =
    no_refusal c.args.t.now c.args.g.now c.args.c c.args.r c.in_order.ensures c.if-not-in_order.false c.fields_fit.ensures c.if-not-fields_fit.false c.names_stand.ensures c.if-not-names_stand.false
    c.within_ceilings.ensures c.if-not-within_ceilings.false

pub returns-then-not-within_ceilings : goal.returns-then-not-within_ceilings
returns-then-not-within_ceilings c =
    past_ceiling c.args.t.now c.args.g.now c.args.c c.args.r c.in_order.ensures c.if-not-in_order.false c.fields_fit.ensures c.if-not-fields_fit.false c.names_stand.ensures c.if-not-names_stand.false
    c.within_ceilings.ensures c.if-not-within_ceilings.true

pub returns-then-not-names_stand : goal.returns-then-not-names_stand
returns-then-not-names_stand c =
    bad_name_lem c.args.t.now c.args.g.now c.args.c c.args.r c.in_order.ensures c.if-not-in_order.false c.fields_fit.ensures c.if-not-fields_fit.false c.names_stand.ensures c.if-not-names_stand.true

pub returns-then-not-fields_fit : goal.returns-then-not-fields_fit
returns-then-not-fields_fit c = bad_field_lem c.args.t.now c.args.g.now c.args.c c.args.r c.in_order.ensures c.if-not-in_order.false c.fields_fit.ensures c.if-not-fields_fit.true

pub returns-then-not-in_order : goal.returns-then-not-in_order
returns-then-not-in_order c = out_of_order c.args.t.now c.args.g.now c.args.c c.args.r c.in_order.ensures c.if-not-in_order.true
