use Rattle.check_typing.proofs.Meeting.{assign_out, assign_first, assign_live, assign_unknown, assign_same, assign_other}
use Rattle.check_typing.proofs.assign.Goals as goal

pub returns-then-n-ge-VARIABLES : goal.returns-then-n-ge-VARIABLES
returns-then-n-ge-VARIABLES c = assign_out c.args.t.now c.args.n c.args.a c.args.line.now (c.requires) c.args.binds c.if-n-ge-VARIABLES.true

pub returns-then-known-eq0 : goal.returns-then-known-eq0
returns-then-known-eq0 c =
    assign_first c.args.t.now c.args.n c.args.a c.args.line.now (c.requires) c.args.binds _ c.if-binds.true c.if-n-ge-VARIABLES.false c.wide-known.ensures.value c.if-known-eq0.true c.entry_of.ensures

pub returns-then-binds : goal.returns-then-binds
returns-then-binds c =
    assign_live c.args.t.now c.args.n c.args.a c.args.line.now (c.requires) c.args.binds c.if-binds.true c.wide-known.ensures.value c.if-known-eq0.false

pub returns-then-known-eq0-2 : goal.returns-then-known-eq0-2
returns-then-known-eq0-2 c =
    assign_unknown c.args.t.now c.args.n c.args.a c.args.line.now (c.requires) c.args.binds c.if-binds.false c.wide-known.ensures.value c.if-known-eq0-2.true

pub returns-then-same_line : goal.returns-then-same_line
returns-then-same_line c =
    assign_same c.args.t.now c.args.n c.args.a c.args.line.now (c.requires) c.args.binds c.if-binds.false c.wide-known.ensures.value c.if-known-eq0-2.false c.same_line.ensures c.if-same_line.true

pub returns : goal.returns
returns c =
    assign_other c.args.t.now c.args.n c.args.a c.args.line.now (c.requires) c.args.binds c.if-binds.false c.wide-known.ensures.value c.if-known-eq0-2.false c.same_line.ensures c.if-same_line.false
