use Rattle.check_typing.specs.Fitting.{env_view}
use Rattle.check_clauses.proofs.ClauseLaws.{let_known, let_unknown}
use Rattle.check_clauses.proofs.fit_let.Goals as goal

pub returns-then-i-starts : goal.returns-then-i-starts
returns-then-i-starts c =
    let_known
    c.args.t.now
    c.args.base
    c.args.n
    c.args.starts.now
    (env_view c.args.t.now c.args.e)
    c.cell-i.ensures.0
    c.if-i-starts.true
    c.wide-head.ensures.value
    c.cell.ensures.0
    c.cell-then-i-starts.ensures.0
    c.fit_known-used.ensures
    c.cell-then-i-starts-2.ensures.0
    c.cell-then-i-starts-3.ensures.0
    c.fit_known.ensures

pub returns : goal.returns
returns c =
    let_unknown
    c.args.t.now
    c.args.base
    c.args.n
    c.args.starts.now
    (env_view c.args.t.now c.args.e)
    c.cell-i.ensures.0
    c.if-i-starts.false
    (c.misfit.ensures c.args.t.now)
