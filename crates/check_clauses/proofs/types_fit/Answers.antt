use Rattle.check_clauses.proofs.ClauseLaws.{clause_fitted}
use Rattle.check_clauses.proofs.types_fit.Goals as goal

pub returns-then-row-lt-MAX_LINES : goal.returns-then-row-lt-MAX_LINES
returns-then-row-lt-MAX_LINES c h =
    clause_fitted
    c.args.t.now
    c.args.starts.now
    c.args.base
    c.args.a
    c.args.b
    c.args.row
    c.args.end
    c.no_types.result
    c.fit_known-bound.result
    c.fit_lets-stepped.result
    c.fit_known-done.result
    c.no_types.ensures
    c.cell.ensures.0
    c.fit_known-bound.ensures
    c.fit_lets-stepped.ensures
    c.cell-then-row-lt-MAX_LINES.ensures.0
    c.fit_known-done.ensures
    c.all_used.ensures
