use Rattle.check_clauses.proofs.ClauseLaws.{clause_marked}
use Rattle.check_clauses.proofs.variables_kept.Goals as goal

pub returns-then-row-lt-MAX_LINES : goal.returns-then-row-lt-MAX_LINES
returns-then-row-lt-MAX_LINES c h =
    clause_marked
    c.args.t.now
    c.args.base
    c.args.row
    c.args.end
    c.no_marks.ensures
    c.cell.ensures.0
    c.mark-bound.ensures
    c.mark_lets-stepped.ensures
    c.cell-then-row-lt-MAX_LINES.ensures.0
    c.mark.ensures
    c.settled.ensures
