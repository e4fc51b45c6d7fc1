use Rattle.bounds.proofs.Telling.{bounds_refused, bounds_accepted}
use Rattle.bounds.proofs.bounds.Goals as goal

pub returns-then-is_refused : goal.returns-then-is_refused
returns-then-is_refused c =
    bounds_refused c.args.file.now c.args.table.now c.args.work.now c.args.i _ _ _ c.refused.result _ c.check_file-c.ensures.0 c.is_refused.ensures c.if-is_refused.true c.refused.ensures

pub returns : goal.returns
returns c =
    bounds_accepted c.args.file.now c.args.table.now c.args.work.now c.args.i _ _ c.check_file-c.result _ _ c.check_file-c.ensures.0 c.check_file-c.ensures.1 c.is_refused.ensures
    c.if-is_refused.false c.bounds_accepted.ensures
