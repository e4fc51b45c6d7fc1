use Rattle.overlaps.proofs.Serving.{overlap_refused, overlap_accepted}
use Rattle.overlaps.proofs.overlap.Goals as goal

pub returns-then-is_refused : goal.returns-then-is_refused
returns-then-is_refused c =
    overlap_refused c.args.file.now c.args.table.now c.args.work.now c.args.i c.args.j _ _ _ c.not_compared.result c.check_file-c.ensures.0 c.is_refused.ensures c.if-is_refused.true
    c.not_compared.ensures

pub returns : goal.returns
returns c =
    overlap_accepted c.args.file.now c.args.table.now c.args.work.now c.args.i c.args.j _ _ c.check_file-c.result c.check_file-c.ensures.0 c.is_refused.ensures c.if-is_refused.false
    c.overlap_checked.result c.check_file-c.ensures.1 c.overlap_checked.ensures
