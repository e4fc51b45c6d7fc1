use Rattle.fault_gaps.proofs.Taking.{live_row}
use Rattle.fault_gaps.proofs.take_row.Goals as goal

pub returns : goal.returns
returns c =
    let d = c.walk_row in live_row c.args.t.now c.args.base c.args.w.now d.new.ps d.new.ts c.args.p c.args.i c.in-Some.ensures c.count_row.ensures c.take_away.ensures
