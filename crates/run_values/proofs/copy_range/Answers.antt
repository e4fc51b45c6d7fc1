use Rattle.std.proofs.Common.{arith}
use Rattle.run_values.proofs.Copying.{copy_all}
use Rattle.run_values.proofs.copy_range.Goals as goal

pub returns-clause-writes : goal.returns-clause-writes
returns-clause-writes c h = copy_all c.args.work.now c.args.from c.args.to c.args.at (omega arith) c.if-work-to.false (omega arith) c.copy_within.ensures.after

pub returns-clause-writes_2 : goal.returns-clause-writes_2
returns-clause-writes_2 c h t = copy_all c.args.work.now c.args.from c.args.to c.args.at (omega arith) c.if-work-to.false (omega arith) c.copy_within.ensures.after
