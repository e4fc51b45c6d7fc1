use native.Mathlib.Omega.{arith}
use Rattle.runner.proofs.Answering.{front_length}
use Rattle.exports.proofs.export_accepted.Goals as goal

pub returns-clause-on_accepted : goal.returns-clause-on_accepted
returns-clause-on_accepted c =
    let n = front_length c.args.room c.args.work.now c.requires in
    λ s x long short output. c.export_checked.ensures x.file (c.prepare.ensures s x (omega arith)) (omega (arith, n, long)) (omega (arith, n, short)) output
