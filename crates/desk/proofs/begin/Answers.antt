use Rattle.desk.proofs.Answering.{judged_file}
use Rattle.desk.proofs.Feeding.{reaches_close}
use Rattle.desk.proofs.begin.Goals as goal

pub returns : goal.returns
returns c =
    λ roomy room. reaches_close c.front.ensures
    (c.settle.ensures c.front.result.now c.args.file.now _ _ c.args.at
    (judged_file c.front.result.now c.args.table.now c.args.work.now c.check_file-c.result c.check_file-c.ensures.0 c.check_file-c.ensures.1 c.put_checked-end.ensures roomy.tables
    roomy.works room) roomy.lines roomy.indices)
