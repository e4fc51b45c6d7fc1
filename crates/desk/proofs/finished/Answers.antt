use Rattle.desk.proofs.Answering.{judged_prints}
use Rattle.desk.proofs.Feeding.{finish_file, finish_line}
use Rattle.desk.proofs.finished.Goals as goal

pub returns-in-File : goal.returns-in-File
returns-in-File c =
    finish_file c.args.d c.in-File.is c.front.ensures
    (λ roomy. judged_prints c.front.result.now c.args.table.now c.args.work.now c.check_file-c.result c.check_file-c.ensures.0 c.put_checked.ensures roomy.tables roomy.works)

pub returns-else-held-eq0 : goal.returns-else-held-eq0
returns-else-held-eq0 c = finish_line c.args.d c.in-Queries.is c.if-held-eq0.false c.front-in-Queries.ensures (λ rs p h. (c.answer.ensures rs p h).0)
