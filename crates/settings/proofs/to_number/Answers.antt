use Rattle.settings.proofs.Serving.{number_refused, number_accepted}
use Rattle.settings.proofs.to_number.Goals as goal

pub returns-then-is_refused : goal.returns-then-is_refused
returns-then-is_refused c =
    let a = (c.args) in number_refused a.file.now a.table.now a.work.now a.i a.value.now _ _ _ (c.not_numbered.result) (c.check_file-c.ensures.0) (c.is_refused.ensures)
    (c.if-is_refused.true) (c.not_numbered.ensures.0) (c.not_numbered.ensures.1)

pub returns : goal.returns
returns c =
    let a = (c.args) in number_accepted a.file.now a.table.now a.work.now a.i a.value.now _ _ (c.check_file-c.result) (c.number_checked.result) (c.check_file-c.ensures.0)
    (c.check_file-c.ensures.1) (c.is_refused.ensures) (c.if-is_refused.false) (c.number_checked.ensures)
