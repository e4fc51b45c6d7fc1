use mathlib.Core.Path.{ap}
use Rattle.format.specs.Code.{refusal_view}
use Rattle.settings.proofs.Serving.{setting_short, setting_refused, setting_accepted}
use Rattle.settings.proofs.to_setting.Goals as goal

pub returns-then-res-lt-RESULT_LENGTH : goal.returns-then-res-lt-RESULT_LENGTH
returns-then-res-lt-RESULT_LENGTH c =
    let a = (c.args) in setting_short a.file.now a.table.now a.work.now a.i a.setting a.res.now (c.not_lettered.result) (c.if-res-lt-RESULT_LENGTH.true)
    (ap refusal_view (c.not_lettered.ensures.0)) (c.not_lettered.ensures.1)

pub returns-then-is_refused : goal.returns-then-is_refused
returns-then-is_refused c =
    let a = (c.args) in setting_refused a.file.now a.table.now a.work.now a.i a.setting a.res.now (c.if-res-lt-RESULT_LENGTH.false) _ _ _ (c.not_lettered-then-is_refused.result)
    (c.check_file-c.ensures.0) (c.is_refused.ensures) (c.if-is_refused.true) (c.not_lettered-then-is_refused.ensures.0) (c.not_lettered-then-is_refused.ensures.1)

pub returns : goal.returns
returns c =
    let a = (c.args) in setting_accepted a.file.now a.table.now a.work.now a.i a.setting a.res.now (c.if-res-lt-RESULT_LENGTH.false) _ _ _ (c.check_file-c.result)
    (c.setting_checked.result) (c.check_file-c.ensures.0) (c.check_file-c.ensures.1) (c.is_refused.ensures) (c.if-is_refused.false) (c.setting_checked.ensures)
