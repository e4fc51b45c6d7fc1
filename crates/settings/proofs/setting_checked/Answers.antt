use mathlib.Core.Path.{refl}
use Rattle.settings.proofs.Answering.{setting_refused, setting_given}
use Rattle.settings.proofs.setting_checked.Goals as goal

pub returns-then-is_refused : goal.returns-then-is_refused
returns-then-is_refused c =
    setting_refused (c.setting_fault-f.ensures) (c.is_refused.ensures) (c.args.res.now) (c.if-is_refused.true) (c.not_lettered.result) (c.not_lettered.ensures.0) (c.not_lettered.ensures.1)

pub returns : goal.returns
returns c = setting_given (c.setting_fault-f.ensures) (c.is_refused.ensures) (c.args.res.now) (c.if-is_refused.false) (c.unrank_at-end.ensures) _ refl refl
