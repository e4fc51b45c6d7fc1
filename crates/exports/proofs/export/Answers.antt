use mathlib.Core.Path.{refl}
use Rattle.exports.proofs.Serving.{short_output, export_refused, export_accepted}
use Rattle.exports.proofs.export.Goals as goal

pub returns-then-output-lt-EXPORT_LENGTH : goal.returns-then-output-lt-EXPORT_LENGTH
returns-then-output-lt-EXPORT_LENGTH c =
    short_output c.args.file.now c.args.table.now c.args.work.now c.args.i c.args.budget c.args.output.now _ c.if-output-lt-EXPORT_LENGTH.true refl refl refl

pub returns-then-is_refused : goal.returns-then-is_refused
returns-then-is_refused c =
    export_refused c.args.file.now c.args.table.now c.args.work.now c.args.i c.args.budget c.args.output.now _ _ _ _ c.if-output-lt-EXPORT_LENGTH.false c.check_file-c.ensures.0
    c.is_refused.ensures c.if-is_refused.true refl

pub returns : goal.returns
returns c =
    export_accepted c.args.file.now c.args.table.now c.args.work.now c.args.i c.args.budget c.args.output.now _ _ c.export_accepted-l.new.work _ _ c.check_file-c.result
    c.export_accepted-l.result _ _ c.if-output-lt-EXPORT_LENGTH.false c.check_file-c.auto.work c.check_file-c.ensures.0 c.check_file-c.ensures.1 c.is_refused.ensures
    c.if-is_refused.false c.export_accepted-l.auto.work c.export_accepted-l.ensures.work_unchanged c.export_accepted-l.ensures.on_accepted c.clear.ensures refl refl refl
