use Rattle.imports.proofs.Serving.{import_short, import_refused, import_accepted}
use mathlib.Core.Path.{refl}
use Rattle.imports.proofs.import.Goals as goal

pub returns-then-output-lt-IMPORT_LENGTH : goal.returns-then-output-lt-IMPORT_LENGTH
returns-then-output-lt-IMPORT_LENGTH c =
    import_short c.args.file.now c.args.table.now c.args.work.now c.args.i c.args.j c.args.list.now c.args.output.now _ c.if-output-lt-IMPORT_LENGTH.true refl refl refl

pub returns-then-is_refused : goal.returns-then-is_refused
returns-then-is_refused c =
    import_refused c.args.file.now c.args.table.now c.args.work.now c.args.i c.args.j c.args.list.now c.args.output.now c.if-output-lt-IMPORT_LENGTH.false _ _ _ c.check_file-c.ensures.0
    c.is_refused.ensures c.if-is_refused.true refl

pub returns : goal.returns
returns c =
    import_accepted c.args.file.now c.args.table.now c.args.work.now c.args.i c.args.j c.args.list.now c.args.output.now c.if-output-lt-IMPORT_LENGTH.false _ _ _ c.check_file-c.result
    c.import_checked-made.result _ c.check_file-c.ensures.0 c.check_file-c.ensures.1 c.is_refused.ensures c.if-is_refused.false c.import_checked-made.ensures refl refl refl
