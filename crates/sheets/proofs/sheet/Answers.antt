use mathlib.Core.Path.{refl, ap}
use Rattle.format.specs.Code.{refusal_view}
use Rattle.sheets.proofs.Calling.{sheet_short, sheet_many, sheet_refused, sheet_accepted}
use Rattle.sheets.proofs.sheet.Goals as goal

pub returns-then-is_short : goal.returns-then-is_short
returns-then-is_short c =
    sheet_short c.args.file.now c.args.table.now c.args.work.now c.args.queries.now c.args.numbers.now c.args.letters.now c.refused.result c.count_lines-n.ensures c.is_short.ensures
    c.if-is_short.true (ap refusal_view c.refused.ensures.0) c.refused.ensures.1 c.refused.ensures.2

pub returns-then-n-gt-MAX_QUERIES : goal.returns-then-n-gt-MAX_QUERIES
returns-then-n-gt-MAX_QUERIES c =
    sheet_many c.args.file.now c.args.table.now c.args.work.now c.args.queries.now c.args.numbers.now c.args.letters.now c.refused-then-n-gt-MAX_QUERIES.result c.count_lines-n.ensures
    c.is_short.ensures c.if-is_short.false c.if-n-gt-MAX_QUERIES.true (ap refusal_view c.refused-then-n-gt-MAX_QUERIES.ensures.0) c.refused-then-n-gt-MAX_QUERIES.ensures.1
    c.refused-then-n-gt-MAX_QUERIES.ensures.2

pub returns-then-is_refused : goal.returns-then-is_refused
returns-then-is_refused c =
    sheet_refused c.args.file.now c.args.table.now c.args.work.now c.args.queries.now c.args.numbers.now c.args.letters.now _ _ _ c.count_lines-n.ensures c.is_short.ensures
    c.if-is_short.false c.if-n-gt-MAX_QUERIES.false c.check_file-c.ensures.0 c.is_refused.ensures c.if-is_refused.true refl

pub returns : goal.returns
returns c =
    sheet_accepted c.args.file.now c.args.table.now c.args.work.now c.args.queries.now c.args.numbers.now c.args.letters.now _ _ c.answer_all.new.work _ _ _ c.check_file-c.result _
    c.count_lines-n.ensures c.is_short.ensures c.if-is_short.false c.if-n-gt-MAX_QUERIES.false c.check_file-c.auto.work c.check_file-c.ensures.0 c.check_file-c.ensures.1
    c.is_refused.ensures c.if-is_refused.false c.answer_all.auto.work c.answer_all.ensures.work_unchanged c.answer_all.ensures.on_accepted c.clear.ensures refl refl
