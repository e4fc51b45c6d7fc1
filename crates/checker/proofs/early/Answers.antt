use mathlib.Core.Path.{refl}
use Rattle.model.proofs.Files.{verdict_long}
use Rattle.checker.proofs.Checks.{counted_many, early_table, early_work, early_long}
use Rattle.checker.proofs.early.Goals as goal

pub returns-then-table-lt-TABLE_LENGTH : goal.returns-then-table-lt-TABLE_LENGTH
returns-then-table-lt-TABLE_LENGTH c = early_table _ _ _ _ refl c.if-table-lt-TABLE_LENGTH.true

pub returns-then-work-lt-WORK_LENGTH : goal.returns-then-work-lt-WORK_LENGTH
returns-then-work-lt-WORK_LENGTH c = early_work _ _ _ _ refl c.if-work-lt-WORK_LENGTH.true

pub returns-then-file-gt-MAX_BYTES : goal.returns-then-file-gt-MAX_BYTES
returns-then-file-gt-MAX_BYTES c = early_long _ _ _ _ refl c.if-table-lt-TABLE_LENGTH.false c.if-work-lt-WORK_LENGTH.false (verdict_long _ c.if-file-gt-MAX_BYTES.true)

pub returns-then-count_lines-gt-MAX_LINES : goal.returns-then-count_lines-gt-MAX_LINES
returns-then-count_lines-gt-MAX_LINES c =
    early_long _ _ _ _ refl c.if-table-lt-TABLE_LENGTH.false c.if-work-lt-WORK_LENGTH.false
    (counted_many _ c.count_lines.ensures c.if-count_lines-gt-MAX_LINES.true)
