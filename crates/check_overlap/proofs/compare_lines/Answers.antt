use Rattle.check_overlap.proofs.Walking.{lines_end_first, line_past, other_line_past}
use Rattle.check_overlap.proofs.compare_lines.Goals as goal

pub returns-then-m-lt2 : goal.returns-then-m-lt2
returns-then-m-lt2 c = lines_end_first c.args.t.now c.args.base c.args.p c.args.q c.meeting-m.ensures c.if-m-lt2.true

pub returns-else-is_row-2 : goal.returns-else-is_row-2
returns-else-is_row-2 c = other_line_past c.args.t.now c.args.base c.args.p c.args.q (c.is_row-then-is_row.ensures.1 c.if-is_row-2.false)

pub returns-else-is_row : goal.returns-else-is_row
returns-else-is_row c = line_past c.args.t.now c.args.base c.args.p c.args.q (c.is_row.ensures.1 c.if-is_row.false)
