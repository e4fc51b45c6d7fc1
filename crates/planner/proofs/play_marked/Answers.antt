use mathlib.Core.Path.{ap}
use Rattle.format.specs.Code.{refusal_view}
use Rattle.planner.proofs.Serving.{marked_short, marked_long, marked_refused, marked_played}
use Rattle.planner.proofs.play_marked.Goals as goal

pub returns-then-is_short : goal.returns-then-is_short
returns-then-is_short c =
    let e = c.refused.ensures in marked_short c.args.file.now c.args.table.now c.args.work.now c.args.lines.now c.args.settings.now c.args.script.now c.args.budget
    c.is_short.ensures c.if-is_short.true c.refused.result e.0 (ap refusal_view e.1) e.2 e.3

pub returns-then-is_long : goal.returns-then-is_long
returns-then-is_long c =
    let e = c.refused-then-is_long.ensures in marked_long c.args.file.now c.args.table.now c.args.work.now c.args.lines.now c.args.settings.now c.args.script.now c.args.budget
    c.is_short.ensures c.if-is_short.false c.count_lines-n.ensures c.is_long.ensures c.if-is_long.true c.refused-then-is_long.result e.0 (ap refusal_view e.1) e.2 e.3

pub returns-then-is_refused : goal.returns-then-is_refused
returns-then-is_refused c =
    let e = c.refused-then-is_refused.ensures in marked_refused c.args.file.now c.args.table.now c.args.work.now c.args.lines.now c.args.settings.now c.args.script.now c.args.budget
    c.is_short.ensures c.if-is_short.false c.count_lines-n.ensures c.is_long.ensures c.if-is_long.false c.check_file-c.result c.check_file-c.ensures.0 c.is_refused.ensures c.if-is_refused.true
    c.refused-then-is_refused.result e.0 e.1 e.2 e.3

pub returns : goal.returns
returns c =
    let e = c.settled.ensures in marked_played c.args.file.now c.args.table.now c.args.work.now c.args.lines.now c.args.settings.now c.args.script.now c.args.budget
    c.is_short.ensures c.if-is_short.false c.count_lines-n.ensures c.is_long.ensures c.if-is_long.false c.check_file-c.result c.check_file-c.ensures.0 c.is_refused.ensures c.if-is_refused.false
    c.check_file-c.ensures.1 c.play_accepted-g.ensures c.settled.result e.0 e.1 e.2 e.3
