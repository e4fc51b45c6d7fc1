use Rattle.read_lines.proofs.Forms.{form_refused, form_passed, no_form}
use Rattle.read_lines.proofs.read.judge_line.Goals as goal

pub returns-in-Some-judge : goal.returns-in-Some-judge
returns-in-Some-judge c =
    form_refused c.args.t.now c.args.g.now c.args.c c.args.s.now c.args.at c.row_at.result c.row_at.ensures _ _ c.in-Some.is c.judge.result c.judge.ensures _ c.in-Some-judge.is

pub returns-in-None : goal.returns-in-None
returns-in-None c =
    form_passed c.args.t.now c.args.g.now c.args.c c.args.s.now c.args.at c.row_at.result c.row_at.ensures _ _ c.in-Some.is c.judge.result c.judge.ensures c.in-None.is

pub returns-in_default : goal.returns-in_default
returns-in_default c = no_form c.args.t.now c.args.g.now c.args.c c.args.s.now c.args.at c.row_at.result c.row_at.ensures c.in_default.is
