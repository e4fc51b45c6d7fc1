use mathlib.Core.Path.{ap}
use Rattle.format.specs.Code.{refusal_view}
use Rattle.runner.proofs.Answering.{short_result, run_refused, run_accepted}
use Rattle.runner.proofs.run.run.Goals as goal

pub returns-then-res-lt-RESULT_LENGTH : goal.returns-then-res-lt-RESULT_LENGTH
returns-then-res-lt-RESULT_LENGTH c =
    short_result c.args.file.now c.args.table.now c.args.work.now c.args.i c.args.back c.args.budget c.args.value.now c.args.res.now c.refused.result c.if-res-lt-RESULT_LENGTH.true
    (ap refusal_view c.refused.ensures.0) c.refused.ensures.1 c.refused.ensures.2

pub returns-then-is_refused : goal.returns-then-is_refused
returns-then-is_refused c =
    run_refused c.args.file.now c.args.table.now c.args.work.now c.args.i c.args.back c.args.budget c.args.value.now c.args.res.now _ _ _ c.refused-then-is_refused.result _
    c.if-res-lt-RESULT_LENGTH.false c.check_file-c.ensures.0 c.is_refused.ensures c.if-is_refused.true c.refused-then-is_refused.ensures.0 c.refused-then-is_refused.ensures.1
    c.refused-then-is_refused.ensures.2

pub returns : goal.returns
returns c =
    run_accepted c.args.file.now c.args.table.now c.args.work.now c.args.i c.args.back c.args.budget c.args.value.now c.args.res.now _ _ c.run_accepted-r.new.work _ _ c.check_file-c.result _
    _ c.if-res-lt-RESULT_LENGTH.false c.check_file-c.auto.work c.check_file-c.ensures.0 c.check_file-c.ensures.1 c.is_refused.ensures c.if-is_refused.false c.run_accepted-r.auto.work
    c.run_accepted-r.ensures.work_unchanged c.run_accepted-r.ensures.on_accepted c.clear.ensures
