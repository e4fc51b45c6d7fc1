use mathlib.Core.Path.{ap}
use Rattle.format.specs.Code.{refusal_view}
use Rattle.witness.proofs.Serving.{short_result, early_answer}
use Rattle.witness.proofs.witness.Goals as goal

pub returns-then-res-lt-RESULT_LENGTH : goal.returns-then-res-lt-RESULT_LENGTH
returns-then-res-lt-RESULT_LENGTH c =
    short_result c.args.file.now c.args.table.now c.args.work.now c.args.res.now c.refused.result c.if-res-lt-RESULT_LENGTH.true (ap refusal_view c.refused.ensures.0) c.refused.ensures.1
    c.refused.ensures.2

pub returns-then-is_refused : goal.returns-then-is_refused
returns-then-is_refused c =
    early_answer c.args.file.now c.args.table.now c.args.work.now c.args.res.now _ _ c.if-res-lt-RESULT_LENGTH.false c.early-f.ensures c.is_refused.ensures c.if-is_refused.true
    c.refused-then-is_refused.result c.refused-then-is_refused.ensures.0 c.refused-then-is_refused.ensures.1 c.refused-then-is_refused.ensures.2
