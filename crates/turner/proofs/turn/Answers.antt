use mathlib.Core.Path.{refl}
use Rattle.turner.proofs.Answers.{short_output, turn_refused, turn_accepted}
use Rattle.turner.proofs.turn.Goals as goal

pub returns-then-output-file : goal.returns-then-output-file
returns-then-output-file c = short_output _ _ _ _ _ c.if-output-file.true refl refl refl

pub returns-then-is_refused : goal.returns-then-is_refused
returns-then-is_refused c = turn_refused _ _ _ _ _ _ _ _ c.if-output-file.false c.check_file-c.ensures.0 c.is_refused.ensures c.if-is_refused.true refl

pub returns : goal.returns
returns c =
    turn_accepted _ _ _ _ _ _ _ c.check_file-c.result _ _ _ c.if-output-file.false c.check_file-c.ensures.0 c.check_file-c.ensures.1
    c.is_refused.ensures c.if-is_refused.false c.put_turned-n.ensures refl refl
