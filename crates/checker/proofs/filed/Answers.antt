use Rattle.checker.proofs.Checks.{filed_says}
use Rattle.checker.proofs.filed.Goals as goal

pub returns : goal.returns
returns c = filed_says _ _ _ _ _ _ c.requires.0 c.requires.1 c.entered-c.ensures c.settled.ensures
