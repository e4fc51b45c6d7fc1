use mathlib.Core.Path.{refl}
use Rattle.checker.proofs.Checks.{refused_flag, counts_said, early_says, early_passes}
use Rattle.checker.proofs.check_file.Goals as goal

pub returns-then-is_refused : goal.returns-then-is_refused
returns-then-is_refused c =
    let s = early_says _ _ _ _ _ c.early-f.ensures c.is_refused.ensures c.if-is_refused.true _ _ refl refl _ c.refused.ensures.1 c.refused.ensures.0 in (
      s,
      refused_flag _ _ _ c.is_refused.ensures c.if-is_refused.true c.refused.ensures.1,
      counts_said _ _ _ _ _ _ s
          (refused_flag _ _ _ c.is_refused.ensures c.if-is_refused.true c.refused.ensures.1) (λ f k. c.refused.ensures.2),
    )

pub returns : goal.returns
returns c =
    let k = early_passes _ _ _ _ _ c.early-f.ensures c.is_refused.ensures c.if-is_refused.false in
    let s = c.filed.ensures.says _ _ k.1 k.2 c.clear.ensures in
    (s, c.filed.ensures.accepts k.2, counts_said _ _ _ _ _ _ s (c.filed.ensures.accepts k.2) c.filed.ensures.refuses)
