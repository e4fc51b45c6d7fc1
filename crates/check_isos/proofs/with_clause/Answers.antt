use native.Mathlib.Omega.{arith}
use mathlib.Core.Bool.{true≢false}
use mathlib.Core.Path.{sym, ◌∙◌}
use Rattle.check_isos.proofs.Stepping.{clause_inside, walked_clause}
use Rattle.check_isos.proofs.with_clause.Goals as goal

pub returns-then-first-gt0 : goal.returns-then-first-gt0
returns-then-first-gt0 c rs patterns lines f e h k s = walked_clause f h s _ e k c.own_fault-fault.result c.own_fault-fault.ensures c.narrow.ensures c.sooner.result c.sooner.ensures

pub returns-else-first-gt0 : goal.returns-else-first-gt0
returns-else-first-gt0 c rs patterns lines f e h k s =
    let i = clause_inside f h s k in absurd (omega (arith, i.room))

pub returns-else-is_inside : goal.returns-else-is_inside
returns-else-is_inside c rs patterns lines f e h k s =
    let i = clause_inside f h s k in absurd (true≢false (sym (c.is_inside.ensures.1 i.owned i.places i.early) ∙ c.if-is_inside.false))
