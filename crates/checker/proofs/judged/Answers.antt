use Rattle.checker.proofs.Checks.{outcome_refused, unread, counts_unread, outcome_whole, loaded, counts_loaded}
use mathlib.Core.Path.{refl}
use Rattle.checker.proofs.judged.Goals as goal

pub returns-then-is_refused : goal.returns-then-is_refused
returns-then-is_refused c = (
  outcome_refused _ _ _ _ _ _ c.read_file-r.ensures c.is_refused.ensures c.if-is_refused.true c.refused.ensures.1 c.refused.ensures.0,
  unread _ _ _ _ _ _ c.read_file-r.ensures c.is_refused.ensures c.if-is_refused.true,
  counts_unread _ _ _ _ _ c.refused.result c.read_file-r.ensures c.is_refused.ensures c.if-is_refused.true c.refused.ensures.2,
)

pub returns : goal.returns
returns c =
    let l = loaded _ _ _ _ _ c.requires.1 c.read_file-r.ensures c.is_refused.ensures c.if-is_refused.false _ refl refl refl refl in
    (outcome_whole _ _ _ _ _ _ c.requires.1 c.read_file-r.ensures c.is_refused.ensures c.if-is_refused.false c.lines_fault-a.ensures, λ rs k. l, counts_loaded _ _ _ l)
