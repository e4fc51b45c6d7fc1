use mathlib.Core.Path.{refl}
use Rattle.run_patterns.proofs.Spelling.{search_start, search_next, search_last, search_end}
use Rattle.run_patterns.proofs.value_end.Goals as goal

pub loop-i-init : goal.loop-i-init
loop-i-init c = search_start c.args.s.now c.args.at

pub returns-then-left-eq0 : goal.returns-then-left-eq0
returns-then-left-eq0 c = search_last c.loop-i.invariant refl c.left_after-left.ensures c.if-left-eq0.true

pub loop-i-preserved : goal.loop-i-preserved
loop-i-preserved c = search_next c.loop-i.invariant refl c.left_after-left.ensures c.if-left-eq0.false

pub returns : goal.returns
returns c = search_end c.loop-i.invariant c.loop-i-test.false
