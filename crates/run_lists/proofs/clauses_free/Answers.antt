use Rattle.run_lists.proofs.Marking.{clauses_marked, clauses_next}
use Rattle.run_lists.proofs.clauses_free.Goals as goal

pub returns-then-not-lets_free : goal.returns-then-not-lets_free
returns-then-not-lets_free c =
    clauses_marked c.loop-n.invariant c.loop-n-test.true c.place.ensures.0 c.place-in-loop-n.ensures.0 c.lets_free.ensures c.if-not-lets_free.true

pub loop-n-preserved : goal.loop-n-preserved
loop-n-preserved c = clauses_next c.loop-n.invariant c.loop-n-test.true c.place.ensures.0 c.place-in-loop-n.ensures.0 c.lets_free.ensures c.if-not-lets_free.false
