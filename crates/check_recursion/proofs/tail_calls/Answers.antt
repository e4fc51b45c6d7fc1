use Rattle.check_recursion.proofs.Laws.{shrunk_forth, shrunk_back, tail_call, tail_used, tail_step}
use Rattle.check_recursion.proofs.tail_calls.Goals as goal
use Rattle.check_recursion.proofs.tail_calls.Goals.{then-back, else-back}

pub returns-then-cell-i : goal.returns-then-cell-i
returns-then-cell-i c =
    elim c.if-back.branch [
      | then-back w ↦
          tail_call c.loop-first.invariant
          (shrunk_back c.args.t.now c.args.base c.args.back c.loop-first-test.true w.if-back.true w.n-is c.cell-q.ensures.0 w.first-is w.end-is) c.cell.ensures.0
          c.if-cell-i.true c.only_call.ensures
      | else-back w ↦
          tail_call c.loop-first.invariant
          (shrunk_forth c.args.t.now c.args.base c.args.back c.loop-first-test.true w.if-back.false w.n-is c.cell-q.ensures.0 w.first-is w.end-is) c.cell.ensures.0
          c.if-cell-i.true c.only_call.ensures
    ]

pub returns-then-holds : goal.returns-then-holds
returns-then-holds c =
    elim c.if-back.branch [
      | then-back w ↦
          tail_used c.loop-first.invariant
          (shrunk_back c.args.t.now c.args.base c.args.back c.loop-first-test.true w.if-back.true w.n-is c.cell-q.ensures.0 w.first-is w.end-is) c.cell.ensures.0
          c.if-cell-i.false c.holds.ensures c.if-holds.true c.no_calls.ensures
      | else-back w ↦
          tail_used c.loop-first.invariant
          (shrunk_forth c.args.t.now c.args.base c.args.back c.loop-first-test.true w.if-back.false w.n-is c.cell-q.ensures.0 w.first-is w.end-is) c.cell.ensures.0
          c.if-cell-i.false c.holds.ensures c.if-holds.true c.no_calls.ensures
    ]

pub loop-first-preserved : goal.loop-first-preserved
loop-first-preserved c =
    elim c.if-back.branch [
      | then-back w ↦
          tail_step c.loop-first.invariant
          (shrunk_back c.args.t.now c.args.base c.args.back c.loop-first-test.true w.if-back.true w.n-is c.cell-q.ensures.0 w.first-is w.end-is) c.cell.ensures.0
          c.if-cell-i.false c.holds.ensures c.if-holds.false
      | else-back w ↦
          tail_step c.loop-first.invariant
          (shrunk_forth c.args.t.now c.args.base c.args.back c.loop-first-test.true w.if-back.false w.n-is c.cell-q.ensures.0 w.first-is w.end-is) c.cell.ensures.0
          c.if-cell-i.false c.holds.ensures c.if-holds.false
    ]
