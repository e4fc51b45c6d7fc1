use Rattle.std.proofs.lemmas.Result.{err_from_is_err_and}
use Rattle.run_reduction.proofs.Framing.{step_done, step_stops, letting_next, lets_stop, lets_end, further}
use Rattle.run_reduction.proofs.Framing.{unmatched, apply_done, apply_stops, steps_fall}
use Rattle.run_reduction.specs.Frames.{sided_lets}
use mathlib.Core.Path.{refl, sym, ap, ◌∙◌}
use Rattle.run_reduction.proofs.+apply_let_step_run_lets.Goals as goal

pub apply-returns-then-stop-m-clause-apply_says : goal.apply-returns-then-stop-m-clause-apply_says
apply-returns-then-stop-m-clause-apply_says t c =
    λ z. unmatched c.args.t.now c.args.base c.args.index.now c.args.back c.args.i c.args.depth c.choose-m.result _ _ c.args.at c.args.end c.args.dest c.args.free c.args.left
    (c.choose-m.ensures z) c.place-low.ensures.0 c.next_place-stop.ensures.0 refl refl (sym c.too_large.ensures ∙ c.if-too_large.false) c.if-stop-m.true

pub run_lets-loop-k-preserved : goal.run_lets-loop-k-preserved
run_lets-loop-k-preserved t c = (
  (λ z. letting_next (c.loop-k.invariant.0 z) c.loop-k-test.true c.let_row.ensures (c.let_step.ensures.step_says z) c.in_ok-r.was c.let_step.auto.work),
  steps_fall c.let_step.ensures.result_bound c.in_ok-r.was c.loop-k.invariant.1,
  c.let_step.auto.work ∙ c.loop-k.invariant.2,
  c.let_step.auto.vars ∙ c.loop-k.invariant.3,
)

pub run_lets-returns-clause-lets_say : goal.run_lets-returns-clause-lets_say
run_lets-returns-clause-lets_say t c =
    λ z os ls r x w laid is. lets_end (c.loop-k.invariant.0 z) c.loop-k-test.false os ls r x w laid
    (is ∙ ap (sided_lets c.args.back c.args.t.now c.args.base c.args.from) (sym c.saturating_sub-n.ensures))

pub apply-returns-in_err-r-clause-apply_says : goal.apply-returns-in_err-r-clause-apply_says
apply-returns-in_err-r-clause-apply_says t c =
    let p = err_from_is_err_and c.from_residual.result c.from_residual.ensures.1 in
    λ z. rw (p.1, p.2) (apply_stops c.args.t.now c.args.base c.args.index.now c.args.back c.args.i c.args.depth c.choose-m.result c.place-row.result c.next_place-below.result c.args.at c.args.end
    c.args.dest c.args.free c.args.left (c.choose-m.ensures z) c.place-low.ensures.0 c.next_place-stop.ensures.0 c.place-row.ensures.0 c.next_place-below.ensures.0
    (sym c.too_large.ensures ∙ c.if-too_large.false) c.if-left-eq0.false (c.run_lets.ensures.lets_say z) _ c.in_err-r.was)

pub apply-returns-clause-apply_says : goal.apply-returns-clause-apply_says
apply-returns-clause-apply_says t c =
    λ z. apply_done c.args.t.now c.args.base c.args.index.now c.args.back c.args.i c.args.depth c.choose-m.result c.place-row.result c.next_place-below.result c.args.at c.args.end
    c.args.dest c.args.free c.args.left (c.choose-m.ensures z) c.place-low.ensures.0 c.next_place-stop.ensures.0 c.place-row.ensures.0 c.next_place-below.ensures.0
    (sym c.too_large.ensures ∙ c.if-too_large.false) c.if-left-eq0.false (c.run_lets.ensures.lets_say z) c.in_ok-r.was c.run_lets.auto.work c.line-p.ensures (c.give.ensures.give_says z)

pub let_step-returns-in_err-g-clause-step_says : goal.let_step-returns-in_err-g-clause-step_says
let_step-returns-in_err-g-clause-step_says t c =
    let p = err_from_is_err_and c.from_residual.result c.from_residual.ensures.1 in
    λ z. rw (p.1, p.2) (step_stops c.args.t.now c.args.base c.args.index.now c.args.back c.args.row c.args.depth c.line-q.ensures (c.argument-a.ensures z) c.argument-a.auto.work c.cell.ensures.0
    (c.apply.ensures.apply_says z) _ c.in_err-g.was)

pub let_step-returns-clause-step_says : goal.let_step-returns-clause-step_says
let_step-returns-clause-step_says t c =
    λ z. step_done c.args.t.now c.args.base c.args.index.now c.args.back c.args.row c.args.depth c.line-q.ensures (c.argument-a.ensures z) c.argument-a.auto.work c.cell.ensures.0
    (c.apply.ensures.apply_says z) c.apply.auto.work c.in_ok-g.was c.line-p.ensures (λ v a y. (c.match_again.ensures z v a y).1) (further c.max.ensures)

pub run_lets-returns-in_err-r-clause-lets_say : goal.run_lets-returns-in_err-r-clause-lets_say
run_lets-returns-in_err-r-clause-lets_say t c =
    let p = err_from_is_err_and c.from_residual.result c.from_residual.ensures.1 in
    λ z. rw (p.1, p.2) (λ os ls r x w laid is. lets_stop (c.loop-k.invariant.0 z) c.loop-k-test.true c.let_row.ensures (c.let_step.ensures.step_says z) _ c.in_err-r.was os ls r x w laid
    (is ∙ ap (sided_lets c.args.back c.args.t.now c.args.base c.args.from) (sym c.saturating_sub-n.ensures)))
