use Rattle.run_reduction.proofs.Framing.{side_found, choosing_next, choosing_found}
use mathlib.Core.Path.{sym, ◌∙◌}
use Rattle.run_reduction.proofs.choose.Goals as goal

pub returns-then-match_line : goal.returns-then-match_line
returns-then-match_line c =
    λ w. choosing_found _ (c.loop-m.invariant.0 w) (side_found c.args.t.now c.args.base c.args.index.now c.args.back c.loop-m.m c.cell-j.ensures.0 c.place.ensures.0 c.side-field.ensures)
    (λ v a z. let g = c.match_line.ensures w v a z in (sym c.if-match_line.true ∙ g.0, g.1))

pub loop-m-preserved : goal.loop-m-preserved
loop-m-preserved c = (
  (λ w. choosing_next _ (c.loop-m.invariant.0 w) (side_found c.args.t.now c.args.base c.args.index.now c.args.back c.loop-m.m c.cell-j.ensures.0 c.place.ensures.0 c.side-field.ensures)
      c.match_line.auto.vars (λ v a z. let g = c.match_line.ensures w v a z in (sym c.if-match_line.false ∙ g.0, g.1))),
  c.match_line.auto.vars ∙ c.loop-m.invariant.1,
)
