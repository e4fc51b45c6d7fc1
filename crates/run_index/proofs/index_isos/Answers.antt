use mathlib.Core.Path.{refl, ◌∙◌}
use Rattle.run_index.proofs.Tails.{tail_two}
use native.Mathlib.Omega.{arith}
use Rattle.run_index.proofs.Indexing.{indexing_start, indexing_step, indexing_end}
use Rattle.run_index.proofs.index_isos.Goals as goal

pub loop-n-init : goal.loop-n-init
loop-n-init c = (indexing_start _ _ c.args.index.now c.narrow.ensures c.store.ensures c.store-2.ensures, λ h. (refl, omega arith, omega (arith, h)))

pub loop-n-preserved : goal.loop-n-preserved
loop-n-preserved c = (
  indexing_step c.loop-n.invariant.0 c.loop-n-test.true c.with_row-l.auto.index c.with_row-l.ensures.row_indexed,
  λ h. let i = c.loop-n.invariant.1 h in let r = c.with_row-l.ensures.tail_kept
      i.1 i.2 in (r.0 ∙ i.0, r.1, r.2),
)

pub returns-clause-isos_indexed : goal.returns-clause-isos_indexed
returns-clause-isos_indexed c =
    let same = c.store-2.auto.items ∙ c.store.auto.items in
    (λ rs types patterns f ea ei long. indexing_end c.loop-n.invariant.0 c.loop-n-test.false rs types patterns f ea ei (omega (arith, same, long)))

pub returns-clause-index_unchanged : goal.returns-clause-index_unchanged
returns-clause-index_unchanged c =
    let same = c.store-2.auto.items ∙ c.store.auto.items in
    λ h. (c.loop-n.invariant.1 h).0 ∙ tail_two
    c.args.index.now 4161 c.narrow.result c.args.isos 4161 (omega arith) c.store.ensures h c.store-2.ensures
