use native.Mathlib.Omega.{arith}
use mathlib.Core.Path.{ap, ◌∙◌}
use Rattle.read_split.proofs.Splitting.{counted_all, counted_few, counted_block, counted_whole}
use Rattle.read_split.proofs.count_feeds.Goals as goal

pub loop-block-init : goal.loop-block-init
loop-block-init c =
    let same = c.into_iter-block-iterator.ensures.into_iter_gives in
    counted_all c.args.s.now (ap (λ x. x.rest.now) same ∙ c.chunks-block-items.ensures.rest) (ap (λ x. x.size) same ∙ c.chunks-block-items.ensures.size)

pub overflow_add-n : goal.overflow_add-n
overflow_add-n c =
    let l = counted_few c.loop-block.invariant _ _ c.in-Some.ensures.steps.1.0 c.wide_byte-n.ensures.value c.block_feeds.ensures in
    omega arith

pub loop-block-preserved : goal.loop-block-preserved
loop-block-preserved c =
    counted_block c.loop-block.invariant _ _ c.in-Some.ensures.steps.1.0 c.wide_byte-n.ensures.value c.block_feeds.ensures c.in-Some.ensures.steps.0

pub returns : goal.returns
returns c = counted_whole c.loop-block.invariant c.in-None.ensures.steps.1.0
