use Rattle.run_reduction.proofs.Framing.{settle_place, settle_copied, settle_built, settle_moved}
use Rattle.table_trees.specs.Unfolding.{pattern_of}
use Rattle.run_reduction.proofs.settle.Goals as goal

pub returns-then-to-dest-clause-settle_says : goal.returns-then-to-dest-clause-settle_says
returns-then-to-dest-clause-settle_says c =
    λ z. settle_place (pattern_of c.args.t.now c.args.base c.args.j) c.variable-n.result (c.variable-n.ensures.by_index _ _ z c.if-n-lt-VARIABLES.true) c.range_from-from.ensures
    c.range_to-to.ensures c.if-to-dest.true

pub returns-then-dest-from-clause-settle_says : goal.returns-then-dest-from-clause-settle_says
returns-then-dest-from-clause-settle_says c =
    λ z. settle_copied (pattern_of c.args.t.now c.args.base c.args.j) c.variable-n.result (c.variable-n.ensures.by_index _ _ z c.if-n-lt-VARIABLES.true) c.range_from-from.ensures
    c.range_to-to.ensures c.if-dest-from.true c.copy_range-end.ensures.writes_2

pub returns-then-top-dest-clause-settle_says : goal.returns-then-top-dest-clause-settle_says
returns-then-top-dest-clause-settle_says c = λ z. settle_built (pattern_of c.args.t.now c.args.base c.args.j) c.if-top-dest.true (c.build_again-last.ensures z)

pub returns-clause-settle_says : goal.returns-clause-settle_says
returns-clause-settle_says c = λ z. settle_moved (pattern_of c.args.t.now c.args.base c.args.j) (c.build_again-last.ensures z) c.copy_range-end-2.ensures.writes_2
