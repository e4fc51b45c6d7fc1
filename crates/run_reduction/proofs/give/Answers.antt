use Rattle.run_reduction.proofs.Framing.{give_large, give_settled}
use Rattle.table_trees.specs.Unfolding.{pattern_of}
use Rattle.run_reduction.proofs.give.Goals as goal

pub returns-then-built_length-gt-MAX_LETTERS-clause-give_says : goal.returns-then-built_length-gt-MAX_LETTERS-clause-give_says
returns-then-built_length-gt-MAX_LETTERS-clause-give_says c =
    λ z. give_large (pattern_of c.args.t.now c.args.base c.args.j) c.if-built_length-gt-MAX_LETTERS.true (c.built_length.ensures z)

pub returns-else-built_length-gt-MAX_LETTERS-clause-give_says : goal.returns-else-built_length-gt-MAX_LETTERS-clause-give_says
returns-else-built_length-gt-MAX_LETTERS-clause-give_says c =
    λ z. give_settled (pattern_of c.args.t.now c.args.base c.args.j) c.if-built_length-gt-MAX_LETTERS.false (c.built_length.ensures z) (c.settle.ensures.settle_says z)
