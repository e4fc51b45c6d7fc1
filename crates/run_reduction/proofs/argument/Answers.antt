use mathlib.Core.Path.{refl}
use Rattle.run_reduction.proofs.Framing.{argue_var, argue_large, argue_built}
use Rattle.table_trees.specs.Unfolding.{pattern_of}
use Rattle.run_reduction.proofs.argument.Goals as goal

pub returns-then-n-lt-VARIABLES : goal.returns-then-n-lt-VARIABLES
returns-then-n-lt-VARIABLES c =
    λ z. argue_var (pattern_of c.args.t.now c.args.base c.args.j) c.variable-n.result _ (c.variable-n.ensures.by_index _ _ z c.if-n-lt-VARIABLES.true) c.range_from-from.ensures
    c.range_to-to.ensures refl

pub returns-then-size-gt-MAX_LETTERS : goal.returns-then-size-gt-MAX_LETTERS
returns-then-size-gt-MAX_LETTERS c =
    λ z. argue_large (pattern_of c.args.t.now c.args.base c.args.j) _ refl refl c.if-size-gt-MAX_LETTERS.true (c.other_length-size.ensures z)

pub returns : goal.returns
returns c =
    λ z. argue_built (pattern_of c.args.t.now c.args.base c.args.j) _ refl refl refl c.if-size-gt-MAX_LETTERS.false (c.other_length-size.ensures z) (c.build_line-end.ensures z)
