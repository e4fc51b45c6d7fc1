use Rattle.table_trees.specs.Unfolding.{pattern_of}
use native.Mathlib.Omega.{arith}
use mathlib.Core.Path.{◌∙◌}
use Rattle.check_clauses.proofs.Bare.{plain_told}
use Rattle.check_clauses.proofs.plainly.Goals as goal

pub returns-then-p-f : goal.returns-then-p-f
returns-then-p-f c =
    plain_told (pattern_of c.args.t.now c.args.base c.args.p) (c.number.ensures.0 ∙ c.requires.tagged c.args.p (omega (arith, c.if-p-f.true, c.if-base-f.true)))
