use Rattle.fault_tallies.proofs.Flowing.{poured_start, poured_more}
use mathlib.Core.Path.{refl}
use borrow.Author.Rules.{rules}
use Rattle.fault_tallies.proofs.flow_counts.Goals as goal

pub loop-h-init : goal.loop-h-init
loop-h-init c = poured_start c.args.m c.args.one.now c.args.two.now c.args.n c.args.k.now (search rules)

pub loop-h-preserved : goal.loop-h-preserved
loop-h-preserved c =
    poured_more c.loop-h.invariant c.requires (search rules) refl refl refl c.step.ensures refl refl c.step-in-loop-h.ensures (search rules) (search rules)
