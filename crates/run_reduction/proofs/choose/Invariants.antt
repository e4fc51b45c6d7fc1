use Rattle.run_reduction.specs.Frames.{side_at}
use Rattle.run_reduction.proofs.Framing.{Choosing}
use Rattle.run_coding.specs.Coded.{Coded}
use lib.ListN.{length}
use mathlib.Core.Path.{◌≡◌}
use Rattle.run_reduction.proofs.choose.Given as goal

abbrev pub invariant-loop-m : goal.invariant-loop-m
invariant-loop-m l = (Coded l.t l.base l.code → Choosing (side_at l.t l.base l.index l.back) l.work l.at l.end l.from l.stop l.initial.vars l.vars l.m) ×
    (length l.vars ≡ length l.initial.vars)
