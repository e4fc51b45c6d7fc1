use native.Mathlib.Omega.{arith}
use mathlib.Core.Path.{refl}
use Rattle.run_reduction.proofs.Lengths.{measured_start, measured_stop, measured_within, measured_var, measured_letter}
use Rattle.run_reduction.proofs.flat_length.Goals as goal
use Rattle.run_reduction.proofs.flat_length.Goals.{then-o-lt-LETTERS_FROM, else-o-lt-LETTERS_FROM}

pub loop-k-init : goal.loop-k-init
loop-k-init c = (λ q s st b. measured_start s _ st, omega arith)

pub returns-then-o-eq-STOP : goal.returns-then-o-eq-STOP
returns-then-o-eq-STOP c = λ q s st b. measured_stop (c.loop-k.invariant.0 q s st b) refl c.if-o-eq-STOP.true

pub loop-k-preserved : goal.loop-k-preserved
loop-k-preserved c =
    elim c.if-o-lt-LETTERS_FROM.branch [
      | then-o-lt-LETTERS_FROM w ↦ (
        λ q s st b. let n = c.min-n.ensures in let is = w.more-is in
            measured_var (c.loop-k.invariant.0 q s st b) b refl w.if-o-lt-LETTERS_FROM.true w.wide.ensures.value w.range_length-more.ensures (omega (arith, n, is)),
        omega (arith, c.min-n.ensures),
      )
      | else-o-lt-LETTERS_FROM w ↦ (
        λ q s st b. let n = c.min-n.ensures in let is = w.more-is in
            measured_letter (c.loop-k.invariant.0 q s st b) refl w.if-o-lt-LETTERS_FROM.false c.if-o-eq-STOP.false (omega (arith, n, is)),
        omega (arith, c.min-n.ensures),
      )
    ]

pub returns : goal.returns
returns c =
    λ q s st b. let w = measured_within (c.loop-k.invariant.0 q s st b) in absurd (omega (arith, w, c.loop-k-test.false))
