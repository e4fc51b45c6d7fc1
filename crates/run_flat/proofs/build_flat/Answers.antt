use native.Mathlib.Omega.{arith}
use mathlib.Core.Path.{refl, ◌∙◌}
use Rattle.run_flat.proofs.Writing.{written_start, written_stop, written_within, written_var, written_letter}
use Rattle.run_flat.proofs.build_flat.Goals as goal

pub loop-k-init : goal.loop-k-init
loop-k-init c = (λ q top st b low fits. written_start top _ _ st, refl)

pub loop-k-preserved-then-o-lt-LETTERS_FROM : goal.loop-k-preserved-then-o-lt-LETTERS_FROM
loop-k-preserved-then-o-lt-LETTERS_FROM c = (
  λ q top st b low fits. written_var (c.loop-k.invariant.0 q top st b low fits) refl c.if-o-lt-LETTERS_FROM.true c.wide.ensures.value low fits (c.build_var-at.ensures top b),
  c.build_var-at.auto.work ∙ c.loop-k.invariant.1,
)

pub returns-then-o-eq-STOP : goal.returns-then-o-eq-STOP
returns-then-o-eq-STOP c = λ q top st b low fits. written_stop (c.loop-k.invariant.0 q top st b low fits) c.if-o-eq-STOP.true fits

pub loop-k-preserved : goal.loop-k-preserved
loop-k-preserved c = (
  λ q top st b low fits. written_letter (c.loop-k.invariant.0 q top st b low fits) refl c.if-o-lt-LETTERS_FROM.false c.if-o-eq-STOP.false c.byte_of.ensures
      c.put_byte-at.ensures.bytes_after c.put_byte-at.ensures.value,
  c.put_byte-at.auto.bytes ∙ c.loop-k.invariant.1,
)

pub returns : goal.returns
returns c = λ q top st b low fits. let w = written_within (c.loop-k.invariant.0 q top st b low fits) in absurd (omega (arith, w, c.loop-k-test.false))
