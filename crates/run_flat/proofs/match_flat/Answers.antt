use native.Mathlib.Omega.{arith}
use mathlib.Core.Path.{refl, sym, ◌∙◌}
use Rattle.run_flat.proofs.Following.{before_start, at_stop, code_within, var_next, letter_within, letter_differs, letter_next}
use Rattle.run_flat.proofs.match_flat.Goals as goal
use Rattle.run_flat.proofs.match_flat.Goals.{then-s-at-via-then-s-at, then-s-at-via-else-s-at+then-word_of-o}

pub loop-k-init : goal.loop-k-init
loop-k-init c = (λ q v st a e. before_start _ st a e, refl)

pub loop-k-preserved-then-o-lt-LETTERS_FROM : goal.loop-k-preserved-then-o-lt-LETTERS_FROM
loop-k-preserved-then-o-lt-LETTERS_FROM c = (
  λ q v st a e. var_next (c.loop-k.invariant.0 q v st a e) refl c.if-o-lt-LETTERS_FROM.true c.wide.ensures.value c.flat_end-to.ensures c.put_range.ensures,
  c.put_range.auto.vars
      ∙ c.loop-k.invariant.1,
)

pub returns-then-o-eq-STOP : goal.returns-then-o-eq-STOP
returns-then-o-eq-STOP c = λ q v st a e. at_stop (c.loop-k.invariant.0 q v st a e) c.if-o-eq-STOP.true

pub returns-then-s-at : goal.returns-then-s-at
returns-then-s-at c =
    elim c.then-s-at.branch [
      | then-s-at-via-then-s-at w ↦ λ q v st a e. let k = letter_within (c.loop-k.invariant.0 q v st a e) refl c.if-o-eq-STOP.false in absurd (omega (arith, k, w.if-s-at.true))
      | then-s-at-via-else-s-at+then-word_of-o w ↦
          λ q v st a e. letter_differs (c.loop-k.invariant.0 q v st a e) refl c.if-o-lt-LETTERS_FROM.false c.if-o-eq-STOP.false (λ z. w.if-word_of-o.true (w.word_of.ensures ∙ z))
    ]

pub loop-k-preserved : goal.loop-k-preserved
loop-k-preserved c =
    (λ q v st a e. letter_next (c.loop-k.invariant.0 q v st a e) refl c.if-o-lt-LETTERS_FROM.false c.if-o-eq-STOP.false (sym c.word_of.ensures ∙ c.if-word_of-o.false), c.loop-k.invariant.1)

pub returns : goal.returns
returns c = λ q v st a e. let w = code_within (c.loop-k.invariant.0 q v st a e) in absurd (omega (arith, w, c.loop-k-test.false))
