use native.Mathlib.Omega.{arith}
use mathlib.Core.Path.{sym, ◌∙◌}
use borrow.Author.Tests.{le-ltb}
use Rattle.check_bare.proofs.Marking.{bare_by, never}
use Rattle.check_bare.proofs.is_bare.Goals.{then-m-gt0, else-m-gt0}
use Rattle.check_bare.proofs.is_bare.Goals as goal

pub returns-then-p-g : goal.returns-then-p-g
returns-then-p-g c =
    elim c.if-m-gt0.branch [
      | then-m-gt0 w ↦
          rw w.result-is
          (bare_by c.args.base c.args.p c.args.a c.args.g.now c.if-base-g.true c.if-a-base.true (omega (arith, c.if-p-g.true, c.if-base-g.true)) c.wide-m.ensures.value
          w.if-m-gt0.true w.wide.ensures.value)
      | else-m-gt0 w ↦ rw w.result-is (λ h. never (sym (le-ltb 0 c.wide-m.result w.if-m-gt0.false) ∙ h))
    ]
