use native.Mathlib.Omega.{arith}
use Rattle.check_bare.proofs.Marking.{bare_by}
use Rattle.check_typing.proofs.is_marked.Goals as goal

pub returns-then-m-gt0 : goal.returns-then-m-gt0
returns-then-m-gt0 c =
    bare_by c.args.base c.args.p c.args.a c.args.g.now (omega (arith, c.requires.0)) c.requires.1 c.requires.0 c.wide-m.ensures.value c.if-m-gt0.true c.wide.ensures.value
