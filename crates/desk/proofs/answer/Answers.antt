use mathlib.Core.Path.{refl}
use native.Mathlib.Omega.{arith}
use Rattle.desk.proofs.Answering.{ran_query}
use Rattle.desk.proofs.answer.Goals as goal

pub returns : goal.returns
returns c =
    λ rs p room-work.
    ran_query _ c.answer_with-r.result (c.answer_with-r.ensures rs p (omega arith) (omega arith) (omega arith))
    refl c.answer_with-r.auto.res c.put_ran.ensures
