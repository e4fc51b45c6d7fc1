-- What an accepted file says of the areas, for the services that go on from one.
use Prim.Native.Nat.{ℕ, ◌≤◌}
use mathlib.Core.Path.{◌≡◌, sym, ap, ◌∙◌}
use mathlib.Core.Bool.{Bool, false}
use mathlib.Core.Option.{none}
use mathlib.Core.List.{List, []}
use lib.Dec.{ltb}
use lib.ListN.{length}
use Rattle.limits.specs.Limits.{work_length, table_length}
use Rattle.calculus.specs.Tools.{is_some}
use Rattle.model.specs.Services.{accepted, verdict, filled, table_after, work_after, short, unless, check}
use Rattle.format.specs.Code.{refusal_view, numbered}
use Rattle.calculus.proofs.Basic.{ltb_false, neither}
use Rattle.checker.specs.CheckSays.{CheckSays, Accepted}
use Rattle.checker.specs.declared.Checked as C
use Rattle.checker.proofs.Checks.{unless_accepted, flag_none}

pub record Whole (s t w t' w' : List ℕ) (c : C.Checked) : Type 0 where
  pub file : Accepted s t' c
  pub verdict_is : unless (short t w) (verdict s) ≡ accepted file.file
  pub work_long : work_length ≤ length w
  pub work_is : w' ≡ filled work_length [] w
  pub table_is : t' ≡ table_after (accepted file.file) t

pub whole : (s t w t' w' : List ℕ) (c : C.Checked) (b : Bool) → CheckSays s t w t' w' c.answer → (refusal_view c.answer.refusal ≡ none → Accepted s t' c)
    → b ≡ is_some (refusal_view c.answer.refusal) → b ≡ false → Whole s t w t' w' c
unfolding check
whole s t w t' w' c b says acc e y =
    let n : refusal_view c.answer.refusal ≡ none = flag_none b (refusal_view c.answer.refusal) e y in
    let a = acc n in
    let u = unless_accepted (short t w) (verdict s) (sym says.number ∙ ap numbered n) in
    let v : unless (short t w) (verdict s) ≡ accepted a.file = u.1 ∙ a.accepts in
    record {
      file = a;
      verdict_is = v;
      work_long = ltb_false (length w) work_length (neither (ltb (length t) table_length) (ltb (length w) work_length) u.0).1;
      work_is = says.work ∙ ap (λ x. work_after x w) v;
      table_is = says.table ∙ ap (λ x. table_after x t) v;
    }
