-- Answers that are refusals, and answers that are none, by their cases.
use mathlib.Core.Path.{◌≡◌, sym, ap}
use mathlib.Core.Bool.{true, false}
use Rattle.std.specs.Prelude.{Option as CodeOption, None, Some}
use Rattle.calculus.specs.Tools.{is_some}
use Rattle.format.specs.Code.{refusal_view}
use Rattle.format.specs.declared.Refusal as R

pub told_some : {o : CodeOption R.Refusal} {f : R.Refusal} → o ≡ Some f → true ≡ is_some (refusal_view o)
told_some e = ap (λ x. is_some (refusal_view x)) (sym e)

pub told_none : {o : CodeOption R.Refusal} → o ≡ None → false ≡ is_some (refusal_view o)
told_none e = ap (λ x. is_some (refusal_view x)) (sym e)
