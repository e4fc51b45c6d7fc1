-- What the answer about a letter means.
use Rattle.std.specs.Prelude.{Some, None}
use Rattle.std.specs.Prelude as P
use Rattle.std.proofs.Math.Option.{Option, none, some}
use Rattle.calculus.specs.Refusals.{Kind}
use Rattle.format.specs.declared.Kind as K
use Rattle.format.specs.Code.{kind_view}

abbrev pub as_letter : P.Option K.Kind → Option Kind
as_letter (Some k) = some (kind_view k)
as_letter None = none
