-- What the readings of a list mean.
use Rattle.std.specs.Prelude.{ℕ, Bool, not, ◌&&◌, List, eqb, ltb}
use Rattle.std.specs.Prelude as P
use Rattle.std.specs.Prelude.{Some, None}
use Rattle.std.proofs.Math.Option.{Option, none, some}
use Rattle.calculus.specs.Tools.{◌>>=◌, guard, all}
use Rattle.law_pairlists.specs.PairLists.{tos_of, none_twice}

abbrev pub as_to : P.Option ℕ → Option ℕ
as_to (Some n) = some n
as_to None = none

-- whether a number stands among others
abbrev pub stands : ℕ → List ℕ → Bool
stands n us = not (all (λ u. not (eqb u n)) us)

-- the tos of lines, where all are below a count and none is repeated
abbrev pub taking : ℕ → List (List ℕ) → Option (List ℕ)
taking most ls = tos_of 0 ls >>= λ ts. guard (all (λ t. ltb t most) ts && none_twice ts) >>= λ _. some ts
