-- How many line feeds some bytes have.
use Rattle.std.specs.Prelude.{ℕ, ◌+◌, cond, List, [], ◌∷◌, eqb}
use Rattle.limits.specs.Limits.{line_feed}

abbrev pub feed_of : ℕ → ℕ
feed_of b = cond (eqb b line_feed) 1 0

abbrev pub feeds_in : List ℕ → ℕ
feeds_in [] = 0
feeds_in (b ∷ bs) = feed_of b + feeds_in bs
