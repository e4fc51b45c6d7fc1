-- The ranges of a pattern's variables against the values in their slots, one way: each full slot's letters stand in its range.
use Rattle.std.specs.Prelude.{ℕ, ◌≡◌, List}
use Rattle.std.proofs.Math.Option.{some}
use Rattle.calculus.specs.Trees.{Val}
use Rattle.calculus.specs.Slots.{Slots, slot}
use Rattle.calculus.specs.Letters.{letters}
use Rattle.run_values.specs.Texts.{range_of}

pub record Agrees (s vars : List ℕ) (e : Slots Val) : Type 0 where
  pub holds : (n : ℕ) (v : Val) → slot e n ≡ some v → range_of s vars n ≡ letters v
