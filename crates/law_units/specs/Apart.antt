-- Two scripts that name different units, one played behind the other in either order.
use Rattle.std.specs.Prelude.{ℕ, ◌≡◌}
use Rattle.std.proofs.Math.Option.{some}
use mathlib.Core.List.{List, Memᴰ}
use Rattle.format.specs.Lines.{lines}
use Rattle.law_units.specs.Units.{Planned, planned_of, Play}

-- no line of the one names a unit that a line of the other does
pub record Apart (script other : List ℕ) : Type 0 where
  pub units : (l m : List ℕ) → Memᴰ l (lines script) → Memᴰ m (lines other) → (p q : Planned) → planned_of l ≡ some p → planned_of m ≡ some q
      → p.unit ≡ q.unit → ⊥

-- Either order has the same answer. But "a script is tested line by line": where the one script is refused 22 and the other 18, the first to be tested decides.
pub data SameAnswer (p q : Play) : Type 0 where
  same : p.answer ≡ q.answer → SameAnswer p q
  bad_first : p.answer ≡ record { number = 22; line = 0 } → q.answer ≡ record { number = 18; line = 0 } → SameAnswer p q
  lists_first : p.answer ≡ record { number = 18; line = 0 } → q.answer ≡ record { number = 22; line = 0 } → SameAnswer p q

-- units and record are the same
pub record Exchanged (p q : Play) : Type 0 where
  pub answer : SameAnswer p q
  pub units : p.units ≡ q.units
  pub tally : p.tally ≡ q.tally
