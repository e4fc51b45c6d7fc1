-- "playing the script last line first with directions exchanged": the visits of such a script, and units that hold the same trees and numbers.
use Rattle.std.specs.Prelude.{ℕ, ◌≡◌, not, List, map, reverse}
use Rattle.std.proofs.Math.Option.{Option, some}
use Rattle.std.proofs.Math.ListN.{get_elem?}
use Rattle.calculus.specs.Tools.{◌>>=◌}
use Rattle.calculus.specs.Trees.{Ty}
use Rattle.format.specs.Lines.{Row, lines}
use Rattle.law_ranking.specs.Numbering.{types_of}
use Rattle.law_units.specs.Units.{Planned, planned_of, Units}

abbrev pub opposite : Planned → Planned
opposite p = record { unit = p.unit; iso = p.iso; back = not p.back }

abbrev pub backward : List Planned → List Planned
backward ps = reverse (map opposite ps)

-- a script whose lines read as those of another, last line first with directions exchanged, whatever their endings
pub record Backward (script other : List ℕ) : Type 0 where
  pub reads : map planned_of (lines other) ≡ reverse (map (λ l. planned_of l >>= λ p. some (opposite p)) (lines script))

-- the tree of a T line
abbrev pub tree_at : List Row → ℕ → Option Ty
tree_at rs i = get_elem? (types_of rs) i

-- "restores each type tree and number": the T line's own number may be another
pub record Alike (rs : List Row) (us vs : Units) : Type 0 where
  pub trees : map (tree_at rs) us.types ≡ map (tree_at rs) vs.types
  pub settings : us.settings ≡ vs.settings
