-- What writing the least value of a type, or of a pattern, leaves: its letters, as far as the area goes.
use Rattle.std.specs.Prelude.{ℕ, ◌≤◌, ◌≡◌, List}
use Rattle.std.proofs.Math.Option.{some}
use Rattle.limits.specs.Limits.{max_nodes}
use Rattle.calculus.specs.Trees.{Ty, Pat, type_nodes}
use Rattle.calculus.specs.Letters.{letters}
use Rattle.calculus.specs.Shapes.{Shape}
use Rattle.law_witnesses.specs.Seeking.{least, least_in, meet}
use Rattle.area_cells.specs.Areas.{Prints}

pub record SpellsLeast (a : Ty) (l l' : List ℕ) (at end : ℕ) : Type 0 where
  pub by : type_nodes a ≤ max_nodes → Prints l l' at end (letters (least a))

pub record SpellsIn (p : Pat) (a : Ty) (l l' : List ℕ) (at end : ℕ) : Type 0 where
  pub by : Shape p a → type_nodes a ≤ max_nodes → Prints l l' at end (letters (least_in p a))

pub record SpellsBoth (p q : Pat) (a : Ty) (l l' : List ℕ) (at end : ℕ) : Type 0 where
  pub by : (r : Pat) → Shape p a → Shape q a → meet p q ≡ some r → type_nodes a ≤ max_nodes → Prints l l' at end (letters (least_in r a))
