-- What a search may build on.
use Rattle.std.specs.Prelude.{◌≤◌}
use mathlib.Core.List.{List, Memᴰ}
use Rattle.limits.specs.Limits.{max_nodes}
use Rattle.calculus.specs.Trees.{Ty, Pat, type_nodes}
use Rattle.calculus.specs.Shapes.{Shape}

-- 7 bounds the type, and 10 has every pattern fit it
pub record Side (a : Ty) (ps : List Pat) : Type 0 where
  pub small : type_nodes a ≤ max_nodes
  pub shapes : (p : Pat) → Memᴰ p ps → Shape p a
