-- The counts of the first T lines, found one after the other.
use Prim.Native.Nat.{ℕ, ◌≤◌, ◌<◌}
use mathlib.Core.Path.{◌≡◌}
use mathlib.Core.List.{List}
use lib.ListN.{length, get_or}
use Rattle.table_trees.specs.Unfolding.{type_of}
use Rattle.number_values.specs.Numbers.{Counts}

-- those of the T lines below i are found
pub record Filling (t counts₀ counts : List ℕ) (i : ℕ) : Type 0 where
  pub long : length counts ≡ length counts₀
  pub within : i ≤ length counts
  pub found : (j : ℕ) → j < i → Counts (type_of t j) (get_or counts j 0)
