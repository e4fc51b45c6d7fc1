-- The patterns that a field of some rows names, from the last row on.
use Prim.Native.Nat.{ℕ, suc, ◌-◌, ◌<◌, ◌≤◌}
use native.Mathlib.Nat.{le_refl}
use native.Mathlib.Omega.{arith}
use mathlib.Core.Path.{◌≡◌, ap, ◌∙◌}
use mathlib.Core.List.{List, [], ◌∷◌}
use lib.ListN.{length, get_or, drop, drop_of_length-le}
use lib.Seq.{drop-cons}
use Rattle.table_trees.specs.Unfolding.{cell_of, pattern_of}
use Rattle.table_walks.specs.InTable.{patterns_at}

module _ (t : List ℕ) (base f : ℕ) (rows : List ℕ) where
  -- from row x on, one row earlier
  pub rows_line : (x : ℕ) → 0 < x → x ≤ length rows
      → patterns_at t base f (drop (x - 1) rows) ≡ pattern_of t base (cell_of t (get_or rows (x - 1) 0) f) ∷ patterns_at t base f (drop x rows)
  rows_line x p h =
      let e : suc (x - 1) ≡ x = omega arith in
      ap (patterns_at t base f) (drop-cons rows (x - 1) 0 (omega arith) ∙ ap (λ n. get_or rows (x - 1) 0 ∷ drop n rows) e)

  -- none behind the last
  pub rows_end : patterns_at t base f (drop (length rows) rows) ≡ []
  rows_end = ap (patterns_at t base f) (drop_of_length-le rows {i = length rows} (le_refl (length rows)))
