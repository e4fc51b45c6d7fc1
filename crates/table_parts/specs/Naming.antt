-- The earlier lines that a P line and a T line name.
use Rattle.std.specs.Prelude.{ℕ, ◌+◌, ◌<◌, ◌≤◌, ◌≡◌, ◌⊎◌, List, MatchOption, Option}
use Rattle.table_trees.specs.Unfolding.{cell_of, smaller_of}
use Rattle.table_parts.specs.declared.Lines.{Lines}

-- the lines q and b that number j of P line p and number k of T line a name, both of which are earlier lines
pub record Named (t : List ℕ) (base p a j k q b : ℕ) : Type 0 where
  pub lower : q < p
  pub below : b < a
  pub pattern : q ≡ smaller_of (cell_of t (base + p) j) p
  pub type : b ≡ smaller_of (cell_of t a k) a

-- where there are such
abbrev pub Parts : List ℕ → ℕ → ℕ → ℕ → ℕ → ℕ → Option Lines → Type 0
Parts t base p a j k r =
    MatchOption r ((p ≤ cell_of t (base + p) j) ⊎ (a ≤ cell_of t a k)) (λ l. Named t base p a j k l.p l.a)
