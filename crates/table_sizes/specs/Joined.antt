-- The most left and right nodes of a sum's or a product's values, from those of its parts.
use Rattle.std.specs.Prelude.{ℕ, suc, ◌+◌, max, cond, eqb}

abbrev pub join_tags : ℕ → ℕ → ℕ → ℕ
join_tags kind m n = cond (eqb kind 1) (suc (max m n)) (m + n)
