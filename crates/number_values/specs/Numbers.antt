-- What counting, numbering and spelling the values of a type come to.
use Rattle.std.specs.Prelude.{ℕ, suc, ◌+◌, ◌*◌, ◌≤◌, ◌<◌, min, ◌≡◌, true, List, length, get_or}
use Rattle.std.proofs.lemmas.List.Edits.{sets}
use Rattle.limits.specs.Limits.{max_values}
use Rattle.calculus.specs.Trees.{Ty, Val}
use Rattle.calculus.specs.Letters.{letters, inhabits}
use Rattle.table_trees.specs.Unfolding.{type_of}
use Rattle.law_ranking.specs.Numbering.{count, rank, unrank}
use Rattle.run_values.specs.Texts.{At}

-- the sum of two numbers, each told up to one above the most that are numbered, and told so itself
abbrev pub SumCapped : ℕ → ℕ → ℕ → Type 0
SumCapped a b r = (x y : ℕ) → a ≡ min x (suc max_values) → b ≡ min y (suc max_values) → r ≡ min (x + y) (suc max_values)

-- and the product, where neither is 0
abbrev pub ProductCapped : ℕ → ℕ → ℕ → Type 0
ProductCapped a b r =
    (x y : ℕ) → 1 ≤ x → 1 ≤ y → a ≡ min x (suc max_values) → b ≡ min y (suc max_values) → r ≡ min (x * y) (suc max_values)

-- how many values a type has, one above the most that are numbered for all above
abbrev pub Counts : Ty → ℕ → Type 0
Counts a n = n ≡ min (count a) (suc max_values)

-- an area has the counts of a table's first T lines, as many as there is a place for
pub record Counted (t counts : List ℕ) : Type 0 where
  pub counted : (i : ℕ) → i < length counts → Counts (type_of t i) (get_or counts i 0)

-- the number of the value of a type that begins at a place, and the place behind it
abbrev pub Ranks : Ty → List ℕ → ℕ → ℕ → ℕ → Type 0
Ranks a s at number end =
    (v : Val) → At s at v → inhabits v a ≡ true → count a ≤ max_values → (number ≡ rank v a) × (end ≡ at + length (letters v))

-- the area l is l' once the value of a type with number n is written from place `at` on, `end` the place behind it
abbrev pub Unranks : Ty → ℕ → List ℕ → List ℕ → ℕ → ℕ → Type 0
Unranks a n l l' at end =
    count a ≤ max_values → n < count a → at + length (letters (unrank a n)) ≤ length l
    → (l' ≡ sets l at (letters (unrank a n))) × (end ≡ at + length (letters (unrank a n)))
