-- A pattern as numbers in prefix order: the letters of its nodes, and the number of a variable, which is below every letter.
use Rattle.std.specs.Prelude.{ℕ, ◌<◌, ◌≡◌, List, [], ◌∷◌, ◌++◌, drop}
use Rattle.limits.specs.Limits.{variables}
use Rattle.calculus.specs.Trees.{Pat, pleaf, pvar, pinj, pnode}
use Rattle.calculus.specs.Letters.{leaf_letter, letter_of, node_letter}

abbrev pub flat : Pat → List ℕ
flat (pleaf l) = leaf_letter l ∷ []
flat (pvar n) = n ∷ []
flat (pinj t p) = letter_of t ∷ flat p
flat (pnode k p q) = node_letter k ∷ (flat p ++ flat q)

-- every variable has a range
abbrev pub Few : Pat → Type 0
Few (pleaf l) = Unit
Few (pvar n) = n < variables
Few (pinj t p) = Few p
Few (pnode k p q) = Few p × Few q

-- the number behind a pattern's last one, which is no letter and no variable
abbrev pub stop : ℕ
stop = 128

-- a pattern stands flat from a place on
pub record Stands (code : List ℕ) (k : ℕ) (p : Pat) : Type 0 where
  pub rest : List ℕ
  pub spells : drop k code ≡ flat p ++ (stop ∷ rest)
  pub few : Few p
