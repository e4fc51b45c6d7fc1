-- The places of a type at which patterns of it hold a left or a right, and two patterns compared by what they hold there.
use Rattle.std.specs.Prelude.{ℕ, suc, ◌+◌, Bool, true, false, ◌&&◌, ◌||◌, List, [], ◌∷◌, ◌++◌, eqb}
use Rattle.calculus.specs.Trees.{Ty, tunit, tlist, tsum, tprod, unit_leaf, empty_leaf, Tag, left, right, pair_node, element_node, Pat, pvar, pleaf, pinj, pnode, same_tag, part, tags}
use Rattle.check_facts.specs.Facts.{width}

abbrev pub flip : Tag → Tag
flip left = right
flip right = left

-- a place, and the left or right that stands there
abbrev pub Mark : Type 0
Mark = ℕ × Tag

-- the lefts and rights of a pattern at the places of a type from n on: a sum has a place of its own, then those of its parts, which are the same for
-- both; a product has those of its first part and then those of its second
abbrev pub marks : Pat → Ty → ℕ → List Mark
marks (pleaf l) a n = []
marks (pvar m) a n = []
marks (pinj t p) tunit n = []
marks (pinj t p) (tlist a) n = []
marks (pinj t p) (tsum a b) n = (n, t) ∷ marks p (part t a b) (suc n)
marks (pinj t p) (tprod a b) n = []
marks (pnode pair_node p q) tunit n = []
marks (pnode pair_node p q) (tlist a) n = []
marks (pnode pair_node p q) (tsum a b) n = []
marks (pnode pair_node p q) (tprod a b) n = marks p a n ++ marks q b (n + width a)
marks (pnode element_node p q) a n = []

-- each left or right of the pattern stands at a place of the type, and it holds neither an empty list nor an element
abbrev pub shaped : Pat → Ty → Bool
shaped (pleaf unit_leaf) a = true
shaped (pleaf empty_leaf) a = false
shaped (pvar m) a = true
shaped (pinj t p) tunit = false
shaped (pinj t p) (tlist a) = false
shaped (pinj t p) (tsum a b) = shaped p (part t a b)
shaped (pinj t p) (tprod a b) = false
shaped (pnode pair_node p q) tunit = eqb (tags (pnode pair_node p q)) 0
shaped (pnode pair_node p q) (tlist a) = eqb (tags (pnode pair_node p q)) 0
shaped (pnode pair_node p q) (tsum a b) = eqb (tags (pnode pair_node p q)) 0
shaped (pnode pair_node p q) (tprod a b) = shaped p a && shaped q b
shaped (pnode element_node p q) a = false

-- whether a mark is among others
abbrev pub member : ℕ → Tag → List Mark → Bool
member n t [] = false
member n t (x ∷ xs) = (eqb n x.0 && same_tag t x.1) || member n t xs

-- whether one list has a left and the other a right at the same place
abbrev pub meets : List Mark → List Mark → Bool
meets [] ys = false
meets (x ∷ xs) ys = member x.0 (flip x.1) ys || meets xs ys
