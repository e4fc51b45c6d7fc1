-- "A value is written in prefix order with the letters U (unit), L, R, P (pair)", and request 14's "N and K"; the closed values of a type.
use Rattle.std.specs.Prelude.{ℕ, Bool, true, false, cond, ◌&&◌, List, [], ◌∷◌, ◌++◌, eqb}
use Rattle.std.proofs.Math.Option.{Option, none, some}
use Rattle.calculus.specs.Tools.{◌>>=◌}
use Rattle.calculus.specs.Trees.{Ty, Tag, left, right, Val, vinj, Leaf, unit_leaf, empty_leaf, Node, pair_node, element_node, vleaf, vnode, leaf_fits, beneath, parts}

abbrev pub leaf_letter : Leaf → ℕ
leaf_letter unit_leaf = 85
leaf_letter empty_leaf = 78

abbrev pub letter_of : Tag → ℕ
letter_of left = 76
letter_of right = 82

abbrev pub node_letter : Node → ℕ
node_letter pair_node = 80
node_letter element_node = 75

abbrev pub letters : Val → List ℕ
letters (vleaf l) = leaf_letter l ∷ []
letters (vinj t v) = letter_of t ∷ letters v
letters (vnode k v w) = node_letter k ∷ (letters v ++ letters w)

-- Letters read from the last to the first: the values that stand side by side from some place on.
abbrev pub on_inj : Tag → List Val → Option (List Val)
on_inj t [] = none
on_inj t (v ∷ vs) = some (vinj t v ∷ vs)

abbrev pub on_node : Node → List Val → Option (List Val)
on_node k [] = none
on_node k (v ∷ []) = none
on_node k (v ∷ (w ∷ vs)) = some (vnode k v w ∷ vs)

abbrev pub on_letter : ℕ → List Val → Option (List Val)
on_letter b vs =
    cond (eqb b (leaf_letter unit_leaf)) (some (vleaf unit_leaf ∷ vs))
    (cond (eqb b (leaf_letter empty_leaf)) (some (vleaf empty_leaf ∷ vs))
    (cond (eqb b (letter_of left)) (on_inj left vs)
    (cond (eqb b (letter_of right)) (on_inj right vs)
    (cond (eqb b (node_letter pair_node)) (on_node pair_node vs)
    (cond (eqb b (node_letter element_node)) (on_node element_node vs) none)))))

abbrev pub values_of : List ℕ → Option (List Val)
values_of [] = some []
values_of (b ∷ bs) = values_of bs >>= λ vs. on_letter b vs

-- "exactly one closed value"
abbrev pub single : List Val → Option Val
single [] = none
single (v ∷ []) = some v
single (v ∷ (w ∷ vs)) = none

unfoldable pub value_of : List ℕ → Option Val
value_of bs = values_of bs >>= λ vs. single vs

-- "U for the unit type; L or R before a closed value of the left or right type for a sum; P before one of each part for a product"; N,
-- or K before an element and a list, for a list
abbrev pub below : Option Ty → (Ty → Bool) → Bool
below none f = false
below (some a) f = f a

abbrev pub both : Option (Ty × Ty) → (Ty → Ty → Bool) → Bool
both none f = false
both (some s) f = f s.0 s.1

abbrev pub inhabits : Val → Ty → Bool
inhabits (vleaf l) a = leaf_fits l a
inhabits (vinj t v) a = below (beneath t a) (λ b. inhabits v b)
inhabits (vnode k v w) a = both (parts k a) (λ b c. inhabits v b && inhabits w c)
