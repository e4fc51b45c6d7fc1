-- Closed values as letters in an area, and what matching and building do there.
use Rattle.std.specs.Prelude.{ℕ, zero, suc, ◌+◌, ◌%◌, ◌≤◌, ◌<◌, ◌≡◌, Bool, true, false, cond, ◌&&◌, List, [], ◌∷◌, ◌++◌, eqb, ltb, length, get_or, set, drop}
use Rattle.std.proofs.Math.Option.{Option, none, some}
use Rattle.std.proofs.Math.Seq.{slice}
use Rattle.limits.specs.Limits.{variables, field_bound}
use Rattle.calculus.specs.Tools.{◌>>=◌, guard}
use Rattle.calculus.specs.Trees.{Ty, tunit, tlist, tsum, tprod, unit_leaf, empty_leaf, left, right, pair_node, element_node, Pat, pleaf, pvar, pinj, pnode, Val, vleaf, vinj, vnode}
use Rattle.calculus.specs.Trees.{same_leaf, same_tag, same_node}
use Rattle.calculus.specs.Letters.{letters, leaf_letter, letter_of, node_letter}
use Rattle.std.specs.Prelude.{Option as Maybe, Some, None}

-- the letters of a value stand from a place on
pub record At (s : List ℕ) (at : ℕ) (v : Val) : Type 0 where
  pub rest : List ℕ
  pub spells : drop at s ≡ letters v ++ rest

-- a place that is that value's end, where one is told
abbrev pub Ends : Maybe ℕ → ℕ → Val → Type 0
Ends None at v = Unit
Ends (Some end) at v = end ≡ at + length (letters v)

-- the bytes behind a place
abbrev pub as_upto : List ℕ → Maybe ℕ → Option (List ℕ)
as_upto s (Some n) = some (drop n s)
as_upto s None = none

-- the bytes behind the closed value of a type that begins here
abbrev pub behind_unit : List ℕ → Option (List ℕ)
behind_unit [] = none
behind_unit (b ∷ bs) = guard (eqb b (leaf_letter unit_leaf)) >>= λ _. some bs

abbrev pub behind_tag : (List ℕ → Option (List ℕ)) → (List ℕ → Option (List ℕ)) → List ℕ → Option (List ℕ)
behind_tag l r [] = none
behind_tag l r (b ∷ bs) = cond (eqb b (letter_of left)) (l bs) (cond (eqb b (letter_of right)) (r bs) none)

abbrev pub behind_pair : (List ℕ → Option (List ℕ)) → (List ℕ → Option (List ℕ)) → List ℕ → Option (List ℕ)
behind_pair l r [] = none
behind_pair l r (b ∷ bs) = guard (eqb b (node_letter pair_node)) >>= λ _. l bs >>= λ cs. r cs

-- request 14's "value letters N and K": N, or K, an element and again a list, with at most so many of these letters
abbrev pub behind_list : (List ℕ → Option (List ℕ)) → ℕ → List ℕ → Option (List ℕ)
behind_list element zero bs = none
behind_list element (suc n) [] = none
behind_list element (suc n) (b ∷ bs) =
    cond (eqb b (leaf_letter empty_leaf)) (some bs) (guard (eqb b (node_letter element_node)) >>= λ _. element bs >>= λ cs. behind_list element n cs)

-- there are no more of them than letters
abbrev pub behind : Ty → List ℕ → Option (List ℕ)
behind tunit bs = behind_unit bs
behind (tlist a) bs = behind_list (behind a) (length bs) bs
behind (tsum a b) bs = behind_tag (behind a) (behind b) bs
behind (tprod a b) bs = behind_pair (behind a) (behind b) bs

-- a value, and nothing behind it
abbrev pub alone : Option (List ℕ) → Bool
alone none = false
alone (some []) = true
alone (some (b ∷ bs)) = false

-- the letter of a P line of kind k that is no variable; a number that is no kind has a unit's
abbrev pub letter_for : ℕ → ℕ
letter_for k =
    cond (eqb k 4) (node_letter pair_node)
    (cond (eqb k 2) (letter_of left)
    (cond (eqb k 3) (letter_of right)
    (cond (eqb k 5) (leaf_letter empty_leaf)
    (cond (eqb k 6) (node_letter element_node) (leaf_letter unit_leaf)))))

-- whether a pattern is of a value's shape, whatever its variables
abbrev pub alike : Pat → Val → Bool
alike (pvar n) v = true
alike (pleaf l) (vleaf k) = same_leaf l k
alike (pleaf l) (vinj t v) = false
alike (pleaf l) (vnode k v w) = false
alike (pinj s p) (vleaf k) = false
alike (pinj s p) (vinj t v) = same_tag s t && alike p v
alike (pinj s p) (vnode k v w) = false
alike (pnode m p q) (vleaf k) = false
alike (pnode m p q) (vinj t v) = false
alike (pnode m p q) (vnode k v w) = same_node m k && (alike p v && alike q w)

-- Where a variable's value begins and ends stands in numbers n and 32 + n of the ranges, as numbers of 16 bits.
abbrev pub put_range : List ℕ → ℕ → ℕ → ℕ → List ℕ
put_range vars n from to = cond (ltb n variables) (set (set vars n (from % field_bound)) (variables + n) (to % field_bound)) vars

-- the ranges after a pattern is matched, as far as that goes, with a value whose letters begin at a place
abbrev pub ranges : Pat → Val → ℕ → List ℕ → List ℕ
ranges (pvar n) v at vars = put_range vars n at (at + length (letters v))
ranges (pleaf l) v at vars = vars
ranges (pinj s p) (vleaf k) at vars = vars
ranges (pinj s p) (vinj t v) at vars = cond (same_tag s t) (ranges p v (suc at) vars) vars
ranges (pinj s p) (vnode k v w) at vars = vars
ranges (pnode m p q) (vleaf k) at vars = vars
ranges (pnode m p q) (vinj t v) at vars = vars
ranges (pnode m p q) (vnode k v w) at vars =
    let first : List ℕ = ranges p v (suc at) vars in
    cond (same_node m k) (cond (alike p v) (ranges q w (suc at + length (letters v)) first) first) vars

-- a variable's letters, by its range
abbrev pub range_of : List ℕ → List ℕ → ℕ → List ℕ
range_of s vars n = slice (get_or vars n 0) (get_or vars (variables + n) 0) s

-- the letters of a pattern with its variables' letters put in
abbrev pub built : Pat → List ℕ → List ℕ → List ℕ
built (pleaf l) s vars = leaf_letter l ∷ []
built (pvar n) s vars = range_of s vars n
built (pinj t p) s vars = letter_of t ∷ built p s vars
built (pnode k p q) s vars = node_letter k ∷ (built p s vars ++ built q s vars)

-- every range ends at or before a place
pub record Below (vars : List ℕ) (top : ℕ) : Type 0 where
  pub ends : (n : ℕ) → get_or vars (variables + n) 0 ≤ top

-- what matching answers
abbrev pub matched : Bool → ℕ → Maybe ℕ
matched true n = Some n
matched false n = None
