-- Request 09, how the value is found without listing all: the least value of two patterns for an overlap; for a gap, letter by letter, by
-- counting the values that the patterns match.
use Rattle.std.specs.Prelude.{ℕ, zero, suc, Bool, cond, List, [], ◌∷◌, ◌++◌, map, leb, ltb, length}
use Rattle.std.proofs.Math.Option.{Option, none, some}
use Rattle.limits.specs.Limits.{result_length}
use Rattle.calculus.specs.Tools.{◌>>=◌, guard, total, first_of}
use Rattle.calculus.specs.Trees.{Ty, tunit, tlist, tsum, tprod, unit_leaf, empty_leaf, left, right, pair_node, element_node, Pat, pvar, pleaf, pinj, pnode, Val}
use Rattle.calculus.specs.Trees.{vleaf, vinj, vnode, same_leaf, same_tag, same_node, beneath, parts}
use Rattle.calculus.specs.Letters.{letters}
use Rattle.law_witnesses.specs.Showing.{sooner, Move, leaf, tag, node, letter_on, moves, count_up}

-- ---- overlap

-- the one with fewer letters, the left where both have as many
abbrev pub shorter : Val → Val → Val
shorter v w = cond (leb (length (letters v)) (length (letters w))) (vinj left v) (vinj right w)

abbrev pub least : Ty → Val
least tunit = vleaf unit_leaf
least (tlist a) = vleaf empty_leaf
least (tsum a b) = shorter (least a) (least b)
least (tprod a b) = vnode pair_node (least a) (least b)

-- the least value that a pattern matches; a unit stands where it does not fit the type
abbrev pub below : Option Ty → (Ty → Val) → Val
below none f = vleaf unit_leaf
below (some a) f = f a

abbrev pub both : Option (Ty × Ty) → (Ty → Ty → Val) → Val
both none f = vleaf unit_leaf
both (some s) f = f s.0 s.1

abbrev pub least_in : Pat → Ty → Val
least_in (pvar n) a = least a
least_in (pleaf l) a = vleaf l
least_in (pinj t p) a = below (beneath t a) (λ b. vinj t (least_in p b))
least_in (pnode k p q) a = both (parts k a) (λ b c. vnode k (least_in p b) (least_in q c))

-- the pattern of the values that two patterns match
abbrev pub meet : Pat → Pat → Option Pat
meet (pvar n) q = some q
meet (pleaf l) (pvar m) = some (pleaf l)
meet (pleaf l) (pleaf k) = cond (same_leaf l k) (some (pleaf l)) none
meet (pleaf l) (pinj t q) = none
meet (pleaf l) (pnode k q q') = none
meet (pinj s p) (pvar m) = some (pinj s p)
meet (pinj s p) (pleaf k) = none
meet (pinj s p) (pinj t q) = cond (same_tag s t) (meet p q >>= λ r. some (pinj s r)) none
meet (pinj s p) (pnode k q q') = none
meet (pnode m p p') (pvar n) = some (pnode m p p')
meet (pnode m p p') (pleaf k) = none
meet (pnode m p p') (pinj t q) = none
meet (pnode m p p') (pnode k q q') = cond (same_node m k) (meet p q >>= λ r. meet p' q' >>= λ r'. some (pnode m r r')) none

-- the sooner of two
abbrev pub better : Option Val → Option Val → Option Val
better none y = y
better (some v) none = some v
better (some v) (some w) = cond (sooner (letters w) (letters v)) (some w) (some v)

abbrev pub in_both : Ty → Pat → Pat → Option Val
in_both a p q = meet p q >>= λ r. some (least_in r a)

abbrev pub overlap_with : Ty → Pat → List Pat → Option Val
overlap_with a p [] = none
overlap_with a p (q ∷ qs) = better (in_both a p q) (overlap_with a p qs)

-- the least value of any two patterns
abbrev pub overlap_in : Ty → List Pat → Option Val
overlap_in a [] = none
overlap_in a (p ∷ ps) = better (overlap_with a p ps) (overlap_in a ps)

-- "and it goes into 127 lent bytes": a value of more letters is not shown
abbrev pub fitting : Option Val → Option Val
fitting x = x >>= λ v. guard (leb (length (letters v)) result_length) >>= λ _. some v

-- ---- gap

-- what a row of patterns, side by side, asks of the values after a letter; nothing where it does not begin so
abbrev pub after : Move → List Pat → Option (List Pat)
after m [] = none
after (leaf l) (pvar n ∷ ps) = some ps
after (leaf l) (pleaf k ∷ ps) = cond (same_leaf k l) (some ps) none
after (leaf l) (pinj t p ∷ ps) = none
after (leaf l) (pnode k p q ∷ ps) = none
after (tag t) (pvar n ∷ ps) = some (pvar n ∷ ps)
after (tag t) (pleaf k ∷ ps) = none
after (tag t) (pinj s p ∷ ps) = cond (same_tag s t) (some (p ∷ ps)) none
after (tag t) (pnode k p q ∷ ps) = none
after (node k) (pvar n ∷ ps) = some (pvar n ∷ (pvar n ∷ ps))
after (node k) (pleaf l ∷ ps) = none
after (node k) (pinj t p ∷ ps) = none
after (node k) (pnode m p q ∷ ps) = cond (same_node m k) (some (p ∷ (q ∷ ps))) none

abbrev pub or_zero : {A : Type 0} → (A → ℕ) → Option A → ℕ
or_zero f none = 0
or_zero f (some x) = f x

-- how many values side by side have n letters
abbrev pub how_many : ℕ → List Ty → ℕ
how_many zero [] = 1
how_many zero (a ∷ ts) = 0
how_many (suc n) [] = 0
how_many (suc n) (a ∷ ts) = total (map (λ m. how_many n (m.1 ++ ts)) (moves a))

-- and how many of them a row of patterns matches
abbrev pub ways : ℕ → List Ty → List Pat → ℕ
ways zero [] [] = 1
ways zero [] (p ∷ ps) = 0
ways zero (a ∷ ts) ps = 0
ways (suc n) [] ps = 0
ways (suc n) (a ∷ ts) ps = total (map (λ m. or_zero (ways n (m.1 ++ ts)) (after m.0 ps)) (moves a))

-- what a function gives of the elements of a list, where it gives something
abbrev pub also : {A : Type 0} → Option A → List A → List A
also none xs = xs
also (some x) xs = x ∷ xs

abbrev pub keep : {A B : Type 0} → (A → Option B) → List A → List B
keep f [] = []
keep f (x ∷ xs) = also (f x) (keep f xs)

abbrev pub on : {A B : Type 0} → (A → B) → Option A → Option B
on g none = none
on g (some x) = some (g x)

-- some values with n letters are matched by no row
abbrev pub lacks : ℕ → List Ty → List (List Pat) → Bool
lacks n ts rows = ltb (total (map (ways n ts) rows)) (how_many n ts)

-- the first letters with which a gap is left
abbrev pub gap_from : ℕ → List Ty → List (List Pat) → Option (List ℕ)
gap_from zero [] rows = cond (lacks zero [] rows) (some []) none
gap_from zero (a ∷ ts) rows = none
gap_from (suc n) [] rows = none
gap_from (suc n) (a ∷ ts) rows =
    first_of
    (λ m. cond (lacks n (m.1 ++ ts) (keep (after m.0) rows)) (on (λ ls. letter_on m.0 ∷ ls) (gap_from n (m.1 ++ ts) (keep (after m.0) rows))) none)
    (moves a)

-- each pattern alone in its row
abbrev pub alone : List Pat → List (List Pat)
alone ps = map (λ p. p ∷ []) ps

-- the letters of the first gap
abbrev pub gap_in : Ty → List Pat → Option (List ℕ)
gap_in a ps = first_of (λ n. cond (lacks n (a ∷ []) (alone ps)) (gap_from n (a ∷ []) (alone ps)) none) (count_up (suc result_length) 0)

-- ---- the same letter by letter, as the code goes

-- the letter to go on with: of a sum the left, and of a list an element, unless it leaves no gap
abbrev pub pick : ℕ → Ty → List Ty → List (List Pat) → Move × List Ty
pick n tunit ts rows = (leaf unit_leaf, [])
pick n (tlist a) ts rows =
    cond (lacks n (a ∷ (tlist a ∷ ts)) (keep (after (node element_node)) rows)) (node element_node, a ∷ (tlist a ∷ [])) (leaf empty_leaf, [])
pick n (tsum a b) ts rows = cond (lacks n (a ∷ ts) (keep (after (tag left)) rows)) (tag left, a ∷ []) (tag right, b ∷ [])
pick n (tprod a b) ts rows = (node pair_node, a ∷ (b ∷ []))

abbrev pub gap_word : ℕ → List Ty → List (List Pat) → List ℕ
gap_word zero ts rows = []
gap_word (suc n) [] rows = []
gap_word (suc n) (a ∷ ts) rows =
    let m : Move × List Ty = pick n a ts rows in
    letter_on m.0 ∷ gap_word n (m.1 ++ ts) (keep (after m.0) rows)

-- the fewest letters of a gap
abbrev pub gap_length : Ty → List Pat → Option ℕ
gap_length a ps = first_of (λ n. cond (lacks n (a ∷ []) (alone ps)) (some n) none) (count_up (suc result_length) 0)
