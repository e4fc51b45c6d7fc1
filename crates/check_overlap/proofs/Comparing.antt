-- The laws of the comparison: it is `clash` of section 2.2, the same with the patterns exchanged, at least 1 and at most the smaller number of nodes,
-- and the number of the nodes laid on each other, in prefix order, up to the first clash.
use Rattle.std.proofs.Common.{◌≡◌, ℕ, suc, ◌+◌, ◌≤◌, Bool, true, false, cond, ◌||◌, List, [], ◌∷◌, ◌++◌, length, sym, refl, ap, ◌∙◌, subst, ap₂, true≢false, suc-add, zero-add, arith}
use Rattle.calculus.specs.Trees.{Pat, pvar, pleaf, pinj, pnode, left, right, pair_node, element_node, nodes}
use Rattle.calculus.specs.Clauses.{clash, clash_leaf}
use Rattle.calculus.specs.Paper.{Orth}
use Rattle.calculus.proofs.Checking.{clash_orth, orth_clash}
use Rattle.check_overlap.specs.Comparison.{Compared, met, clashed, and_then, compare, laid, clashes, any, up_to}

-- ---- one comparison and the next

then_clash : (x : Bool) (n : ℕ) (b : Compared) → (and_then (record { clash = x; pairs = n }) b).clash ≡ (x || b.clash)
then_clash true n b = refl
then_clash false n b = refl

then_most : (x : Bool) (n : ℕ) (b : Compared) → (and_then (record { clash = x; pairs = n }) b).pairs ≤ n + b.pairs
then_most true n b = omega arith
then_most false n b = omega arith

then_pairs : (x : Bool) (n : ℕ) (b : Compared) → (and_then (record { clash = x; pairs = n }) b).pairs ≡ cond x n (n + b.pairs)
then_pairs true n b = refl
then_pairs false n b = refl

-- ---- two nodes of which the first decides

once_clash : (b : Bool) → (cond b clashed met).clash ≡ b
once_clash true = refl
once_clash false = refl

once_any : (b : Bool) → (cond b clashed met).clash ≡ (b || false)
once_any true = refl
once_any false = refl

once_least : (b : Bool) → 1 ≤ (cond b clashed met).pairs
once_least true = omega arith
once_least false = omega arith

once_most : (b : Bool) (n : ℕ) → 1 ≤ n → (cond b clashed met).pairs ≤ n
once_most true n h = h
once_most false n h = h

once_laid : {A : Type 0} (b : Bool) (x : A) → (cond b clashed met).pairs ≡ length (cond b (x ∷ []) (x ∷ []))
once_laid true x = refl
once_laid false x = refl

-- ---- it is the orthogonality of section 2.2

pub compare_clash : (p q : Pat) → (compare p q).clash ≡ clash p q
compare_clash (pvar n) q = refl
compare_clash (pleaf l) (pvar m) = refl
compare_clash (pleaf l) (pleaf k) = refl
compare_clash (pleaf l) (pinj t q) = refl
compare_clash (pleaf l) (pnode k q q') = once_clash (clash_leaf l k)
compare_clash (pinj s p) (pvar m) = refl
compare_clash (pinj s p) (pleaf k) = refl
compare_clash (pinj left p) (pinj left q) = compare_clash p q
compare_clash (pinj left p) (pinj right q) = refl
compare_clash (pinj right p) (pinj left q) = refl
compare_clash (pinj right p) (pinj right q) = compare_clash p q
compare_clash (pinj s p) (pnode k q q') = refl
compare_clash (pnode k p p') (pvar m) = refl
compare_clash (pnode k p p') (pleaf l) = once_clash (clash_leaf l k)
compare_clash (pnode k p p') (pinj t q) = refl
compare_clash (pnode pair_node p p') (pnode pair_node q q') =
    then_clash (compare p q).clash (compare p q).pairs (compare p' q') ∙ ap₂ (λ x y. x || y) (compare_clash p q) (compare_clash p' q')
compare_clash (pnode pair_node p p') (pnode element_node q q') = refl
compare_clash (pnode element_node p p') (pnode pair_node q q') = refl
compare_clash (pnode element_node p p') (pnode element_node q q') =
    then_clash (compare p q).clash (compare p q).pairs (compare p' q') ∙ ap₂ (λ x y. x || y) (compare_clash p q) (compare_clash p' q')

pub compare_orth : (p q : Pat) → ((compare p q).clash ≡ true → Orth p q) × (Orth p q → (compare p q).clash ≡ true)
compare_orth p q = (λ e. clash_orth p q (sym (compare_clash p q) ∙ e), λ o. compare_clash p q ∙ orth_clash o)

-- ---- the same with the patterns exchanged

pub compare_sym : (p q : Pat) → compare p q ≡ compare q p
compare_sym (pvar n) (pvar m) = refl
compare_sym (pvar n) (pleaf k) = refl
compare_sym (pvar n) (pinj t q) = refl
compare_sym (pvar n) (pnode k q q') = refl
compare_sym (pleaf l) (pvar m) = refl
compare_sym (pleaf l) (pleaf k) = refl
compare_sym (pleaf l) (pinj t q) = refl
compare_sym (pleaf l) (pnode k q q') = refl
compare_sym (pinj s p) (pvar m) = refl
compare_sym (pinj s p) (pleaf k) = refl
compare_sym (pinj left p) (pinj left q) = ap (and_then met) (compare_sym p q)
compare_sym (pinj left p) (pinj right q) = refl
compare_sym (pinj right p) (pinj left q) = refl
compare_sym (pinj right p) (pinj right q) = ap (and_then met) (compare_sym p q)
compare_sym (pinj s p) (pnode k q q') = refl
compare_sym (pnode k p p') (pvar m) = refl
compare_sym (pnode k p p') (pleaf l) = refl
compare_sym (pnode k p p') (pinj t q) = refl
compare_sym (pnode pair_node p p') (pnode pair_node q q') = ap₂ (λ x y. and_then met (and_then x y)) (compare_sym p q) (compare_sym p' q')
compare_sym (pnode pair_node p p') (pnode element_node q q') = refl
compare_sym (pnode element_node p p') (pnode pair_node q q') = refl
compare_sym (pnode element_node p p') (pnode element_node q q') = ap₂ (λ x y. and_then met (and_then x y)) (compare_sym p q) (compare_sym p' q')

-- ---- how many

pub compare_least : (p q : Pat) → 1 ≤ (compare p q).pairs
compare_least (pvar n) q = omega arith
compare_least (pleaf l) (pvar m) = omega arith
compare_least (pleaf l) (pleaf k) = omega arith
compare_least (pleaf l) (pinj t q) = omega arith
compare_least (pleaf l) (pnode k q q') = once_least (clash_leaf l k)
compare_least (pinj s p) (pvar m) = omega arith
compare_least (pinj s p) (pleaf k) = omega arith
compare_least (pinj left p) (pinj left q) = omega arith
compare_least (pinj left p) (pinj right q) = omega arith
compare_least (pinj right p) (pinj left q) = omega arith
compare_least (pinj right p) (pinj right q) = omega arith
compare_least (pinj s p) (pnode k q q') = omega arith
compare_least (pnode k p p') (pvar m) = omega arith
compare_least (pnode k p p') (pleaf l) = once_least (clash_leaf l k)
compare_least (pnode k p p') (pinj t q) = omega arith
compare_least (pnode pair_node p p') (pnode pair_node q q') = omega arith
compare_least (pnode pair_node p p') (pnode element_node q q') = omega arith
compare_least (pnode element_node p p') (pnode pair_node q q') = omega arith
compare_least (pnode element_node p p') (pnode element_node q q') = omega arith

most_left : (p q : Pat) → (compare p q).pairs ≤ nodes p
most_left (pvar n) q = omega arith
most_left (pleaf l) (pvar m) = omega arith
most_left (pleaf l) (pleaf k) = omega arith
most_left (pleaf l) (pinj t q) = omega arith
most_left (pleaf l) (pnode k q q') = once_most (clash_leaf l k) 1 (omega arith)
most_left (pinj s p) (pvar m) = omega arith
most_left (pinj s p) (pleaf k) = omega arith
most_left (pinj left p) (pinj left q) = omega (arith, most_left p q)
most_left (pinj left p) (pinj right q) = omega arith
most_left (pinj right p) (pinj left q) = omega arith
most_left (pinj right p) (pinj right q) = omega (arith, most_left p q)
most_left (pinj s p) (pnode k q q') = omega arith
most_left (pnode k p p') (pvar m) = omega arith
most_left (pnode k p p') (pleaf l) = once_most (clash_leaf l k) (nodes (pnode k p p')) (omega arith)
most_left (pnode k p p') (pinj t q) = omega arith
most_left (pnode pair_node p p') (pnode pair_node q q') =
    omega (arith, then_most (compare p q).clash (compare p q).pairs (compare p' q'), most_left p q, most_left p' q')
most_left (pnode pair_node p p') (pnode element_node q q') = omega arith
most_left (pnode element_node p p') (pnode pair_node q q') = omega arith
most_left (pnode element_node p p') (pnode element_node q q') =
    omega (arith, then_most (compare p q).clash (compare p q).pairs (compare p' q'), most_left p q, most_left p' q')

pub compare_most : (p q : Pat) → ((compare p q).pairs ≤ nodes p) × ((compare p q).pairs ≤ nodes q)
compare_most p q = (most_left p q, subst (λ c. c.pairs ≤ nodes q) (sym (compare_sym p q)) (most_left q p))

-- ---- the nodes laid on each other, up to the first clash

module _ {A : Type 0} (f : A → Bool) where
  any_append : (xs ys : List A) → any f (xs ++ ys) ≡ (any f xs || any f ys)
  any_append [] ys = refl
  any_append (x ∷ xs) ys = go (f x) (any_append xs ys)
    where
      go : (b : Bool) → any f (xs ++ ys) ≡ (any f xs || any f ys) → (b || any f (xs ++ ys)) ≡ ((b || any f xs) || any f ys)
      go true i = refl
      go false i = i

  -- where none passes the test, all are taken
  up_to_all : (xs : List A) → any f xs ≡ false → length (up_to f xs) ≡ length xs
  up_to_all [] e = refl
  up_to_all (x ∷ xs) e = go (f x) e (up_to_all xs)
    where
      go : (b : Bool) → (b || any f xs) ≡ false → (any f xs ≡ false → length (up_to f xs) ≡ length xs)
          → length (cond b (x ∷ []) (x ∷ up_to f xs)) ≡ length (x ∷ xs)
      go true d i = absurd (true≢false d)
      go false d i = ap suc (i d)

  up_to_append : (xs ys : List A) → length (up_to f (xs ++ ys)) ≡ cond (any f xs) (length (up_to f xs)) (length (up_to f xs) + length (up_to f ys))
  up_to_append [] ys = sym (zero-add (length (up_to f ys)))
  up_to_append (x ∷ xs) ys = go (f x) (any f xs) (up_to_append xs ys)
    where
      go : (b c : Bool) → length (up_to f (xs ++ ys)) ≡ cond c (length (up_to f xs)) (length (up_to f xs) + length (up_to f ys))
          → length (cond b (x ∷ []) (x ∷ up_to f (xs ++ ys)))
          ≡ cond (b || c) (length (cond b (x ∷ []) (x ∷ up_to f xs))) (length (cond b (x ∷ []) (x ∷ up_to f xs)) + length (up_to f ys))
      go true c i = refl
      go false true i = ap suc i
      go false false i = ap suc i ∙ sym (suc-add (length (up_to f xs)) (length (up_to f ys)))

-- what the list comes to
abbrev cut : List (Pat × Pat) → Compared
cut l = record { clash = any clashes l; pairs = length (up_to clashes l) }

clash_laid : (p q : Pat) → (compare p q).clash ≡ any clashes (laid p q)
clash_laid (pvar n) q = refl
clash_laid (pleaf l) (pvar m) = refl
clash_laid (pleaf l) (pleaf k) = refl
clash_laid (pleaf l) (pinj t q) = refl
clash_laid (pleaf l) (pnode k q q') = once_any (clash_leaf l k)
clash_laid (pinj s p) (pvar m) = refl
clash_laid (pinj s p) (pleaf k) = refl
clash_laid (pinj left p) (pinj left q) = clash_laid p q
clash_laid (pinj left p) (pinj right q) = refl
clash_laid (pinj right p) (pinj left q) = refl
clash_laid (pinj right p) (pinj right q) = clash_laid p q
clash_laid (pinj s p) (pnode k q q') = refl
clash_laid (pnode k p p') (pvar m) = refl
clash_laid (pnode k p p') (pleaf l) = once_any (clash_leaf l k)
clash_laid (pnode k p p') (pinj t q) = refl
clash_laid (pnode pair_node p p') (pnode pair_node q q') =
    then_clash (compare p q).clash (compare p q).pairs (compare p' q')
    ∙ ap₂ (λ x y. x || y) (clash_laid p q) (clash_laid p' q')
    ∙ sym (any_append clashes (laid p q) (laid p' q'))
clash_laid (pnode pair_node p p') (pnode element_node q q') = refl
clash_laid (pnode element_node p p') (pnode pair_node q q') = refl
clash_laid (pnode element_node p p') (pnode element_node q q') =
    then_clash (compare p q).clash (compare p q).pairs (compare p' q')
    ∙ ap₂ (λ x y. x || y) (clash_laid p q) (clash_laid p' q')
    ∙ sym (any_append clashes (laid p q) (laid p' q'))

pairs_laid : (p q : Pat) → (compare p q).pairs ≡ length (up_to clashes (laid p q))
pairs_laid (pvar n) q = refl
pairs_laid (pleaf l) (pvar m) = refl
pairs_laid (pleaf l) (pleaf k) = refl
pairs_laid (pleaf l) (pinj t q) = refl
pairs_laid (pleaf l) (pnode k q q') = once_laid (clash_leaf l k) (pleaf l, pnode k q q')
pairs_laid (pinj s p) (pvar m) = refl
pairs_laid (pinj s p) (pleaf k) = refl
pairs_laid (pinj left p) (pinj left q) = omega (arith, pairs_laid p q)
pairs_laid (pinj left p) (pinj right q) = refl
pairs_laid (pinj right p) (pinj left q) = refl
pairs_laid (pinj right p) (pinj right q) = omega (arith, pairs_laid p q)
pairs_laid (pinj s p) (pnode k q q') = refl
pairs_laid (pnode k p p') (pvar m) = refl
pairs_laid (pnode k p p') (pleaf l) = once_laid (clash_leaf l k) (pnode k p p', pleaf l)
pairs_laid (pnode k p p') (pinj t q) = refl
pairs_laid (pnode pair_node p p') (pnode pair_node q q') =
    let both : (and_then (compare p q) (compare p' q')).pairs ≡ (and_then (cut (laid p q)) (cut (laid p' q'))).pairs =
    λ i. (and_then (record { clash = clash_laid p q i; pairs = pairs_laid p q i }) (record { clash = clash_laid p' q' i; pairs = pairs_laid p' q' i })).pairs in
    omega (
      arith,
      both
          ∙ then_pairs (any clashes (laid p q)) (length (up_to clashes (laid p q))) (cut (laid p' q'))
          ∙ sym (up_to_append clashes (laid p q) (laid p' q')),
    )
pairs_laid (pnode pair_node p p') (pnode element_node q q') = refl
pairs_laid (pnode element_node p p') (pnode pair_node q q') = refl
pairs_laid (pnode element_node p p') (pnode element_node q q') =
    let both : (and_then (compare p q) (compare p' q')).pairs ≡ (and_then (cut (laid p q)) (cut (laid p' q'))).pairs =
    λ i. (and_then (record { clash = clash_laid p q i; pairs = pairs_laid p q i }) (record { clash = clash_laid p' q' i; pairs = pairs_laid p' q' i })).pairs in
    omega (
      arith,
      both
          ∙ then_pairs (any clashes (laid p q)) (length (up_to clashes (laid p q))) (cut (laid p' q'))
          ∙ sym (up_to_append clashes (laid p q) (laid p' q')),
    )

pub compare_laid : (p q : Pat) → compare p q ≡ cut (laid p q)
compare_laid p q = λ i. record { clash = clash_laid p q i; pairs = pairs_laid p q i }

-- without a clash it is the number of all nodes laid on each other
pub compare_whole : (p q : Pat) → (compare p q).clash ≡ false → (compare p q).pairs ≡ length (laid p q)
compare_whole p q e = pairs_laid p q ∙ up_to_all clashes (laid p q) (sym (clash_laid p q) ∙ e)
