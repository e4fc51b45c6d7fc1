-- The law of places: two patterns whose lefts and rights all stand at places of one type clash exactly when one has a left and the other a right
-- at the same place.
use Prim.Native.Nat.{ℕ, suc, ◌+◌, ◌≤◌, ◌<◌, max}
use native.Mathlib.Nat.{le_refl}
use native.Mathlib.Omega.{arith}
use mathlib.Core.Path.{◌≡◌, refl, sym, ap, ap₂, ◌∙◌}
use mathlib.Core.Bool.{Bool, true, false, ◌&&◌, ◌||◌, true≢false}
use mathlib.Core.List.{List, [], ◌∷◌, ◌++◌}
use lib.Dec.{eqb}
use borrow.Author.Tests.{eqb-true, eq-eqb, ne_eqb}
use Rattle.calculus.specs.Trees.{Ty, tunit, tlist, tsum, tprod, unit_leaf, empty_leaf, Tag, left, right, pair_node, element_node, Pat, pvar, pleaf, pinj, pnode, same_tag, part, tags}
use Rattle.calculus.specs.Clauses.{clash}
use Rattle.check_facts.specs.Facts.{width}
use Rattle.check_places.specs.Places.{flip, Mark, marks, shaped, member, meets}

-- ---- booleans

and_false : (b : Bool) → (b && false) ≡ false
and_false true = refl
and_false false = refl

or_false : (b : Bool) → (b || false) ≡ b
or_false true = refl
or_false false = refl

or_assoc : (a b c : Bool) → ((a || b) || c) ≡ (a || (b || c))
or_assoc true b c = refl
or_assoc false b c = refl

or_swap : (a b c d : Bool) → ((a || b) || (c || d)) ≡ ((a || c) || (b || d))
or_swap true b c d = refl
or_swap false true true d = refl
or_swap false true false d = refl
or_swap false false c d = refl

and_left : (a b : Bool) → (a && b) ≡ true → a ≡ true
and_left true b h = refl
and_left false b h = h

and_right : (a b : Bool) → (a && b) ≡ true → b ≡ true
and_right true b h = h
and_right false b h = absurd (true≢false (sym h))

eqb_self : (n : ℕ) → eqb n n ≡ true
eqb_self n = eq-eqb n n refl

-- ---- the places of marks

-- all places from lo on and below hi
pub data Between (lo hi : ℕ) : List Mark → Type 0 where
  none : Between lo hi []
  more : {n : ℕ} {t : Tag} {xs : List Mark} → lo ≤ n → n < hi → Between lo hi xs → Between lo hi ((n, t) ∷ xs)

pub wider : {lo hi l h : ℕ} {xs : List Mark} → l ≤ lo → hi ≤ h → Between lo hi xs → Between l h xs
wider a b none = none
wider a b (more {n = n} x y w) = more {n = n} (omega arith) (omega arith) (wider a b w)

joined : {lo hi : ℕ} {xs ys : List Mark} → Between lo hi xs → Between lo hi ys → Between lo hi (xs ++ ys)
joined none v = v
joined (more {n = n} x y w) v = more {n = n} x y (joined w v)

-- the places of the part below a left or a right are those of the sum
part_width : (t : Tag) (a b : Ty) → width (part t a b) ≤ max (width a) (width b)
part_width left a b = omega arith
part_width right a b = omega arith

pub marks_between : (p : Pat) (a : Ty) (n : ℕ) → Between n (n + width a) (marks p a n)
marks_between (pleaf l) a n = none
marks_between (pvar m) a n = none
marks_between (pinj t p) tunit n = none
marks_between (pinj t p) (tlist a) n = none
marks_between (pinj t p) (tsum a b) n =
    more (le_refl n) (omega arith) (wider (omega arith) (omega (arith, part_width t a b)) (marks_between p (part t a b) (suc n)))
marks_between (pinj t p) (tprod a b) n = none
marks_between (pnode pair_node p q) tunit n = none
marks_between (pnode pair_node p q) (tlist a) n = none
marks_between (pnode pair_node p q) (tsum a b) n = none
marks_between (pnode pair_node p q) (tprod a b) n =
    joined (wider (le_refl n) (omega arith) (marks_between p a n)) (wider (omega arith) (omega arith) (marks_between q b (n + width a)))
marks_between (pnode element_node p q) a n = none

-- a place that is not among them
below_not : {lo hi m : ℕ} (t : Tag) {xs : List Mark} → m < lo → Between lo hi xs → member m t xs ≡ false
below_not t h none = refl
below_not {m = m} t h (more {n = n} {t = s} {xs = xs} x y w) =
    ap (λ b. (b && same_tag t s) || member m t xs) (ne_eqb m n (λ e. omega arith)) ∙ below_not t h w

above_not : {lo hi m : ℕ} (t : Tag) {xs : List Mark} → hi ≤ m → Between lo hi xs → member m t xs ≡ false
above_not t h none = refl
above_not {m = m} t h (more {n = n} {t = s} {xs = xs} x y w) =
    ap (λ b. (b && same_tag t s) || member m t xs) (ne_eqb m n (λ e. omega arith)) ∙ above_not t h w

-- ---- two lists of marks

meets_none : (xs : List Mark) → meets xs [] ≡ false
meets_none [] = refl
meets_none (x ∷ xs) = meets_none xs

pub member_join : (n : ℕ) (t : Tag) (xs ys : List Mark) → member n t (xs ++ ys) ≡ (member n t xs || member n t ys)
member_join n t [] ys = refl
member_join n t (x ∷ xs) ys =
    ap (λ b. (eqb n x.0 && same_tag t x.1) || b) (member_join n t xs ys)
    ∙ sym (or_assoc (eqb n x.0 && same_tag t x.1) (member n t xs) (member n t ys))

meets_left : (xs ys zs : List Mark) → meets (xs ++ ys) zs ≡ (meets xs zs || meets ys zs)
meets_left [] ys zs = refl
meets_left (x ∷ xs) ys zs =
    ap (λ b. member x.0 (flip x.1) zs || b) (meets_left xs ys zs) ∙ sym (or_assoc (member x.0 (flip x.1) zs) (meets xs zs) (meets ys zs))

meets_right : (xs ys zs : List Mark) → meets xs (ys ++ zs) ≡ (meets xs ys || meets xs zs)
meets_right [] ys zs = refl
meets_right (x ∷ xs) ys zs =
    ap₂ (λ a b. a || b) (member_join x.0 (flip x.1) ys zs) (meets_right xs ys zs)
    ∙ or_swap (member x.0 (flip x.1) ys) (member x.0 (flip x.1) zs) (meets xs ys) (meets xs zs)

-- lists at different places do not meet
low_high : {lo k hi : ℕ} {xs ys : List Mark} → Between lo k xs → Between k hi ys → meets xs ys ≡ false
low_high none v = refl
low_high {ys = ys} (more {n = n} {t = t} {xs = xs} x y w) v = ap (λ b. b || meets xs ys) (below_not (flip t) y v) ∙ low_high w v

high_low : {lo k hi : ℕ} {xs ys : List Mark} → Between k hi xs → Between lo k ys → meets xs ys ≡ false
high_low none v = refl
high_low {ys = ys} (more {n = n} {t = t} {xs = xs} x y w) v = ap (λ b. b || meets xs ys) (above_not (flip t) x v) ∙ high_low w v

-- ---- a pattern without left and right

-- nothing clashes with a unit
unit_clash : (q : Pat) → clash (pleaf unit_leaf) q ≡ false
unit_clash (pvar m) = refl
unit_clash (pleaf l) = refl
unit_clash (pinj t q) = refl
unit_clash (pnode k q q') = refl

no_clash : (p q : Pat) → tags p ≡ 0 → clash p q ≡ false
no_clash (pleaf unit_leaf) q h = unit_clash q
no_clash (pleaf empty_leaf) q h = absurd (omega arith)
no_clash (pvar n) q h = refl
no_clash (pinj t p) q h = absurd (omega arith)
no_clash (pnode pair_node p p') (pleaf unit_leaf) h = refl
no_clash (pnode pair_node p p') (pleaf empty_leaf) h = refl
no_clash (pnode pair_node p p') (pvar m) h = refl
no_clash (pnode pair_node p p') (pinj t q) h = refl
no_clash (pnode pair_node p p') (pnode pair_node q q') h = ap₂ (λ a b. a || b) (no_clash p q (omega arith)) (no_clash p' q' (omega arith))
no_clash (pnode pair_node p p') (pnode element_node q q') h = refl
no_clash (pnode element_node p p') q h = absurd (omega arith)

pub tagless_shaped : (p : Pat) (a : Ty) → tags p ≡ 0 → shaped p a ≡ true
tagless_shaped (pleaf unit_leaf) a h = refl
tagless_shaped (pleaf empty_leaf) a h = absurd (omega arith)
tagless_shaped (pvar m) a h = refl
tagless_shaped (pinj t p) a h = absurd (omega arith)
tagless_shaped (pnode pair_node p q) tunit h = eq-eqb (tags (pnode pair_node p q)) 0 h
tagless_shaped (pnode pair_node p q) (tlist a) h = eq-eqb (tags (pnode pair_node p q)) 0 h
tagless_shaped (pnode pair_node p q) (tsum a b) h = eq-eqb (tags (pnode pair_node p q)) 0 h
tagless_shaped (pnode pair_node p q) (tprod a b) h = ap₂ (λ x y. x && y) (tagless_shaped p a (omega arith)) (tagless_shaped q b (omega arith))
tagless_shaped (pnode element_node p q) a h = absurd (omega arith)

pub tagless_marks : (p : Pat) (a : Ty) (n : ℕ) → tags p ≡ 0 → marks p a n ≡ []
tagless_marks (pleaf l) a n h = refl
tagless_marks (pvar m) a n h = refl
tagless_marks (pinj t p) a n h = absurd (omega arith)
tagless_marks (pnode pair_node p q) tunit n h = refl
tagless_marks (pnode pair_node p q) (tlist a) n h = refl
tagless_marks (pnode pair_node p q) (tsum a b) n h = refl
tagless_marks (pnode pair_node p q) (tprod a b) n h =
    ap₂ (λ x y. x ++ y) (tagless_marks p a n (omega arith)) (tagless_marks q b (n + width a) (omega arith))
tagless_marks (pnode element_node p q) a n h = refl

-- ---- the law

-- two lefts, or two rights, at the first place: the rest decides
same_first : {n hi : ℕ} (t : Tag) {xs ys : List Mark} → same_tag (flip t) t ≡ false → Between (suc n) hi xs → Between (suc n) hi ys
    → meets ((n, t) ∷ xs) ((n, t) ∷ ys) ≡ meets xs ys
same_first {n} {hi} t {xs} {ys} f v w =
    ap₂ (λ a b. a || b)
    (ap (λ b. (eqb n n && b) || member n (flip t) ys) f ∙ ap (λ b. b || member n (flip t) ys) (and_false (eqb n n)) ∙ below_not (flip t) (omega arith) w)
    (rest v)
  where
    rest : {zs : List Mark} → Between (suc n) hi zs → meets zs ((n, t) ∷ ys) ≡ meets zs ys
    rest none = refl
    rest (more {n = m} {t = s} {xs = zs} x y u) =
        ap₂ (λ a b. ((a && same_tag (flip s) t) || member m (flip s) ys) || b) (ne_eqb m n (λ e. omega arith)) (rest u)

-- a left and a right there
other_first : (n : ℕ) (t s : Tag) (xs ys : List Mark) → same_tag (flip t) s ≡ true → meets ((n, t) ∷ xs) ((n, s) ∷ ys) ≡ true
other_first n t s xs ys f =
    ap₂ (λ a b. ((a && b) || member n (flip t) ys) || meets xs ((n, s) ∷ ys)) (eqb_self n) f

pub clash_places : (p q : Pat) (a : Ty) (n : ℕ) → shaped p a ≡ true → shaped q a ≡ true → clash p q ≡ meets (marks p a n) (marks q a n)
clash_places (pleaf unit_leaf) q a n f g = unit_clash q
clash_places (pleaf empty_leaf) q a n f g = absurd (true≢false (sym f))
clash_places (pvar m) q a n f g = refl
clash_places (pinj s p) (pleaf l) a n f g = sym (meets_none (marks (pinj s p) a n))
clash_places (pinj s p) (pvar m) a n f g = sym (meets_none (marks (pinj s p) a n))
clash_places (pinj s p) (pinj t q) tunit n f g = absurd (true≢false (sym f))
clash_places (pinj s p) (pinj t q) (tlist a) n f g = absurd (true≢false (sym f))
clash_places (pinj left p) (pinj left q) (tsum a b) n f g =
    clash_places p q a (suc n) f g ∙ sym (same_first left refl (marks_between p a (suc n)) (marks_between q a (suc n)))
clash_places (pinj left p) (pinj right q) (tsum a b) n f g = sym (other_first n left right (marks p a (suc n)) (marks q b (suc n)) refl)
clash_places (pinj right p) (pinj left q) (tsum a b) n f g = sym (other_first n right left (marks p b (suc n)) (marks q a (suc n)) refl)
clash_places (pinj right p) (pinj right q) (tsum a b) n f g =
    clash_places p q b (suc n) f g ∙ sym (same_first right refl (marks_between p b (suc n)) (marks_between q b (suc n)))
clash_places (pinj s p) (pinj t q) (tprod a b) n f g = absurd (true≢false (sym f))
clash_places (pinj s p) (pnode pair_node q q') tunit n f g = refl
clash_places (pinj s p) (pnode pair_node q q') (tlist a) n f g = refl
clash_places (pinj s p) (pnode pair_node q q') (tsum a b) n f g = sym (meets_none (marks (pinj s p) (tsum a b) n))
clash_places (pinj s p) (pnode pair_node q q') (tprod a b) n f g = absurd (true≢false (sym f))
clash_places (pinj s p) (pnode element_node q q') a n f g = absurd (true≢false (sym g))
clash_places (pnode pair_node p p') (pleaf unit_leaf) a n f g = sym (meets_none (marks (pnode pair_node p p') a n))
clash_places (pnode pair_node p p') (pleaf empty_leaf) a n f g = absurd (true≢false (sym g))
clash_places (pnode pair_node p p') (pvar m) a n f g = sym (meets_none (marks (pnode pair_node p p') a n))
clash_places (pnode pair_node p p') (pinj t q) tunit n f g = refl
clash_places (pnode pair_node p p') (pinj t q) (tlist a) n f g = refl
clash_places (pnode pair_node p p') (pinj t q) (tsum a b) n f g = refl
clash_places (pnode pair_node p p') (pinj t q) (tprod a b) n f g = absurd (true≢false (sym g))
clash_places (pnode pair_node p p') (pnode pair_node q q') tunit n f g = no_clash (pnode pair_node p p') (pnode pair_node q q') (eqb-true (tags (pnode pair_node p p')) 0 f)
clash_places (pnode pair_node p p') (pnode pair_node q q') (tlist a) n f g = no_clash (pnode pair_node p p') (pnode pair_node q q') (eqb-true (tags (pnode pair_node p p')) 0 f)
clash_places (pnode pair_node p p') (pnode pair_node q q') (tsum a b) n f g = no_clash (pnode pair_node p p') (pnode pair_node q q') (eqb-true (tags (pnode pair_node p p')) 0 f)
clash_places (pnode pair_node p p') (pnode pair_node q q') (tprod a b) n f g =
    ap₂ (λ x y. x || y)
    (clash_places p q a n (and_left (shaped p a) (shaped p' b) f) (and_left (shaped q a) (shaped q' b) g))
    (clash_places p' q' b (n + width a) (and_right (shaped p a) (shaped p' b) f) (and_right (shaped q a) (shaped q' b) g))
    ∙ sym (cross (marks_between p a n) (marks_between q a n) (marks_between p' b (n + width a)) (marks_between q' b (n + width a)))
  where
    cross : {lo k hi : ℕ} {xs ys xs' ys' : List Mark} → Between lo k xs → Between lo k ys → Between k hi xs' → Between k hi ys'
        → meets (xs ++ xs') (ys ++ ys') ≡ (meets xs ys || meets xs' ys')
    cross {xs = xs} {ys = ys} {xs' = xs'} {ys' = ys'} v w v' w' =
        meets_left xs xs' (ys ++ ys')
        ∙ ap₂ (λ x y. x || y) (meets_right xs ys ys') (meets_right xs' ys ys')
        ∙ ap₂ (λ x y. (meets xs ys || x) || (y || meets xs' ys')) (low_high v w') (high_low v' w)
        ∙ ap (λ x. x || meets xs' ys') (or_false (meets xs ys))
clash_places (pnode pair_node p p') (pnode element_node q q') a n f g = absurd (true≢false (sym g))
clash_places (pnode element_node p p') q a n f g = absurd (true≢false (sym f))
