-- Orthogonal patterns: no closed value has the shape of both.
use Prim.Native.Nat.{ℕ}
use mathlib.Core.Path.{◌≡◌, refl, sym, ap₂, subst}
use mathlib.Core.Bool.{true≢false, ◌||◌}
use mathlib.Core.List.{List, ◌∷◌, Memᴰ}
use Rattle.calculus.specs.Trees.{Tag, left, right, Leaf, Node, pair_node, element_node, Pat, pleaf, pvar, pinj, pnode, Val, vleaf, vinj, vnode}
use Rattle.calculus.specs.Paper.{Orth, Apart, fill, Matched}
use Rattle.calculus.specs.Clauses.{clash}

-- a value has the shape of a pattern, whose variables are taken for blanks
pub data Alike : Pat → Val → Type 0 where
  leaf : {l k : Leaf} → l ≡ k → Alike (pleaf l) (vleaf k)
  var : {n : ℕ} {v : Val} → Alike (pvar n) v
  inj : {s t : Tag} {p : Pat} {v : Val} → s ≡ t → Alike p v → Alike (pinj s p) (vinj t v)
  node : {k m : Node} {p q : Pat} {v w : Val} → k ≡ m → Alike p v → Alike q w → Alike (pnode k p q) (vnode m v w)

fill_alike : (χ : ℕ → Val) (p : Pat) → Alike p (fill χ p)
fill_alike χ (pleaf l) = Alike.leaf refl
fill_alike χ (pvar n) = Alike.var
fill_alike χ (pinj t p) = Alike.inj refl (fill_alike χ p)
fill_alike χ (pnode k p q) = Alike.node refl (fill_alike χ p) (fill_alike χ q)

pub matched_alike : {p : Pat} {v : Val} → Matched p v → Alike p v
matched_alike {p} m = subst (Alike p) m.turns (fill_alike m.choice p)

pub orth_sym : {p q : Pat} → Orth p q → Orth q p
orth_sym Orth.left_right = Orth.right_left
orth_sym Orth.right_left = Orth.left_right
orth_sym Orth.nil_cons = Orth.cons_nil
orth_sym Orth.cons_nil = Orth.nil_cons
orth_sym (Orth.under r o) = Orth.under (sym r) (orth_sym o)
orth_sym (Orth.fst r o) = Orth.fst (sym r) (orth_sym o)
orth_sym (Orth.snd r o) = Orth.snd (sym r) (orth_sym o)

pub orth_alike : {p q : Pat} {v : Val} → Orth p q → Alike p v → Alike q v → ⊥
orth_alike Orth.left_right (Alike.inj e m) (Alike.inj f n) = true≢false cc
orth_alike Orth.right_left (Alike.inj e m) (Alike.inj f n) = true≢false cc
orth_alike Orth.nil_cons (Alike.leaf e) n = elim n [ ]
orth_alike Orth.cons_nil (Alike.node e m m') n = elim n [ ]
orth_alike (Orth.under s o) (Alike.inj e m) (Alike.inj f n) = orth_alike o m n
orth_alike (Orth.fst s o) (Alike.node e m m') (Alike.node f n n') = orth_alike o m n
orth_alike (Orth.snd s o) (Alike.node e m m') (Alike.node f n n') = orth_alike o m' n'

-- no closed value is matched by two orthogonal patterns
pub orth_apart : {p q : Pat} {v : Val} → Orth p q → Matched p v → Matched q v → ⊥
orth_apart o m n = orth_alike o (matched_alike m) (matched_alike n)

pub apart_head : {p : Pat} {ps : List Pat} → Apart (p ∷ ps) → (q : Pat) → Memᴰ q ps → Orth p q
apart_head (Apart.beside h a) = h

pub apart_tail : {p : Pat} {ps : List Pat} → Apart (p ∷ ps) → Apart ps
apart_tail (Apart.beside h a) = a

-- the test, the other way round
pub clash_sym : (p q : Pat) → clash p q ≡ clash q p
clash_sym (pvar n) (pvar m) = refl
clash_sym (pvar n) (pleaf k) = refl
clash_sym (pvar n) (pinj t q) = refl
clash_sym (pvar n) (pnode k q q') = refl
clash_sym (pleaf l) (pvar m) = refl
clash_sym (pleaf l) (pleaf k) = refl
clash_sym (pleaf l) (pinj t q) = refl
clash_sym (pleaf l) (pnode k q q') = refl
clash_sym (pinj s p) (pvar m) = refl
clash_sym (pinj s p) (pleaf k) = refl
clash_sym (pinj left p) (pinj left q) = clash_sym p q
clash_sym (pinj left p) (pinj right q) = refl
clash_sym (pinj right p) (pinj left q) = refl
clash_sym (pinj right p) (pinj right q) = clash_sym p q
clash_sym (pinj s p) (pnode k q q') = refl
clash_sym (pnode m p p') (pvar n) = refl
clash_sym (pnode m p p') (pleaf l) = refl
clash_sym (pnode m p p') (pinj t q) = refl
clash_sym (pnode pair_node p p') (pnode pair_node q q') = ap₂ ◌||◌ (clash_sym p q) (clash_sym p' q')
clash_sym (pnode pair_node p p') (pnode element_node q q') = refl
clash_sym (pnode element_node p p') (pnode pair_node q q') = refl
clash_sym (pnode element_node p p') (pnode element_node q q') = ap₂ ◌||◌ (clash_sym p q) (clash_sym p' q')
