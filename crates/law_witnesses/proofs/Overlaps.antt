-- Request 09, 11 and 12: the least value that two patterns of a side match is the least value of any two of them together.
use Prim.Native.Nat.{ℕ, ◌*◌, ◌<◌, ◌≤◌}
use native.Mathlib.Nat.{one-mul, mul-one, zero-mul, mul-zero, le_trans, eq-or-lt_of_le}
use native.Mathlib.Omega.{arith}
use mathlib.Core.Path.{◌≡◌, refl, sym, ap, ap₂, ◌∙◌, subst}
use mathlib.Core.Logic.{◌⊎◌, inl, inr, ⊎_elim, ◌↔◌}
use mathlib.Core.Bool.{Bool, true, false, cond, ◌&&◌, false≢true}
use mathlib.Core.Option.{Option, none, some}
use mathlib.Core.List.{List, [], ◌∷◌, Memᴰ}
use lib.Dec.{leb}
use lib.ListN.{length, length-append}
use Rattle.limits.specs.Limits.{result_length}
use Rattle.calculus.specs.Tools.{◌>>=◌, guard, all}
use Rattle.calculus.specs.Trees.{Ty, tunit, tlist, tsum, tprod, Leaf, unit_leaf, empty_leaf, Tag, left, right, Node, pair_node, element_node, Pat, pvar, pleaf}
use Rattle.calculus.specs.Trees.{pinj, pnode, Val, vleaf, vinj, vnode, same_leaf, same_tag, same_node, part, vars}
use Rattle.calculus.specs.Letters.{node_letter, letter_of, letters}
use Rattle.calculus.specs.Clauses.{clash, apart}
use Rattle.calculus.specs.Paper.{Of, Distinct}
use Rattle.calculus.specs.Hits.{hit, hits}
use Rattle.law_witnesses.specs.Showing.{sooner, Twice, here, there, twice, setting}
use Rattle.calculus.specs.Shapes.{Shape}
use Rattle.law_witnesses.specs.Seeking.{shorter, least, least_in, meet, better, in_both, overlap_with, overlap_in, fitting}
use Rattle.calculus.proofs.Basic.{none≢some, some_inj, not_some, leb_le, leb_false, ltb_lt, lt_ltb, neither, same_tag_refl, same_node_refl}
use Rattle.calculus.proofs.Letters.{letters_some}
use Rattle.calculus.proofs.Covering.{hit_le, matched_hit, hit_matched, factors}
use Rattle.law_witnesses.proofs.Shortlex.{NotAfter, fewer, earlier, lower, not_after_refl, not_after_trans, not_after_under, not_after_append}
use Rattle.law_witnesses.proofs.Shortlex.{not_after_length, not_after_sooner, sooner_not_after, total_order}
use Rattle.law_witnesses.proofs.Spelling.{setting_least, least_setting}

-- ---- the least value of a type

left_right : letter_of left < letter_of right
left_right = omega arith

abbrev First : Val → Val → Type 0
First v w = NotAfter (letters v) (letters w)

shorter_of : (a b : Ty) (v w : Val) → Of v a → Of w b → Of (shorter v w) (tsum a b)
shorter_of a b v w h k = go (leb (length (letters v)) (length (letters w)))
  where
    go : (c : Bool) → Of (cond c (vinj left v) (vinj right w)) (tsum a b)
    go true = Of.inj h
    go false = Of.inj k

shorter_first : (a b : Ty) (v w : Val) → ((u : Val) → Of u a → First v u) → ((u : Val) → Of u b → First w u)
    → (u : Val) → Of u (tsum a b) → First (shorter v w) u
shorter_first a b v w h k = go (leb (length (letters v)) (length (letters w))) refl
  where
    go : (c : Bool) → leb (length (letters v)) (length (letters w)) ≡ c → (u : Val) → Of u (tsum a b) → First (cond c (vinj left v) (vinj right w)) u
    go true e (vinj left u) (Of.inj o) = not_after_under (letter_of left) (h u o)
    go true e (vinj right u) (Of.inj o) = at (eq-or-lt_of_le (le_trans (leb_le _ _ e) (not_after_length (k u o))))
      where
        at : (length (letters v) ≡ length (letters u)) ⊎ (length (letters v) < length (letters u)) → First (vinj left v) (vinj right u)
        at (inl d) = earlier (lower left_right d)
        at (inr d) = let l : length (letters (vinj left v)) < length (letters (vinj right u)) = omega arith in fewer l
    go false e (vinj left u) (Of.inj o) =
        let i = leb_false (length (letters v)) (length (letters w)) e in
        let j = not_after_length (h u o) in
        let l : length (letters (vinj right w)) < length (letters (vinj left u)) = omega arith in
        fewer l
    go false e (vinj right u) (Of.inj o) = not_after_under (letter_of right) (k u o)
    go false e (vleaf _) x4 = elim x4 [ ]
    go false e (vnode _ _ _) x7 = elim x7 [ ]
    go true e (vleaf _) x5 = elim x5 [ ]
    go true e (vnode _ _ _) x8 = elim x8 [ ]

node_first : (n : Node) (v w v' w' : Val) → First v v' → First w w' → First (vnode n v w) (vnode n v' w')
node_first n v w v' w' h k = not_after_under (node_letter n) (not_after_append h k)

-- an empty list has one letter, and comes before any element
nil_first : (v w : Val) → First (vleaf empty_leaf) (vnode element_node v w)
nil_first v w =
    let a = letters_some v in
    let n = length-append (letters v) (letters w) in
    let l : length (letters (vleaf empty_leaf)) < length (letters (vnode element_node v w)) = omega arith in
    fewer l

pub least_of : (a : Ty) → Of (least a) a
least_of tunit = Of.unit
least_of (tlist a) = Of.nil
least_of (tsum a b) = shorter_of a b (least a) (least b) (least_of a) (least_of b)
least_of (tprod a b) = Of.pair (least_of a) (least_of b)

pub least_first : (a : Ty) (w : Val) → Of w a → First (least a) w
least_first tunit w Of.unit = not_after_refl (letters (vleaf unit_leaf))
least_first (tlist a) w Of.nil = not_after_refl (letters (vleaf empty_leaf))
least_first (tlist a) w (Of.cons {v = u} {w = u'} h k) = nil_first u u'
least_first (tsum a b) w o = shorter_first a b (least a) (least b) (least_first a) (least_first b) w o
least_first (tprod a b) w (Of.pair {v = u} {w = u'} h k) = node_first pair_node (least a) (least b) u u' (least_first a u h) (least_first b u' k)

-- ---- the least value of a pattern

pub least_in_of : {p : Pat} {a : Ty} → Shape p a → Of (least_in p a) a
least_in_of Shape.unit = Of.unit
least_in_of Shape.nil = Of.nil
least_in_of (Shape.var {a = a}) = least_of a
least_in_of (Shape.inj h) = Of.inj (least_in_of h)
least_in_of (Shape.pair h k) = Of.pair (least_in_of h) (least_in_of k)
least_in_of (Shape.cons h k) = Of.cons (least_in_of h) (least_in_of k)

least_in_hit : {p : Pat} {a : Ty} → Shape p a → hit p (least_in p a) ≡ 1
least_in_hit Shape.unit = refl
least_in_hit Shape.nil = refl
least_in_hit Shape.var = refl
least_in_hit (Shape.inj {t} {p} {a} {b} h) = ap (λ c. cond c (hit p (least_in p (part t a b))) 0) (same_tag_refl t) ∙ least_in_hit h
least_in_hit (Shape.pair h k) = ap₂ ◌*◌ (least_in_hit h) (least_in_hit k)
least_in_hit (Shape.cons h k) = ap₂ ◌*◌ (least_in_hit h) (least_in_hit k)

least_in_first : {p : Pat} {a : Ty} → Shape p a → (w : Val) → Of w a → hit p w ≡ 1 → First (least_in p a) w
least_in_first Shape.unit w Of.unit e = not_after_refl (letters (vleaf unit_leaf))
least_in_first Shape.nil w Of.nil e = not_after_refl (letters (vleaf empty_leaf))
least_in_first Shape.nil w (Of.cons h k) e = absurd (omega arith)
least_in_first (Shape.var {a = a}) w o e = least_first a w o
least_in_first (Shape.inj {t = left} h) w (Of.inj {t = left} {v = u} o) e = not_after_under (letter_of left) (least_in_first h u o e)
least_in_first (Shape.inj {t = left} h) w (Of.inj {t = right} o) e = absurd (omega arith)
least_in_first (Shape.inj {t = right} h) w (Of.inj {t = left} o) e = absurd (omega arith)
least_in_first (Shape.inj {t = right} h) w (Of.inj {t = right} {v = u} o) e = not_after_under (letter_of right) (least_in_first h u o e)
least_in_first (Shape.pair {p} {q} {a} {b} h k) w (Of.pair {v = u} {w = u'} o o') e =
    let f = factors (hit p u) (hit q u') (hit_le p u) e in
    node_first pair_node (least_in p a) (least_in q b) u u' (least_in_first h u o f.0) (least_in_first k u' o' f.1)
least_in_first (Shape.cons h k) w Of.nil e = absurd (omega arith)
least_in_first (Shape.cons {p} {q} {a} h k) w (Of.cons {v = u} {w = u'} o o') e =
    let f = factors (hit p u) (hit q u') (hit_le p u) e in
    node_first element_node (least_in p a) (least_in q (tlist a)) u u' (least_in_first h u o f.0) (least_in_first k u' o' f.1)

-- ---- two patterns

abbrev hit_in : Option Pat → Val → ℕ
hit_in none v = 0
hit_in (some r) v = hit r v

abbrev injected : Tag → Option Pat → Option Pat
injected s x = x >>= λ r. some (pinj s r)

abbrev paired : Node → Option Pat → Option Pat → Option Pat
paired m x y = x >>= λ r. y >>= λ r'. some (pnode m r r')

tags_hit : (s t u : Tag) (x : Option Pat) (m n : ℕ) (v : Val) → hit_in x v ≡ m * n
    → hit_in (cond (same_tag s t) (injected s x) none) (vinj u v) ≡ cond (same_tag s u) m 0 * cond (same_tag t u) n 0
tags_hit left left left none m n v e = e
tags_hit left left left (some r) m n v e = e
tags_hit left left right none m n v e = refl
tags_hit left left right (some r) m n v e = refl
tags_hit left right left x m n v e = sym (mul-zero m)
tags_hit left right right x m n v e = sym (zero-mul n)
tags_hit right left left x m n v e = sym (zero-mul n)
tags_hit right left right x m n v e = sym (mul-zero m)
tags_hit right right left none m n v e = refl
tags_hit right right left (some r) m n v e = refl
tags_hit right right right none m n v e = e
tags_hit right right right (some r) m n v e = e

-- of a value that begins otherwise
injected_other : (s : Tag) (b : Bool) (x : Option Pat) (v : Val) → ((r : Pat) → hit (pinj s r) v ≡ 0) → hit_in (cond b (injected s x) none) v ≡ 0
injected_other s true none v h = refl
injected_other s true (some r) v h = h r
injected_other s false x v h = refl

paired_other : (m : Node) (b : Bool) (x y : Option Pat) (v : Val) → ((r r' : Pat) → hit (pnode m r r') v ≡ 0) → hit_in (cond b (paired m x y) none) v ≡ 0
paired_other m true none y v h = refl
paired_other m true (some r) none v h = refl
paired_other m true (some r) (some r') v h = h r r'
paired_other m false x y v h = refl

paired_hit : (m : Node) (x y : Option Pat) (v w : Val) → hit_in (paired m x y) (vnode m v w) ≡ hit_in x v * hit_in y w
paired_hit m none y v w = sym (zero-mul (hit_in y w))
paired_hit m (some r) none v w = sym (mul-zero (hit r v))
paired_hit m (some r) (some r') v w = ap (λ b. cond b (hit r v * hit r' w) 0) (same_node_refl m)

nodes_hit : (m k j : Node) (x y : Option Pat) (a b : ℕ) (v w : Val) → hit_in x v * hit_in y w ≡ a * b
    → hit_in (cond (same_node m k) (paired m x y) none) (vnode j v w) ≡ cond (same_node m j) a 0 * cond (same_node k j) b 0
nodes_hit pair_node pair_node pair_node x y a b v w e = paired_hit pair_node x y v w ∙ e
nodes_hit pair_node pair_node element_node x y a b v w e = paired_other pair_node true x y (vnode element_node v w) (λ r r'. refl)
nodes_hit pair_node element_node pair_node x y a b v w e = sym (mul-zero a)
nodes_hit pair_node element_node element_node x y a b v w e = sym (zero-mul b)
nodes_hit element_node pair_node pair_node x y a b v w e = sym (zero-mul b)
nodes_hit element_node pair_node element_node x y a b v w e = sym (mul-zero a)
nodes_hit element_node element_node pair_node x y a b v w e = paired_other element_node true x y (vnode pair_node v w) (λ r r'. refl)
nodes_hit element_node element_node element_node x y a b v w e = paired_hit element_node x y v w ∙ e

leaves_hit : (l k j : Leaf) → hit_in (cond (same_leaf l k) (some (pleaf l)) none) (vleaf j) ≡ hit (pleaf l) (vleaf j) * hit (pleaf k) (vleaf j)
leaves_hit unit_leaf unit_leaf unit_leaf = refl
leaves_hit unit_leaf unit_leaf empty_leaf = refl
leaves_hit unit_leaf empty_leaf unit_leaf = refl
leaves_hit unit_leaf empty_leaf empty_leaf = refl
leaves_hit empty_leaf unit_leaf unit_leaf = refl
leaves_hit empty_leaf unit_leaf empty_leaf = refl
leaves_hit empty_leaf empty_leaf unit_leaf = refl
leaves_hit empty_leaf empty_leaf empty_leaf = refl

leaves_other : (b : Bool) (l : Leaf) (v : Val) → hit (pleaf l) v ≡ 0 → hit_in (cond b (some (pleaf l)) none) v ≡ 0
leaves_other true l v h = h
leaves_other false l v h = refl

swap_middle : (a b c d : ℕ) → a * b * (c * d) ≡ a * c * (b * d)
swap_middle a b c d = omega arith

-- both match where their meet does
pub meet_hit : (p q : Pat) (v : Val) → hit_in (meet p q) v ≡ hit p v * hit q v
meet_hit (pvar n) q v = sym (one-mul (hit q v))
meet_hit (pleaf l) (pvar m) v = sym (mul-one (hit (pleaf l) v))
meet_hit (pleaf l) (pleaf k) (vleaf j) = leaves_hit l k j
meet_hit (pleaf l) (pleaf k) (vinj u v) = leaves_other (same_leaf l k) l (vinj u v) refl
meet_hit (pleaf l) (pleaf k) (vnode j v w) = leaves_other (same_leaf l k) l (vnode j v w) refl
meet_hit (pleaf l) (pinj t q) (vleaf j) = sym (mul-zero (hit (pleaf l) (vleaf j)))
meet_hit (pleaf l) (pinj t q) (vinj u v) = sym (zero-mul (hit (pinj t q) (vinj u v)))
meet_hit (pleaf l) (pinj t q) (vnode j v w) = refl
meet_hit (pleaf l) (pnode k q q') (vleaf j) = sym (mul-zero (hit (pleaf l) (vleaf j)))
meet_hit (pleaf l) (pnode k q q') (vinj u v) = refl
meet_hit (pleaf l) (pnode k q q') (vnode j v w) = sym (zero-mul (hit (pnode k q q') (vnode j v w)))
meet_hit (pinj s p) (pvar m) v = sym (mul-one (hit (pinj s p) v))
meet_hit (pinj s p) (pleaf k) (vleaf j) = sym (zero-mul (hit (pleaf k) (vleaf j)))
meet_hit (pinj s p) (pleaf k) (vinj u v) = sym (mul-zero (hit (pinj s p) (vinj u v)))
meet_hit (pinj s p) (pleaf k) (vnode j v w) = refl
meet_hit (pinj s p) (pinj t q) (vleaf j) = injected_other s (same_tag s t) (meet p q) (vleaf j) (λ r. refl)
meet_hit (pinj s p) (pinj t q) (vinj u v) = tags_hit s t u (meet p q) (hit p v) (hit q v) v (meet_hit p q v)
meet_hit (pinj s p) (pinj t q) (vnode j v w) = injected_other s (same_tag s t) (meet p q) (vnode j v w) (λ r. refl)
meet_hit (pinj s p) (pnode k q q') (vleaf j) = refl
meet_hit (pinj s p) (pnode k q q') (vinj u v) = sym (mul-zero (hit (pinj s p) (vinj u v)))
meet_hit (pinj s p) (pnode k q q') (vnode j v w) = sym (zero-mul (hit (pnode k q q') (vnode j v w)))
meet_hit (pnode m p p') (pvar n) v = sym (mul-one (hit (pnode m p p') v))
meet_hit (pnode m p p') (pleaf k) (vleaf j) = sym (zero-mul (hit (pleaf k) (vleaf j)))
meet_hit (pnode m p p') (pleaf k) (vinj u v) = refl
meet_hit (pnode m p p') (pleaf k) (vnode j v w) = sym (mul-zero (hit (pnode m p p') (vnode j v w)))
meet_hit (pnode m p p') (pinj t q) (vleaf j) = refl
meet_hit (pnode m p p') (pinj t q) (vinj u v) = sym (zero-mul (hit (pinj t q) (vinj u v)))
meet_hit (pnode m p p') (pinj t q) (vnode j v w) = sym (mul-zero (hit (pnode m p p') (vnode j v w)))
meet_hit (pnode m p p') (pnode k q q') (vleaf j) = paired_other m (same_node m k) (meet p q) (meet p' q') (vleaf j) (λ r r'. refl)
meet_hit (pnode m p p') (pnode k q q') (vinj u v) = paired_other m (same_node m k) (meet p q) (meet p' q') (vinj u v) (λ r r'. refl)
meet_hit (pnode m p p') (pnode k q q') (vnode j v w) =
    nodes_hit m k j (meet p q) (meet p' q') (hit p v * hit p' w) (hit q v * hit q' w) v w
    (ap₂ ◌*◌ (meet_hit p q v) (meet_hit p' q' w) ∙ swap_middle (hit p v) (hit q v) (hit p' w) (hit q' w))

-- a meet fits where both do; patterns that fit one type have a meet or clash
injected_shape : (s : Tag) (a b : Ty) (x : Option Pat) (r : Pat) → ((q : Pat) → x ≡ some q → Shape q (part s a b)) → injected s x ≡ some r → Shape r (tsum a b)
injected_shape s a b none r h e = absurd (none≢some e)
injected_shape s a b (some q) r h e = subst (λ x. Shape x (tsum a b)) (some_inj e) (Shape.inj (h q refl))

paired_shape : (m : Node) (a b c : Ty) (x y : Option Pat) (r : Pat) → ((q q' : Pat) → Shape q a → Shape q' b → Shape (pnode m q q') c)
    → ((q : Pat) → x ≡ some q → Shape q a) → ((q : Pat) → y ≡ some q → Shape q b) → paired m x y ≡ some r → Shape r c
paired_shape m a b c none y r f h k e = absurd (none≢some e)
paired_shape m a b c (some q) none r f h k e = absurd (none≢some e)
paired_shape m a b c (some q) (some q') r f h k e = subst (λ x. Shape x c) (some_inj e) (f q q' (h q refl) (k q' refl))

itself : {p r : Pat} {a : Ty} → Shape p a → ◌≡◌ {A = Option Pat} (some p) (some r) → Shape r a
itself {a = a} h e = subst (λ x. Shape x a) (some_inj e) h

pub meet_shape : {p q : Pat} {a : Ty} → Shape p a → Shape q a → (r : Pat) → meet p q ≡ some r → Shape r a
meet_shape Shape.var k r e = itself k e
meet_shape Shape.unit Shape.unit r e = itself Shape.unit e
meet_shape Shape.unit Shape.var r e = itself Shape.unit e
meet_shape Shape.nil Shape.nil r e = itself Shape.nil e
meet_shape Shape.nil Shape.var r e = itself Shape.nil e
meet_shape Shape.nil (Shape.cons k k') r e = absurd (none≢some e)
meet_shape (Shape.inj h) Shape.var r e = itself (Shape.inj h) e
meet_shape (Shape.inj {t = left} {p} {a} {b} h) (Shape.inj {t = left} {p = q} k) r e = injected_shape left a b (meet p q) r (meet_shape h k) e
meet_shape (Shape.inj {t = left} h) (Shape.inj {t = right} k) r e = absurd (none≢some e)
meet_shape (Shape.inj {t = right} h) (Shape.inj {t = left} k) r e = absurd (none≢some e)
meet_shape (Shape.inj {t = right} {p} {a} {b} h) (Shape.inj {t = right} {p = q} k) r e = injected_shape right a b (meet p q) r (meet_shape h k) e
meet_shape (Shape.pair h h') Shape.var r e = itself (Shape.pair h h') e
meet_shape (Shape.pair {p} {q = p'} {a} {b} h h') (Shape.pair {p = q} {q = q'} k k') r e =
    paired_shape pair_node a b (tprod a b) (meet p q) (meet p' q') r (λ x y. Shape.pair) (meet_shape h k) (meet_shape h' k') e
meet_shape (Shape.cons h h') Shape.var r e = itself (Shape.cons h h') e
meet_shape (Shape.cons h h') Shape.nil r e = absurd (none≢some e)
meet_shape (Shape.cons {p} {q = p'} {a} h h') (Shape.cons {p = q} {q = q'} k k') r e =
    paired_shape element_node a (tlist a) (tlist a) (meet p q) (meet p' q') r (λ x y. Shape.cons) (meet_shape h k) (meet_shape h' k') e

injected_some : (s : Tag) (x : Option Pat) → (r : Pat) × (x ≡ some r) → (r : Pat) × (injected s x ≡ some r)
injected_some s x h = (pinj s h.0, ap (injected s) h.1)

pub meet_some : {p q : Pat} {a : Ty} → Shape p a → Shape q a → clash p q ≡ false → (r : Pat) × (meet p q ≡ some r)
meet_some (Shape.var) (Shape.unit) e = (pleaf unit_leaf, refl)
meet_some (Shape.var) (Shape.nil) e = (pleaf empty_leaf, refl)
meet_some (Shape.var) (Shape.var {n = m}) e = (pvar m, refl)
meet_some (Shape.var) (Shape.inj {t} {p = q} k) e = (pinj t q, refl)
meet_some (Shape.var) (Shape.pair {p = q} {q = q'} k k') e = (pnode pair_node q q', refl)
meet_some (Shape.var) (Shape.cons {p = q} {q = q'} k k') e = (pnode element_node q q', refl)
meet_some Shape.unit Shape.unit e = (pleaf unit_leaf, refl)
meet_some Shape.unit Shape.var e = (pleaf unit_leaf, refl)
meet_some Shape.nil Shape.nil e = (pleaf empty_leaf, refl)
meet_some Shape.nil Shape.var e = (pleaf empty_leaf, refl)
meet_some Shape.nil (Shape.cons k k') e = absurd (false≢true (sym e))
meet_some (Shape.inj {t} {p} h) Shape.var e = (pinj t p, refl)
meet_some (Shape.inj {t = left} {p} h) (Shape.inj {t = left} {p = q} k) e = injected_some left (meet p q) (meet_some h k e)
meet_some (Shape.inj {t = left} h) (Shape.inj {t = right} k) e = absurd (false≢true (sym e))
meet_some (Shape.inj {t = right} h) (Shape.inj {t = left} k) e = absurd (false≢true (sym e))
meet_some (Shape.inj {t = right} {p} h) (Shape.inj {t = right} {p = q} k) e = injected_some right (meet p q) (meet_some h k e)
meet_some (Shape.pair {p} {q = p'} h h') Shape.var e = (pnode pair_node p p', refl)
meet_some (Shape.pair {p} {q = p'} h h') (Shape.pair {p = q} {q = q'} k k') e =
    let n = neither (clash p q) (clash p' q') e in
    let r = meet_some h k n.0 in
    let r' = meet_some h' k' n.1 in
    (pnode pair_node r.0 r'.0, ap₂ (paired pair_node) r.1 r'.1)
meet_some (Shape.cons {p} {q = p'} h h') Shape.var e = (pnode element_node p p', refl)
meet_some (Shape.cons h h') Shape.nil e = absurd (false≢true (sym e))
meet_some (Shape.cons {p} {q = p'} h h') (Shape.cons {p = q} {q = q'} k k') e =
    let n = neither (clash p q) (clash p' q') e in
    let r = meet_some h k n.0 in
    let r' = meet_some h' k' n.1 in
    (pnode element_node r.0 r'.0, ap₂ (paired element_node) r.1 r'.1)

-- ---- the best of several

-- x is the first of the values of a of which S holds, nothing where it holds of none
pub data Best (a : Ty) (S : Val → Type 0) : Option Val → Type 0 where
  best : {v : Val} → Of v a → S v → ((w : Val) → Of w a → S w → First v w) → Best a S (some v)
  without : ((w : Val) → Of w a → S w → ⊥) → Best a S none

better_best : (a : Ty) (S R : Val → Type 0) (x y : Option Val) → Best a S x → Best a R y → Best a (λ v. S v ⊎ R v) (better x y)
better_best a S R none none (without h) (without k) = without (λ w o s. ⊎_elim (h w o) (k w o) s)
better_best a S R none (some w) (without h) (best o r k) = best o (inr r) (λ u q s. ⊎_elim (λ t. absurd (h u q t)) (λ t. k u q t) s)
better_best a S R (some v) none (best o s h) (without k) = best o (inl s) (λ u q t. ⊎_elim (λ p. h u q p) (λ p. absurd (k u q p)) t)
better_best a S R (some v) (some w) (best o s h) (best o' r k) = go (sooner (letters w) (letters v)) refl
  where
    go : (c : Bool) → sooner (letters w) (letters v) ≡ c → Best a (λ u. S u ⊎ R u) (cond c (some w) (some v))
    go true e =
        let l = total_order (letters v) (letters w) e in
        best o' (inr r) (λ u q t. ⊎_elim (λ p. not_after_trans l (h u q p)) (λ p. k u q p) t)
    go false e =
        let l = sooner_not_after (letters v) (letters w) e in
        best o (inl s) (λ u q t. ⊎_elim (λ p. h u q p) (λ p. not_after_trans l (k u q p)) t)

-- two patterns match
abbrev Both : Pat → Pat → Val → Type 0
Both p q v = (hit p v ≡ 1) × (hit q v ≡ 1)

both_best : (a : Ty) (p q : Pat) → Shape p a → Shape q a → Best a (Both p q) (in_both a p q)
both_best a p q h k = go (meet p q) (meet_hit p q) (meet_shape h k)
  where
    go : (x : Option Pat) → ((v : Val) → hit_in x v ≡ hit p v * hit q v) → ((r : Pat) → x ≡ some r → Shape r a) → Best a (Both p q) (x >>= λ r. some (least_in r a))
    go none e s = without (λ w o b. let z : ◌≡◌ {A = ℕ} 0 1 = e w ∙ ap₂ ◌*◌ b.0 b.1 in absurd (omega arith))
    go (some r) e s =
        let f = factors (hit p (least_in r a)) (hit q (least_in r a)) (hit_le p (least_in r a)) (sym (e (least_in r a)) ∙ least_in_hit (s r refl)) in
        best (least_in_of (s r refl)) f (λ w o b. least_in_first (s r refl) w o (e w ∙ ap₂ ◌*◌ b.0 b.1))

abbrev Some : List Pat → Val → Type 0
Some [] v = ⊥
Some (q ∷ qs) v = (hit q v ≡ 1) ⊎ Some qs v

abbrev Two : List Pat → Val → Type 0
Two [] v = ⊥
Two (p ∷ ps) v = ((hit p v ≡ 1) × Some ps v) ⊎ Two ps v

retold : (a : Ty) (S R : Val → Type 0) → ((v : Val) → S v → R v) → ((v : Val) → R v → S v) → (x : Option Val) → Best a S x → Best a R x
retold a S R to back (some v) (best o s h) = best o (to v s) (λ w q r. h w q (back w r))
retold a S R to back none (without h) = without (λ w q r. h w q (back w r))

with_best : (a : Ty) (p : Pat) (qs : List Pat) → Shape p a → ((q : Pat) → Memᴰ q qs → Shape q a) → Best a (λ v. (hit p v ≡ 1) × Some qs v) (overlap_with a p qs)
with_best a p [] h s = without (λ w o b. b.1)
with_best a p (q ∷ qs) h s =
    retold a (λ v. Both p q v ⊎ ((hit p v ≡ 1) × Some qs v)) (λ v. (hit p v ≡ 1) × Some (q ∷ qs) v)
    (λ v. ⊎_elim (λ b. (b.0, inl b.1)) (λ b. (b.0, inr b.1)))
    (λ v b. ⊎_elim (λ t. inl (b.0, t)) (λ t. inr (b.0, t)) b.1)
    (overlap_with a p (q ∷ qs))
    (better_best a (Both p q) (λ v. (hit p v ≡ 1) × Some qs v) (in_both a p q) (overlap_with a p qs)
    (both_best a p q h (s q (Memᴰ.head refl)))
    (with_best a p qs h (λ r m. s r (Memᴰ.tail m))))

pub overlap_best : (a : Ty) (ps : List Pat) → ((p : Pat) → Memᴰ p ps → Shape p a) → Best a (Two ps) (overlap_in a ps)
overlap_best a [] s = without (λ w o b. b)
overlap_best a (p ∷ ps) s =
    better_best a (λ v. (hit p v ≡ 1) × Some ps v) (Two ps) (overlap_with a p ps) (overlap_in a ps)
    (with_best a p ps (s p (Memᴰ.head refl)) (λ q m. s q (Memᴰ.tail m)))
    (overlap_best a ps (λ q m. s q (Memᴰ.tail m)))

-- ---- counts

some_hits : (ps : List Pat) (v : Val) → Some ps v → 1 ≤ hits ps v
some_hits (p ∷ ps) v (inl e) = omega arith
some_hits (p ∷ ps) v (inr s) = let h = some_hits ps v s in omega arith
some_hits [] v x' = elim x' [ ]

two_hits : (ps : List Pat) (v : Val) → Two ps v → 1 < hits ps v
two_hits (p ∷ ps) v (inl b) = let h = some_hits ps v b.1 in let e = b.0 in omega arith
two_hits (p ∷ ps) v (inr t) = let h = two_hits ps v t in omega arith
two_hits [] v x' = elim x' [ ]

hits_some : (ps : List Pat) (v : Val) → 1 ≤ hits ps v → Some ps v
hits_some [] v h = absurd (omega arith)
hits_some (p ∷ ps) v h = go (eq-or-lt_of_le (hit_le p v)) (hits_some ps v)
  where
    go : (hit p v ≡ 1) ⊎ (hit p v < 1) → (1 ≤ hits ps v → Some ps v) → Some (p ∷ ps) v
    go (inl e) below = inl e
    go (inr l) below = inr (below (omega arith))

hits_two : (ps : List Pat) (v : Val) → 1 < hits ps v → Two ps v
hits_two [] v h = absurd (omega arith)
hits_two (p ∷ ps) v h = go (eq-or-lt_of_le (hit_le p v)) (hits_some ps v) (hits_two ps v)
  where
    go : (hit p v ≡ 1) ⊎ (hit p v < 1) → (1 ≤ hits ps v → Some ps v) → (1 < hits ps v → Two ps v) → Two (p ∷ ps) v
    go (inl e) some_below below = inl (e, some_below (omega arith))
    go (inr l) some_below below = inr (below (omega arith))

-- ---- the laws

-- 11 and 12: the least value of any two patterns, where it has at most 127 letters, is what the definition gives
pub overlap_setting : (a : Ty) (ps : List Pat) → ((p : Pat) → Memᴰ p ps → Shape p a) → fitting (overlap_in a ps) ≡ setting a (twice ps)
overlap_setting a ps s = go (overlap_in a ps) (overlap_best a ps s)
  where
    by : (v : Val) → Of v a → Two ps v → ((w : Val) → Of w a → Two ps w → First v w) → (b : Bool) → leb (length (letters v)) result_length ≡ b
        → (guard b >>= λ _. some v) ≡ setting a (twice ps)
    by v o t h true l =
        sym
        (least_setting a (twice ps) v
        (record { of = o; shows = lt_ltb (two_hits ps v t); first = λ w q e. not_after_sooner (h w q (hits_two ps w (ltb_lt 1 (hits ps w) e))) })
        (leb_le (length (letters v)) result_length l))
    by v o t h false l =
        sym
        (not_some (setting a (twice ps))
        (λ w e. let k = setting_least a (twice ps) w e in
        let x = not_after_length (h w k.0.of (hits_two ps w (ltb_lt 1 (hits ps w) k.0.shows))) in
        let y = leb_false (length (letters v)) result_length l in
        let z = k.1 in
        absurd (omega arith)))

    go : (x : Option Val) → Best a (Two ps) x → fitting x ≡ setting a (twice ps)
    go (some v) (best o t h) = by v o t h (leb (length (letters v)) result_length) refl
    go none (without h) =
        sym (not_some (setting a (twice ps)) (λ v e. let l = (setting_least a (twice ps) v e).0 in h v l.of (hits_two ps v (ltb_lt 1 (hits ps v) l.shows))))

-- where patterns are not orthogonal there is one
pub overlap_found : (a : Ty) (ps : List Pat) → ((p : Pat) → Memᴰ p ps → Shape p a) → apart ps ≡ false → (v : Val) × Of v a × (twice ps v ≡ true)
overlap_found a ps s e = let r = two ps s e in (r.0, r.1, lt_ltb (two_hits ps r.0 r.2))
  where
    one : (p : Pat) (qs : List Pat) → Shape p a → ((q : Pat) → Memᴰ q qs → Shape q a) → all (clash p) qs ≡ false → (v : Val) × Of v a × ((hit p v ≡ 1) × Some qs v)
    one p [] h s e = absurd (false≢true (sym e))
    one p (q ∷ qs) h s e = at (clash p q) refl e (one p qs h (λ r m. s r (Memᴰ.tail m)))
      where
        at : (b : Bool) → clash p q ≡ b → (b && all (clash p) qs) ≡ false → (all (clash p) qs ≡ false → (v : Val) × Of v a × ((hit p v ≡ 1) × Some qs v))
            → (v : Val) × Of v a × ((hit p v ≡ 1) × Some (q ∷ qs) v)
        at true c k below = let r = below k in (r.0, r.1, (r.2.0, inr r.2.1))
        at false c k below =
            let r = meet_some h (s q (Memᴰ.head refl)) c in
            let g = meet_shape h (s q (Memᴰ.head refl)) r.0 r.1 in
            let v = least_in r.0 a in
            let f = factors (hit p v) (hit q v) (hit_le p v) (sym (meet_hit p q v) ∙ ap (λ x. hit_in x v) r.1 ∙ least_in_hit g) in
            (v, least_in_of g, (f.0, inl f.1))

    two : (ps : List Pat) → ((p : Pat) → Memᴰ p ps → Shape p a) → apart ps ≡ false → (v : Val) × Of v a × Two ps v
    two [] s e = absurd (false≢true (sym e))
    two (p ∷ ps) s e = at (all (clash p) ps) refl e (two ps (λ q m. s q (Memᴰ.tail m)))
      where
        at : (b : Bool) → all (clash p) ps ≡ b → (b && apart ps) ≡ false → (apart ps ≡ false → (v : Val) × Of v a × Two ps v) → (v : Val) × Of v a × Two (p ∷ ps) v
        at true c k below = let r = below k in (r.0, r.1, inr r.2)
        at false c k below = let r = one p ps (s p (Memᴰ.head refl)) (λ q m. s q (Memᴰ.tail m)) c in (r.0, r.1, inl r.2)

-- "matched by two or more patterns"
some_mem : (ps : List Pat) (v : Val) → Some ps v → (q : Pat) × Memᴰ q ps × (hit q v ≡ 1)
some_mem (p ∷ ps) v (inl e) = (p, Memᴰ.head refl, e)
some_mem (p ∷ ps) v (inr s) = let r = some_mem ps v s in (r.0, Memᴰ.tail r.1, r.2)
some_mem [] v x' = elim x' [ ]

mem_some : {q : Pat} {ps : List Pat} (v : Val) → Memᴰ q ps → hit q v ≡ 1 → Some ps v
mem_some v (Memᴰ.head h) e = inl (ap (λ p. hit p v) (sym h) ∙ e)
mem_some v (Memᴰ.tail m) e = inr (mem_some v m e)

two_twice : (ps : List Pat) (v : Val) → ((p : Pat) → Memᴰ p ps → Distinct (vars p)) → Two ps v → Twice ps v
two_twice (p ∷ ps) v d (inl b) =
    let r = some_mem ps v b.1 in
    here r.0 (hit_matched (d p (Memᴰ.head refl)) b.0) r.1 (hit_matched (d r.0 (Memᴰ.tail r.1)) r.2)
two_twice (p ∷ ps) v d (inr t) = there (two_twice ps v (λ q m. d q (Memᴰ.tail m)) t)
two_twice [] v d x'' = elim x'' [ ]

twice_two : {ps : List Pat} {v : Val} → Twice ps v → Two ps v
twice_two (here {v = v} q m i n) = inl (matched_hit m, mem_some v i (matched_hit n))
twice_two (there t) = inr (twice_two t)

pub twice_iff : (ps : List Pat) → ((p : Pat) → Memᴰ p ps → Distinct (vars p)) → (v : Val) → (twice ps v ≡ true) ↔ Twice ps v
twice_iff ps d v = (λ e. two_twice ps v d (hits_two ps v (ltb_lt 1 (hits ps v) e)), λ t. lt_ltb (two_hits ps v (twice_two t)))
