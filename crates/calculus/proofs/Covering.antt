-- The law of covering: pairwise orthogonal patterns that fit a type match every closed value of it exactly when they weigh 2^40
-- together. It holds with lists, whose closed values are infinitely many: `Matrix` has the induction.
use Prim.Native.Nat.{ℕ, ◌+◌, ◌*◌, ◌-◌, ◌^◌, ◌<◌, ◌≤◌}
use native.Mathlib.Nat.{one-mul, zero-mul, mul-le-mul, eq-or-lt_of_le, sub-add_cancel, ne_of_lt}
use native.Mathlib.Omega.{arith}
use mathlib.Core.Path.{◌≡◌, refl, sym, ap, ap₂, ◌∙◌, subst}
use mathlib.Core.Logic.{◌⊎◌, inl, inr, ◌↔◌}
use mathlib.Core.Bool.{Bool, true, false, cond, false≢true}
use mathlib.Core.List.Memᴰ
use mathlib.Core.List.{List, [], ◌∷◌, ◌++◌, map, map-map, Memᴰ}
use lib.Dec.{eqb}
use lib.Pow.{pow-add, pow_pos}
use Rattle.limits.specs.Limits.{max_tags}
use Rattle.calculus.specs.Tools.{total}
use Rattle.calculus.specs.Trees.{Ty, unit_leaf, Node, Pat, pvar, pleaf, pinj, pnode, Val, vleaf, vinj, vnode, tags, vars, same_tag, same_leaf, same_node}
use Rattle.calculus.specs.Clauses.{full_weight, elem}
use Rattle.calculus.specs.Paper.{Of, Orth, Apart, Distinct, Matched, fill, Covers}
use Rattle.calculus.proofs.Basic.{not_both, is_false, or_true, true_or_left, true_or_right, eqb_eq, eq_eqb, not_eqb, each_map}
use Rattle.calculus.specs.Hits.{hit, hits}
use Rattle.calculus.specs.Shapes.{Shape}
use Rattle.calculus.proofs.Basic.{same_tag_eq, eq_same_tag, same_leaf_eq, eq_same_leaf, same_node_eq, eq_same_node, distinct_left, distinct_right, distinct_across}
use Rattle.calculus.proofs.Orthogonal.{Alike, matched_alike, orth_alike}
use Rattle.calculus.proofs.Matrix.{tags_all, Shapes, Ofs, Alikes, Orths, Row, weights, ApartRows, Matrix, Outcome, dichotomy}

-- ---- the shape of a pattern

pub hit_le : (p : Pat) (v : Val) → hit p v ≤ 1
hit_le (pleaf l) (vleaf k) = go (same_leaf l k)
  where
    go : (b : Bool) → cond b 1 0 ≤ 1
    go true = omega arith
    go false = omega arith
hit_le (pleaf l) (vinj t v) = omega arith
hit_le (pleaf l) (vnode k v w) = omega arith
hit_le (pvar n) v = omega arith
hit_le (pinj s p) (vleaf k) = omega arith
hit_le (pinj s p) (vinj t v) = go (same_tag s t) (hit_le p v)
  where
    go : (b : Bool) → hit p v ≤ 1 → cond b (hit p v) 0 ≤ 1
    go true h = h
    go false h = omega arith
hit_le (pinj s p) (vnode k v w) = omega arith
hit_le (pnode m p q) (vleaf k) = omega arith
hit_le (pnode m p q) (vinj t v) = omega arith
hit_le (pnode m p q) (vnode k v w) = go (same_node m k) (mul-le-mul (hit_le p v) (hit_le q w))
  where
    go : (b : Bool) → hit p v * hit q w ≤ 1 → cond b (hit p v * hit q w) 0 ≤ 1
    go true h = h
    go false h = omega arith

-- both factors are 1
pub factors : (m n : ℕ) → m ≤ 1 → m * n ≡ 1 → (m ≡ 1) × (n ≡ 1)
factors m n l e = go (eq-or-lt_of_le l)
  where
    go : (m ≡ 1) ⊎ (m < 1) → (m ≡ 1) × (n ≡ 1)
    go (inl h) = (h, sym (one-mul n) ∙ ap (λ k. k * n) (sym h) ∙ e)
    go (inr h) = let z : m ≡ 0 = omega arith in let y = ap (λ k. k * n) z ∙ zero-mul n in absurd (omega arith)

-- the count is 1 exactly where the value has the shape of the pattern
hit_alike : (p : Pat) (v : Val) → hit p v ≡ 1 → Alike p v
hit_alike (pleaf l) (vleaf k) e = go (same_leaf l k) refl e
  where
    go : (b : Bool) → same_leaf l k ≡ b → ◌≡◌ {A = ℕ} (cond b 1 0) 1 → Alike (pleaf l) (vleaf k)
    go true h e = Alike.leaf (same_leaf_eq l k h)
    go false h e = absurd (omega arith)
hit_alike (pleaf l) (vinj t v) e = absurd (omega arith)
hit_alike (pleaf l) (vnode k v w) e = absurd (omega arith)
hit_alike (pvar n) v e = Alike.var
hit_alike (pinj s p) (vleaf k) e = absurd (omega arith)
hit_alike (pinj s p) (vinj t v) e = go (same_tag s t) refl e (hit_alike p v)
  where
    go : (b : Bool) → same_tag s t ≡ b → cond b (hit p v) 0 ≡ 1 → (hit p v ≡ 1 → Alike p v) → Alike (pinj s p) (vinj t v)
    go true h e below = Alike.inj (same_tag_eq s t h) (below e)
    go false h e below = absurd (omega arith)
hit_alike (pinj s p) (vnode k v w) e = absurd (omega arith)
hit_alike (pnode m p q) (vleaf k) e = absurd (omega arith)
hit_alike (pnode m p q) (vinj t v) e = absurd (omega arith)
hit_alike (pnode m p q) (vnode k v w) e = go (same_node m k) refl e (hit_alike p v) (hit_alike q w)
  where
    go : (b : Bool) → same_node m k ≡ b → cond b (hit p v * hit q w) 0 ≡ 1 → (hit p v ≡ 1 → Alike p v) → (hit q w ≡ 1 → Alike q w)
        → Alike (pnode m p q) (vnode k v w)
    go true h e f g = let r = factors (hit p v) (hit q w) (hit_le p v) e in Alike.node (same_node_eq m k h) (f r.0) (g r.1)
    go false h e f g = absurd (omega arith)

alike_hit : {p : Pat} {v : Val} → Alike p v → hit p v ≡ 1
alike_hit (Alike.leaf e) = ap (λ b. cond b 1 0) (eq_same_leaf e)
alike_hit Alike.var = refl
alike_hit (Alike.inj {p = p} {v = v} e m) = ap (λ b. cond b (hit p v) 0) (eq_same_tag e) ∙ alike_hit m
alike_hit (Alike.node {p = p} {q = q} {v = v} {w = w} e m k) =
    ap (λ b. cond b (hit p v * hit q w) 0) (eq_same_node e) ∙ ap₂ ◌*◌ (alike_hit m) (alike_hit k)

pub matched_hit : {p : Pat} {v : Val} → Matched p v → hit p v ≡ 1
matched_hit m = alike_hit (matched_alike m)

-- ---- orthogonal patterns count a value once

-- where one of two orthogonal patterns matches the other does not
other_misses : {p q : Pat} → Orth p q → (v : Val) → hit p v ≡ 1 → hit q v ≡ 0
other_misses {p} {q} o v e = go (eq-or-lt_of_le (hit_le q v))
  where
    go : (hit q v ≡ 1) ⊎ (hit q v < 1) → hit q v ≡ 0
    go (inl h) = absurd (orth_alike o (hit_alike p v e) (hit_alike q v h))
    go (inr l) = omega arith

all_miss : (ps : List Pat) (v : Val) → ((p : Pat) → Memᴰ p ps → hit p v ≡ 0) → hits ps v ≡ 0
all_miss [] v h = refl
all_miss (p ∷ ps) v h = ap₂ ◌+◌ (h p (Memᴰ.head refl)) (all_miss ps v (λ q m. h q (Memᴰ.tail m)))

pub hits_le : {ps : List Pat} → Apart ps → (v : Val) → hits ps v ≤ 1
hits_le Apart.alone v = omega arith
hits_le (Apart.beside {p} {ps} h r) v = go (eq-or-lt_of_le (hit_le p v)) (hits_le r v)
  where
    go : (hit p v ≡ 1) ⊎ (hit p v < 1) → hits ps v ≤ 1 → hit p v + hits ps v ≤ 1
    go (inl e) l = let z = all_miss ps v (λ q m. other_misses (h q m) v e) in omega arith
    go (inr e) l = omega arith

pub hit_le_hits : {p : Pat} {ps : List Pat} (v : Val) → Memᴰ p ps → hit p v ≤ hits ps v
hit_le_hits v (Memᴰ.head e) = let z = ap (λ q. hit q v) e in omega arith
hit_le_hits v (Memᴰ.tail m) = let l = hit_le_hits v m in omega arith

-- ---- blanks and variables

pub mem_elem : {n : ℕ} {ms : List ℕ} → Memᴰ n ms → elem n ms ≡ true
mem_elem {n} (Memᴰ.head {x} {xs} e) = true_or_left (elem n xs) (eq_eqb e)
mem_elem {n} (Memᴰ.tail {x} m) = true_or_right (eqb n x) (mem_elem m)

pub elem_mem : (n : ℕ) (ms : List ℕ) → elem n ms ≡ true → Memᴰ n ms
elem_mem n [] e = absurd (false≢true e)
elem_mem n (m ∷ ms) e = go (or_true (eqb n m) (elem n ms) e) (elem_mem n ms)
  where
    go : (eqb n m ≡ true) ⊎ (elem n ms ≡ true) → (elem n ms ≡ true → Memᴰ n ms) → Memᴰ n (m ∷ ms)
    go (inl h) below = Memᴰ.head (eqb_eq n m h)
    go (inr h) below = Memᴰ.tail (below h)

-- only the values of its own variables matter to a pattern
pub fill_ext : (p : Pat) {χ ψ : ℕ → Val} → ((n : ℕ) → Memᴰ n (vars p) → χ n ≡ ψ n) → fill χ p ≡ fill ψ p
fill_ext (pvar n) h = h n (Memᴰ.head refl)
fill_ext (pleaf l) h = refl
fill_ext (pinj t p) h = ap (vinj t) (fill_ext p h)
fill_ext (pnode k p q) h =
    ap₂ (vnode k) (fill_ext p (λ n m. h n (Memᴰ.append_left (vars q) m))) (fill_ext q (λ n m. h n (Memᴰ.append_right (vars p) m)))

node_matched : {o u : Node} {p q : Pat} {v w : Val} → o ≡ u → Distinct (vars p ++ vars q) → Matched p v → Matched q w → Matched (pnode o p q) (vnode u v w)
node_matched {o} {u} {p} {q} {v} {w} e d m k = record { choice = χ; turns = ap₂ (vnode o) (fill_ext p first ∙ m.turns) (fill_ext q second ∙ k.turns) ∙ ap (λ z. vnode z v w) e }
  where
    χ : ℕ → Val
    χ n = cond (elem n (vars p)) (m.choice n) (k.choice n)

    first : (n : ℕ) → Memᴰ n (vars p) → χ n ≡ m.choice n
    first n i = ap (λ b. cond b (m.choice n) (k.choice n)) (mem_elem i)

    second : (n : ℕ) → Memᴰ n (vars q) → χ n ≡ k.choice n
    second n i =
        ap
        (λ b. cond b (m.choice n) (k.choice n))
        (is_false (elem n (vars p)) (λ e. distinct_across (vars p) (vars q) d (elem_mem n (vars p) e) i))

-- a value of the shape of a pattern without repeated variables is matched by it
alike_matched : {p : Pat} {v : Val} → Alike p v → Distinct (vars p) → Matched p v
alike_matched (Alike.leaf e) d = record { choice = λ n. vleaf unit_leaf; turns = ap vleaf e }
alike_matched (Alike.var {v = v}) d = record { choice = λ m. v; turns = refl }
alike_matched (Alike.inj e m) d = let r = alike_matched m d in record { choice = r.choice; turns = ap₂ vinj e r.turns }
alike_matched (Alike.node {p = p} {q = q} e m k) d =
    node_matched e d (alike_matched m (distinct_left (vars p) (vars q) d)) (alike_matched k (distinct_right (vars p) (vars q) d))

-- for a pattern without repeated variables the count decides
pub hit_matched : {p : Pat} {v : Val} → Distinct (vars p) → hit p v ≡ 1 → Matched p v
hit_matched {p} {v} d e = alike_matched (hit_alike p v e) d

-- ---- the law

-- one column
abbrev alone : Pat → Row
alone p = record { weight = 2 ^ (max_tags - tags p); pats = p ∷ [] }

alone_apart : {ps : List Pat} → Apart ps → ApartRows (map alone ps)
alone_apart Apart.alone = ApartRows.alone
alone_apart (Apart.beside {p} {ps} h a) = ApartRows.beside (each_map (λ s. Orths (p ∷ []) s.pats) alone ps (λ q i. Orths.here (h q i))) (alone_apart a)

alone_weighs : (p : Pat) → tags p ≤ max_tags → 2 ^ (max_tags - tags p) * 2 ^ (tags p + 0) ≡ 2 ^ max_tags
alone_weighs p l =
    sym (pow-add 2 (max_tags - tags p) (tags p + 0)) ∙ ap (λ n. 2 ^ n) (ap (λ n. max_tags - tags p + n) zeroed ∙ sub-add_cancel l)
  where
    zeroed : tags p + 0 ≡ tags p
    zeroed = omega arith

-- a closed value of the type that no pattern matches
abbrev Gap : Ty → List Pat → Type 0
Gap a ps = (v : Val) × Of v a × ((p : Pat) → Memᴰ p ps → Matched p v → ⊥)

abbrev CoversOrGap : Ty → List Pat → Type 0
CoversOrGap a ps = ((full_weight ps ≡ true) × Covers a ps) ⊎ ((full_weight ps ≡ false) × Gap a ps)

covers_or_gap : (a : Ty) (ps : List Pat)
    → ((p : Pat) → Memᴰ p ps → Shape p a)
    → ((p : Pat) → Memᴰ p ps → Distinct (vars p))
    → ((p : Pat) → Memᴰ p ps → tags p ≤ max_tags)
    → Apart ps
    → CoversOrGap a ps
covers_or_gap a ps fits distinct light apart = go (dichotomy (2 ^ max_tags) (pow_pos max_tags) (a ∷ []) (map alone ps) matrix)
  where
    matrix : Matrix (2 ^ max_tags) (a ∷ []) (map alone ps)
    matrix = record {
      shapes = each_map (λ r. Shapes r.pats (a ∷ [])) alone ps (λ p i. Shapes.more (fits p i) Shapes.end);
      weighs = each_map (λ r. r.weight * 2 ^ tags_all r.pats ≡ 2 ^ max_tags) alone ps (λ p i. alone_weighs p (light p i));
      apart = alone_apart apart;
    }

    sum : weights (map alone ps) ≡ total (map (λ p. 2 ^ (max_tags - tags p)) ps)
    sum = ap total (map-map (λ r. r.weight) alone ps)

    first : {p : Pat} {v : Val} → Alikes (p ∷ []) (v ∷ []) → Alike p v
    first (Alikes.more x y) = x

    one : (p : Pat) → Memᴰ p ps → (v : Val) → Alike p v → (q : Pat) × Memᴰ q ps × Matched q v
    one p i v x = (p, i, alike_matched x (distinct p i))

    only : (P : Val → Type 0) (vs : List Val) → Ofs vs (a ∷ []) → ((v : Val) → Of v a → vs ≡ v ∷ [] → P v) → (v : Val) × Of v a × P v
    only P (v ∷ []) (Ofs.more o Ofs.end) f = (v, o, f v o refl)
    only P (v ∷ (w ∷ vs)) (Ofs.more o n) f = elim n [ ]
    only P [] x'' f = elim x'' [ ]

    go : Outcome (2 ^ max_tags) (a ∷ []) (map alone ps) → CoversOrGap a ps
    go (inl d) =
        inl (
          eq_eqb (sym sum ∙ d.0),
          λ v o. let r = d.1 (v ∷ []) (Ofs.more o Ofs.end) in
              each_map (λ s. Alikes s.pats (v ∷ []) → (q : Pat) × Memᴰ q ps × Matched q v) alone ps (λ p i x. one p i v (first x)) r.0 r.1 r.2,
        )
    go (inr d) =
        inr (
          not_eqb (ne_of_lt (subst (λ n. n < 2 ^ max_tags) sum d.0)),
          only (λ v. (p : Pat) → Memᴰ p ps → Matched p v → ⊥) d.1 d.2
              (λ v o e p i k. d.3 (alone p) (Memᴰ.map alone i) (subst (Alikes (p ∷ [])) (sym e) (Alikes.more (matched_alike k) Alikes.end))),
        )

-- 13 and 14: the test of the weights is the rule that every closed value is matched
pub covering : (a : Ty) (ps : List Pat)
    → ((p : Pat) → Memᴰ p ps → Shape p a)
    → ((p : Pat) → Memᴰ p ps → Distinct (vars p))
    → ((p : Pat) → Memᴰ p ps → tags p ≤ max_tags)
    → Apart ps
    → (full_weight ps ≡ true) ↔ Covers a ps
covering a ps fits distinct light apart = go (covers_or_gap a ps fits distinct light apart)
  where
    go : CoversOrGap a ps → (full_weight ps ≡ true) ↔ Covers a ps
    go (inl d) = (λ e. d.1, λ c. d.0)
    go (inr d) = (λ e. absurd (not_both e d.0), λ c. let g = d.1 in let r = c g.0 g.1 in absurd (g.2 r.0 r.1 r.2))

-- where the weights fall short some closed value is matched by no pattern
pub uncovered : (a : Ty) (ps : List Pat)
    → ((p : Pat) → Memᴰ p ps → Shape p a)
    → ((p : Pat) → Memᴰ p ps → Distinct (vars p))
    → ((p : Pat) → Memᴰ p ps → tags p ≤ max_tags)
    → Apart ps
    → full_weight ps ≡ false
    → (v : Val) × Of v a × ((p : Pat) → Memᴰ p ps → Matched p v → ⊥)
uncovered a ps fits distinct light apart e = go (covers_or_gap a ps fits distinct light apart)
  where
    go : CoversOrGap a ps → Gap a ps
    go (inl d) = absurd (not_both d.0 e)
    go (inr d) = d.1
