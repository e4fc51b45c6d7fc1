-- Request 07: an iso of closed values, one clause a pair. Where each side lists all values of its type, each once, it keeps the rules of clause and iso,
-- and each of its runs takes one application.
use Prim.Native.Nat.{ℕ, zero, suc, ◌+◌, ◌*◌, ◌≤◌, ◌<◌}
use native.Mathlib.Nat.{le_refl, suc-mul, mul-le-mul}
use native.Mathlib.Omega.{arith}
use mathlib.Core.Path.{◌≡◌, refl, sym, ap, ap₂, ◌∙◌, subst}
use mathlib.Core.Logic.{◌⊎◌, inl, inr}
use mathlib.Core.Bool.{true, false, false≢true}
use mathlib.Core.Option.{none, some}
use mathlib.Core.List.Memᴰ
use mathlib.Core.List.{List, [], ◌∷◌, ◌++◌, map, Memᴰ}
use lib.Dec.{eqb}
use Rattle.calculus.specs.Tools.{◌>>=◌, is_some, all}
use Rattle.calculus.specs.Trees.{Ty, tunit, tlist, tsum, tprod, most_tags, left, right, unit_leaf, empty_leaf, pair_node, element_node, Pat, pleaf, pvar, pinj}
use Rattle.calculus.specs.Trees.{pnode, Val, vleaf, vinj, vnode, Clause, Iso}
use Rattle.calculus.specs.Trees.{vars, nodes, tags, type_nodes}
use Rattle.calculus.specs.Lists.{free_isos, is_free, Finite}
use Rattle.calculus.specs.Slots.{Slots, empty, all_empty}
use Rattle.calculus.specs.Clauses.{Sigs, sigs_of, events, history, binds, uses}
use Rattle.calculus.specs.Reduction.{bind, build, run_clause, reduce_to, small, reduce}
use Rattle.law_ranking.specs.Numbering.{count, rank, unrank}
use Rattle.calculus.specs.Paper.{Of, Join, Fits, Chain, Alternate, Orth, Apart, Matched, fill, Covers, Quiet, Recursion, ClauseOk, IsoOk, FileOk}
use Rattle.calculus.proofs.Basic.{none≢some, some_inj, some_bind, true_guard, true_and, mem_all, same_tag_refl, same_leaf_refl, same_node_refl, bool_cases}
use Rattle.calculus.proofs.Basic.{not_both, eqb_eq, eq_eqb, each_nil, each_cons, le_or_lt}
use Rattle.calculus.proofs.Letters.{of_inhabits}
use Rattle.calculus.proofs.Slots.{length_empty, all_empty_empty}
use Rattle.calculus.proofs.Running.{run_clause_lem, run_application, some_given, only_hit}
use Rattle.calculus.proofs.Lists.{finite_free}
use Rattle.calculus.proofs.Inverse.{reduce_unfold}
use Rattle.law_ranking.proofs.Numbering.{count_positive, unrank_rank}
use Rattle.law_pairlists.proofs.File.{closed, closed_clauses, closed_iso}

-- ---- closed patterns

pub closed_vars : (v : Val) → vars (closed v) ≡ []
closed_vars (vleaf l) = refl
closed_vars (vinj t v) = closed_vars v
closed_vars (vnode k v w) = ap₂ ◌++◌ (closed_vars v) (closed_vars w)

join_none : (d : Slots Ty) → all_empty d ≡ true → Join d d d
join_none [] e = Join.done
join_none (none ∷ d) e = Join.neither (join_none d e)
join_none (some a ∷ d) e = absurd (false≢true e)

-- a closed value's pattern fits its type with no variable
pub closed_fits : {v : Val} {a : Ty} (d : Slots Ty) → all_empty d ≡ true → Of v a → Fits d (closed v) a
closed_fits d e Of.unit = Fits.unit e
closed_fits d e Of.nil = Fits.nil e
closed_fits d e (Of.inj h) = Fits.inj (closed_fits d e h)
closed_fits d e (Of.pair h k) = Fits.pair (join_none d e) (closed_fits d e h) (closed_fits d e k)
closed_fits d e (Of.cons h k) = Fits.cons (join_none d e) (closed_fits d e h) (closed_fits d e k)

-- it matches the value
pub closed_bind : (v : Val) (e : Slots Val) → bind (closed v) v e ≡ some e
closed_bind (vleaf l) e = some_bind (λ _. some e) (true_guard (same_leaf_refl l))
closed_bind (vinj t v) e = some_bind (λ _. bind (closed v) v e) (true_guard (same_tag_refl t)) ∙ closed_bind v e
closed_bind (vnode k v w) e =
    some_bind (λ _. bind (closed v) v e >>= λ d. bind (closed w) w d) (true_guard (same_node_refl k))
    ∙ some_bind (λ d. bind (closed w) w d) (closed_bind v e)
    ∙ closed_bind w e

pub closed_build : (v : Val) (e : Slots Val) → build (closed v) e ≡ some (v, e)
closed_build (vleaf l) e = refl
closed_build (vinj t v) e = some_bind (λ r. some (vinj t r.0, r.1)) (closed_build v e)
closed_build (vnode k v w) e =
    some_bind (λ r. build (closed v) r.1 >>= λ s. some (vnode k s.0 r.0, s.1)) (closed_build w e)
    ∙ some_bind (λ s. some (vnode k s.0 w, s.1)) (closed_build v e)

closed_fill : (χ : ℕ → Val) (v : Val) → fill χ (closed v) ≡ v
closed_fill χ (vleaf l) = refl
closed_fill χ (vinj t v) = ap (vinj t) (closed_fill χ v)
closed_fill χ (vnode k v w) = ap₂ (vnode k) (closed_fill χ v) (closed_fill χ w)

pub closed_matched : (v : Val) → Matched (closed v) v
closed_matched v = record { choice = λ n. vleaf unit_leaf; turns = closed_fill (λ n. vleaf unit_leaf) v }

-- values of a type without lists are equal or not
pub rank_inj : {v w : Val} {a : Ty} → Finite a → Of v a → Of w a → rank v a ≡ rank w a → v ≡ w
rank_inj {v} {w} {a} f h k e = sym (unrank_rank v a f (of_inhabits h)) ∙ ap (unrank a) e ∙ unrank_rank w a f (of_inhabits k)

pub equal_or_not : {v w : Val} {a : Ty} → Finite a → Of v a → Of w a → (v ≡ w) ⊎ (v ≡ w → ⊥)
equal_or_not {v} {w} {a} f h k = go (bool_cases (eqb (rank v a) (rank w a)))
  where
    go : (eqb (rank v a) (rank w a) ≡ true) ⊎ (eqb (rank v a) (rank w a) ≡ false) → (v ≡ w) ⊎ (v ≡ w → ⊥)
    go (inl e) = inl (rank_inj f h k (eqb_eq (rank v a) (rank w a) e))
    go (inr e) = inr (λ p. not_both (eq_eqb (ap (λ u. rank u a) p)) e)

-- closed patterns of different values of a type are orthogonal
pub closed_orth : {v w : Val} {a : Ty} → Finite a → Of v a → Of w a → (v ≡ w → ⊥) → Orth (closed v) (closed w)
closed_orth Finite.unit Of.unit Of.unit n = absurd (n refl)
closed_orth (Finite.sum x y) (Of.inj {t = left} h) (Of.inj {t = left} k) n = Orth.under refl (closed_orth x h k (λ e. n (ap (vinj left) e)))
closed_orth (Finite.sum x y) (Of.inj {t = left} h) (Of.inj {t = right} k) n = Orth.left_right
closed_orth (Finite.sum x y) (Of.inj {t = right} h) (Of.inj {t = left} k) n = Orth.right_left
closed_orth (Finite.sum x y) (Of.inj {t = right} h) (Of.inj {t = right} k) n = Orth.under refl (closed_orth y h k (λ e. n (ap (vinj right) e)))
closed_orth (Finite.product x y) (Of.pair {v} {w} h k) (Of.pair {v = v'} {w = w'} h' k') n =
    go (λ f. closed_orth x h h' f) (λ f. closed_orth y k k' f) (equal_or_not x h h')
  where
    go : ((v ≡ v' → ⊥) → Orth (closed v) (closed v')) → ((w ≡ w' → ⊥) → Orth (closed w) (closed w')) → (v ≡ v') ⊎ (v ≡ v' → ⊥)
        → Orth (pnode pair_node (closed v) (closed w)) (pnode pair_node (closed v') (closed w'))
    go f g (inl e) = Orth.snd refl (g (λ d. n (ap₂ (vnode pair_node) e d)))
    go f g (inr e) = Orth.fst refl (f e)

-- ---- sizes

product_above : {s t m n : ℕ} → s < m → t < n → s + t < m * n
product_above {s} {t} {m} {n} h k =
    let p : suc s * suc t ≤ m * n = mul-le-mul h k in
    let q : suc s * suc t ≡ s * suc t + suc t = suc-mul s (suc t) in
    let r : s * 1 ≤ s * suc t = mul-le-mul (le_refl s) (omega arith) in
    omega arith

pub closed_nodes : {v : Val} {a : Ty} → Finite a → Of v a → nodes (closed v) ≤ type_nodes a
closed_nodes Finite.unit Of.unit = omega arith
closed_nodes (Finite.sum x y) (Of.inj {t = left} h) = let k = closed_nodes x h in omega arith
closed_nodes (Finite.sum x y) (Of.inj {t = right} h) = let k = closed_nodes y h in omega arith
closed_nodes (Finite.product x y) (Of.pair h k) = let p = closed_nodes x h in let q = closed_nodes y k in omega arith

-- no more left and right nodes than the most of its type, which some value has
pub closed_most : {v : Val} {a : Ty} → Finite a → Of v a → tags (closed v) ≤ most_tags a
closed_most Finite.unit Of.unit = omega arith
closed_most (Finite.sum x y) (Of.inj {t = left} {a = a} {b = b} h) = let k = closed_most x h in omega arith
closed_most (Finite.sum x y) (Of.inj {t = right} {a = a} {b = b} h) = let k = closed_most y h in omega arith
closed_most (Finite.product x y) (Of.pair h k) = let p = closed_most x h in let q = closed_most y k in omega arith

pub most_value : (a : Ty) → Finite a → (v : Val) × Of v a × (tags (closed v) ≡ most_tags a)
most_value tunit Finite.unit = (vleaf unit_leaf, Of.unit, refl)
most_value (tsum a b) (Finite.sum f g) = go (le_or_lt (most_tags a) (most_tags b)) (most_value a f) (most_value b g)
  where
    go : (most_tags a ≤ most_tags b) ⊎ (most_tags b < most_tags a) → (v : Val) × Of v a × (tags (closed v) ≡ most_tags a) → (v : Val) × Of v b × (tags (closed v) ≡ most_tags b)
        → (v : Val) × Of v (tsum a b) × (tags (closed v) ≡ most_tags (tsum a b))
    go (inl l) x y = let e = y.2 in (vinj right y.0, Of.inj y.1, omega arith)
    go (inr l) x y = let e = x.2 in (vinj left x.0, Of.inj x.1, omega arith)
most_value (tprod a b) (Finite.product f g) =
    let x = most_value a f in
    let y = most_value b g in
    let e = x.2 in
    let f = y.2 in
    (vnode pair_node x.0 y.0, Of.pair x.1 y.1, omega arith)
most_value (tlist _) x'' = elim x'' [ ]

pub tags_nodes : (p : Pat) → tags p ≤ nodes p
tags_nodes (pvar n) = omega arith
tags_nodes (pleaf unit_leaf) = omega arith
tags_nodes (pleaf empty_leaf) = omega arith
tags_nodes (pinj t p) = let h = tags_nodes p in omega arith
tags_nodes (pnode pair_node p q) = let h = tags_nodes p in let k = tags_nodes q in omega arith
tags_nodes (pnode element_node p q) = let h = tags_nodes p in let k = tags_nodes q in omega arith

-- fewer left and right nodes than its type has values
pub closed_tags : {v : Val} {a : Ty} → Finite a → Of v a → tags (closed v) < count a
closed_tags Finite.unit Of.unit = omega arith
closed_tags (Finite.sum x y) (Of.inj {t = left} {b = b} h) = let k = closed_tags x h in let p = count_positive b in omega arith
closed_tags (Finite.sum x y) (Of.inj {t = right} {a = a} h) = let k = closed_tags y h in let p = count_positive a in omega arith
closed_tags (Finite.product x y) (Of.pair {v} {w} h k) =
    let p = product_above (closed_tags x h) (closed_tags y k) in
    let q : tags (closed (vnode pair_node v w)) ≡ tags (closed v) + tags (closed w) = omega arith in
    omega arith

-- ---- all values of a type, each once

pub data Differ : List Val → Type 0 where
  alone : Differ []
  beside : {v : Val} {vs : List Val} → ((w : Val) → Memᴰ w vs → v ≡ w → ⊥) → Differ vs → Differ (v ∷ vs)

pub record Lists (a : Ty) (vs : List Val) : Type 0 where
  pub finite : Finite a
  pub typed : (v : Val) → Memᴰ v vs → Of v a
  pub differ : Differ vs
  pub whole : (v : Val) → Of v a → Memᴰ v vs

lists_apart : {a : Ty} → Finite a → (vs : List Val) → ((v : Val) → Memᴰ v vs → Of v a) → Differ vs → Apart (map closed vs)
lists_apart f [] t alone = Apart.alone
lists_apart f (v ∷ vs) t (beside h d) =
    Apart.beside
    (λ q m. let r = Memᴰ.of_map closed vs m in subst (Orth (closed v)) r.2 (closed_orth f (t v (Memᴰ.head refl)) (t r.0 (Memᴰ.tail r.1)) (h r.0 r.1)))
    (lists_apart f vs (λ w m. t w (Memᴰ.tail m)) d)

lists_cover : {a : Ty} {vs : List Val} → Lists a vs → Covers a (map closed vs)
lists_cover l v o = (closed v, Memᴰ.map closed (l.whole v o), closed_matched v)

-- ---- the iso

abbrev pub firsts : List (Val × Val) → List Val
firsts cs = map (λ c. c.0) cs

abbrev pub seconds : List (Val × Val) → List Val
seconds cs = map (λ c. c.1) cs

closed_lefts : (n : ℕ) (cs : List (Val × Val)) → map (λ (c : Clause). c.lhs) (closed_clauses n cs) ≡ map closed (firsts cs)
closed_lefts n [] = refl
closed_lefts n (c ∷ cs) = ap (λ ps. closed c.0 ∷ ps) (closed_lefts (suc n) cs)

closed_rights : (n : ℕ) (cs : List (Val × Val)) → map (λ (c : Clause). c.rhs) (closed_clauses n cs) ≡ map closed (seconds cs)
closed_rights n [] = refl
closed_rights n (c ∷ cs) = ap (λ ps. closed c.1 ∷ ps) (closed_rights (suc n) cs)

closed_clause : (sigs : Sigs) (a b : Ty) (n : ℕ) (v w : Val) → Of v a → Of w b
    → ClauseOk sigs a b (record { line = n; lhs = closed v; lets = []; rhs = closed w })
closed_clause sigs a b n v w h k =
    record {
      variables = λ m. subst (λ es. Alternate (history m es)) (sym no_events) Alternate.rest;
      shapes = λ l m. absurd (Memᴰ.not-nil m);
      types =
          record {
            context = empty Ty;
            wide = length_empty Ty;
            lhs = closed_fits (empty Ty) (all_empty_empty Ty) h;
            rest = Chain.value (closed_fits (empty Ty) (all_empty_empty Ty) k);
          };
    }
  where
    no_events : events (record { line = n; lhs = closed v; lets = []; rhs = closed w }) ≡ []
    no_events = ap₂ (λ xs ys. map (λ m. record { deed = binds; name = m }) xs ++ map (λ m. record { deed = uses; name = m }) ys) (closed_vars v) (closed_vars w)

pub closed_clauses_lem : (sigs : Sigs) (a b : Ty) (n : ℕ) (cs : List (Val × Val)) → ((v : Val) → Memᴰ v (firsts cs) → Of v a)
    → ((v : Val) → Memᴰ v (seconds cs) → Of v b) → (c : Clause) → Memᴰ c (closed_clauses n cs) → ClauseOk sigs a b c
closed_clauses_lem sigs a b n [] h k = each_nil (ClauseOk sigs a b)
closed_clauses_lem sigs a b n (c ∷ cs) h k =
    each_cons (ClauseOk sigs a b) (closed_clause sigs a b n c.0 c.1 (h c.0 (Memᴰ.head refl)) (k c.1 (Memᴰ.head refl)))
    (closed_clauses_lem sigs a b (suc n) cs (λ v m. h v (Memᴰ.tail m)) (λ v m. k v (Memᴰ.tail m)))

-- no clause calls anything
closed_quiet : (i n : ℕ) (cs : List (Val × Val)) (c : Clause) → Memᴰ c (closed_clauses n cs) → Quiet i c.lets
closed_quiet i n [] = each_nil (λ c. Quiet i c.lets)
closed_quiet i n (c ∷ cs) = each_cons (λ c. Quiet i c.lets) (λ l m. absurd (Memᴰ.not-nil m)) (closed_quiet i (suc n) cs)

-- the judgements hold
pub closed_ok : (n : ℕ) (a b : Ty) (cs : List (Val × Val)) → Lists a (firsts cs) → Lists b (seconds cs) → FileOk (closed_iso n a b cs ∷ [])
closed_ok n a b cs h k zero o e =
    subst (IsoOk (sigs_of (closed_iso n a b cs ∷ [])) 0) (some_inj e)
    (record {
      clauses = closed_clauses_lem (sigs_of (closed_iso n a b cs ∷ [])) a b (suc n) cs h.typed k.typed;
      recursion = Recursion.never (closed_quiet 0 (suc n) cs);
      lefts_apart = subst Apart (sym (closed_lefts (suc n) cs)) (lists_apart h.finite (firsts cs) h.typed h.differ);
      rights_apart = subst Apart (sym (closed_rights (suc n) cs)) (lists_apart k.finite (seconds cs) k.typed k.differ);
      lefts_cover = subst (Covers a) (sym (closed_lefts (suc n) cs)) (lists_cover h);
      rights_cover = subst (Covers b) (sym (closed_rights (suc n) cs)) (lists_cover k);
    })
closed_ok n a b cs h k (suc i) o e = absurd (none≢some e)

-- and no list is met
pub closed_free : (n : ℕ) (a b : Ty) (cs : List (Val × Val)) → Finite a → Finite b → is_free (closed_iso n a b cs ∷ []) 0 ≡ true
unfolding free_isos
closed_free n a b cs f g =
    true_and (true_and (finite_free f) (finite_free g))
    (mem_all (λ (c : Clause). all (λ l. true) c.lets) (closed_clauses (suc n) cs)
    (λ c m. mem_all (λ l. true) c.lets (λ l k. refl)))

-- ---- its runs

mem_clause : (n : ℕ) (cs : List (Val × Val)) (v w : Val) → Memᴰ (v, w) cs
    → (m : ℕ) × Memᴰ (record { line = m; lhs = closed v; lets = []; rhs = closed w }) (closed_clauses n cs)
mem_clause n (c ∷ cs) v w (Memᴰ.head e) =
    (n, Memᴰ.head (ap (λ (d : Val × Val). record { line = n; lhs = closed d.0; lets = []; rhs = closed d.1 }) e))
mem_clause n (c ∷ cs) v w (Memᴰ.tail m) = let r = mem_clause (suc n) cs v w m in (r.0, Memᴰ.tail r.1)
mem_clause n [] v w x' = elim x' [ ]

-- "one clause of closed values a pair": the run of a pair's first gives its second, with one application, where neither has over 127 letters
pub closed_run : (n : ℕ) (a b : Ty) (cs : List (Val × Val)) → Lists a (firsts cs) → (v w : Val) → small v ≡ true → small w ≡ true → Memᴰ (v, w) cs
    → reduce (closed_iso n a b cs ∷ []) 0 v ≡ (some w, 1)
closed_run n a b cs h v w sv sw m =
    let os : List Iso = closed_iso n a b cs ∷ [] in
    let r = mem_clause (suc n) cs v w m in
    let c : Clause = record { line = r.0; lhs = closed v; lets = []; rhs = closed w } in
    let ap_lefts = subst Apart (sym (closed_lefts (suc n) cs)) (lists_apart h.finite (firsts cs) h.typed h.differ) in
    ap (λ f. f 0 v) (reduce_unfold os)
    ∙ run_application small 39 os 0 v sv refl
    (some_given (λ d. run_clause (reduce_to small 39 os) d v) (only_hit v {c = c} (closed_clauses (suc n) cs) ap_lefts r.1 (ap is_some (closed_bind v (empty Val))))
    (run_clause_lem (reduce_to small 39 os) c v (closed_bind v (empty Val)) refl (closed_build w (empty Val)) (all_empty_empty Val))) sw
