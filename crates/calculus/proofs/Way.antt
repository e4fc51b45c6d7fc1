-- On the way, from the paper's side: an application that the steps of Table 3 come to is on the way (`Paper.OnWay`), whether the reduction ends or not.
use Prim.Native.Nat.{ℕ, zero, suc, ◌+◌, ◌≤◌}
use native.Mathlib.Omega.{arith}
use mathlib.Core.Path.{◌≡◌, refl, sym, ap, ap₂, ◌∙◌, subst}
use mathlib.Core.Logic.{◌⊎◌, inl, inr}
use mathlib.Core.Bool.{Bool, true, false, ◌&&◌, false≢true}
use mathlib.Core.Option.{Option, some}
use mathlib.Core.List.{List, [], ◌∷◌, ◌++◌, Memᴰ}
use lib.ListN.{get_elem?}
use Rattle.calculus.specs.Trees.{Ty, Pat, Val, vleaf, vinj, vnode, Let, Iso, vars}
use Rattle.calculus.specs.Slots.{Slots, empty}
use Rattle.calculus.specs.Reduction.{build, run_lets, reduce_to}
use Rattle.calculus.specs.Clauses.{sigs_of}
use Rattle.calculus.specs.Paper.{Of, Chain, Product, Valuation, Matches, OnWay, itself, below}
use Rattle.calculus.specs.Terms.{Term, evar, eleaf, einj, enode, eapp, elet, val_term, chain, look, without, replace, Step, iso_app, let_e}
use Rattle.calculus.specs.Terms.{in_app as step_in_app, in_let as step_in_let, Steps, still, more}
use Rattle.calculus.specs.Next.{Next, here, in_inj, in_fst, in_snd, in_app, in_let}
use Rattle.calculus.proofs.Basic.{some_inj, index_mem, index_map, index_of_map}
use Rattle.calculus.proofs.Slots.{slot, Contained}
use Rattle.calculus.proofs.Binding.{bind_found, build_found}
use Rattle.calculus.proofs.Substitution.{build_replace, over, replace_over, bound_over, bound_start}
use Rattle.calculus.proofs.Valuations.{matches_matched}
use Rattle.calculus.proofs.Running.{run_let}
use Rattle.calculus.proofs.Steps.{value_still, val_term_injective, matches_unique}
use Rattle.calculus.proofs.Inverse.{free_unfold}
use Rattle.calculus.proofs.Joins.{EnvOf, build_total, build_all, bind_total, lhs_total}
use Rattle.calculus.proofs.Totality.{Sound, sig, chain_first, chain_last, reduction_keeps, lets_within, depth}
use Rattle.calculus.proofs.Reaching.{Reach, app_reach}

-- ---- a closed value has no application

abbrev ready : Term → Bool
ready (evar n) = false
ready (eleaf l) = true
ready (einj s t) = ready t
ready (enode m t u) = ready t && ready u
ready (eapp i t) = false
ready (elet p t u) = false

value_ready : (v : Val) → ready (val_term v) ≡ true
value_ready (vleaf l) = refl
value_ready (vinj s v) = value_ready v
value_ready (vnode m v w) = ap₂ ◌&&◌ (value_ready v) (value_ready w)

next_waits : {j : ℕ} {w : Val} {t : Term} → Next j w t → ready t ≡ false
next_waits (here e f) = refl
next_waits (in_inj n) = next_waits n
next_waits (in_fst {u = u} v e n) = ap (λ b. b && ready u) (next_waits n)
next_waits (in_snd v e n) = ap₂ ◌&&◌ (ap ready e ∙ value_ready v) (next_waits n)
next_waits (in_app n) = refl
next_waits (in_let n) = refl

no_next : {j : ℕ} {w : Val} {t : Term} → Next j w t → (v : Val) → t ≡ val_term v → ⊥
no_next n v e = false≢true (sym (next_waits n) ∙ ap ready e ∙ value_ready v)

-- ---- a bounded number of steps to a term whose next application is that of iso j to x

data Trail (os : List Iso) (j : ℕ) (x : Val) : ℕ → Term → Type 0 where
  stop : {n : ℕ} {t : Term} → Next j x t → Trail os j x n t
  onward : {n k : ℕ} {t u : Term} → Step os t u k → Trail os j x n u → Trail os j x (suc n) t

steps_trail : {os : List Iso} {t u : Term} {k j : ℕ} {x : Val} → Steps os t u k → Next j x u → (n : ℕ) × Trail os j x n t
steps_trail {j = j} {x = x} (still e h) next = (0, stop (subst (Next j x) (sym e) next))
steps_trail (more a s h) next = let r = steps_trail s next in (suc r.0, onward a r.1)

longer : {os : List Iso} {j : ℕ} {x : Val} {n : ℕ} {t : Term} → Trail os j x n t → Trail os j x (suc n) t
longer (stop e) = stop e
longer (onward a r) = onward a (longer r)

no_trail : {os : List Iso} {j n : ℕ} {x : Val} {t : Term} → Trail os j x n t → (v : Val) → t ≡ val_term v → ⊥
no_trail (stop n) v e = no_next n v e
no_trail (onward a r) v e = value_still a v e

-- of a let: in its application, or behind it
record Behind (os : List Iso) (j : ℕ) (x : Val) (n : ℕ) (p : Pat) (t u : Term) : Type 0 where
  value : Val
  count : ℕ
  reaches : Reach os n t value count
  σ : Valuation
  matches : Matches σ p value
  body : Trail os j x n (replace (look σ) u)

let_trail : {os : List Iso} {j : ℕ} {x : Val} {n : ℕ} {p : Pat} {t u : Term} → Trail os j x n (elet p t u) → Trail os j x n t ⊎ Behind os j x n p t u
let_trail (stop (in_let e)) = inl (stop e)
let_trail {os} {j} {x = x} (onward {n = n} (let_e v σ e m f) r) =
    inr record { value = v; count = 0; reaches = Reach.here e refl; σ = σ; matches = m; body = longer (subst (Trail os j x n) f r) }
let_trail {os} {j} {x = x} {p = p} (onward {n = n} {k = k} (step_in_let {t = t} {t' = t'} {u = u} a) r) = go (let_trail r)
  where
    go : Trail os j x n t' ⊎ Behind os j x n p t' u → Trail os j x (suc n) t ⊎ Behind os j x (suc n) p t u
    go (inl s) = inl (onward a s)
    go (inr s) =
        inr record {
          value = s.value;
          count = k + s.count;
          reaches = Reach.next a s.reaches refl;
          σ = s.σ;
          matches = s.matches;
          body = longer s.body;
        }

-- ---- what a trail comes to is on the way

-- an application of a let step, once the steps before it have run
record Called (os : List Iso) (ls : List Let) (e : Slots Val) (j : ℕ) (x : Val) : Type 0 where
  before : List Let
  step : Let
  after : List Let
  splits : ls ≡ before ++ (step ∷ after)
  deep : ℕ
  slots : Slots Val
  count : ℕ
  runs : run_lets (reduce_to (λ v. true) deep os) before e ≡ (some slots, count)
  given : Val
  rest : Slots Val
  builds : build step.q slots ≡ some (given, rest)
  way : OnWay os step.iso given j x

module _ {os : List Iso} (S : Sound os) (j : ℕ) (x : Val) where
  abbrev Ways : ℕ → Type 0
  Ways n = (i : ℕ) (s : Ty × Ty) → get_elem? (sigs_of os) i ≡ some s → (u : Val) → Of u s.0 → Trail os j x n (eapp i (val_term u)) → OnWay os i u j x

  abbrev free : ℕ → ℕ → Val → Option Val × ℕ
  free d = reduce_to (λ v. true) d os

  deeper : (d d' : ℕ) → d ≤ d' → (i : ℕ) (v w : Val) (k : ℕ) → free d i v ≡ (some w, k) → free d' i v ≡ (some w, k)
  deeper d d' l = depth os (λ v. true) (λ v. true) (λ v e. e) d d' l

  chain_way : (n : ℕ) → Ways n → (ls : List Let) (r : Pat) {d : Slots Ty} {b : Ty} {e : Slots Val} (g : ℕ → Option Val) → Contained (slot e) g
      → Chain (sigs_of os) d ls r b → EnvOf e d → ((l : Let) → Memᴰ l ls → Product l.p) → Trail os j x n (replace g (chain ls r))
      → Called os ls e j x
  chain_way n ways [] r {e = e} g held c env prods trail =
      let b = build_all (chain_last c) env in absurd (no_trail trail b.0 (build_replace r e g held b.2))
  chain_way n ways (l ∷ ls) r {e = e} g held c env prods trail =
      elim (let_trail trail) [
        | inl t ↦
            let s = chain_first c in
            let q = build_total s.uses s.parts env in
            let app = subst (λ y. Trail os j x n (eapp l.iso y)) (build_replace l.q e g held q.builds) t in
            record {
              before = [];
              step = l;
              after = ls;
              splits = refl;
              deep = 0;
              slots = e;
              count = 0;
              runs = refl;
              given = q.value;
              rest = q.rest;
              builds = q.builds;
              way = ways l.iso s.s s.known q.value q.typed app;
            }
        | inr t ↦
            let s = chain_first c in
            let q = build_total s.uses s.parts env in
            let app = subst (λ y. Reach os n (eapp l.iso y) t.value t.count) (build_replace l.q e g held q.builds) t.reaches in
            let a = app_reach S n l.iso s.s s.known q.value t.value t.count q.typed app in
            let typed = reduction_keeps S (λ v. true) a.deep l.iso s.s s.known q.value t.value t.count q.typed a.gives in
            let p = bind_total s.binds (prods l (Memᴰ.head refl)) typed s.joins q.env in
            let m = bind_found l.p t.value q.rest p.binds in
            let kept : ℕ → Option Val = without (vars l.p) g in
            let g' : ℕ → Option Val = over (look m.σ) kept in
            let held' : Contained (slot q.rest) g = λ n v i. held n v ((build_found l.q e q.builds).bound.kept n v i) in
            let same : replace (look t.σ) (replace kept (chain ls r)) ≡ replace g' (chain ls r) =
            ap (λ σ. replace (look σ) (replace kept (chain ls r))) (matches_unique t.matches m.matches) ∙ replace_over (look m.σ) kept (chain ls r) in
            let on = chain_way n ways ls r g' (bound_over g m.matches m.bound held') s.next p.env (λ k i. prods k (Memᴰ.tail i))
            (subst (Trail os j x n) same t.body) in
            let deep : ℕ = a.deep + on.deep in
            record {
              before = l ∷ on.before;
              step = on.step;
              after = on.after;
              splits = ap {B = List Let} (λ y. l ∷ y) on.splits;
              deep = deep;
              slots = on.slots;
              count = t.count + on.count;
              runs =
                  run_let (free deep) l on.before e q.builds (deeper a.deep deep (omega arith) l.iso q.value t.value t.count a.gives) p.binds
                  (lets_within (deeper on.deep deep (omega arith)) on.before p.slots on.runs);
              given = on.given;
              rest = on.rest;
              builds = on.builds;
              way = on.way;
            }
      ]

  app_next : (n : ℕ) → Ways n → Ways (suc n)
  app_next n ways i s known v t (stop (here e f)) = itself e (val_term_injective v x f)
  app_next n ways i s known v t (stop (in_app e)) = absurd (no_next e v refl)
  app_next n ways i s known v t (onward (step_in_app a) r) = absurd (value_still a v refl)
  app_next n ways i s known v t (onward (iso_app o c v' σ e member same m f) r) =
      let q = index_of_map sig os i known in
      let mine : Of v o.from = subst (λ z. Of v z.from) (some_inj (sym q.1 ∙ e)) (subst (λ y. Of v y.0) (sym q.2) t) in
      let matched : Matches σ c.lhs v = subst (Matches σ c.lhs) (sym (val_term_injective v v' same)) m in
      let l = S.linear o (index_mem os i e) c member in
      let b = lhs_total l.wide l.lhs mine (matches_matched matched) in
      let y = bind_found c.lhs v (empty Val) b.binds in
      let start = f ∙ ap (λ σ. replace (look σ) (chain c.lets c.rhs)) (matches_unique matched y.matches) in
      let on = chain_way n ways c.lets c.rhs (look y.σ) (bound_start y.bound) l.rest b.env
      (λ k z. (S.shapes o (index_mem os i e) c member k z).0) (subst (Trail os j x n) start r) in
      below o c on.before on.step on.after b.slots on.slots on.rest on.deep on.count on.given e member b.binds on.splits
      (ap (λ call. run_lets call on.before b.slots) (free_unfold on.deep os) ∙ on.runs) on.builds on.way

  ways_none : Ways 0
  ways_none i s known v t (stop (here e f)) = itself e (val_term_injective v x f)
  ways_none i s known v t (stop (in_app e)) = absurd (no_next e v refl)

  ways_all : (n : ℕ) → Ways n
  ways_all zero = ways_none
  ways_all (suc n) = app_next n (ways_all n)

  -- In a file that satisfies the judgements an application that the steps come to is on the way.
  pub steps_on_way : (i : ℕ) (o : Iso) → get_elem? os i ≡ some o → (v : Val) → Of v o.from → (u : Term) (k : ℕ) → Steps os (eapp i (val_term v)) u k
      → Next j x u → OnWay os i v j x
  steps_on_way i o e v t u k s next = let r = steps_trail s next in ways_all r.0 i (sig o) (index_map sig os i e) v t r.1
