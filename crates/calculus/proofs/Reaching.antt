-- In a file that satisfies the judgements the rules of Table 3 lead from an application to a closed value exactly when the executable
-- reduction, without ceilings and with calls nested deep enough, gives it, with the same number of applications. Nothing need end.
use Prim.Native.Nat.{ℕ, zero, suc, ◌+◌, ◌≤◌}
use native.Mathlib.Omega.{arith}
use mathlib.Core.Path.{◌≡◌, refl, sym, ap, ◌∙◌, subst}
use mathlib.Core.Logic.{◌↔◌}
use mathlib.Core.Bool.{true}
use mathlib.Core.Option.{Option, some}
use mathlib.Core.List.{List, [], ◌∷◌, Memᴰ}
use lib.ListN.{get_elem?}
use Rattle.calculus.specs.Trees.{Ty, Pat, Val, Let, Iso, vars}
use Rattle.calculus.specs.Slots.{Slots, empty, all_empty}
use Rattle.calculus.specs.Reduction.{build, run_lets, run_clause, reduce_to}
use Rattle.calculus.specs.Clauses.{sigs_of}
use Rattle.calculus.specs.Paper.{Of, Chain, Product, Valuation, Matches}
use Rattle.calculus.specs.Terms.{Term, eapp, elet, val_term, chain, look, without, replace, Step, iso_app, let_e, in_app, in_let, Steps, still, more}
use Rattle.calculus.proofs.Basic.{some_inj, counted, index_mem, index_map, index_of_map}
use Rattle.calculus.proofs.Slots.{slot, Contained}
use Rattle.calculus.proofs.Binding.{bind_found, build_found}
use Rattle.calculus.proofs.Substitution.{build_replace, over, replace_over, bound_over, bound_start}
use Rattle.calculus.proofs.Valuations.{matches_matched}
use Rattle.calculus.proofs.Running.{run_let, run_clause_lem, some_given, run_application, only_hit}
use Rattle.calculus.proofs.Steps.{forward, not_app, not_let, value_still, val_term_injective, matches_unique}
use Rattle.calculus.proofs.Joins.{EnvOf, build_total, build_all, bind_total, lhs_total}
use Rattle.calculus.proofs.Totality.{Sound, sig, chain_first, chain_last, clause_hits, reduction_keeps, lets_within, depth}

-- ---- a bounded number of steps

pub data Reach (os : List Iso) : ℕ → Term → Val → ℕ → Type 0 where
  here : {n k : ℕ} {t : Term} {v : Val} → t ≡ val_term v → k ≡ 0 → Reach os n t v k
  next : {n j k m : ℕ} {t u : Term} {v : Val} → Step os t u j → Reach os n u v k → m ≡ j + k → Reach os (suc n) t v m

pub steps_reach : {os : List Iso} {t u : Term} {k : ℕ} (v : Val) → Steps os t u k → u ≡ val_term v → (n : ℕ) × Reach os n t v k
steps_reach v (still e h) q = (0, here (e ∙ q) h)
steps_reach v (more a r h) q = let s = steps_reach v r q in (suc s.0, next a s.1 h)

wider : {os : List Iso} {n k : ℕ} {t : Term} {v : Val} → Reach os n t v k → Reach os (suc n) t v k
wider (here e h) = here e h
wider (next a r h) = next a (wider r) h

-- the application of a let, and its body
record LetReach (os : List Iso) (n : ℕ) (p : Pat) (t u : Term) (w : Val) (k : ℕ) : Type 0 where
  value : Val
  first : ℕ
  reaches : Reach os n t value first
  σ : Valuation
  matches : Matches σ p value
  second : ℕ
  body : Reach os n (replace (look σ) u) w second
  counts : first + second ≡ k

let_reach : {os : List Iso} {n k : ℕ} {p : Pat} {t u : Term} {w : Val} → Reach os n (elet p t u) w k → LetReach os n p t u w k
let_reach {w = w} (here e h) = absurd (not_let w e)
let_reach {os} {w = w} (next {n = n} {k = k} (let_e v σ e m f) r h) =
    record {
      value = v;
      first = 0;
      reaches = here e refl;
      σ = σ;
      matches = m;
      second = k;
      body = wider (subst (λ x. Reach os n x w k) f r);
      counts = sym h;
    }
let_reach (next {j = j} (in_let a) r h) =
    let s = let_reach r in
    record {
      value = s.value;
      first = j + s.first;
      reaches = next a s.reaches refl;
      σ = s.σ;
      matches = s.matches;
      second = s.second;
      body = wider s.body;
      counts = omega (arith, s.counts, h);
    }

-- ---- the executable reduction

pub record Given (os : List Iso) (i : ℕ) (v w : Val) (k : ℕ) : Type 0 where
  pub deep : ℕ
  pub gives : reduce_to (λ v. true) deep os i v ≡ (some w, k)

record GivenLets (os : List Iso) (ls : List Let) (r : Pat) (e : Slots Val) (w : Val) (k : ℕ) : Type 0 where
  deep : ℕ
  slots : Slots Val
  runs : run_lets (reduce_to (λ v. true) deep os) ls e ≡ (some slots, k)
  rest : Slots Val
  builds : build r slots ≡ some (w, rest)
  nothing : all_empty rest ≡ true

module _ {os : List Iso} (S : Sound os) where
  -- applications of typed values that reach something in n steps are given
  abbrev Apps : ℕ → Type 0
  Apps n = (i : ℕ) (s : Ty × Ty) → get_elem? (sigs_of os) i ≡ some s → (u w : Val) (k : ℕ) → Of u s.0 → Reach os n (eapp i (val_term u)) w k → Given os i u w k

  abbrev free : ℕ → ℕ → Val → Option Val × ℕ
  free d = reduce_to (λ v. true) d os

  deeper : (d d' : ℕ) → d ≤ d' → (i : ℕ) (v w : Val) (k : ℕ) → free d i v ≡ (some w, k) → free d' i v ≡ (some w, k)
  deeper d d' l = depth os (λ v. true) (λ v. true) (λ v e. e) d d' l

  end_reach : {n k : ℕ} {t : Term} {v w : Val} → t ≡ val_term v → Reach os n t w k → (v ≡ w) × (0 ≡ k)
  end_reach {v = v} {w = w} e (here f h) = (val_term_injective v w (sym e ∙ f), sym h)
  end_reach {v = v} e (next a r h) = absurd (value_still a v e)

  chain_reach : (n : ℕ) → Apps n → (ls : List Let) (r : Pat) {d : Slots Ty} {b : Ty} {e : Slots Val} (g : ℕ → Option Val) → Contained (slot e) g
      → Chain (sigs_of os) d ls r b → EnvOf e d → ((l : Let) → Memᴰ l ls → Product l.p) → (w : Val) (k : ℕ) → Reach os n (replace g (chain ls r)) w k
      → GivenLets os ls r e w k
  chain_reach n apps [] r {e = e} g below c env prods w k reach =
      let b = build_all (chain_last c) env in
      let x = end_reach (build_replace r e g below b.2) reach in
      record {
        deep = 0;
        slots = e;
        runs = counted refl x.1;
        rest = b.1;
        builds = b.2 ∙ ap (λ y. some (y, b.1)) x.0;
        nothing = b.4;
      }
  chain_reach n apps (l ∷ ls) r {e = e} g below c env prods w k reach =
      let t = let_reach reach in
      let s = chain_first c in
      let q = build_total s.uses s.parts env in
      let app = subst (λ x. Reach os n (eapp l.iso x) t.value t.first) (build_replace l.q e g below q.builds) t.reaches in
      let a = apps l.iso s.s s.known q.value t.value t.first q.typed app in
      let typed = reduction_keeps S (λ v. true) a.deep l.iso s.s s.known q.value t.value t.first q.typed a.gives in
      let p = bind_total s.binds (prods l (Memᴰ.head refl)) typed s.joins q.env in
      let m = bind_found l.p t.value q.rest p.binds in
      let kept : ℕ → Option Val = without (vars l.p) g in
      let g' : ℕ → Option Val = over (look m.σ) kept in
      let below' : Contained (slot q.rest) g = λ n v i. below n v ((build_found l.q e q.builds).bound.kept n v i) in
      let same : replace (look t.σ) (replace kept (chain ls r)) ≡ replace g' (chain ls r) =
      ap (λ σ. replace (look σ) (replace kept (chain ls r))) (matches_unique t.matches m.matches) ∙ replace_over (look m.σ) kept (chain ls r) in
      let rest = chain_reach n apps ls r g' (bound_over g m.matches m.bound below') s.next p.env (λ k i. prods k (Memᴰ.tail i)) w t.second
      (subst (λ x. Reach os n x w t.second) same t.body) in
      let deep : ℕ = a.deep + rest.deep in
      record {
        deep = deep;
        slots = rest.slots;
        runs =
            run_let (free deep) l ls e q.builds (deeper a.deep deep (omega arith) l.iso q.value t.value t.first a.gives) p.binds
            (lets_within (deeper rest.deep deep (omega arith)) ls p.slots rest.runs)
            ∙ counted refl t.counts;
        rest = rest.rest;
        builds = rest.builds;
        nothing = rest.nothing;
      }

  app_next : (n : ℕ) → Apps n → Apps (suc n)
  app_next n apps i s known v w k t (here e h) = absurd (not_app w e)
  app_next n apps i s known v w k t (next (in_app a) r h) = absurd (value_still a v refl)
  app_next n apps i s known v w k t (next {k = j} (iso_app o c v' σ e member same m f) r h) =
      let q = index_of_map sig os i known in
      let mine : Of v o.from = subst (λ z. Of v z.from) (some_inj (sym q.1 ∙ e)) (subst (λ y. Of v y.0) (sym q.2) t) in
      let matched : Matches σ c.lhs v = subst (Matches σ c.lhs) (sym (val_term_injective v v' same)) m in
      let l = S.linear o (index_mem os i e) c member in
      let b = lhs_total l.wide l.lhs mine (matches_matched matched) in
      let x = bind_found c.lhs v (empty Val) b.binds in
      let start = f ∙ ap (λ σ. replace (look σ) (chain c.lets c.rhs)) (matches_unique matched x.matches) in
      let g = chain_reach n apps c.lets c.rhs (look x.σ) (bound_start x.bound) l.rest b.env
      (λ k y. (S.shapes o (index_mem os i e) c member k y).0) w j (subst (λ u. Reach os n u w j) start r) in
      record {
        deep = suc g.deep;
        gives =
            run_application (λ v. true) g.deep os i v refl e
            (some_given (λ c. run_clause (free g.deep) c v)
            (only_hit v o.clauses (S.lefts_apart o (index_mem os i e)) member (clause_hits S o (index_mem os i e) c member mine (matches_matched matched)))
            (run_clause_lem (free g.deep) c v b.binds g.runs g.builds g.nothing)) refl
            ∙ counted refl (omega (arith, h));
      }

  app_none : Apps 0
  app_none i s known v w k t (here e h) = absurd (not_app w e)

  pub app_reach : (n : ℕ) → Apps n
  app_reach zero = app_none
  app_reach (suc n) = app_next n (app_reach n)

  -- the reduction that executes is the paper's, value and number
  pub reduction_iff : (i : ℕ) (o : Iso) → get_elem? os i ≡ some o → (v : Val) → Of v o.from → (w : Val) (k : ℕ)
      → Steps os (eapp i (val_term v)) (val_term w) k ↔ ((d : ℕ) × (reduce_to (λ v. true) d os i v ≡ (some w, k)))
  reduction_iff i o e v t w k = (
    λ s. let r = steps_reach w s refl in
        let g = app_reach r.0 i (sig o) (known i o e) v w k t r.1 in (g.deep, g.gives),
    λ r. forward os (λ v. true) r.0 i v w k r.1,
  )
    where
      known : (i : ℕ) (o : Iso) → get_elem? os i ≡ some o → get_elem? (sigs_of os) i ≡ some (sig o)
      known i o e = index_map sig os i e
