-- Both bounds are reached where an iso's clauses have no let steps: they are 1, and so is the count of a run. So the bounds are not slack by
-- definition.
use Prim.Native.Nat.{ℕ, zero, suc, ◌≤◌}
use native.Mathlib.Omega.{arith}
use mathlib.Core.Path.{◌≡◌, refl, sym, ap, ap₂, ◌∙◌, subst}
use mathlib.Core.Bool.{Bool, true, false}
use mathlib.Core.Option.{some}
use mathlib.Core.List.Memᴰ
use mathlib.Core.List.{List, [], ◌∷◌, map, reverse, Memᴰ}
use lib.ListN.{get_or, get_elem?}
use Rattle.calculus.specs.Tools.{total, select}
use Rattle.calculus.specs.Trees.{Ty, tunit, tlist, tsum, tprod, Val, vleaf, vinj, vnode, unit_leaf, empty_leaf, left, pair_node, Let, Clause, Iso, invert_let, invert_clause, invert}
use Rattle.calculus.specs.Slots.{Slots}
use Rattle.format.specs.Lines.{Row}
use Rattle.format.specs.Unfold.{isos_of}
use Rattle.calculus.specs.Reduction.{Call, run_lets, run_clause, hits, only, apply, reduce_to, small}
use Rattle.calculus.specs.Lists.{is_free}
use Rattle.limits.specs.Limits.{max_depth}
use Rattle.calculus.specs.Letters.{letters}
use Rattle.calculus.specs.Paper.{Of, unit, nil, inj, pair}
use Rattle.model.specs.Services.{accepted, verdict, gives, toward, run}
use Rattle.model.specs.Answers.{done}
use Rattle.calculus.proofs.Basic.{none≢some, some_inj, counted, each_map, index_map}
use Rattle.calculus.proofs.Running.{given_some, clause_run, hit_only, application}
use Rattle.calculus.proofs.Inverse.{reduce_unfold}
use Rattle.format.proofs.Turning.{isos_turn}
use Rattle.model.proofs.Runs.{GoodRows, good, good_toward, accepted_good, halts, run_iff}
use Rattle.model.proofs.Sizes.{free_ends}
use Rattle.law_costs.specs.Costs.{least_of, greatest_of, clause_cost, costs_from, least_costs, greatest_costs}
use Rattle.law_costs.specs.Bounds.{told, bounds}
use Rattle.law_costs.proofs.Between.{Earlier, cost_at}
use Rattle.law_costs.proofs.Answers.{bounds_present}

-- no clause of the iso has a let step
abbrev pub NoLets : Iso → Type 0
NoLets o = (c : Clause) → Memᴰ c o.clauses → c.lets ≡ []

-- ---- an application counts 1

no_lets_count : (call : Call) (ls : List Let) (e : Slots Val) {d : Slots Val} {k : ℕ} → ls ≡ [] → run_lets call ls e ≡ (some d, k) → k ≡ 0
no_lets_count call [] e h r = sym (ap (λ x. x.1) r)
no_lets_count call (l ∷ ls) e h r = let z : ◌≡◌ {A = ℕ} 0 1 = cc in absurd (omega arith)

-- the clause taken is one of the iso's, and below the application nothing is counted
one_application : (call : Call) (o : Iso) → NoLets o → (v w : Val) (k : ℕ) → apply call o v ≡ (some w, k) → (k ≡ 0) × (c : Clause) × Memᴰ c o.clauses
one_application call o n v w k h =
    let t = given_some (only (select (hits v) o.clauses)) (λ c. run_clause call c v) h in
    let m = (hit_only (hits v) o.clauses t.1).0 in
    let s = clause_run call t.0 v t.2 in
    (no_lets_count call t.0.lets s.first (n t.0 m) s.lets, t.0, m)

one_reduction : (os : List Iso) (d i : ℕ) (o : Iso) → get_elem? os i ≡ some o → NoLets o → (v w : Val) (k : ℕ) → reduce_to small d os i v ≡ (some w, k)
    → (k ≡ 1) × (c : Clause) × Memᴰ c o.clauses
one_reduction os zero i o e n v w k h = absurd (none≢some (ap (λ x. x.0) h))
one_reduction os (suc d) i o e n v w k h =
    let t = application small d os i v h in
    let same = some_inj (sym t.known ∙ e) in
    let r = one_application (reduce_to small d os) o n v w t.count (subst (λ p. apply (reduce_to small d os) p v ≡ (some w, t.count)) same t.applies) in
    let z = r.0 in
    let y = t.counts in
    (omega arith, r.1, r.2)

-- ---- the numbers are 1

clause_one : (known : List ℕ) (c : Clause) → c.lets ≡ [] → clause_cost known c ≡ 1
clause_one known c e = ap (λ ls. suc (total (map (λ l. get_or known l.iso 0) ls))) e

module _ {A : Type 0} (f : A → ℕ) where
  least_one : {x : A} (xs : List A) → Memᴰ x xs → ((y : A) → Memᴰ y xs → f y ≡ 1) → least_of (map f xs) ≡ 1
  least_one (y ∷ []) m h = h y (Memᴰ.head refl)
  least_one {x = x} (y ∷ (z ∷ zs)) m h =
      let a = h y (Memᴰ.head refl) in
      let b = least_one {x = z} (z ∷ zs) (Memᴰ.head refl) (λ u n. h u (Memᴰ.tail n)) in
      omega arith
  least_one [] m h = elim m [ ]

  greatest_one : {x : A} (xs : List A) → Memᴰ x xs → ((y : A) → Memᴰ y xs → f y ≡ 1) → greatest_of (map f xs) ≡ 1
  greatest_one (y ∷ []) m h = let a = h y (Memᴰ.head refl) in omega arith
  greatest_one {x = x} (y ∷ (z ∷ zs)) m h =
      let a = h y (Memᴰ.head refl) in
      let b = greatest_one {x = z} (z ∷ zs) (Memᴰ.head refl) (λ u n. h u (Memᴰ.tail n)) in
      omega arith
  greatest_one [] m h = elim m [ ]

-- ---- every type has a closed value

pub inhabitant : (a : Ty) → (v : Val) × Of v a
inhabitant tunit = (vleaf unit_leaf, unit)
inhabitant (tlist a) = (vleaf empty_leaf, nil)
inhabitant (tsum a b) = let r = inhabitant a in (vinj left r.0, inj r.1)
inhabitant (tprod a b) =
    let r = inhabitant a in
    let s = inhabitant b in
    (vnode pair_node r.0 s.0, pair r.1 s.1)

-- ---- the file

no_lets_invert : (o : Iso) → NoLets o → NoLets (invert o)
no_lets_invert o n = each_map (λ c. c.lets ≡ []) invert_clause o.clauses (λ c m. ap (λ ls. reverse (map invert_let ls)) (n c m))

-- the iso in the direction of the run, which has no let steps either
toward_iso : (back : Bool) (rs : List Row) → GoodRows rs → (i : ℕ) (o : Iso) → get_elem? (isos_of rs) i ≡ some o → NoLets o
    → (n : Iso) × (get_elem? (isos_of (toward back rs)) i ≡ some n) × NoLets n
toward_iso true rs g i o e n =
    (invert o, ap (λ os. get_elem? os i) (isos_turn rs g.passes) ∙ index_map invert (isos_of rs) i e, no_lets_invert o n)
toward_iso false rs g i o e n = (o, e, n)

none_called : {i : ℕ} (o : Iso) → NoLets o → Earlier i o
none_called o n c m l k = absurd (Memᴰ.not-nil (subst (Memᴰ l) (n c m) k))

-- Both numbers are 1.
pub bounds_one : (file : List ℕ) (rs : List Row) → verdict file ≡ accepted rs → (i : ℕ) (o : Iso) → get_elem? (isos_of rs) i ≡ some o → is_free (isos_of rs) i ≡ true
    → NoLets o → bounds file i ≡ told 1 1
unfolding least_costs greatest_costs
bounds_one file rs e i o f free n =
    let g = accepted_good file rs e in
    let x = inhabitant o.from in
    let r = free_ends false rs g i o f free x.0 x.1 in
    let u = ap (λ q. q i x.0) (reduce_unfold (isos_of rs)) in
    let m = (one_reduction (isos_of rs) max_depth i o f n x.0 r.0 r.1 (sym u ∙ r.2)).2 in
    let low : List ℕ = costs_from least_of [] (isos_of rs) in
    let high : List ℕ = costs_from greatest_of [] (isos_of rs) in
    let l = cost_at least_of (isos_of rs) i f (none_called o n) ∙ least_one (clause_cost low) o.clauses m (λ c k. clause_one low c (n c k)) in
    let h = cost_at greatest_of (isos_of rs) i f (none_called o n) ∙ greatest_one (clause_cost high) o.clauses m (λ c k. clause_one high c (n c k)) in
    bounds_present file rs e i f free ∙ ap₂ told l h

-- There is a run that counts 1, there and back, under any budget but 0.
pub runs_one : (file : List ℕ) (rs : List Row) → verdict file ≡ accepted rs → (i : ℕ) (o : Iso) → get_elem? (isos_of rs) i ≡ some o → is_free (isos_of rs) i ≡ true
    → NoLets o → (back : Bool) (budget : ℕ) → 1 ≤ budget → (value : List ℕ) × (y : List ℕ) × (run file i back budget value ≡ gives (1, y))
runs_one file rs e i o f free n back budget h =
    let q = accepted_good file rs e in
    let g = good (toward back rs) (good_toward back rs q) in
    let t = toward_iso back rs q i o f n in
    let p : Iso = t.0 in
    let x = inhabitant p.from in
    let v : Val = x.0 in
    let os : List Iso = isos_of (toward back rs) in
    let r = free_ends back rs q i p t.1 free v x.1 in
    let u = ap (λ q. q i v) (reduce_unfold os) in
    let k = (one_reduction os max_depth i p t.1 t.2 v r.0 r.1 (sym u ∙ r.2)).0 in
    let s = r.2 ∙ counted refl k in
    let says = run_iff file rs e i back budget (letters v) (gives (1, letters r.0)) in
    (letters v, letters r.0, says.1 (done p v r.0 1 t.1 refl x.1 (halts os g i p t.1 v x.1 (some r.0) 1 s) h))
