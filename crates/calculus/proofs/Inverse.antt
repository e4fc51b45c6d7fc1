-- The inverted isos undo the reduction: where an iso takes v to w, the inverted iso takes w to v in as many applications.
use Prim.Native.Nat.{ℕ, zero, suc}
use native.Mathlib.Omega.{arith}
use mathlib.Core.Path.{◌≡◌, refl, sym, ap, ◌∙◌, subst}
use mathlib.Core.Logic.{◌↔◌}
use mathlib.Core.Option.{some}
use mathlib.Core.List.Memᴰ
use mathlib.Core.List.{List, [], ◌∷◌, map, reverse, reverse-cons, reverse-reverse, map-map, Memᴰ}
use Rattle.calculus.specs.Tools.{is_some, select}
use Rattle.calculus.specs.Trees.{Pat, Val, Let, Clause, Iso, invert_let, invert_clause, invert}
use Rattle.calculus.specs.Slots.{Slots, empty}
use Rattle.calculus.specs.Reduction.{bind, build, Call, run_lets, run_clause, hits, only, apply, reduce_to, reduce, small, reduce_free}
use Rattle.calculus.specs.Clauses.{lefts, rights}
use Rattle.calculus.specs.Paper.{Apart}
use Rattle.calculus.proofs.Basic.{none≢some, each_map, index_mem, index_map, map_reverse, map_twice, counted}
use Rattle.calculus.proofs.Slots.{all_empty_empty}
use Rattle.calculus.proofs.Binding.{build_of_bind, bind_of_build}
use Rattle.calculus.proofs.Running.{let_run, run_let, run_lets_append, ClauseRun, clause_run, all_used, run_clause_lem, only_hit, hit_only, given_some, some_given, application, run_application}
use mathlib.Core.Bool.{Bool, true}
use Rattle.limits.specs.Limits.{max_depth}

-- ---- patterns, let steps and clauses

-- matching a pattern and putting values into it undo each other
pub bind_build : (p : Pat) (v : Val) (e e' : Slots Val) → (bind p v e ≡ some e') ↔ (build p e' ≡ some (v, e))
bind_build p v e e' = (build_of_bind p v e, bind_of_build p e')

-- inv undoes what call does, in as many applications
abbrev pub Undoes : Call → Call → Type 0
Undoes inv call = (i : ℕ) (v w : Val) (k : ℕ) → call i v ≡ (some w, k) → inv i w ≡ (some v, k)

pub run_lets_inverse : {call inv : Call} → Undoes inv call → (ls : List Let) (e : Slots Val) {d : Slots Val} {k : ℕ}
    → run_lets call ls e ≡ (some d, k) → run_lets inv (reverse (map invert_let ls)) d ≡ (some e, k)
run_lets_inverse u [] e h = counted (sym (ap (λ x. x.0) h)) (ap (λ x. x.1) h)
run_lets_inverse {call} {inv} u (l ∷ ls) e {d} h =
    let s = let_run call l ls e h in
    let back = run_let inv (invert_let l) [] s.next (build_of_bind l.p s.gives s.rest s.bound)
    (u l.iso s.given s.gives s.count s.called) (bind_of_build l.q e s.built) refl in
    ap (λ ms. run_lets inv ms d) (reverse-cons (invert_let l) (map invert_let ls))
    ∙ run_lets_append inv (reverse (map invert_let ls)) (invert_let l ∷ []) d (run_lets_inverse u ls s.next s.follows) back
    ∙ counted refl (omega (arith, s.counts))

pub clause_inverse : {call inv : Call} → Undoes inv call → (c : Clause) {v w : Val} {k : ℕ}
    → ClauseRun call c v w k → run_clause inv (invert_clause c) w ≡ (some v, k)
clause_inverse {call} {inv} u c {v} {w} s =
    run_clause_lem inv (invert_clause c) w (bind_of_build c.rhs s.last (all_used s)) (run_lets_inverse u c.lets s.first s.lets)
    (build_of_bind c.lhs v (empty Val) s.bound) (all_empty_empty Val)

-- ---- the reduction

-- both sides of an iso are orthogonal
abbrev pub Sides : Iso → Type 0
Sides o = Apart (lefts o) × Apart (rights o)

pub lefts_invert : (o : Iso) → lefts (invert o) ≡ rights o
lefts_invert o = map-map (λ c. c.lhs) invert_clause o.clauses

pub rights_invert : (o : Iso) → rights (invert o) ≡ lefts o
rights_invert o = map-map (λ c. c.rhs) invert_clause o.clauses

pub sides_invert : (o : Iso) → Sides o → Sides (invert o)
sides_invert o a = (subst Apart (sym (lefts_invert o)) a.1, subst Apart (sym (rights_invert o)) a.0)

pub apply_inverse : {call inv : Call} → Undoes inv call → (o : Iso) → Sides o → (v : Val) {w : Val} {k : ℕ}
    → apply call o v ≡ (some w, k) → apply inv (invert o) w ≡ (some v, k)
apply_inverse {call} {inv} u o a v {w} h =
    let t = given_some (only (select (hits v) o.clauses)) _ h in
    let s = clause_run call t.0 v t.2 in
    let m = Memᴰ.map invert_clause (hit_only (hits v) o.clauses t.1).0 in
    let b = bind_of_build t.0.rhs s.last (all_used s) in
    some_given (λ d. run_clause inv d w) (only_hit w (invert o).clauses (sides_invert o a).0 m (ap is_some b)) (clause_inverse u t.0 s)

-- Where iso i takes v to w, the inverted iso i takes w to v in as many applications, under the same ceilings: the argument on the way
-- there is the result on the way back, and calls are nested as deep.
pub inverse : (os : List Iso) → ((o : Iso) → Memᴰ o os → Apart (lefts o) × Apart (rights o)) → (fits : Val → Bool) (d i : ℕ) (v w : Val) (k : ℕ)
    → reduce_to fits d os i v ≡ (some w, k) → reduce_to fits d (map invert os) i w ≡ (some v, k)
inverse os a fits zero i v w k h = absurd (none≢some (ap (λ r. r.0) h))
inverse os a fits (suc d) i v w k h =
    let t = application fits d os i v h in
    run_application fits d (map invert os) i w t.result (index_map invert os i t.known)
    (apply_inverse (inverse os a fits d) t.iso (a t.iso (index_mem os i t.known)) v t.applies) t.argument
    ∙ counted refl t.counts

-- ---- inverting twice

invert_lets_twice : (ls : List Let) → reverse (map invert_let (reverse (map invert_let ls))) ≡ ls
invert_lets_twice ls =
    ap reverse (map_reverse invert_let (map invert_let ls)) ∙ reverse-reverse (map invert_let (map invert_let ls)) ∙ map_twice invert_let (λ l. refl) ls

pub invert_clause_twice : (c : Clause) → invert_clause (invert_clause c) ≡ c
invert_clause_twice c = ap (λ ls. record { line = c.line; lhs = c.lhs; lets = ls; rhs = c.rhs }) (invert_lets_twice c.lets)

pub invert_invert : (o : Iso) → invert (invert o) ≡ o
invert_invert o =
    ap (λ cs. record { line = o.line; from = o.from; to = o.to; clauses = cs }) (map_twice invert_clause invert_clause_twice o.clauses)

pub invert_all_twice : (os : List Iso) → map invert (map invert os) ≡ os
invert_all_twice os = map_twice invert invert_invert os

pub all_sides_invert : (os : List Iso) → ((o : Iso) → Memᴰ o os → Sides o) → (o : Iso) → Memᴰ o (map invert os) → Sides o
all_sides_invert os a = each_map Sides invert os (λ o m. sides_invert o (a o m))

-- the reduction and that of the inverted isos undo each other
pub reduce_to_inverse : (os : List Iso) → ((o : Iso) → Memᴰ o os → Apart (lefts o) × Apart (rights o)) → (fits : Val → Bool) (d i : ℕ) (v w : Val) (k : ℕ)
    → (reduce_to fits d os i v ≡ (some w, k)) ↔ (reduce_to fits d (map invert os) i w ≡ (some v, k))
reduce_to_inverse os a fits d i v w k = (
  inverse os a fits d i v w k,
  λ h. ap (λ qs. reduce_to fits d qs i v) (sym (invert_all_twice os)) ∙ inverse (map invert os) (all_sides_invert os a) fits d i w v k h,
)

pub reduce_unfold : (os : List Iso) → reduce os ≡ reduce_to small max_depth os
unfolding reduce
reduce_unfold os = refl

pub free_unfold : (d : ℕ) (os : List Iso) → reduce_free d os ≡ reduce_to (λ v. true) d os
unfolding reduce_free
free_unfold d os = refl

pub reduce_inverse : (os : List Iso) → ((o : Iso) → Memᴰ o os → Apart (lefts o) × Apart (rights o)) → (i : ℕ) (v w : Val) (k : ℕ)
    → (reduce os i v ≡ (some w, k)) ↔ (reduce (map invert os) i w ≡ (some v, k))
reduce_inverse os a i v w k =
    let t = reduce_to_inverse os a small max_depth i v w k in
    let x = ap (λ f. f i v) (reduce_unfold os) in
    let y = ap (λ f. f i w) (reduce_unfold (map invert os)) in
    (λ h. y ∙ t.0 (sym x ∙ h), λ h. x ∙ t.1 (sym y ∙ h))

pub free_inverse : (os : List Iso) → ((o : Iso) → Memᴰ o os → Apart (lefts o) × Apart (rights o)) → (d i : ℕ) (v w : Val) (k : ℕ)
    → (reduce_free d os i v ≡ (some w, k)) ↔ (reduce_free d (map invert os) i w ≡ (some v, k))
free_inverse os a d i v w k =
    let t = reduce_to_inverse os a (λ v. true) d i v w k in
    let x = ap (λ f. f i v) (free_unfold d os) in
    let y = ap (λ f. f i w) (free_unfold d (map invert os)) in
    (λ h. y ∙ t.0 (sym x ∙ h), λ h. x ∙ t.1 (sym y ∙ h))
