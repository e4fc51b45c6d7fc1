-- A clause that types keeps the variables rule: a variable is bound where it has no type and used where it has one.
use Prim.Native.Nat.{ℕ, zero, suc}
use mathlib.Core.Path.{◌≡◌, refl, sym, ap, ap₂, ◌∙◌}
use mathlib.Core.Bool.{Bool, true, false, true≢false}
use mathlib.Core.Option.{Option, none, some}
use mathlib.Core.List.{List, [], ◌∷◌, ◌++◌, map}
use lib.Dec.{eqb}
use lib.ListN.{get_or, set, get_elem?, replicate}
use Rattle.limits.specs.Limits.{variables}
use Rattle.calculus.specs.Tools.{◌>>=◌, guard, all}
use Rattle.calculus.specs.Trees.{Ty, Pat, pvar, pleaf, pinj, pnode, Let, Clause, same_type, leaf_fits, beneath, parts, vars}
use Rattle.calculus.specs.Slots.{Slots, put, get, all_empty}
use Rattle.calculus.specs.Clauses.{Deed, binds, uses, Event, deeds, let_events, events, learn, spend, Sigs, used}
use Rattle.calculus.proofs.Basic.{bind_some, none≢some, some_inj}
use Rattle.check_variables.specs.Marks.{next_state, mark_one, mark_all, mark_events, settled_all}
use Rattle.check_typing.specs.Fitting.{fitting, fit_all}
use Rattle.check_typing.specs.Rules.{marked, fit_let, fitted_lets, fitted}
use Rattle.check_clauses.proofs.ClauseLaws.{events_append, numbers_marked, deeds_first}

-- a variable is live where it has a type
abbrev live_of : Option Ty → ℕ
live_of none = 0
live_of (some a) = 1

abbrev states : Slots Ty → List ℕ
states e = map live_of e

-- ---- one variable

put_marks : (n : ℕ) (a : Ty) (e : Slots Ty) {d : Slots Ty} → put n a e ≡ some d → mark_one binds n (states e) ≡ states d
put_marks n a [] h = absurd (none≢some h)
put_marks zero a (none ∷ e) h = ap states (some_inj h)
put_marks zero a (some b ∷ e) h = absurd (none≢some h)
put_marks (suc n) a (s ∷ e) h =
    let r = bind_some (put n a e) (λ x. some (s ∷ x)) h in
    ap (λ m. live_of s ∷ m) (put_marks n a e r.1) ∙ ap states (some_inj r.2)

get_marks : (n : ℕ) (e : Slots Ty) {r : Ty × Slots Ty} → get n e ≡ some r → mark_one uses n (states e) ≡ states r.1
get_marks n [] h = absurd (none≢some h)
get_marks zero (none ∷ e) h = absurd (none≢some h)
get_marks zero (some b ∷ e) h = ap (λ x. states x.1) (some_inj h)
get_marks (suc n) (s ∷ e) h =
    let r = bind_some (get n e) (λ x. some (x.0, s ∷ x.1)) h in
    ap (λ m. live_of s ∷ m) (get_marks n e r.1) ∙ ap (λ x. states x.1) (some_inj r.2)

-- ---- the same deed for two variables, in either order

one_one : (d : Deed) (n k : ℕ) (m : List ℕ) → mark_one d n (mark_one d k m) ≡ mark_one d k (mark_one d n m)
one_one d n k [] = refl
one_one d zero zero (s ∷ m) = refl
one_one d zero (suc k) (s ∷ m) = refl
one_one d (suc n) zero (s ∷ m) = refl
one_one d (suc n) (suc k) (s ∷ m) = ap (λ x. s ∷ x) (one_one d n k m)

one_all : (d : Deed) (n : ℕ) (ks m : List ℕ) → mark_all d ks (mark_one d n m) ≡ mark_one d n (mark_all d ks m)
one_all d n [] m = refl
one_all d n (k ∷ ks) m = ap (mark_all d ks) (one_one d k n m) ∙ one_all d n ks (mark_one d k m)

all_append : (d : Deed) (ns ks m : List ℕ) → mark_all d (ns ++ ks) m ≡ mark_all d ks (mark_all d ns m)
all_append d [] ks m = refl
all_append d (n ∷ ns) ks m = all_append d ns ks (mark_one d n m)

all_all : (d : Deed) (ns ks m : List ℕ) → mark_all d ks (mark_all d ns m) ≡ mark_all d ns (mark_all d ks m)
all_all d [] ks m = refl
all_all d (n ∷ ns) ks m = all_all d ns ks (mark_one d n m) ∙ ap (mark_all d ns) (one_all d n ks m)

-- ---- a pattern

learn_marks : (p : Pat) (a : Ty) (e : Slots Ty) {d : Slots Ty} → learn p a e ≡ some d → mark_all binds (vars p) (states e) ≡ states d
learn_marks (pvar n) a e h = put_marks n a e h
learn_marks (pleaf l) a e h = let r = bind_some (guard (leaf_fits l a)) (λ _. some e) h in ap states (some_inj r.2)
learn_marks (pinj t p) a e h = let r = bind_some (beneath t a) (λ b. learn p b e) h in learn_marks p r.0 e r.2
learn_marks (pnode k p q) a e h =
    let c = bind_some (parts k a) (λ s. learn p s.0 e >>= λ x. learn q s.1 x) h in
    let r = bind_some (learn p c.0.0 e) (λ x. learn q c.0.1 x) c.2 in
    all_append binds (vars p) (vars q) (states e) ∙ ap (mark_all binds (vars q)) (learn_marks p c.0.0 e r.1) ∙ learn_marks q c.0.1 r.0 r.2

spend_marks : (p : Pat) (a : Ty) (e : Slots Ty) {d : Slots Ty} → spend p a e ≡ some d → mark_all uses (vars p) (states e) ≡ states d
spend_marks (pvar n) a e h =
    let r = bind_some (get n e) (λ x. guard (same_type x.0 a) >>= λ _. some x.1) h in
    let g = bind_some (guard (same_type r.0.0 a)) (λ _. some r.0.1) r.2 in
    get_marks n e r.1 ∙ ap states (some_inj g.2)
spend_marks (pleaf l) a e h = let r = bind_some (guard (leaf_fits l a)) (λ _. some e) h in ap states (some_inj r.2)
spend_marks (pinj t p) a e h = let r = bind_some (beneath t a) (λ b. spend p b e) h in spend_marks p r.0 e r.2
spend_marks (pnode k p q) a e h =
    let c = bind_some (parts k a) (λ s. spend q s.1 e >>= λ x. spend p s.0 x) h in
    let r = bind_some (spend q c.0.1 e) (λ x. spend p c.0.0 x) c.2 in
    all_append uses (vars p) (vars q) (states e) ∙ all_all uses (vars p) (vars q) (states e)
    ∙ ap (mark_all uses (vars p)) (spend_marks q c.0.1 e r.1) ∙ spend_marks p c.0.0 r.0 r.2

-- ---- L lines, and the clause

let_marks : (s : Option (Ty × Ty)) (l : Let) (x : Option (Slots Ty)) {d : Slots Ty} (vs : List Event) → fit_let s l x ≡ some d
    → (e : Slots Ty) × (x ≡ some e) × (mark_events (deeds uses l.q ++ (deeds binds l.p ++ vs)) (states e) ≡ mark_events vs (states d))
let_marks none l x vs h = absurd (none≢some h)
let_marks (some s) l x vs h =
    let r = bind_some (fit_all false l.q s.0 x) (λ e. learn l.p s.1 e) h in
    let u = bind_some x (λ e. spend l.q s.0 e) r.1 in (
      u.0,
      u.1,
      deeds_first uses l.q (deeds binds l.p ++ vs) (states u.0) (sym (spend_marks l.q s.0 u.0 u.2))
          ∙ deeds_first binds l.p vs (states r.0) (sym (learn_marks l.p s.1 r.0 r.2)),
    )

lets_marks : (sigs : Sigs) (ls : List Let) (x : Option (Slots Ty)) {d : Slots Ty} → fitted_lets sigs ls x ≡ some d
    → (e : Slots Ty) × (x ≡ some e) × (mark_events (let_events ls) (states e) ≡ states d)
lets_marks sigs [] x {d} h = (d, h, refl)
lets_marks sigs (l ∷ ls) x h =
    let r = lets_marks sigs ls (fit_let (get_elem? sigs l.iso) l x) h in
    let u = let_marks (get_elem? sigs l.iso) l x (let_events ls) r.1 in
    (u.0, u.1, u.2 ∙ r.2)

used_some : (x : Option (Slots Ty)) → used x ≡ true → (d : Slots Ty) × (x ≡ some d) × (all_empty d ≡ true)
used_some none h = absurd (true≢false (sym h))
used_some (some d) h = (d, refl, h)

settled_empty : (d : Slots Ty) → settled_all (states d) ≡ all_empty d
settled_empty [] = refl
settled_empty (none ∷ d) = settled_empty d
settled_empty (some a ∷ d) = refl

pub fitted_marked : (sigs : Sigs) (a b : Ty) (c : Clause) → fitted sigs a b c ≡ true → marked c ≡ true
unfolding fitted marked
fitted_marked sigs a b c h =
    let x : Option (Slots Ty) = fit_all true c.lhs a (some (replicate variables none)) in
    let w = used_some (fit_all false c.rhs b (fitted_lets sigs c.lets x)) h in
    let r = bind_some (fitted_lets sigs c.lets x) (λ e. spend c.rhs b e) w.1 in
    let l = lets_marks sigs c.lets x r.1 in
    let first : mark_events (events c) (replicate variables 0) ≡ mark_events (let_events c.lets ++ deeds uses c.rhs) (states l.0) =
    deeds_first binds c.lhs (let_events c.lets ++ deeds uses c.rhs) (replicate variables 0) (sym (learn_marks c.lhs a (replicate variables none) l.1)) in
    ap settled_all
    (first ∙ events_append (let_events c.lets) (deeds uses c.rhs) (states l.0) ∙ ap (mark_events (deeds uses c.rhs)) l.2
    ∙ numbers_marked uses (vars c.rhs) (states r.0) ∙ spend_marks c.rhs b r.0 r.2)
    ∙ settled_empty w.0 ∙ w.2
