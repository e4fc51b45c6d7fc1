-- The linear typing of Table 1 is the variables rule with some assignment of types to the bindings of the clause.
use Prim.Native.Nat.{ℕ, zero, suc, ◌<◌}
use mathlib.Core.Path.{◌≡◌, refl, sym, ap, ◌∙◌, subst}
use mathlib.Core.Logic.{◌⊎◌, inl, inr, ◌↔◌}
use mathlib.Core.Bool.{true, false}
use mathlib.Core.Option.{Option, none, some}
use mathlib.Core.List.Memᴰ
use mathlib.Core.List.{List, [], ◌∷◌, ◌++◌, append-nil, append_assoc, Memᴰ}
use lib.Dec.{eqb}
use lib.ListN.{length}
use Rattle.limits.specs.Limits.{variables}
use Rattle.calculus.specs.Tools.{◌>>=◌, guard}
use Rattle.calculus.specs.Trees.{Ty, tunit, tlist, Pat, Let, Clause, same_type, vars}
use Rattle.calculus.specs.Slots.{Slots, get, empty, all_empty}
use Rattle.calculus.specs.Refusals.{clause_line, bad_type}
use Rattle.calculus.specs.Clauses.{Deed, binds, uses, deeds, history, Sigs, learn, spend}
use Rattle.calculus.specs.Paper.{Join, Fits, Chain, Linear, Alternate, BoundThenUsed, LetProducts, ClauseOk}
use Rattle.calculus.specs.Faulty.{ClauseFault}
use Rattle.calculus.proofs.Basic.{some_bind, none≢some, some_inj, not_some, true_guard, bool_cases, eqb_eq, eqb_false, same_type_refl}
use Rattle.calculus.proofs.Formed.{FormedLet, FormedClause}
use Rattle.calculus.proofs.Slots.{slot, put_of_get, put_filled, put_empty, slot_all_empty, slot_empty, length_empty}
use Rattle.calculus.proofs.Variables.{mark, marks, history_append, history_hit, history_miss, mem_history, Only, only_marks, not_used}
use Rattle.calculus.proofs.Typing.{learn_length, spend_length, typed_let, ChainTyped, typed_clause, typed_iff}
use Rattle.law_reuse.specs.Bindings.{Under, Along, Assigned}
use Rattle.law_reuse.proofs.Histories.{marks_append, only_comm, after, history_step, JoinAt, neither, first, second, join_at, linear_variables}

-- ---- from the linear typing to an assignment

-- an assignment has the types of a context
abbrev Holds : (ℕ → Ty) → Slots Ty → Type 0
Holds Γ d = (n : ℕ) (t : Ty) → slot d n ≡ some t → Γ n ≡ t

join_left : {x y z : Option Ty} (t : Ty) → JoinAt x y z → y ≡ some t → x ≡ some t
join_left t neither e = e
join_left t (first h) e = ap some h ∙ e
join_left t (second h) e = absurd (none≢some e)

join_right : {x y z : Option Ty} (t : Ty) → JoinAt x y z → z ≡ some t → x ≡ some t
join_right t neither e = e
join_right t (first h) e = absurd (none≢some e)
join_right t (second h) e = ap some h ∙ e

holds_left : {Γ : ℕ → Ty} {d e f : Slots Ty} → Join d e f → Holds Γ d → Holds Γ e
holds_left j h n t q = h n t (join_left t (join_at j n) q)

holds_right : {Γ : ℕ → Ty} {d e f : Slots Ty} → Join d e f → Holds Γ d → Holds Γ f
holds_right j h n t q = h n t (join_right t (join_at j n) q)

holds_under : {Γ : ℕ → Ty} {d : Slots Ty} {p : Pat} {a : Ty} → Fits d p a → Holds Γ d → Under Γ p a
holds_under (Fits.unit e) h = Under.unit
holds_under (Fits.nil e) h = Under.nil
holds_under (Fits.var {n = n} {a = a} e z k) h = Under.var (h n a (put_filled n a e k).held)
holds_under (Fits.inj f) h = Under.inj (holds_under f h)
holds_under (Fits.pair j f g) h = Under.pair (holds_under f (holds_left j h)) (holds_under g (holds_right j h))
holds_under (Fits.cons j f g) h = Under.cons (holds_under f (holds_left j h)) (holds_under g (holds_right j h))

-- the types of a context before those of an assignment
abbrev or_given : Option Ty → Ty → Ty
or_given none t = t
or_given (some s) t = s

abbrev over : Slots Ty → (ℕ → Ty) → ℕ → Ty
over d Γ n = or_given (slot d n) (Γ n)

holds_own : (d : Slots Ty) (Γ : ℕ → Ty) → Holds (over d Γ) d
holds_own d Γ n t e = ap (λ x. or_given x (Γ n)) e

over_join : {x y z : Option Ty} {s : Ty} (t : Ty) → JoinAt x y z → (y ≡ some t → s ≡ t) → x ≡ some t → or_given z s ≡ t
over_join t neither h q = absurd (none≢some q)
over_join t (first e) h q = h (ap some (sym e) ∙ q)
over_join t (second e) h q = sym e ∙ some_inj q

-- a full slot of a joined context is one of the first or of the second
either : {ns ms : List ℕ} {u v w : Option Ty} (n : ℕ) (t : Ty) → JoinAt u v w → u ≡ some t → (v ≡ some t → Memᴰ n ns) → (w ≡ some t → Memᴰ n ms)
    → Memᴰ n (ns ++ ms)
either n t neither h l r = absurd (none≢some h)
either {ms = ms} n t (first i) h l r = Memᴰ.append_left ms (l (ap some (sym i) ∙ h))
either {ns = ns} n t (second i) h l r = Memᴰ.append_right ns (r (ap some (sym i) ∙ h))

-- a full slot is that of a variable of the pattern
inside : {d : Slots Ty} {p : Pat} {a : Ty} (n : ℕ) (t : Ty) → Fits d p a → slot d n ≡ some t → Memᴰ n (vars p)
inside {d} n t (Fits.unit e) q = absurd (none≢some (sym (slot_all_empty d e n) ∙ q))
inside {d} n t (Fits.nil e) q = absurd (none≢some (sym (slot_all_empty d e n) ∙ q))
inside {d} n t (Fits.var {n = m} {a = a} e z k) q = go (bool_cases (eqb n m))
  where
    go : (eqb n m ≡ true) ⊎ (eqb n m ≡ false) → Memᴰ n (m ∷ [])
    go (inl i) = Memᴰ.head (eqb_eq n m i)
    go (inr i) = absurd (none≢some (sym ((put_filled m a e k).same n (eqb_false i) ∙ slot_all_empty e z n) ∙ q))
inside n t (Fits.inj f) q = inside n t f q
inside n t (Fits.pair j x y) h = either n t (join_at j n) h (λ i. inside n t x i) (λ i. inside n t y i)
inside n t (Fits.cons j x y) h = either n t (join_at j n) h (λ i. inside n t x i) (λ i. inside n t y i)

chain_along : {sigs : Sigs} {Γ : ℕ → Ty} {d : Slots Ty} {ls : List Let} {r : Pat} {b : Ty} → Chain sigs d ls r b → Holds Γ d → Along sigs Γ ls r b
chain_along (Chain.value f) h = Along.value (holds_under f h)
chain_along {Γ} (Chain.step {g = g} s k j fe fg i c) h =
    Along.step s (over g Γ) k
    (holds_under fe (holds_left j h))
    (holds_under fg (holds_own g Γ))
    (λ n m. ap (λ x. or_given x (Γ n)) (not_some (slot g n) (λ t e. m (inside n t fg e))))
    (chain_along c (λ n t q. over_join t (join_at i n) (holds_right j h n t) q))

pub linear_assigned : (sigs : Sigs) (a b : Ty) (c : Clause) → Linear sigs a b c → Assigned sigs a b c
linear_assigned sigs a b c h =
    let own = holds_own h.context (λ n. tunit) in
    record { Γ = over h.context (λ n. tunit); lhs = holds_under h.lhs own; rest = chain_along h.rest own }

-- ---- from an assignment to the linear typing

-- what is still to happen to a variable of type t, not live or live with the type in its slot
data Ready (t : Ty) : Option Ty → List Deed → Type 0 where
  free : {ds : List Deed} → Alternate ds → Ready t none ds
  live : {u : Ty} {ds : List Deed} → u ≡ t → Alternate ds → Ready t (some u) (uses ∷ ds)

bound_ready : {t : Ty} {x : Option Ty} {ds : List Deed} → Ready t x (binds ∷ ds) → (x ≡ none) × ((u : Ty) → u ≡ t → Ready t (some u) ds)
bound_ready (free (Alternate.again a)) = (refl, λ u e. live e a)

used_ready : {t : Ty} {x : Option Ty} {ds : List Deed} → Ready t x (uses ∷ ds) → (x ≡ some t) × Ready t none ds
used_ready (live e a) = (ap some e, free a)
used_ready {t = t} {ds = ds} (free x4) = elim x4 [ ]

ended_ready : {t : Ty} {x : Option Ty} → Ready t x [] → x ≡ none
ended_ready (free a) = refl

-- the type of a number that is bound next does not matter
rebound : {s t : Ty} {x : Option Ty} (ds es : List Deed) → Only binds ds → (ds ≡ [] → s ≡ t) → Ready s x (ds ++ es) → Ready t x (ds ++ es)
rebound {x = x} [] es o h r = subst (λ u. Ready u x es) (h refl) r
rebound (binds ∷ ds) es o h (free a) = free a
rebound (uses ∷ ds) es o h r = absurd (not_used o)

-- all variables
abbrev AllReady : (ℕ → Ty) → Slots Ty → (ℕ → List Deed) → Type 0
AllReady Γ e h = (n : ℕ) → Ready (Γ n) (slot e n) (h n)

-- one variable is bound or used, and the slots of all others are as they were
ready_one : {Γ : ℕ → Ty} (d e : Slots Ty) (h : ℕ → List Deed) (u : Deed) (m : ℕ) → ((n : ℕ) → (n ≡ m → ⊥) → slot e n ≡ slot d n)
    → AllReady Γ e (λ n. history n (mark u m ∷ []) ++ h n) → Ready (Γ m) (slot d m) (h m) → AllReady Γ d h
ready_one {Γ} d e h u m same r x n = go (bool_cases (eqb n m))
  where
    go : (eqb n m ≡ true) ⊎ (eqb n m ≡ false) → Ready (Γ n) (slot d n) (h n)
    go (inl q) = subst (λ k. Ready (Γ k) (slot d k) (h k)) (sym (eqb_eq n m q)) x
    go (inr q) =
        subst (λ s. Ready (Γ n) s (h n)) (same n (eqb_false q))
        (subst (λ ds. Ready (Γ n) (slot e n) (ds ++ h n)) (history_miss n (mark u m) [] q) (r n))

ready_at : {Γ : ℕ → Ty} (e : Slots Ty) (h : ℕ → List Deed) (u : Deed) (m : ℕ) → AllReady Γ e (λ n. history n (mark u m ∷ []) ++ h n)
    → Ready (Γ m) (slot e m) (u ∷ h m)
ready_at {Γ} e h u m r = subst (λ ds. Ready (Γ m) (slot e m) (ds ++ h m)) (history_hit m (mark u m) [] refl) (r m)

abbrev Learned : (ℕ → Ty) → Pat → Ty → Slots Ty → (ℕ → List Deed) → Type 0
Learned Γ p a e h = (d : Slots Ty) × (learn p a e ≡ some d) × AllReady Γ d h

binds_split : (p q : Pat) (h : ℕ → List Deed) (n : ℕ)
    → history n (marks binds (vars p ++ vars q)) ++ h n ≡ history n (deeds binds p) ++ (history n (deeds binds q) ++ h n)
binds_split p q h n = ap (λ ds. ds ++ h n) (marks_append n binds (vars p) (vars q)) ∙ append_assoc (history n (deeds binds p)) (history n (deeds binds q)) (h n)

uses_split : (p q : Pat) (h : ℕ → List Deed) (n : ℕ)
    → history n (marks uses (vars p ++ vars q)) ++ h n ≡ history n (deeds uses q) ++ (history n (deeds uses p) ++ h n)
uses_split p q h n =
    ap (λ ds. ds ++ h n) (marks_append n uses (vars p) (vars q) ∙ only_comm (only_marks n uses (vars p)) (only_marks n uses (vars q)))
    ∙ append_assoc (history n (deeds uses q)) (history n (deeds uses p)) (h n)

learned : {Γ : ℕ → Ty} {p : Pat} {a : Ty} (e : Slots Ty) (h : ℕ → List Deed) → Under Γ p a → ((n : ℕ) → Memᴰ n (vars p) → n < length e)
    → AllReady Γ e (λ n. history n (deeds binds p) ++ h n) → Learned Γ p a e h
learned e h Under.unit w r = (e, refl, r)
learned e h Under.nil w r = (e, refl, r)
learned {Γ} e h (Under.var {n = m} {a = a} q) w r =
    let x = bound_ready (ready_at e h binds m r) in
    let d = put_empty m a e (w m (Memᴰ.head refl)) x.0 in
    let f = put_filled m a e d.1 in
    (d.0, d.1, ready_one d.0 e h binds m (λ n k. sym (f.same n k)) r (subst (λ s. Ready (Γ m) s (h m)) (sym f.held) (x.1 a (sym q))))
learned e h (Under.inj u) w r = learned e h u w r
learned {Γ} e h (Under.pair {p = p} {q = q} {a = a} {b = b} u v) w r =
    let x = learned e (λ n. history n (deeds binds q) ++ h n) u (λ n m. w n (Memᴰ.append_left (vars q) m)) (λ n. subst (Ready (Γ n) (slot e n)) (binds_split p q h n) (r n)) in
    let y = learned x.0 h v (λ n m. subst (λ k. n < k) (sym (learn_length p a e x.1)) (w n (Memᴰ.append_right (vars p) m))) x.2 in
    (y.0, some_bind (λ d. learn q b d) x.1 ∙ y.1, y.2)
learned {Γ} e h (Under.cons {p = p} {q = q} {a = a} u v) w r =
    let x = learned e (λ n. history n (deeds binds q) ++ h n) u (λ n m. w n (Memᴰ.append_left (vars q) m)) (λ n. subst (Ready (Γ n) (slot e n)) (binds_split p q h n) (r n)) in
    let y = learned x.0 h v (λ n m. subst (λ k. n < k) (sym (learn_length p a e x.1)) (w n (Memᴰ.append_right (vars p) m))) x.2 in
    (y.0, some_bind (λ d. learn q (tlist a) d) x.1 ∙ y.1, y.2)

get_held : (n : ℕ) (a : Ty) (e : Slots Ty) → slot e n ≡ some a → (d : Slots Ty) × (get n e ≡ some (a, d))
get_held n a [] h = absurd (none≢some h)
get_held zero a (none ∷ e) h = absurd (none≢some h)
get_held zero a (some b ∷ e) h = (none ∷ e, ap (λ t. some (t, none ∷ e)) (some_inj h))
get_held (suc n) a (s ∷ e) h = let r = get_held n a e h in (s ∷ r.0, some_bind (λ r. some (r.0, s ∷ r.1)) r.1)

spent : {Γ : ℕ → Ty} {p : Pat} {a : Ty} (e : Slots Ty) (h : ℕ → List Deed) → Under Γ p a → AllReady Γ e (λ n. history n (deeds uses p) ++ h n)
    → (d : Slots Ty) × (spend p a e ≡ some d) × AllReady Γ d h
spent e h Under.unit r = (e, refl, r)
spent e h Under.nil r = (e, refl, r)
spent {Γ} e h (Under.var {n = m} {a = a} q) r =
    let x = used_ready (ready_at e h uses m r) in
    let d = get_held m (Γ m) e x.0 in
    let f = put_filled m (Γ m) d.0 (put_of_get m (Γ m) e d.1) in (
      d.0,
      some_bind (λ r. guard (same_type r.0 a) >>= λ _. some r.1) d.1
          ∙ some_bind (λ _. some d.0) (true_guard (ap (λ t. same_type t a) q ∙ same_type_refl a)),
      ready_one d.0 e h uses m f.same r (subst (λ s. Ready (Γ m) s (h m)) (sym f.new) x.1),
    )
spent e h (Under.inj u) r = spent e h u r
spent {Γ} e h (Under.pair {p = p} {q = q} {a = a} {b = b} u v) r =
    let x = spent e (λ n. history n (deeds uses p) ++ h n) v (λ n. subst (Ready (Γ n) (slot e n)) (uses_split p q h n) (r n)) in
    let y = spent x.0 h u x.2 in
    (y.0, some_bind (λ d. spend p a d) x.1 ∙ y.1, y.2)
spent {Γ} e h (Under.cons {p = p} {q = q} {a = a} u v) r =
    let x = spent e (λ n. history n (deeds uses p) ++ h n) v (λ n. subst (Ready (Γ n) (slot e n)) (uses_split p q h n) (r n)) in
    let y = spent x.0 h u x.2 in
    (y.0, some_bind (λ d. spend p a d) x.1 ∙ y.1, y.2)

no_values : (e : Slots Ty) → ((n : ℕ) → slot e n ≡ none) → all_empty e ≡ true
no_values [] h = refl
no_values (none ∷ e) h = no_values e (λ n. h (suc n))
no_values (some a ∷ e) h = absurd (none≢some (sym (h zero)))

module _ (sigs : Sigs) (i : ℕ) where
  rest_typed : {Γ : ℕ → Ty} {ls : List Let} {r : Pat} {b : Ty} (e : Slots Ty) → length e ≡ variables → Along sigs Γ ls r b
      → ((l : Let) → Memᴰ l ls → FormedLet i l) → AllReady Γ e (λ n. history n (after ls r)) → ChainTyped sigs ls r b e
  rest_typed {Γ} e w (Along.value {r = r} u) f h =
      let x = spent e (λ n. []) u (λ n. subst (Ready (Γ n) (slot e n)) (sym (append-nil (history n (deeds uses r)))) (h n)) in
      record { last = e; lets = refl; rest = x.0; uses = x.1; nothing = no_values x.0 (λ n. ended_ready (x.2 n)) }
  rest_typed {Γ} e w (Along.step {l = l} {ls = ls} {r = r} s Δ k u v same c) f h =
      let x = spent e (λ n. history n (deeds binds l.p) ++ history n (after ls r)) u (λ n. subst (Ready (Γ n) (slot e n)) (history_step n l ls r) (h n)) in
      let long = spend_length l.q s.0 e x.1 ∙ w in
      let y = learned x.0 (λ n. history n (after ls r)) v (λ n m. subst (λ k. n < k) (sym long) ((f l (Memᴰ.head refl)).p.slots n m)) (λ n. moved n (x.2 n)) in
      let z = rest_typed y.0 (learn_length l.p s.1 x.0 y.1 ∙ long) c (λ l m. f l (Memᴰ.tail m)) y.2 in
      record {
        last = z.last;
        lets = typed_let sigs l ls e {h = z.last} k x.1 y.1 z.lets;
        rest = z.rest;
        uses = z.uses;
        nothing = z.nothing;
      }
    where
      moved : (n : ℕ) {x : Option Ty} → Ready (Γ n) x (history n (deeds binds l.p) ++ history n (after ls r))
          → Ready (Δ n) x (history n (deeds binds l.p) ++ history n (after ls r))
      moved n =
          rebound (history n (deeds binds l.p)) (history n (after ls r)) (only_marks n binds (vars l.p))
          (λ e. sym (same n (λ m. mem_history n (Memᴰ.map (mark binds) m) refl e)))

pub assigned_linear : {i : ℕ} (sigs : Sigs) (a b : Ty) (c : Clause) → FormedClause i c → BoundThenUsed c → Assigned sigs a b c → Linear sigs a b c
assigned_linear {i} sigs a b c f h t =
    let x = learned (empty Ty) (λ n. history n (after c.lets c.rhs)) t.lhs (λ n m. subst (λ k. n < k) (sym (length_empty Ty)) (f.lhs.slots n m)) start in
    let z = rest_typed sigs i x.0 (learn_length c.lhs a (empty Ty) x.1 ∙ length_empty Ty) t.rest f.lets x.2 in
    (typed_iff sigs a b c).0
    (typed_clause sigs a b c (record { first = x.0; binds = x.1; last = z.last; lets = z.lets; rest = z.rest; uses = z.uses; nothing = z.nothing }))
  where
    start : AllReady t.Γ (empty Ty) (λ n. history n (deeds binds c.lhs) ++ history n (after c.lets c.rhs))
    start n =
        subst (λ s. Ready (t.Γ n) s (history n (deeds binds c.lhs) ++ history n (after c.lets c.rhs))) (sym (slot_empty n))
        (free (subst Alternate (history_append n (deeds binds c.lhs) (after c.lets c.rhs)) (h n)))

-- ---- the two forms

-- the conditions on a clause are the linear typing of Table 1, and let patterns that are products
pub clause_iff : (sigs : Sigs) (a b : Ty) (c : Clause) → ClauseOk sigs a b c ↔ (Linear sigs a b c × LetProducts c)
clause_iff sigs a b c = (
  λ k. (k.types, k.shapes),
  λ k. record { variables = linear_variables sigs a b c k.0; shapes = k.1; types = k.0 },
)

module _ {i : ℕ} (sigs : Sigs) (a b : Ty) (c : Clause) (f : FormedClause i c) where
  -- Table 1 asks for the variables rule and for types of bindings, and for nothing else
  pub linear_iff : Linear sigs a b c ↔ (BoundThenUsed c × Assigned sigs a b c)
  linear_iff = (λ l. (linear_variables sigs a b c l, linear_assigned sigs a b c l), λ h. assigned_linear sigs a b c f h.0 h.1)

  -- where 8 is clear the two forms agree
  pub assigned_iff : BoundThenUsed c → Linear sigs a b c ↔ Assigned sigs a b c
  assigned_iff h = (linear_assigned sigs a b c, assigned_linear sigs a b c f h)

  -- 10 "no such assignment"
  pub type_fault_iff : ClauseFault sigs a b c (bad_type clause_line) ↔ (BoundThenUsed c × LetProducts c × ¬ Assigned sigs a b c)
  type_fault_iff = (there, λ h. ClauseFault.types h.0 h.1 (λ l. h.2 (linear_assigned sigs a b c l)))
    where
      there : ClauseFault sigs a b c (bad_type clause_line) → BoundThenUsed c × LetProducts c × ¬ Assigned sigs a b c
      there (ClauseFault.types h k l) = (h, k, λ t. l (assigned_linear sigs a b c f h t))
