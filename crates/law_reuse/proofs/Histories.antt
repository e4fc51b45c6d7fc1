-- The linear typing of Table 1 keeps the variables rule: what happens to a variable, by the slot that a context has for it.
use Prim.Native.Nat.{ℕ, zero, suc}
use mathlib.Core.Path.{◌≡◌, refl, sym, ap, ap₂, ◌∙◌, subst}
use mathlib.Core.Logic.{◌⊎◌, inl, inr}
use mathlib.Core.Bool.{true, false}
use mathlib.Core.Option.{Option, none, some}
use mathlib.Core.List.{List, [], ◌∷◌, ◌++◌, append-nil, append_assoc, map-append}
use lib.Dec.{eqb}
use Rattle.calculus.specs.Trees.{Ty, Pat, Let, Clause, vars}
use Rattle.calculus.specs.Slots.{Slots}
use Rattle.calculus.specs.Clauses.{Deed, binds, uses, Event, deeds, let_events, history, Sigs}
use Rattle.calculus.specs.Paper.{Join, Fits, Chain, Linear, Alternate, BoundThenUsed}
use Rattle.calculus.proofs.Basic.{bool_cases, eqb_eq, eqb_false}
use Rattle.calculus.proofs.Slots.{slot, put_filled, slot_all_empty}
use Rattle.calculus.proofs.Variables.{mark, marks, history_append, history_three, history_hit, history_miss, Only, nothing, more}

-- ---- histories of patterns and of let steps

pub marks_append : (n : ℕ) (d : Deed) (ns ms : List ℕ) → history n (marks d (ns ++ ms)) ≡ history n (marks d ns) ++ history n (marks d ms)
marks_append n d ns ms = ap (history n) (map-append (mark d) ns ms) ∙ history_append n (marks d ns) (marks d ms)

-- one kind of deed: its order does not matter
only_shift : {d : Deed} {ds : List Deed} (es : List Deed) → Only d ds → ds ++ (d ∷ es) ≡ d ∷ (ds ++ es)
only_shift es nothing = refl
only_shift es (more {es = ds} h o) = ap₂ ◌∷◌ h (only_shift es o ∙ ap (λ x. x ∷ (ds ++ es)) (sym h))

pub only_comm : {d : Deed} {ds es : List Deed} → Only d ds → Only d es → ds ++ es ≡ es ++ ds
only_comm {ds = ds} o nothing = append-nil ds
only_comm {d = d} {ds = ds} o (more {es = es} h p) =
    ap (λ x. ds ++ (x ∷ es)) h ∙ only_shift es o ∙ ap₂ ◌∷◌ (sym h) (only_comm o p)

-- what let steps and the right pattern do
abbrev pub after : List Let → Pat → List Event
after ls r = let_events ls ++ deeds uses r

pub history_step : (n : ℕ) (l : Let) (ls : List Let) (r : Pat)
    → history n (after (l ∷ ls) r) ≡ history n (deeds uses l.q) ++ (history n (deeds binds l.p) ++ history n (after ls r))
history_step n l ls r =
    ap (history n)
    (append_assoc (deeds uses l.q) (deeds binds l.p ++ let_events ls) (deeds uses r)
    ∙ ap (λ x. deeds uses l.q ++ x) (append_assoc (deeds binds l.p) (let_events ls) (deeds uses r)))
    ∙ history_three n (deeds uses l.q) (deeds binds l.p) (after ls r)

-- ---- contexts, slot by slot

-- what a slot holds in three contexts of which the first joins the other two
pub data JoinAt : Option Ty → Option Ty → Option Ty → Type 0 where
  neither : JoinAt none none none
  first : {a b : Ty} → a ≡ b → JoinAt (some a) (some b) none
  second : {a b : Ty} → a ≡ b → JoinAt (some a) none (some b)

pub join_at : {d e f : Slots Ty} → Join d e f → (n : ℕ) → JoinAt (slot d n) (slot e n) (slot f n)
join_at Join.done n = neither
join_at (Join.neither j) zero = neither
join_at (Join.neither j) (suc n) = join_at j n
join_at (Join.first e j) zero = first e
join_at (Join.first e j) (suc n) = join_at j n
join_at (Join.second e j) zero = second e
join_at (Join.second e j) (suc n) = join_at j n

-- a deed where a slot is full
abbrev times : Deed → Option Ty → List Deed
times d none = []
times d (some t) = d ∷ []

times_join : (d : Deed) {x y z : Option Ty} → JoinAt x y z → times d x ≡ times d y ++ times d z
times_join d neither = refl
times_join d (first e) = refl
times_join d (second e) = refl

-- the variables of a pattern are those whose slots are full
fits_history : (u : Deed) (n : ℕ) {d : Slots Ty} {p : Pat} {a : Ty} → Fits d p a → history n (deeds u p) ≡ times u (slot d n)
fits_history u n {d} (Fits.unit e) = ap (times u) (sym (slot_all_empty d e n))
fits_history u n {d} (Fits.nil e) = ap (times u) (sym (slot_all_empty d e n))
fits_history u n {d} (Fits.var {n = m} {a = a} e h k) = go (bool_cases (eqb n m))
  where
    go : (eqb n m ≡ true) ⊎ (eqb n m ≡ false) → history n (marks u (m ∷ [])) ≡ times u (slot d n)
    go (inl q) = history_hit n (mark u m) [] (eqb_eq n m q) ∙ ap (times u) (sym (put_filled m a e k).held ∙ ap (λ i. slot d i) (sym (eqb_eq n m q)))
    go (inr q) = history_miss n (mark u m) [] q ∙ ap (times u) (sym ((put_filled m a e k).same n (eqb_false q) ∙ slot_all_empty e h n))
fits_history u n (Fits.inj f) = fits_history u n f
fits_history u n (Fits.pair {p = p} {q = q} j f g) =
    marks_append n u (vars p) (vars q) ∙ ap₂ ◌++◌ (fits_history u n f) (fits_history u n g) ∙ sym (times_join u (join_at j n))
fits_history u n (Fits.cons {p = p} {q = q} j f g) =
    marks_append n u (vars p) (vars q) ∙ ap₂ ◌++◌ (fits_history u n f) (fits_history u n g) ∙ sym (times_join u (join_at j n))

-- ---- the variables rule

-- what may happen to a variable whose slot is empty or full, so that it is empty in the end
data Runs : Option Ty → List Deed → Type 0 where
  stop : Runs none []
  put_in : {t : Ty} {ds : List Deed} → Runs (some t) ds → Runs none (binds ∷ ds)
  take_out : {t : Ty} {ds : List Deed} → Runs none ds → Runs (some t) (uses ∷ ds)

runs_value : (x : Option Ty) → Runs x (times uses x)
runs_value none = stop
runs_value (some t) = take_out stop

runs_step : {x y z w g : Option Ty} {ds : List Deed} → JoinAt x y z → JoinAt w z g → Runs w ds → Runs x (times uses y ++ (times binds g ++ ds))
runs_step neither neither r = r
runs_step neither (second e) r = put_in r
runs_step (first e) neither r = take_out r
runs_step (first e) (second h) r = take_out (put_in r)
runs_step {ds = ds} (second e) (first h) r = subst (λ t. Runs (some t) ds) (h ∙ sym e) r

runs_bind : (x : Option Ty) {ds : List Deed} → Runs x ds → Runs none (times binds x ++ ds)
runs_bind none r = r
runs_bind (some t) r = put_in r

runs_chain : (n : ℕ) {sigs : Sigs} {d : Slots Ty} {ls : List Let} {p : Pat} {b : Ty} → Chain sigs d ls p b → Runs (slot d n) (history n (after ls p))
runs_chain n {d} (Chain.value f) = subst (Runs (slot d n)) (sym (fits_history uses n f)) (runs_value (slot d n))
runs_chain n {d} (Chain.step {l = l} {ls = ls} {p = p} s k j fe fg i c) =
    subst (Runs (slot d n))
    (sym (history_step n l ls p ∙ ap₂ (λ r t. r ++ (t ++ history n (after ls p))) (fits_history uses n fe) (fits_history binds n fg)))
    (runs_step (join_at j n) (join_at i n) (runs_chain n c))

runs_alternate : {ds : List Deed} → Runs none ds → Alternate ds
runs_alternate stop = Alternate.rest
runs_alternate (put_in (take_out r)) = Alternate.again (runs_alternate r)

-- what Table 1 types, the variables rule admits
pub linear_variables : (sigs : Sigs) (a b : Ty) (c : Clause) → Linear sigs a b c → BoundThenUsed c
linear_variables sigs a b c h n =
    subst Alternate
    (sym
    (history_append n (deeds binds c.lhs) (after c.lets c.rhs)
    ∙ ap (λ r. r ++ history n (after c.lets c.rhs)) (fits_history binds n h.lhs)))
    (runs_alternate (runs_bind (slot h.context n) (runs_chain n h.rest)))
