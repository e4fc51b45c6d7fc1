-- Refusals 8 and 9 as tests agree with what the paper says, and the inversion of a clause keeps both rules.
use Prim.Native.Nat.{ℕ}
use mathlib.Core.Path.{◌≡◌, refl, sym, ap, ap₂, ◌∙◌, subst}
use mathlib.Core.Logic.{◌⊎◌, inl, inr, ◌↔◌}
use mathlib.Core.Bool.{Bool, true, false, cond, ◌&&◌, false≢true}
use mathlib.Core.List.Memᴰ
use mathlib.Core.List.{List, [], ◌∷◌, ◌++◌, map, reverse, append-nil, append_assoc, reverse-cons, Memᴰ, cons-ne-nil}
use lib.Dec.{eqb}
use Rattle.calculus.specs.Tools.{all}
use Rattle.calculus.specs.Trees.{Pat, pvar, pinj, Let, Clause, vars, invert_let, invert_clause, unit_leaf, empty_leaf, pair_node, element_node, pleaf, pnode}
use Rattle.calculus.specs.Clauses.{Deed, binds, uses, Event, deeds, let_events, events, history, alternate, variables_rule, plain, let_shapes}
use Rattle.calculus.specs.Paper.{Alternate, BoundThenUsed, Distinct, nobody, another, Product, LetProducts}
use Rattle.calculus.proofs.Basic.{bool_cases, and_true, true_and, eqb_eq, eq_eqb, each_map, all_mem, mem_all, mem_reverse}

-- ---- histories

abbrev pub mark : Deed → ℕ → Event
mark d n = record { deed = d; name = n }

-- the same deed to each number of a list
abbrev pub marks : Deed → List ℕ → List Event
marks d ns = map (mark d) ns

pub history_append : (n : ℕ) (vs ws : List Event) → history n (vs ++ ws) ≡ history n vs ++ history n ws
history_append n [] ws = refl
history_append n (v ∷ vs) ws = go (eqb n v.name) (history_append n vs ws)
  where
    go : (b : Bool) → history n (vs ++ ws) ≡ history n vs ++ history n ws
        → cond b (v.deed ∷ history n (vs ++ ws)) (history n (vs ++ ws)) ≡ cond b (v.deed ∷ history n vs) (history n vs) ++ history n ws
    go true h = ap (λ r. v.deed ∷ r) h
    go false h = h

pub history_hit : (n : ℕ) (v : Event) (vs : List Event) → n ≡ v.name → history n (v ∷ vs) ≡ v.deed ∷ history n vs
history_hit n v vs e = ap (λ b. cond b (v.deed ∷ history n vs) (history n vs)) (eq_eqb e)

pub history_miss : (n : ℕ) (v : Event) (vs : List Event) → eqb n v.name ≡ false → history n (v ∷ vs) ≡ history n vs
history_miss n v vs e = ap (λ b. cond b (v.deed ∷ history n vs) (history n vs)) e

-- a number has no history, or some event is about it
history_mem : (n : ℕ) (vs : List Event) → (history n vs ≡ []) ⊎ ((v : Event) × Memᴰ v vs × (n ≡ v.name))
history_mem n [] = inl refl
history_mem n (v ∷ vs) = go (bool_cases (eqb n v.name)) (history_mem n vs)
  where
    go : (eqb n v.name ≡ true) ⊎ (eqb n v.name ≡ false) → (history n vs ≡ []) ⊎ ((w : Event) × Memᴰ w vs × (n ≡ w.name))
        → (history n (v ∷ vs) ≡ []) ⊎ ((w : Event) × Memᴰ w (v ∷ vs) × (n ≡ w.name))
    go (inl e) r = inr (v, Memᴰ.head refl, eqb_eq n v.name e)
    go (inr e) (inl h) = inl (history_miss n v vs e ∙ h)
    go (inr e) (inr (w, m, h)) = inr (w, Memᴰ.tail m, h)

-- a number that some event is about has a history
pub mem_history : (n : ℕ) {v : Event} {vs : List Event} → Memᴰ v vs → n ≡ v.name → history n vs ≡ [] → ⊥
mem_history n {v} (Memᴰ.head {x = w} {xs = vs} h) e z = cons-ne-nil w.deed (history n vs) (sym (history_hit n w vs (e ∙ ap (λ u. u.name) h)) ∙ z)
mem_history n {v} (Memᴰ.tail {x = w} {xs = vs} m) e z = go (bool_cases (eqb n w.name)) (mem_history n m e)
  where
    go : (eqb n w.name ≡ true) ⊎ (eqb n w.name ≡ false) → (history n vs ≡ [] → ⊥) → ⊥
    go (inl t) h = cons-ne-nil w.deed (history n vs) (sym (history_hit n w vs (eqb_eq n w.name t)) ∙ z)
    go (inr f) h = h (sym (history_miss n w vs f) ∙ z)

-- ---- refusal 8

alternate_of : (ds : List Deed) → alternate ds ≡ true → Alternate ds
alternate_of [] e = Alternate.rest
alternate_of (uses ∷ ds) e = absurd (false≢true e)
alternate_of (binds ∷ []) e = absurd (false≢true e)
alternate_of (binds ∷ (binds ∷ ds)) e = absurd (false≢true e)
alternate_of (binds ∷ (uses ∷ ds)) e = Alternate.again (alternate_of ds e)

of_alternate : {ds : List Deed} → Alternate ds → alternate ds ≡ true
of_alternate Alternate.rest = refl
of_alternate (Alternate.again a) = of_alternate a

pub variables_iff : (c : Clause) → (variables_rule c ≡ true) ↔ BoundThenUsed c
unfolding variables_rule
variables_iff c = (λ h n. there h n (history_mem n (events c)), λ h. mem_all test (events c) λ v m. of_alternate (h v.name))
  where
    test : Event → Bool
    test v = alternate (history v.name (events c))

    there : all test (events c) ≡ true → (n : ℕ) → (history n (events c) ≡ []) ⊎ ((v : Event) × Memᴰ v (events c) × (n ≡ v.name))
        → Alternate (history n (events c))
    there h n (inl e) = subst Alternate (sym e) Alternate.rest
    there h n (inr (v, m, e)) = alternate_of (history n (events c)) (ap (λ k. alternate (history k (events c))) e ∙ all_mem test h m)

-- ---- refusal 9

plain_product : (p : Pat) → plain p ≡ true → Product p
plain_product (pvar n) e = Product.var
plain_product (pleaf unit_leaf) e = Product.unit
plain_product (pleaf empty_leaf) e = absurd (false≢true e)
plain_product (pinj t p) e = absurd (false≢true e)
plain_product (pnode pair_node p q) e = let h = and_true (plain p) (plain q) e in Product.pair (plain_product p h.0) (plain_product q h.1)
plain_product (pnode element_node p q) e = absurd (false≢true e)

product_plain : {p : Pat} → Product p → plain p ≡ true
product_plain Product.unit = refl
product_plain Product.var = refl
product_plain (Product.pair h k) = true_and (product_plain h) (product_plain k)

pub shapes_iff : (c : Clause) → (let_shapes c ≡ true) ↔ LetProducts c
unfolding let_shapes
shapes_iff c = (λ h l m. there l (all_mem test h m), λ h. mem_all test c.lets λ l m. true_and (product_plain (h l m).0) (product_plain (h l m).1))
  where
    test : Let → Bool
    test l = plain l.p && plain l.q

    there : (l : Let) → test l ≡ true → Product l.p × Product l.q
    there l e = let h = and_true (plain l.p) (plain l.q) e in (plain_product l.p h.0, plain_product l.q h.1)

-- ---- the inverted clause

abbrev pub other : Deed → Deed
other binds = uses
other uses = binds

-- the deeds last to first, binds and uses exchanged
abbrev pub mirror : List Deed → List Deed
mirror [] = []
mirror (d ∷ ds) = mirror ds ++ (other d ∷ [])

mirror_append : (ds es : List Deed) → mirror (ds ++ es) ≡ mirror es ++ mirror ds
mirror_append [] es = sym (append-nil (mirror es))
mirror_append (d ∷ ds) es = ap (λ r. r ++ (other d ∷ [])) (mirror_append ds es) ∙ append_assoc (mirror es) (mirror ds) (other d ∷ [])

-- what happens to one variable in one pattern is one deed, several times: its order does not matter
marks_turn : (n : ℕ) (d : Deed) (ns : List ℕ) → history n (marks d ns) ++ (d ∷ []) ≡ d ∷ history n (marks d ns)
marks_turn n d [] = refl
marks_turn n d (m ∷ ns) = go (eqb n m) (marks_turn n d ns)
  where
    go : (b : Bool) → history n (marks d ns) ++ (d ∷ []) ≡ d ∷ history n (marks d ns)
        → cond b (d ∷ history n (marks d ns)) (history n (marks d ns)) ++ (d ∷ []) ≡ d ∷ cond b (d ∷ history n (marks d ns)) (history n (marks d ns))
    go true h = ap (λ r. d ∷ r) h
    go false h = h

pub marks_mirror : (n : ℕ) (d : Deed) (ns : List ℕ) → mirror (history n (marks d ns)) ≡ history n (marks (other d) ns)
marks_mirror n d [] = refl
marks_mirror n d (m ∷ ns) = go (eqb n m) (marks_mirror n d ns)
  where
    go : (b : Bool) → mirror (history n (marks d ns)) ≡ history n (marks (other d) ns)
        → mirror (cond b (d ∷ history n (marks d ns)) (history n (marks d ns)))
        ≡ cond b (other d ∷ history n (marks (other d) ns)) (history n (marks (other d) ns))
    go true h = ap (λ r. r ++ (other d ∷ [])) h ∙ marks_turn n (other d) ns
    go false h = h

let_events_append : (ls ks : List Let) → let_events (ls ++ ks) ≡ let_events ls ++ let_events ks
let_events_append [] ks = refl
let_events_append (l ∷ ls) ks =
    ap (λ r. deeds uses l.q ++ (deeds binds l.p ++ r)) (let_events_append ls ks)
    ∙ ap (λ r. deeds uses l.q ++ r) (sym (append_assoc (deeds binds l.p) (let_events ls) (let_events ks)))
    ∙ sym (append_assoc (deeds uses l.q) (deeds binds l.p ++ let_events ls) (let_events ks))

-- the history of three lists of events, one after the other
pub history_three : (n : ℕ) (us vs ws : List Event) → history n (us ++ (vs ++ ws)) ≡ history n us ++ (history n vs ++ history n ws)
history_three n us vs ws = history_append n us (vs ++ ws) ∙ ap (λ r. history n us ++ r) (history_append n vs ws)

mirror_three : (cs ds es : List Deed) → mirror (cs ++ (ds ++ es)) ≡ mirror es ++ (mirror ds ++ mirror cs)
mirror_three cs ds es =
    mirror_append cs (ds ++ es) ∙ ap (λ r. r ++ mirror cs) (mirror_append ds es) ∙ append_assoc (mirror es) (mirror ds) (mirror cs)

lets_mirror : (n : ℕ) (ls : List Let) → history n (let_events (reverse (map invert_let ls))) ≡ mirror (history n (let_events ls))
lets_mirror n [] = refl
lets_mirror n (l ∷ ls) =
    ap (λ r. history n (let_events r)) (reverse-cons (invert_let l) (map invert_let ls))
    ∙ ap (history n) (let_events_append (reverse (map invert_let ls)) (invert_let l ∷ []))
    ∙ history_three n (let_events (reverse (map invert_let ls))) (deeds uses l.p) (deeds binds l.q ++ [])
    ∙ ap₂ (λ r s. r ++ (history n (deeds uses l.p) ++ history n s)) (lets_mirror n ls) (append-nil (deeds binds l.q))
    ∙ ap₂ (λ r s. mirror (history n (let_events ls)) ++ (r ++ s)) (sym (marks_mirror n binds (vars l.p))) (sym (marks_mirror n uses (vars l.q)))
    ∙ sym (mirror_three (history n (deeds uses l.q)) (history n (deeds binds l.p)) (history n (let_events ls)))
    ∙ ap mirror (sym (history_three n (deeds uses l.q) (deeds binds l.p) (let_events ls)))

-- the inverted clause does to each variable what the clause does, last to first, with binds and uses exchanged
history_invert : (n : ℕ) (c : Clause) → history n (events (invert_clause c)) ≡ mirror (history n (events c))
history_invert n c =
    history_three n (deeds binds c.rhs) (let_events (reverse (map invert_let c.lets))) (deeds uses c.lhs)
    ∙ ap₂ (λ r s. r ++ (s ++ history n (deeds uses c.lhs))) (sym (marks_mirror n uses (vars c.rhs))) (lets_mirror n c.lets)
    ∙ ap (λ r. mirror (history n (deeds uses c.rhs)) ++ (mirror (history n (let_events c.lets)) ++ r)) (sym (marks_mirror n binds (vars c.lhs)))
    ∙ sym (mirror_three (history n (deeds binds c.lhs)) (history n (let_events c.lets)) (history n (deeds uses c.rhs)))
    ∙ ap mirror (sym (history_three n (deeds binds c.lhs) (let_events c.lets) (deeds uses c.rhs)))

alternate_snoc : {ds : List Deed} → Alternate ds → Alternate ((ds ++ (binds ∷ [])) ++ (uses ∷ []))
alternate_snoc Alternate.rest = Alternate.again Alternate.rest
alternate_snoc (Alternate.again a) = Alternate.again (alternate_snoc a)

alternate_mirror : {ds : List Deed} → Alternate ds → Alternate (mirror ds)
alternate_mirror Alternate.rest = Alternate.rest
alternate_mirror (Alternate.again a) = alternate_snoc (alternate_mirror a)

pub variables_invert : (c : Clause) → BoundThenUsed c → BoundThenUsed (invert_clause c)
variables_invert c h n = subst Alternate (sym (history_invert n c)) (alternate_mirror (h n))

-- a let step of the inverted clause is an inverted let step of the clause
pub invert_lets : (l : Let) (ls : List Let) → Memᴰ l (reverse (map invert_let ls)) → Memᴰ (invert_let l) ls
invert_lets l ls m = each_map (λ k. Memᴰ (invert_let k) ls) invert_let ls (λ k h. h) l (mem_reverse (map invert_let ls) m)

pub shapes_invert : (c : Clause) → LetProducts c → LetProducts (invert_clause c)
shapes_invert c h l m = let k = h (invert_let l) (invert_lets l c.lets m) in (k.1, k.0)

-- ---- no number twice in a pattern

-- only one kind of deed
pub data Only (d : Deed) : List Deed → Type 0 where
  nothing : Only d []
  more : {e : Deed} {es : List Deed} → e ≡ d → Only d es → Only d (e ∷ es)

pub only_marks : (n : ℕ) (d : Deed) (ns : List ℕ) → Only d (history n (marks d ns))
only_marks n d [] = nothing
only_marks n d (m ∷ ns) = go (eqb n m) (only_marks n d ns)
  where
    go : (b : Bool) → Only d (history n (marks d ns)) → Only d (cond b (d ∷ history n (marks d ns)) (history n (marks d ns)))
    go true h = more refl h
    go false h = h

pub not_used : {ds : List Deed} → Only binds (uses ∷ ds) → ⊥
not_used (more e h) = false≢true cc

pub not_bound : {ds : List Deed} → Only uses (binds ∷ ds) → ⊥
not_bound (more e h) = false≢true cc

-- one kind of deed, at most once
pub data Single (d : Deed) : List Deed → Type 0 where
  unseen : Single d []
  seen : {e : Deed} → e ≡ d → Single d (e ∷ [])

pub single_tail : (d e : Deed) (ds : List Deed) → Single d (e ∷ ds) → ds ≡ []
single_tail d e [] s = refl
single_tail d e (f ∷ ds) s = elim s [ ]

pub distinct_of : (d : Deed) (ns : List ℕ) → ((n : ℕ) → Single d (history n (marks d ns))) → Distinct ns
distinct_of d [] h = nobody
distinct_of d (m ∷ ns) h =
    another (λ k. mem_history m (Memᴰ.map (mark d) k) refl (single_tail d d (history m (marks d ns)) head))
    (distinct_of d ns λ n. go n (eqb n m) (h n))
  where
    head : Single d (d ∷ history m (marks d ns))
    head = subst (Single d) (history_hit m (mark d m) (marks d ns) refl) (h m)

    go : (n : ℕ) (b : Bool) → Single d (cond b (d ∷ history n (marks d ns)) (history n (marks d ns))) → Single d (history n (marks d ns))
    go n true s = subst (Single d) (sym (single_tail d d (history n (marks d ns)) s)) unseen
    go n false s = s

-- what the first deeds bind, they bind once
first_single : (ds es : List Deed) → Only binds ds → Alternate (ds ++ es) → Single binds ds
first_single [] es o w = unseen
first_single (d ∷ []) es (more e o) w = seen e
first_single (d ∷ (binds ∷ ds)) es o w = elim w [ ]
first_single (d ∷ (uses ∷ ds)) es (more h o) w = absurd (not_used o)

pub distinct_lhs : (c : Clause) → BoundThenUsed c → Distinct (vars c.lhs)
distinct_lhs c h = distinct_of binds (vars c.lhs) λ n. single n
  where
    after : List Event
    after = let_events c.lets ++ deeds uses c.rhs

    single : (n : ℕ) → Single binds (history n (deeds binds c.lhs))
    single n =
        first_single (history n (deeds binds c.lhs)) (history n after) (only_marks n binds (vars c.lhs))
        (subst Alternate (history_append n (deeds binds c.lhs) after) (h n))

pub distinct_rhs : (c : Clause) → BoundThenUsed c → Distinct (vars c.rhs)
distinct_rhs c h = distinct_lhs (invert_clause c) (variables_invert c h)
