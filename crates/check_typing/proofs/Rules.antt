-- The tests of a clause as the code makes them are the model's: the states of variables follow their histories.
use Prim.Native.Nat.{ℕ, zero, suc, ◌<◌}
use mathlib.Core.Path.{◌≡◌, refl, sym, ap, ◌∙◌, subst}
use mathlib.Core.Logic.{◌⊎◌, inl, inr, ◌↔◌}
use mathlib.Core.Bool.{Bool, true, false, false≢true}
use mathlib.Core.Option.{Option, none, some}
use mathlib.Core.List.{List, [], ◌∷◌, ◌++◌, Memᴰ}
use lib.Dec.{eqb}
use lib.ListN.{get_elem?, get_or, replicate, length, length-set, length-replicate}
use lib.Seq.{get_or-set_same, get_or-set_other}
use Rattle.limits.specs.Limits.{variables}
use Rattle.calculus.specs.Tools.{◌>>=◌, first_failing}
use Rattle.calculus.specs.Trees.{Ty, Pat, Let, Clause, vars}
use Rattle.calculus.specs.Slots.{Slots, empty}
use Rattle.calculus.specs.Refusals.{clause_line, variable, let_shape, bad_type}
use Rattle.calculus.specs.Clauses.{Deed, binds, uses, Event, deeds, let_events, events, history, variables_rule, let_shapes, learn, spend, Sigs, type_lets, used, typed, clause_fault}
use Rattle.calculus.specs.Paper.{Alternate, BoundThenUsed}
use Rattle.calculus.proofs.Basic.{bind_assoc, bool_cases, and_true, true_and, eqb_eq, eqb_false, each_nil, each_append, each_map, same_bind}
use Rattle.calculus.proofs.Formed.{FormedLet, FormedClause}
use Rattle.calculus.proofs.Variables.{mark, history_hit, history_miss, variables_iff}
use Rattle.check_variables.specs.Marks.{next_state, mark_one, mark_events, settled_all}
use Rattle.check_typing.specs.Rules.{Slotted, marked, shaped, fit_let, fitted_lets, fitted, tested_fault}

-- ---- shared facts

same_test : (a b : Bool) → (a ≡ true) ↔ (b ≡ true) → a ≡ b
same_test true b h = sym (h.0 refl)
same_test false true h = h.1 refl
same_test false false h = refl

-- every place of a list that holds one element holds it, and so does every place past the end
get_d_fresh : {A : Type 0} (k n : ℕ) (a : A) → get_or (replicate k a) n a ≡ a
get_d_fresh zero n a = refl
get_d_fresh (suc k) zero a = refl
get_d_fresh (suc k) (suc n) a = get_d_fresh k n a

-- ---- variables that have slots

abbrev pub HasSlot : ℕ → Type 0
HasSlot n = n < variables

abbrev pub SlottedPat : Pat → Type 0
SlottedPat p = (n : ℕ) → Memᴰ n (vars p) → HasSlot n

abbrev pub SlottedEvents : List Event → Type 0
SlottedEvents vs = (v : Event) → Memᴰ v vs → HasSlot v.name

slotted_deeds : (d : Deed) (p : Pat) → SlottedPat p → SlottedEvents (deeds d p)
slotted_deeds d p h = each_map (λ v. HasSlot v.name) (mark d) (vars p) h

slotted_append : (vs : List Event) {ws : List Event} → SlottedEvents vs → SlottedEvents ws → SlottedEvents (vs ++ ws)
slotted_append vs h k = each_append (λ v. HasSlot v.name) vs h k

slotted_lets : {i : ℕ} (ls : List Let) → ((l : Let) → Memᴰ l ls → FormedLet i l) → SlottedEvents (let_events ls)
slotted_lets [] h = each_nil (λ v. HasSlot v.name)
slotted_lets (l ∷ ls) h =
    let f = h l (Memᴰ.head refl) in
    slotted_append (deeds uses l.q) (slotted_deeds uses l.q f.q.slots)
    (slotted_append (deeds binds l.p) (slotted_deeds binds l.p f.p.slots) (slotted_lets ls λ k m. h k (Memᴰ.tail m)))

pub slotted_of : {i : ℕ} {c : Clause} → FormedClause i c → Slotted c
slotted_of {c = c} f =
    slotted_append (deeds binds c.lhs) (slotted_deeds binds c.lhs f.lhs.slots)
    (slotted_append (let_events c.lets) (slotted_lets c.lets f.lets) (slotted_deeds uses c.rhs f.rhs.slots))

-- ---- refusal 8

-- the state that a list of deeds leads to
abbrev state_after : ℕ → List Deed → ℕ
state_after s [] = s
state_after s (d ∷ ds) = state_after (next_state d s) ds

mark_same : (d : Deed) (k n : ℕ) (m : List ℕ) → k < length m → n ≡ k → get_or (mark_one d k m) n 0 ≡ next_state d (get_or m n 0)
mark_same d k n m h e =
    ap (λ j. get_or (mark_one d k m) j 0) e ∙ get_or-set_same m k (next_state d (get_or m k 0)) 0 h ∙ ap (λ j. next_state d (get_or m j 0)) (sym e)

-- the state of each number follows what happens to it
mark_history : (n : ℕ) (vs : List Event) (m : List ℕ) → length m ≡ variables → SlottedEvents vs
    → get_or (mark_events vs m) n 0 ≡ state_after (get_or m n 0) (history n vs)
mark_history n [] m w h = refl
mark_history n (v ∷ vs) m w h =
    mark_history n vs (mark_one v.deed v.name m) (length-set m v.name (next_state v.deed (get_or m v.name 0)) ∙ w)
    (λ u k. h u (Memᴰ.tail k))
    ∙ go (bool_cases (eqb n v.name))
  where
    go : (eqb n v.name ≡ true) ⊎ (eqb n v.name ≡ false)
        → state_after (get_or (mark_one v.deed v.name m) n 0) (history n vs) ≡ state_after (get_or m n 0) (history n (v ∷ vs))
    go (inl e) =
        let q = eqb_eq n v.name e in
        ap (λ s. state_after s (history n vs))
        (mark_same v.deed v.name n m (subst (λ l. v.name < l) (sym w) (h v (Memᴰ.head refl))) q)
        ∙ ap (state_after (get_or m n 0)) (sym (history_hit n v vs q))
    go (inr e) =
        ap (λ s. state_after s (history n vs)) (get_or-set_other m v.name n (next_state v.deed (get_or m v.name 0)) 0 (eqb_false e))
        ∙ ap (state_after (get_or m n 0)) (sym (history_miss n v vs e))

-- out of order once is out of order for good
stays_out : (ds : List Deed) → state_after 2 ds ≡ 2
stays_out [] = refl
stays_out (binds ∷ ds) = stays_out ds
stays_out (uses ∷ ds) = stays_out ds

not_settled : (ds : List Deed) → eqb (state_after 2 ds) 0 ≡ true → ⊥
not_settled ds h = false≢true (ap (λ s. eqb s 0) (sym (stays_out ds)) ∙ h)

settled_history : (ds : List Deed) → eqb (state_after 0 ds) 0 ≡ true → Alternate ds
settled_history [] h = Alternate.rest
settled_history (uses ∷ ds) h = absurd (not_settled ds h)
settled_history (binds ∷ []) h = absurd (false≢true h)
settled_history (binds ∷ (binds ∷ ds)) h = absurd (not_settled ds h)
settled_history (binds ∷ (uses ∷ ds)) h = Alternate.again (settled_history ds h)

history_settled : {ds : List Deed} → Alternate ds → eqb (state_after 0 ds) 0 ≡ true
history_settled Alternate.rest = refl
history_settled (Alternate.again a) = history_settled a

-- all states are settled exactly when the state of each number is
settled_each : (m : List ℕ) → settled_all m ≡ true → (n : ℕ) → eqb (get_or m n 0) 0 ≡ true
settled_each [] h n = refl
settled_each (s ∷ m) h zero = (and_true (eqb s 0) (settled_all m) h).0
settled_each (s ∷ m) h (suc n) = settled_each m (and_true (eqb s 0) (settled_all m) h).1 n

each_settled : (m : List ℕ) → ((n : ℕ) → eqb (get_or m n 0) 0 ≡ true) → settled_all m ≡ true
each_settled [] h = refl
each_settled (s ∷ m) h = true_and (h zero) (each_settled m λ n. h (suc n))

-- the state of a number after a clause
clause_state : (c : Clause) → Slotted c → (n : ℕ) → get_or (mark_events (events c) (replicate variables 0)) n 0 ≡ state_after 0 (history n (events c))
clause_state c h n =
    mark_history n (events c) (replicate variables 0) (length-replicate {A = ℕ} variables 0) h
    ∙ ap (λ s. state_after s (history n (events c))) (get_d_fresh {A = ℕ} variables n 0)

marked_iff : (c : Clause) → Slotted c → (marked c ≡ true) ↔ BoundThenUsed c
unfolding marked
marked_iff c h = (there, back)
  where
    there : marked c ≡ true → BoundThenUsed c
    there e n =
        settled_history (history n (events c))
        (ap (λ s. eqb s 0) (sym (clause_state c h n)) ∙ settled_each (mark_events (events c) (replicate variables 0)) e n)

    back : BoundThenUsed c → marked c ≡ true
    back b =
        each_settled (mark_events (events c) (replicate variables 0))
        λ n. ap (λ s. eqb s 0) (clause_state c h n) ∙ history_settled (b n)

pub marked_rule : (c : Clause) → Slotted c → marked c ≡ variables_rule c
marked_rule c h =
    let m = marked_iff c h in
    let r = variables_iff c in
    same_test (marked c) (variables_rule c) (λ e. r.1 (m.0 e), λ e. m.1 (r.0 e))

-- ---- refusal 9

pub shaped_rule : (c : Clause) → shaped c.lets ≡ let_shapes c
unfolding let_shapes
shaped_rule c = refl

-- ---- refusal 10

fitted_lets_lem : (sigs : Sigs) (ls : List Let) (x : Option (Slots Ty)) → fitted_lets sigs ls x ≡ (x >>= λ e. type_lets sigs ls e)
fitted_lets_lem sigs [] x = same_bind x
fitted_lets_lem sigs (l ∷ ls) x = fitted_lets_lem sigs ls (fit_let (get_elem? sigs l.iso) l x) ∙ go (get_elem? sigs l.iso) x
  where
    go : (y : Option (Ty × Ty)) (x : Option (Slots Ty))
        → (fit_let y l x >>= λ e. type_lets sigs ls e) ≡ (x >>= λ e. y >>= λ s. spend l.q s.0 e >>= λ f. learn l.p s.1 f >>= λ h. type_lets sigs ls h)
    go none none = refl
    go none (some e) = refl
    go (some s) none = refl
    go (some s) (some e) = bind_assoc (spend l.q s.0 e) (learn l.p s.1) (type_lets sigs ls)

pub fitted_rule : (sigs : Sigs) (a b : Ty) (c : Clause) → fitted sigs a b c ≡ typed sigs a b c
unfolding fitted typed empty
fitted_rule sigs a b c =
    let first : Option (Slots Ty) = learn c.lhs a (replicate variables none) in
    ap (λ x. used (x >>= spend c.rhs b)) (fitted_lets_lem sigs c.lets first) ∙ ap used (bind_assoc first (type_lets sigs c.lets) (spend c.rhs b))

-- ---- the lowest of 8 to 10

pub clause_fault_rule : (sigs : Sigs) (a b : Ty) (c : Clause) → Slotted c
    → clause_fault sigs a b c ≡ tested_fault sigs a b c
unfolding clause_fault
clause_fault_rule sigs a b c s =
    sym λ i. first_failing ((marked_rule c s i, variable clause_line) ∷ (shaped_rule c i, let_shape clause_line) ∷ (fitted_rule sigs a b c i, bad_type clause_line) ∷ [])
