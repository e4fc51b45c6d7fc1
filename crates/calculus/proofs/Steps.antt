-- The executable reduction is the reduction of Table 3, value and number.
use Prim.Native.Nat.{ℕ, zero, suc, ◌+◌}
use native.Mathlib.Omega.{arith}
use mathlib.Core.Path.{◌≡◌, refl, sym, ap, ap₂, ◌∙◌, subst, subst₂}
use mathlib.Core.Logic.{◌⊎◌, inl, inr, ◌↔◌}
use mathlib.Core.Bool.{true≢false, Bool}
use mathlib.Core.Option.{Option, some}
use mathlib.Core.List.{List, [], ◌∷◌, ◌++◌, map, Memᴰ}
use lib.ListN.{get_elem?}
use Rattle.calculus.specs.Tools.{select}
use Rattle.calculus.specs.Trees.{Tag, Pat, Val, vinj, Let, Clause, Iso, vars, Node, vleaf, vnode}
use Rattle.calculus.specs.Slots.{Slots, empty}
use Rattle.calculus.specs.Reduction.{build, Call, run_lets, run_clause, hits, only, reduce_to}
use Rattle.calculus.specs.Clauses.{lefts}
use Rattle.calculus.specs.Paper.{Valuation, Matches, Orth, Apart}
use Rattle.calculus.specs.Terms.{Term, einj, eapp, elet, pat_term, val_term, chain, look, without, replace, Step, iso_app, let_e, in_inj, in_fst, in_snd, in_app, in_let, Steps, still, more, enode}
use Rattle.calculus.proofs.Basic.{none≢some, some_inj, index_mem, counted}
use Rattle.calculus.proofs.Slots.{slot, Contained}
use Rattle.calculus.proofs.Orthogonal.{orth_apart, apart_head, apart_tail}
use Rattle.calculus.proofs.Binding.{bind_found, build_found}
use Rattle.calculus.proofs.Running.{let_run, clause_run, hit_only, given_some, application}
use Rattle.calculus.proofs.Substitution.{build_replace, over, replace_over, bound_over, bound_start}
use Rattle.calculus.proofs.Valuations.{matches_matched}

-- ---- steps in a row

pub steps_from : {os : List Iso} {t u w : Term} {j k : ℕ} → t ≡ u → j ≡ k → Steps os u w k → Steps os t w j
steps_from {os} {w = w} e h s = subst₂ (λ t k. Steps os t w k) (sym e) (sym h) s

pub steps_then : {os : List Iso} {t u w : Term} {j k m : ℕ} → Steps os t u j → Steps os u w k → j + k ≡ m → Steps os t w m
steps_then (still e h) s g = steps_from e (omega arith) s
steps_then {k = k} {m = m} (more {j = i} {k = l} a r h) s g = more {j = i} {k = l + k} {m = m} a (steps_then r s refl) (omega arith)

pub steps_let : {os : List Iso} {t t' : Term} {k : ℕ} (p : Pat) (u : Term) → Steps os t t' k → Steps os (elet p t u) (elet p t' u) k
steps_let p u (still e h) = still (ap (λ t. elet p t u) e) h
steps_let p u (more a r h) = more (in_let a) (steps_let p u r) h

-- ---- the executable reduction takes these steps

-- what a call gives, an application steps to
abbrev Takes : List Iso → Call → Type 0
Takes os call = (i : ℕ) (v w : Val) (k : ℕ) → call i v ≡ (some w, k) → Steps os (eapp i (val_term v)) (val_term w) k

-- a let step is the steps of its application, LetE, and the steps of its body under one substitution
let_steps : {os : List Iso} (g : ℕ → Option Val) (l : Let) (body : Term) (u w x : Val) (σ : Valuation) (j k : ℕ)
    → replace g (pat_term l.q) ≡ val_term u → Steps os (eapp l.iso (val_term u)) (val_term w) j → Matches σ l.p w
    → Steps os (replace (over (look σ) (without (vars l.p) g)) body) (val_term x) k
    → Steps os (replace g (elet l.p (eapp l.iso (pat_term l.q)) body)) (val_term x) (j + k)
let_steps g l body u w x σ j k argument application matches rest =
    let kept : ℕ → Option Val = without (vars l.p) g in
    let first = steps_let l.p (replace kept body) (steps_from (ap (eapp l.iso) argument) refl application) in
    let second = more {m = k} (let_e w σ refl matches refl) (steps_from (replace_over (look σ) kept body) refl rest) (omega arith) in
    steps_then first second refl

-- the run of a let chain is the steps of its term, under any substitution that gives what the slots hold
lets_forward : {os : List Iso} (call : Call) → Takes os call → (ls : List Let) (r : Pat) (e : Slots Val) (g : ℕ → Option Val)
    → Contained (slot e) g → {d f : Slots Val} {k : ℕ} → run_lets call ls e ≡ (some d, k) → {w : Val} → build r d ≡ some (w, f)
    → Steps os (replace g (chain ls r)) (val_term w) k
lets_forward call takes [] r e g below h built =
    still (build_replace r e g below (ap (build r) (some_inj (ap (λ t. t.0) h)) ∙ built)) (ap (λ t. t.1) (sym h))
lets_forward call takes (l ∷ ls) r e g below h {w} built =
    let s = let_run call l ls e h in
    let m = bind_found l.p s.gives s.rest s.bound in
    let g' : ℕ → Option Val = over (look m.σ) (without (vars l.p) g) in
    let below' : Contained (slot s.rest) g = λ n v i. below n v ((build_found l.q e s.built).bound.kept n v i) in
    steps_from refl (sym s.counts)
    (let_steps g l (chain ls r) s.given s.gives w m.σ s.count s.after
    (build_replace l.q e g below s.built)
    (takes l.iso s.given s.gives s.count s.called)
    m.matches
    (lets_forward call takes ls r s.next g' (bound_over g m.matches m.bound below') s.follows built))

-- the run of a clause is IsoApp and the steps of its let chain
clause_forward : {os : List Iso} (call : Call) → Takes os call → (i : ℕ) (o : Iso) (c : Clause) → get_elem? os i ≡ some o
    → Memᴰ c o.clauses → (v w : Val) (k : ℕ) → run_clause call c v ≡ (some w, k) → Steps os (eapp i (val_term v)) (val_term w) (suc k)
clause_forward {os} call takes i o c known member v w k h =
    let s = clause_run call c v h in
    let m = bind_found c.lhs v (empty Val) s.bound in
    let rest = lets_forward call takes c.lets c.rhs s.first (look m.σ) (bound_start m.bound) s.lets s.built in
    more {k = k} {m = suc k} (iso_app o c v m.σ known member refl m.matches refl) rest (omega arith)

-- where the executable reduction gives something, the paper's gives it too, with the same number of applications
pub forward : (os : List Iso) (fits : Val → Bool) (d i : ℕ) (v w : Val) (k : ℕ) → reduce_to fits d os i v ≡ (some w, k)
    → Steps os (eapp i (val_term v)) (val_term w) k
forward os fits zero i v w k h = absurd (none≢some (ap (λ r. r.0) h))
forward os fits (suc d) i v w k h =
    let t = application fits d os i v h in
    let (c, chosen, ran) = given_some (only (select (hits v) t.iso.clauses)) (λ c. run_clause (reduce_to fits d os) c v) t.applies in
    steps_from refl (sym t.counts)
    (clause_forward (reduce_to fits d os) (forward os fits d) i t.iso c t.known (hit_only (hits v) t.iso.clauses chosen).0 v w t.count ran)

-- ---- the steps of a term are determined

pub val_term_injective : (v w : Val) → val_term v ≡ val_term w → v ≡ w
val_term_injective (vleaf l) (vleaf k) e = ap vleaf cc
val_term_injective (vleaf l) (vinj t w) e = cc
val_term_injective (vleaf l) (vnode m w w') e = cc
val_term_injective (vinj s v) (vleaf k) e = cc
val_term_injective (vinj s v) (vinj t w) e =
    let tag : s ≡ t = cc in
    let under : val_term v ≡ val_term w = cc in
    ap₂ vinj tag (val_term_injective v w under)
val_term_injective (vinj s v) (vnode m w w') e = cc
val_term_injective (vnode k v v') (vleaf l) e = cc
val_term_injective (vnode k v v') (vinj t w) e = cc
val_term_injective (vnode k v v') (vnode m w w') e =
    let same : k ≡ m = cc in
    let a = val_term_injective v w cc in
    let b = val_term_injective v' w' cc in
    λ i. vnode (same i) (a i) (b i)

pub not_app : {i : ℕ} {t : Term} (v : Val) → eapp i t ≡ val_term v → ⊥
not_app (vleaf l) e = true≢false cc
not_app (vinj s v) e = true≢false cc
not_app (vnode k v w) e = true≢false cc

pub not_let : {p : Pat} {t u : Term} (v : Val) → elet p t u ≡ val_term v → ⊥
not_let (vleaf l) e = true≢false cc
not_let (vinj s v) e = true≢false cc
not_let (vnode k v w) e = true≢false cc

inj_value : {s : Tag} {t : Term} (v : Val) → einj s t ≡ val_term v → (w : Val) × (t ≡ val_term w)
inj_value (vleaf l) e = absurd (true≢false cc)
inj_value (vinj s v) e = (v, cc)
inj_value (vnode k v w) e = absurd (true≢false cc)

pair_value : {m : Node} {t u : Term} (v : Val) → enode m t u ≡ val_term v → (w w' : Val) × (t ≡ val_term w) × (u ≡ val_term w')
pair_value (vleaf l) e = absurd (true≢false cc)
pair_value (vinj s v) e = absurd (true≢false cc)
pair_value (vnode k v w) e = (v, w, cc, cc)

-- a closed value does not step
pub value_still : {os : List Iso} {t u : Term} {k : ℕ} → Step os t u k → (v : Val) → t ≡ val_term v → ⊥
value_still (iso_app o c w σ known member e matches f) v h = not_app v h
value_still (let_e w σ e matches f) v h = not_let v h
value_still (in_inj a) v h = let (w, e) = inj_value v h in value_still a w e
value_still (in_fst x y a) v h = let (w, w', e, e') = pair_value v h in value_still a w e
value_still (in_snd x y a) v h = let (w, w', e, e') = pair_value v h in value_still a w' e'
value_still (in_app a) v h = not_app v h
value_still (in_let a) v h = not_let v h

-- a valuation is determined by the pattern and the value
pub matches_unique : {σ ρ : Valuation} {p : Pat} {v : Val} → Matches σ p v → Matches ρ p v → σ ≡ ρ
matches_unique (Matches.leaf s) (Matches.leaf t) = refl
matches_unique (Matches.var e) (Matches.var f) = e ∙ sym f
matches_unique (Matches.inj s m) (Matches.inj t n) = matches_unique m n
matches_unique (Matches.node s m m' d e) (Matches.node t n n' d' f) = e ∙ ap₂ ◌++◌ (matches_unique m n) (matches_unique m' n') ∙ sym f

-- orthogonal patterns match no common value
pub orth_matches : {σ ρ : Valuation} {p q : Pat} {v : Val} → Orth p q → Matches σ p v → Matches ρ q v → ⊥
orth_matches o m n = orth_apart o (matches_matched m) (matches_matched n)

-- of clauses with orthogonal left patterns one matches
pub clause_unique : (cs : List Clause) → Apart (map (λ c. c.lhs) cs) → {c d : Clause} → Memᴰ c cs → Memᴰ d cs
    → {σ ρ : Valuation} {v : Val} → Matches σ c.lhs v → Matches ρ d.lhs v → c ≡ d
clause_unique [] a i j m n = absurd (mathlib.Core.List.Memᴰ.not-nil i)
clause_unique (x ∷ xs) a {c} {d} i j {σ} {ρ} {v} m n =
    go (λ i j. clause_unique xs (apart_tail a) i j m n) (mathlib.Core.List.Memᴰ.cases_cons i) (mathlib.Core.List.Memᴰ.cases_cons j)
  where
    orth : {e : Clause} → Memᴰ e xs → Orth x.lhs e.lhs
    orth {e} i = apart_head a e.lhs (mathlib.Core.List.Memᴰ.map (λ c. c.lhs) i)

    go : (Memᴰ c xs → Memᴰ d xs → c ≡ d) → (c ≡ x) ⊎ Memᴰ c xs → (d ≡ x) ⊎ Memᴰ d xs → c ≡ d
    go later (inl e) (inl f) = e ∙ sym f
    go later (inl e) (inr j) = absurd (orth_matches (orth j) (subst (λ y. Matches σ y.lhs v) e m) n)
    go later (inr i) (inl f) = absurd (orth_matches (orth i) (subst (λ y. Matches ρ y.lhs v) f n) m)
    go later (inr i) (inr j) = later i j

-- the left patterns of each iso are orthogonal
abbrev pub LeftsApart : List Iso → Type 0
LeftsApart os = (o : Iso) → Memᴰ o os → Apart (lefts o)

-- two uses of IsoApp at one application give one term
iso_app_unique : {os : List Iso} → LeftsApart os → (i : ℕ) {o o' : Iso} {c c' : Clause} {v v' : Val} {σ σ' : Valuation}
    → get_elem? os i ≡ some o → get_elem? os i ≡ some o' → Memᴰ c o.clauses → Memᴰ c' o'.clauses → v' ≡ v
    → Matches σ c.lhs v → Matches σ' c'.lhs v'
    → replace (look σ) (chain c.lets c.rhs) ≡ replace (look σ') (chain c'.lets c'.rhs)
iso_app_unique {os} apart i {o} {o'} {c} {c'} {v} {v'} {σ} {σ'} known known' member member' same m m' =
    let iso : o' ≡ o = some_inj (sym known' ∙ known) in
    let again : Matches σ' c'.lhs v = subst (Matches σ' c'.lhs) same m' in
    let member'' : Memᴰ c' o.clauses = subst (λ o. Memᴰ c' o.clauses) iso member' in
    let clause : c ≡ c' = clause_unique o.clauses (apart o (index_mem os i known)) member member'' m again in
    let valuation : σ ≡ σ' = matches_unique m (subst (λ c. Matches σ' c.lhs v) (sym clause) again) in
    ap₂ (λ σ c. replace (look σ) (chain c.lets c.rhs)) valuation clause

let_e_unique : {p : Pat} {v v' : Val} {σ σ' : Valuation} (u : Term) → v' ≡ v → Matches σ p v → Matches σ' p v'
    → replace (look σ) u ≡ replace (look σ') u
let_e_unique {p} {σ' = σ'} u same m m' = ap (λ σ. replace (look σ) u) (matches_unique m (subst (Matches σ' p) same m'))

-- a step is determined in its term and its number
pub step_unique : {os : List Iso} → LeftsApart os → {t u u' : Term} {j k : ℕ} → Step os t u j → Step os t u' k → (u ≡ u') × (j ≡ k)
step_unique apart (iso_app {i = i} o c v σ known member e m f) (iso_app o' c' v' σ' known' member' e' m' f') =
    (f ∙ iso_app_unique apart i known known' member member' (val_term_injective v' v (sym e' ∙ e)) m m' ∙ sym f', refl)
step_unique apart (iso_app o c v σ known member e m f) (in_app b) = absurd (value_still b v e)
step_unique apart (let_e {u = u} v σ e m f) (let_e v' σ' e' m' f') =
    (f ∙ let_e_unique u (val_term_injective v' v (sym e' ∙ e)) m m' ∙ sym f', refl)
step_unique apart (let_e v σ e m f) (in_let b) = absurd (value_still b v e)
step_unique apart (in_inj {s = s} a) (in_inj b) = let (e, n) = step_unique apart a b in (ap (einj s) e, n)
step_unique apart (in_fst {m = m} {u = u} w x a) (in_fst w' x' b) = let (e, n) = step_unique apart a b in (ap (λ t. enode m t u) e, n)
step_unique apart (in_fst w x a) (in_snd v y b) = absurd (value_still b w x)
step_unique apart (in_snd v y a) (in_fst w x b) = absurd (value_still a w x)
step_unique apart (in_snd {m = m} {t = t} v y a) (in_snd v' y' b) = let (e, n) = step_unique apart a b in (ap (enode m t) e, n)
step_unique apart (in_app a) (iso_app o c v σ known member e m f) = absurd (value_still a v e)
step_unique apart (in_app {i = i} a) (in_app b) = let (e, n) = step_unique apart a b in (ap (eapp i) e, n)
step_unique apart (in_let a) (let_e v σ e m f) = absurd (value_still a v e)
step_unique apart (in_let {p = p} {u = u} a) (in_let b) = let (e, n) = step_unique apart a b in (ap (λ t. elet p t u) e, n)

steps_unique : {os : List Iso} → LeftsApart os → {t x y : Term} {j k : ℕ} → Steps os t x j → Steps os t y k
    → (v w : Val) → x ≡ val_term v → y ≡ val_term w → (v ≡ w) × (j ≡ k)
steps_unique apart (still e h) (still f g) v w p q = (val_term_injective v w (sym p ∙ sym e ∙ f ∙ q), h ∙ sym g)
steps_unique apart (still e h) (more b s g) v w p q = absurd (value_still b v (e ∙ p))
steps_unique apart (more a r h) (still f g) v w p q = absurd (value_still a w (f ∙ q))
steps_unique apart (more a r h) (more b s g) v w p q =
    let (term, number) = step_unique apart a b in
    let (value, count) = steps_unique apart r (steps_from term refl s) v w p q in
    (value, h ∙ ap₂ ◌+◌ number count ∙ sym g)

-- the value that a term reduces to, and the number of applications, are determined
pub unique : (os : List Iso) → ((o : Iso) → Memᴰ o os → Apart (lefts o)) → (t : Term) (v w : Val) (j k : ℕ)
    → Steps os t (val_term v) j → Steps os t (val_term w) k → (v ≡ w) × (j ≡ k)
unique os apart t v w j k r s = steps_unique apart r s v w refl refl

-- where the executable reduction gives something, it gives what the paper's gives, and no other
pub reduction : (os : List Iso) → ((o : Iso) → Memᴰ o os → Apart (lefts o)) → (fits : Val → Bool) (d i : ℕ) (v w : Val) (k : ℕ)
    → reduce_to fits d os i v ≡ (some w, k) → (w' : Val) (k' : ℕ)
    → Steps os (eapp i (val_term v)) (val_term w') k' ↔ (◌≡◌ {A = Option Val × ℕ} (reduce_to fits d os i v) (some w', k'))
reduction os apart fits d i v w k h w' k' = (there, forward os fits d i v w' k')
  where
    there : Steps os (eapp i (val_term v)) (val_term w') k' → ◌≡◌ {A = Option Val × ℕ} (reduce_to fits d os i v) (some w', k')
    there s =
        let (value, count) = unique os apart (eapp i (val_term v)) w w' k k' (forward os fits d i v w k h) s in
        h ∙ counted (ap some value) count
