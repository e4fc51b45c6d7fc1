-- What binding and building do: they undo each other, keep the length of an environment, and binding finds the valuation of the paper's
-- matching and fills the slots that it names.
use Prim.Native.Nat.{ℕ}
use native.Mathlib.Decide.{ℕ_discrete}
use mathlib.Core.Path.{◌≡◌, refl, sym, ap, ap₂, ◌∙◌, subst}
use mathlib.Core.Logic.{◌⊎◌, inl, inr}
use mathlib.Core.Option.{none, some}
use mathlib.Core.List.Memᴰ
use mathlib.Core.List.{[], ◌∷◌, ◌++◌, Memᴰ}
use lib.ListN.{length}
use Rattle.calculus.specs.Tools.{◌>>=◌, guard}
use Rattle.calculus.specs.Trees.{Pat, pvar, pinj, Val, vinj, vars, same_tag, pleaf, pnode, vleaf, vnode, same_leaf, same_node}
use Rattle.calculus.specs.Slots.{Slots}
use Rattle.calculus.specs.Reduction.{bind, build}
use Rattle.calculus.specs.Paper.{Valuation, Matches}
use Rattle.calculus.proofs.Basic.{bind_some, some_bind, none≢some, some_inj, not_some, guard_true, true_guard, same_tag_eq, same_tag_refl, each_append}
use Rattle.calculus.proofs.Basic.{same_leaf_eq, same_leaf_refl, same_node_eq, same_node_refl}
use Rattle.calculus.proofs.Slots.{get_of_put, put_of_get, put_length, slot, Contained, Filled, put_filled, filled_keeps}

-- ---- binding and building undo each other

pub build_of_bind : (p : Pat) (v : Val) (e : Slots Val) {e' : Slots Val} → bind p v e ≡ some e' → build p e' ≡ some (v, e)
build_of_bind (pvar n) v e h = get_of_put n v e h
build_of_bind (pleaf l) (vleaf k) e h =
    let g = bind_some (guard (same_leaf l k)) (λ _. some e) h in
    λ i. some (vleaf (same_leaf_eq l k (guard_true (same_leaf l k) g.1) i), sym (some_inj g.2) i)
build_of_bind (pleaf l) (vinj t v) e h = absurd (none≢some h)
build_of_bind (pleaf l) (vnode k v w) e h = absurd (none≢some h)
build_of_bind (pinj s p) (vleaf k) e h = absurd (none≢some h)
build_of_bind (pinj s p) (vinj t v) e h =
    let g = bind_some (guard (same_tag s t)) (λ _. bind p v e) h in
    some_bind (λ r. some (vinj s r.0, r.1)) (build_of_bind p v e g.2)
    ∙ ap (λ u. some (vinj u v, e)) (same_tag_eq s t (guard_true (same_tag s t) g.1))
build_of_bind (pinj s p) (vnode k v w) e h = absurd (none≢some h)
build_of_bind (pnode m p q) (vleaf k) e h = absurd (none≢some h)
build_of_bind (pnode m p q) (vinj t v) e h = absurd (none≢some h)
build_of_bind (pnode m p q) (vnode k v w) e h =
    let g = bind_some (guard (same_node m k)) (λ _. bind p v e >>= bind q w) h in
    let d = bind_some (bind p v e) (bind q w) g.2 in
    some_bind (λ r. build p r.1 >>= λ s. some (vnode m s.0 r.0, s.1)) (build_of_bind q w d.0 d.2)
    ∙ some_bind (λ s. some (vnode m s.0 w, s.1)) (build_of_bind p v e d.1)
    ∙ ap (λ u. some (vnode u v w, e)) (same_node_eq m k (guard_true (same_node m k) g.1))

pub bind_of_build : (p : Pat) {v : Val} {e : Slots Val} (e' : Slots Val) → build p e' ≡ some (v, e) → bind p v e ≡ some e'
bind_of_build (pvar n) {v} e' h = put_of_get n v e' h
bind_of_build (pleaf l) e' h =
    sym (ap (λ r. bind (pleaf l) r.0 r.1) (some_inj h)) ∙ some_bind (λ _. some e') (true_guard (same_leaf_refl l))
bind_of_build (pinj t p) e' h =
    let r = bind_some (build p e') (λ r. some (vinj t r.0, r.1)) h in
    sym (ap (λ s. bind (pinj t p) s.0 s.1) (some_inj r.2))
    ∙ some_bind (λ _. bind p r.0.0 r.0.1) (true_guard (same_tag_refl t))
    ∙ bind_of_build p e' r.1
bind_of_build (pnode k p q) e' h =
    let r = bind_some (build q e') (λ r. build p r.1 >>= λ s. some (vnode k s.0 r.0, s.1)) h in
    let s = bind_some (build p r.0.1) (λ s. some (vnode k s.0 r.0.0, s.1)) r.2 in
    sym (ap (λ u. bind (pnode k p q) u.0 u.1) (some_inj s.2))
    ∙ some_bind (λ _. bind p s.0.0 s.0.1 >>= bind q r.0.0) (true_guard (same_node_refl k))
    ∙ some_bind (bind q r.0.0) (bind_of_build p r.0.1 s.1)
    ∙ bind_of_build q e' r.1

pub bind_length : (p : Pat) (v : Val) (e : Slots Val) {e' : Slots Val} → bind p v e ≡ some e' → length e' ≡ length e
bind_length (pvar n) v e h = put_length n v e h
bind_length (pleaf l) (vleaf k) e h = ap length (sym (some_inj (bind_some (guard (same_leaf l k)) (λ _. some e) h).2))
bind_length (pleaf l) (vinj t v) e h = absurd (none≢some h)
bind_length (pleaf l) (vnode k v w) e h = absurd (none≢some h)
bind_length (pinj s p) (vleaf k) e h = absurd (none≢some h)
bind_length (pinj s p) (vinj t v) e h = bind_length p v e (bind_some (guard (same_tag s t)) (λ _. bind p v e) h).2
bind_length (pinj s p) (vnode k v w) e h = absurd (none≢some h)
bind_length (pnode m p q) (vleaf k) e h = absurd (none≢some h)
bind_length (pnode m p q) (vinj t v) e h = absurd (none≢some h)
bind_length (pnode m p q) (vnode k v w) e h =
    let d = bind_some (bind p v e) (bind q w) (bind_some (guard (same_node m k)) (λ _. bind p v e >>= bind q w) h).2 in
    bind_length q w d.0 d.2 ∙ bind_length p v e d.1

pub build_length : (p : Pat) (e : Slots Val) {v : Val} {e' : Slots Val} → build p e ≡ some (v, e') → length e' ≡ length e
build_length p e {v} {e'} h = sym (bind_length p v e' (bind_of_build p e h))

-- ---- binding fills slots

-- σ gives n the value v
abbrev pub Gives : Valuation → ℕ → Val → Type 0
Gives σ n v = Memᴰ {A = ℕ × Val} (n, v) σ

-- the slots that σ names, empty in e, hold its values in d, which is e elsewhere
pub record Bound (σ : Valuation) (e d : Slots Val) : Type 0 where
  pub new : (n : ℕ) (v : Val) → Gives σ n v → slot e n ≡ none
  pub held : (n : ℕ) (v : Val) → Gives σ n v → slot d n ≡ some v
  pub kept : Contained (slot e) (slot d)
  pub whence : (n : ℕ) (v : Val) → slot d n ≡ some v → Gives σ n v ⊎ (slot e n ≡ some v)

bound_none : (e : Slots Val) → Bound [] e e
bound_none e = record {
  new = λ n v m. absurd (Memᴰ.not-nil m);
  held = λ n v m. absurd (Memᴰ.not-nil m);
  kept = λ n v h. h;
  whence = λ n v h. inr h;
}

bound_one : {n : ℕ} {v : Val} {e d : Slots Val} → Filled n v e d → Bound ((n, v) ∷ []) e d
bound_one {n} {v} {e} {d} f = record {
  new = λ m w i. let p = Memᴰ.eq_of_singleton i in ap (slot e) (ap (λ b. b.0) p) ∙ f.new;
  held = λ m w i. let p = Memᴰ.eq_of_singleton i in ap (slot d) (ap (λ b. b.0) p) ∙ f.held ∙ ap (λ b. some b.1) (sym p);
  kept = filled_keeps f;
  whence = λ m w h. whence m w (ℕ_discrete m n) h;
}
  where
    whence : (m : ℕ) (w : Val) → Dec (m ≡ n) → slot d m ≡ some w → Gives ((n, v) ∷ []) m w ⊎ (slot e m ≡ some w)
    whence m w (yes p) h = inl (Memᴰ.head (ap₂ (λ a b. (a, b)) p (some_inj (sym h ∙ ap (slot d) p ∙ f.held))))
    whence m w (no differs) h = inr (sym (f.same m differs) ∙ h)

bound_both : {σ ρ : Valuation} {e d c : Slots Val} → Bound σ e d → Bound ρ d c → Bound (σ ++ ρ) e c
bound_both {σ} {ρ} {e} {d} {c} f g = record {
  new = λ n v. each_append (λ b. slot e b.0 ≡ none) σ (λ b. f.new b.0 b.1) (λ b m. new b.0 b.1 m) (n, v);
  held = λ n v. each_append (λ b. slot c b.0 ≡ some b.1) σ (λ b m. g.kept b.0 b.1 (f.held b.0 b.1 m)) (λ b. g.held b.0 b.1) (n, v);
  kept = λ n v h. g.kept n v (f.kept n v h);
  whence = λ n v h. whence n v (g.whence n v h);
}
  where
    new : (n : ℕ) (v : Val) → Gives ρ n v → slot e n ≡ none
    new n v m = not_some (slot e n) (λ w h. none≢some (sym (g.new n v m) ∙ f.kept n w h))

    earlier : (n : ℕ) (v : Val) → Gives σ n v ⊎ (slot e n ≡ some v) → Gives (σ ++ ρ) n v ⊎ (slot e n ≡ some v)
    earlier n v (inl m) = inl (Memᴰ.append_left ρ m)
    earlier n v (inr h) = inr h

    whence : (n : ℕ) (v : Val) → Gives ρ n v ⊎ (slot d n ≡ some v) → Gives (σ ++ ρ) n v ⊎ (slot e n ≡ some v)
    whence n v (inl m) = inl (Memᴰ.append_right σ m)
    whence n v (inr h) = earlier n v (f.whence n v h)

-- the valuation of a match that succeeds
pub record Found (p : Pat) (v : Val) (e d : Slots Val) : Type 0 where
  pub σ : Valuation
  pub matches : Matches σ p v
  pub bound : Bound σ e d

pub bind_found : (p : Pat) (v : Val) (e : Slots Val) {d : Slots Val} → bind p v e ≡ some d → Found p v e d
bind_found (pvar n) v e h = record { σ = (n, v) ∷ []; matches = Matches.var refl; bound = bound_one (put_filled n v e h) }
bind_found (pleaf l) (vleaf k) e h =
    let g = bind_some (guard (same_leaf l k)) (λ _. some e) h in
    record {
      σ = [];
      matches = Matches.leaf (same_leaf_eq l k (guard_true (same_leaf l k) g.1));
      bound = subst (Bound [] e) (some_inj g.2) (bound_none e);
    }
bind_found (pleaf l) (vinj t v) e h = absurd (none≢some h)
bind_found (pleaf l) (vnode k v w) e h = absurd (none≢some h)
bind_found (pinj s p) (vleaf k) e h = absurd (none≢some h)
bind_found (pinj s p) (vinj t v) e h =
    let (u, tags, below) = bind_some (guard (same_tag s t)) (λ _. bind p v e) h in
    let f = bind_found p v e below in
    record { σ = f.σ; matches = Matches.inj (same_tag_eq s t (guard_true (same_tag s t) tags)) f.matches; bound = f.bound }
bind_found (pinj s p) (vnode k v w) e h = absurd (none≢some h)
bind_found (pnode m p q) (vleaf k) e h = absurd (none≢some h)
bind_found (pnode m p q) (vinj t v) e h = absurd (none≢some h)
bind_found (pnode m p q) (vnode k v w) e {d} h =
    let (u, same, below) = bind_some (guard (same_node m k)) (λ _. bind p v e >>= bind q w) h in
    let (c, left, right) = bind_some (bind p v e) (λ d. bind q w d) below in
    pair c (same_node_eq m k (guard_true (same_node m k) same)) (bind_found p v e left) (bind_found q w c right)
  where
    pair : (c : Slots Val) → m ≡ k → Found p v e c → Found q w c d → Found (pnode m p q) (vnode k v w) e d
    pair c s f g = record {
      σ = f.σ ++ g.σ;
      matches = Matches.node s f.matches g.matches (λ n x y i j. none≢some (sym (g.bound.new n y j) ∙ f.bound.held n x i)) refl;
      bound = bound_both f.bound g.bound;
    }

-- what is built was bound
pub build_found : (p : Pat) (e : Slots Val) {v : Val} {d : Slots Val} → build p e ≡ some (v, d) → Found p v d e
build_found p e {v} {d} h = bind_found p v d (bind_of_build p e h)

-- the variables of a pattern are those of its valuations
pub gives_var : {σ : Valuation} {p : Pat} {v : Val} → Matches σ p v → (n : ℕ) (w : Val) → Gives σ n w → Memᴰ n (vars p)
gives_var (Matches.leaf s) n w i = absurd (Memᴰ.not-nil i)
gives_var (Matches.var e) n w i =
    Memᴰ.head (ap (λ b. b.0) (Memᴰ.eq_of_singleton (subst (λ τ. Gives τ n w) e i)))
gives_var (Matches.inj e h) n w i = gives_var h n w i
gives_var (Matches.node {σ = σ} {p = p} {q = q} s h k disjoint e) n w i =
    each_append (λ b. Memᴰ b.0 (vars p ++ vars q)) σ
    (λ b j. Memᴰ.append_left (vars q) (gives_var h b.0 b.1 j))
    (λ b j. Memᴰ.append_right (vars p) (gives_var k b.0 b.1 j))
    (n, w) (subst (λ τ. Gives τ n w) e i)

pub var_gives : {σ : Valuation} {p : Pat} {v : Val} → Matches σ p v → (n : ℕ) → Memᴰ n (vars p) → (w : Val) × Gives σ n w
var_gives (Matches.leaf s) n i = absurd (Memᴰ.not-nil i)
var_gives (Matches.var {v = v} e) n i =
    (v, subst (λ τ. Gives τ n v) (sym e) (Memᴰ.head (ap (λ k. (k, v)) (Memᴰ.eq_of_singleton i))))
var_gives (Matches.inj e h) n i = var_gives h n i
var_gives (Matches.node {σ = σ} {ρ = ρ} {τ = τ} {p = p} s h k disjoint e) n i =
    each_append (λ m. (w : Val) × Gives τ m w) (vars p)
    (λ m j. let (w, given) = var_gives h m j in (w, subst (λ τ. Gives τ m w) (sym e) (Memᴰ.append_left ρ given)))
    (λ m j. let (w, given) = var_gives k m j in (w, subst (λ τ. Gives τ m w) (sym e) (Memᴰ.append_right σ given)))
    n i

-- a slot that is empty stays empty where the pattern does not name it
pub bind_fresh : (p : Pat) (v : Val) (e : Slots Val) {d : Slots Val} → bind p v e ≡ some d
    → (n : ℕ) → (Memᴰ n (vars p) → ⊥) → slot e n ≡ none → slot d n ≡ none
bind_fresh p v e {d} h n other new = not_some (slot d n) (λ w i. go w (f.bound.whence n w i))
  where
    f : Found p v e d
    f = bind_found p v e h

    go : (w : Val) → Gives f.σ n w ⊎ (slot e n ≡ some w) → ⊥
    go w (inl i) = other (gives_var f.matches n w i)
    go w (inr i) = none≢some (sym new ∙ i)
