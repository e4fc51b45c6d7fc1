-- Contexts that join, environments that hold values of the types of a context, and what building and binding do to them.
use Prim.Native.Nat.{ℕ, zero, suc}
use mathlib.Core.Path.{◌≡◌, refl, sym, ap, ap₂, ◌∙◌, subst}
use mathlib.Core.Bool.{true, false≢true}
use mathlib.Core.Option.{none, some}
use mathlib.Core.List.{[], ◌∷◌}
use lib.ListN.{length, replicate}
use Rattle.limits.specs.Limits.{variables}
use Rattle.calculus.specs.Tools.{◌>>=◌}
use Rattle.calculus.specs.Trees.{Ty, tsum, Tag, Pat, pinj, Val, vinj, part, Leaf, unit_leaf, empty_leaf, Node, pair_node, element_node, pleaf, pnode, vleaf, vnode}
use Rattle.calculus.specs.Slots.{Slots, put, get, empty, all_empty}
use Rattle.calculus.specs.Reduction.{bind, build}
use Rattle.calculus.specs.Paper.{Of, Join, Fits, Product, Matched}
use Rattle.calculus.proofs.Basic.{bind_some, some_bind, none≢some, some_inj, eq_same_tag, true_guard, eq_same_leaf, eq_same_node}
use Rattle.calculus.proofs.Slots.{all_empty_replicate}
use Rattle.calculus.proofs.Orthogonal.{Alike, matched_alike}

-- ---- joins

pub join_comm : {d e f : Slots Ty} → Join d e f → Join d f e
join_comm Join.done = Join.done
join_comm (Join.neither j) = Join.neither (join_comm j)
join_comm (Join.first p j) = Join.second p (join_comm j)
join_comm (Join.second p j) = Join.first p (join_comm j)

-- (g, h), f is g, (h, f)
pub join_assoc : {d e f g h : Slots Ty} → Join d e f → Join e g h → (x : Slots Ty) × Join d g x × Join x h f
join_assoc Join.done Join.done = ([], Join.done, Join.done)
join_assoc (Join.neither j) (Join.neither k) = let r = join_assoc j k in (none ∷ r.0, Join.neither r.1, Join.neither r.2)
join_assoc (Join.first p j) (Join.first q k) = let r = join_assoc j k in (none ∷ r.0, Join.first (p ∙ q) r.1, Join.neither r.2)
join_assoc (Join.first {a = a} p j) (Join.second q k) =
    let r = join_assoc j k in (some a ∷ r.0, Join.second refl r.1, Join.first (p ∙ q) r.2)
join_assoc (Join.second {a = a} p j) (Join.neither k) =
    let r = join_assoc j k in (some a ∷ r.0, Join.second refl r.1, Join.second p r.2)

-- an all-empty part adds nothing
pub join_empty : {d e f : Slots Ty} → all_empty e ≡ true → Join d e f → d ≡ f
join_empty h Join.done = refl
join_empty h (Join.neither j) = ap {B = Slots Ty} (λ x. none ∷ x) (join_empty h j)
join_empty h (Join.first p j) = absurd (false≢true h)
join_empty h (Join.second p j) = ap₂ {C = Slots Ty} (λ a x. some a ∷ x) p (join_empty h j)

pub join_blank : (d : Slots Ty) (n : ℕ) → length d ≡ n → Join d (replicate n none) d
join_blank [] n h = subst (λ m. Join [] (replicate m none) []) h Join.done
join_blank (none ∷ d) n h = subst (λ m. Join (none ∷ d) (replicate m none) (none ∷ d)) h (Join.neither (join_blank d (length d) refl))
join_blank (some a ∷ d) n h =
    subst (λ m. Join (some a ∷ d) (replicate m none) (some a ∷ d)) h (Join.second refl (join_blank d (length d) refl))

-- ---- environments

-- slot by slot both are empty, or both full and the value is of the type
pub data EnvOf : Slots Val → Slots Ty → Type 0 where
  done : EnvOf [] []
  blank : {ε : Slots Val} {d : Slots Ty} → EnvOf ε d → EnvOf (none ∷ ε) (none ∷ d)
  full : {v : Val} {a : Ty} {ε : Slots Val} {d : Slots Ty} → Of v a → EnvOf ε d → EnvOf (some v ∷ ε) (some a ∷ d)

pub env_blank : (n : ℕ) → EnvOf (replicate n none) (replicate n none)
env_blank zero = EnvOf.done
env_blank (suc n) = EnvOf.blank (env_blank n)

pub env_empty : {ε : Slots Val} {d : Slots Ty} → all_empty d ≡ true → EnvOf ε d → all_empty ε ≡ true
env_empty h EnvOf.done = refl
env_empty h (EnvOf.blank r) = env_empty h r
env_empty h (EnvOf.full o r) = absurd (false≢true h)

-- ---- building

-- what slot n gives: a value of type a, and an environment of f
abbrev pub Given : ℕ → Slots Val → Ty → Slots Ty → Type 0
Given n ε a f = (w : Val) × (φ : Slots Val) × (get n ε ≡ some (w, φ)) × Of w a × EnvOf φ f

get_here : {a : Ty} {d e f : Slots Ty} {ε : Slots Val} → all_empty e ≡ true → Join d (some a ∷ e) f → EnvOf ε d → Given 0 ε a f
get_here h (Join.first p j) (EnvOf.full {v = v} {ε = ε} o r) =
    (v, none ∷ ε, refl, subst (Of v) p o, EnvOf.blank (subst (EnvOf ε) (join_empty h j) r))

get_below : {n : ℕ} {a : Ty} {d e f : Slots Ty} {ε : Slots Val} → Join d (none ∷ e) f → EnvOf ε d
    → ((d' f' : Slots Ty) (ε' : Slots Val) → Join d' e f' → EnvOf ε' d' → Given n ε' a f') → Given (suc n) ε a f
get_below {n} (Join.neither {d = d} {f = f} j) (EnvOf.blank {ε = ε} r) k =
    let t = k d f ε j r in
    (t.0, none ∷ t.1, some_bind (λ s. some (s.0, none ∷ s.1)) t.2, t.3, EnvOf.blank t.4)
get_below {n} (Join.second {d = d} {f = f} p j) (EnvOf.full {v = v} {ε = ε} o r) k =
    let t = k d f ε j r in
    (t.0, some v ∷ t.1, some_bind (λ s. some (s.0, some v ∷ s.1)) t.2, t.3, EnvOf.full (subst (Of v) p o) t.4)

pub get_total : (n : ℕ) (a : Ty) (z : Slots Ty) {d e f : Slots Ty} {ε : Slots Val} → all_empty z ≡ true → put n a z ≡ some e
    → Join d e f → EnvOf ε d → Given n ε a f
get_total n a [] h p j r = absurd (none≢some p)
get_total zero a (none ∷ z) {d} {e} {f} h p j r = get_here h (subst (λ x. Join d x f) (sym (some_inj p)) j) r
get_total zero a (some b ∷ z) h p j r = absurd (false≢true h)
get_total (suc n) a (none ∷ z) {d} {e} {f} h p j r =
    let s = bind_some (put n a z) (λ x. some (none ∷ x)) p in
    get_below (subst (λ x. Join d x f) (sym (some_inj s.2)) j) r (λ d' f' ε' j' r'. get_total n a z h s.1 j' r')
get_total (suc n) a (some b ∷ z) h p j r = absurd (false≢true h)

-- what building gives: a value of type a, and an environment of f
pub record Built (q : Pat) (ε : Slots Val) (a : Ty) (f : Slots Ty) : Type 0 where
  pub value : Val
  pub rest : Slots Val
  pub builds : build q ε ≡ some (value, rest)
  pub typed : Of value a
  pub env : EnvOf rest f

build_inj : {t : Tag} {p : Pat} {a b : Ty} {ε : Slots Val} {f : Slots Ty} → Built p ε (part t a b) f → Built (pinj t p) ε (tsum a b) f
build_inj {t} r =
    record {
      value = vinj t r.value;
      rest = r.rest;
      builds = some_bind (λ u. some (vinj t u.0, u.1)) r.builds;
      typed = Of.inj r.typed;
      env = r.env;
    }

build_node : (k : Node) {p q : Pat} {a b c : Ty} {ε : Slots Val} {x f : Slots Ty} (r : Built q ε b x) (s : Built p r.rest a f)
    → Of (vnode k s.value r.value) c → Built (pnode k p q) ε c f
build_node k {p} r s o =
    record {
      value = vnode k s.value r.value;
      rest = s.rest;
      builds =
          some_bind (λ t. build p t.1 >>= λ u. some (vnode k u.0 t.0, u.1)) r.builds
          ∙ some_bind (λ u. some (vnode k u.0 r.value, u.1)) s.builds;
      typed = o;
      env = s.env;
    }

-- a pattern that fits takes its part of the environment
pub build_total : {e d f : Slots Ty} {q : Pat} {a : Ty} {ε : Slots Val} → Fits e q a → Join d e f → EnvOf ε d → Built q ε a f
build_total {ε} (Fits.unit h) j r =
    record { value = vleaf unit_leaf; rest = ε; builds = refl; typed = Of.unit; env = subst (EnvOf ε) (join_empty h j) r }
build_total {ε} (Fits.nil h) j r =
    record { value = vleaf empty_leaf; rest = ε; builds = refl; typed = Of.nil; env = subst (EnvOf ε) (join_empty h j) r }
build_total (Fits.var {n = n} {a = a} z h p) j r =
    let t = get_total n a z h p j r in record { value = t.0; rest = t.1; builds = t.2; typed = t.3; env = t.4 }
build_total (Fits.inj {t = t} i) j r = build_inj (build_total i j r)
build_total (Fits.pair k x y) j r =
    let s = join_assoc j (join_comm k) in
    let t = build_total y s.1 r in
    let u = build_total x s.2 t.env in
    build_node pair_node t u (Of.pair u.typed t.typed)
build_total (Fits.cons k x y) j r =
    let s = join_assoc j (join_comm k) in
    let t = build_total y s.1 r in
    let u = build_total x s.2 t.env in
    build_node element_node t u (Of.cons u.typed t.typed)

-- ---- binding

put_here : {a : Ty} {h f g : Slots Ty} {u : Val} {φ : Slots Val} → all_empty g ≡ true → Join h f (some a ∷ g) → EnvOf φ f → Of u a
    → (η : Slots Val) × (put 0 u φ ≡ some η) × EnvOf η h
put_here {u} i (Join.second p j) (EnvOf.blank {ε = φ} r) o =
    (some u ∷ φ, refl, EnvOf.full (subst (Of u) (sym p) o) (subst (EnvOf φ) (sym (join_empty i (join_comm j))) r))

put_below : {n : ℕ} {h f g : Slots Ty} {u : Val} {φ : Slots Val} → Join h f (none ∷ g) → EnvOf φ f
    → ((h' f' : Slots Ty) (φ' : Slots Val) → Join h' f' g → EnvOf φ' f' → (η : Slots Val) × (put n u φ' ≡ some η) × EnvOf η h')
    → (η : Slots Val) × (put (suc n) u φ ≡ some η) × EnvOf η h
put_below (Join.neither {d = h} {e = f} j) (EnvOf.blank {ε = φ} r) k =
    let t = k h f φ j r in (none ∷ t.0, some_bind (λ x. some (none ∷ x)) t.1, EnvOf.blank t.2)
put_below (Join.first {d = h} {e = f} p j) (EnvOf.full {v = v} {ε = φ} o r) k =
    let t = k h f φ j r in (some v ∷ t.0, some_bind (λ x. some (some v ∷ x)) t.1, EnvOf.full (subst (Of v) (sym p) o) t.2)

pub put_total : (n : ℕ) (a : Ty) (z : Slots Ty) {h f g : Slots Ty} {u : Val} {φ : Slots Val} → all_empty z ≡ true → put n a z ≡ some g
    → Join h f g → EnvOf φ f → Of u a → (η : Slots Val) × (put n u φ ≡ some η) × EnvOf η h
put_total n a [] i p j r o = absurd (none≢some p)
put_total zero a (none ∷ z) {h} {f} {g} i p j r o = put_here i (subst (Join h f) (sym (some_inj p)) j) r o
put_total zero a (some b ∷ z) i p j r o = absurd (false≢true i)
put_total (suc n) a (none ∷ z) {h} {f} {g} i p j r o =
    let s = bind_some (put n a z) (λ x. some (none ∷ x)) p in
    put_below (subst (Join h f) (sym (some_inj s.2)) j) r (λ h' f' φ' j' r'. put_total n a z i s.1 j' r' o)
put_total (suc n) a (some b ∷ z) i p j r o = absurd (false≢true i)

-- every value of its type has the shape of a product pattern
pub product_alike : {g : Slots Ty} {p : Pat} {b : Ty} {u : Val} → Fits g p b → Product p → Of u b → Alike p u
product_alike (Fits.unit h) Product.unit Of.unit = Alike.leaf refl
product_alike (Fits.var z h p) Product.var o = Alike.var
product_alike (Fits.pair j x y) (Product.pair p q) (Of.pair o l) = Alike.node refl (product_alike x p o) (product_alike y q l)
product_alike {u = u} (Fits.nil {d = d} {a = a} _) x10 o = elim x10 [ ]
product_alike {u = u} (Fits.inj {d = d} {t = t} {p = p} {a = a} {b = b} _) x11 o = elim x11 [ ]
product_alike {u = u} (Fits.cons {d = d} {e = e} {f = f} {p = p} {q = q} {a = a} _ _ _) x14 o = elim x14 [ ]

-- what binding gives: an environment of h
pub record BoundTo (p : Pat) (u : Val) (φ : Slots Val) (h : Slots Ty) : Type 0 where
  pub slots : Slots Val
  pub binds : bind p u φ ≡ some slots
  pub env : EnvOf slots h

bind_inj : {s t : Tag} {p : Pat} {u : Val} {φ : Slots Val} {h : Slots Ty} → s ≡ t → BoundTo p u φ h → BoundTo (pinj s p) (vinj t u) φ h
bind_inj {p = p} {u} {φ} e r =
    record {
      slots = r.slots;
      binds = some_bind (λ _. bind p u φ) (true_guard (eq_same_tag e)) ∙ r.binds;
      env = r.env;
    }

bind_node : {k m : Node} {p q : Pat} {u w : Val} {φ : Slots Val} {x h : Slots Ty} → k ≡ m → (r : BoundTo p u φ x) → BoundTo q w r.slots h
    → BoundTo (pnode k p q) (vnode m u w) φ h
bind_node {p} {q} {u} {w} {φ} e r s =
    record {
      slots = s.slots;
      binds = some_bind (λ _. bind p u φ >>= bind q w) (true_guard (eq_same_node e)) ∙ some_bind (λ d. bind q w d) r.binds ∙ s.binds;
      env = s.env;
    }

bind_leaf : {l k : Leaf} {φ : Slots Val} {h : Slots Ty} → l ≡ k → EnvOf φ h → BoundTo (pleaf l) (vleaf k) φ h
bind_leaf {φ = φ} e r = record { slots = φ; binds = some_bind (λ _. some φ) (true_guard (eq_same_leaf e)); env = r }

-- a pattern that fits adds its part to the environment
pub bind_alike : {g f h : Slots Ty} {p : Pat} {b : Ty} {u : Val} {φ : Slots Val} → Fits g p b → Of u b → Alike p u → Join h f g → EnvOf φ f
    → BoundTo p u φ h
bind_alike {φ} (Fits.unit i) Of.unit (Alike.leaf e) j r = bind_leaf e (subst (EnvOf φ) (sym (join_empty i (join_comm j))) r)
bind_alike {φ} (Fits.nil i) Of.nil (Alike.leaf e) j r = bind_leaf e (subst (EnvOf φ) (sym (join_empty i (join_comm j))) r)
bind_alike (Fits.var {n = n} {a = a} z i p) o Alike.var j r =
    let t = put_total n a z i p j r o in record { slots = t.0; binds = t.1; env = t.2 }
bind_alike (Fits.inj {a = a} {b = b} x) (Of.inj {v = v} o) (Alike.inj e m) j r =
    bind_inj e (bind_alike x (subst (λ t. Of v (part t a b)) (sym e) o) m j r)
bind_alike (Fits.pair k x y) (Of.pair o l) (Alike.node e m n) j r =
    let s = join_assoc (join_comm j) (join_comm k) in
    let t = bind_alike x o m (join_comm s.2) r in
    bind_node e t (bind_alike y l n (join_comm s.1) t.env)
bind_alike (Fits.cons k x y) (Of.cons o l) (Alike.node e m n) j r =
    let s = join_assoc (join_comm j) (join_comm k) in
    let t = bind_alike x o m (join_comm s.2) r in
    bind_node e t (bind_alike y l n (join_comm s.1) t.env)
bind_alike {f = f} {h = h} {φ = φ} (Fits.nil {d = d} {a = a} i) (Of.cons {v = v} {w = w} o l) x20 j r = elim x20 [ ]
bind_alike {f = f} {h = h} {φ = φ} (Fits.cons {d = d} {e = e} {p = p} {q = q} {a = a} k x y) Of.nil x18 j r = elim x18 [ ]

-- "match what comes out with p": a product pattern binds every value of its type
pub bind_total : {f g h : Slots Ty} {p : Pat} {b : Ty} {u : Val} {φ : Slots Val} → Fits g p b → Product p → Of u b → Join h f g → EnvOf φ f
    → BoundTo p u φ h
bind_total x p o j r = bind_alike x o (product_alike x p o) j r

-- ---- both sides of a clause

-- a left pattern binds each value of its type that it matches
pub lhs_total : {d : Slots Ty} {p : Pat} {a : Ty} {v : Val} → length d ≡ variables → Fits d p a → Of v a → Matched p v → BoundTo p v (empty Val) d
unfolding empty
lhs_total {d} h x o m = bind_alike x o (matched_alike m) (join_blank d variables h) (env_blank variables)

-- a right pattern that fits leaves nothing
pub build_all : {d : Slots Ty} {p : Pat} {b : Ty} {ε : Slots Val} → Fits d p b → EnvOf ε d
    → (w : Val) × (φ : Slots Val) × (build p ε ≡ some (w, φ)) × Of w b × (all_empty φ ≡ true)
build_all {d} x r =
    let b = build_total x (join_comm (join_blank d (length d) refl)) r in
    (b.value, b.rest, b.builds, b.typed, env_empty (all_empty_replicate Ty (length d)) b.env)
