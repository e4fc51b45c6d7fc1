-- The law of a kept fit: a pattern fits where others are live as it fits where none is, slot by slot.
use Prim.Native.Nat.{ℕ, zero, suc, ◌+◌, ◌<◌, ◌≤◌}
use native.Mathlib.Omega.{arith}
use mathlib.Core.Path.{◌≡◌, refl, sym, ap, ap₂, ◌∙◌}
use mathlib.Core.Bool.{Bool, true, false}
use mathlib.Core.Option.{Option, none, some}
use mathlib.Core.List.{List, [], ◌∷◌}
use lib.ListN.{length, get_or, replicate, length-replicate}
use Rattle.limits.specs.Limits.{variables}
use Rattle.calculus.specs.Tools.{◌>>=◌, guard}
use Rattle.calculus.specs.Trees.{Ty, Pat, pvar, pleaf, pinj, pnode, same_type, leaf_fits, beneath, parts}
use Rattle.calculus.specs.Slots.{Slots, put, get}
use Rattle.calculus.specs.Clauses.{learn, spend}
use Rattle.calculus.proofs.Basic.{bind_assoc, same_bind, bind_some, some_inj, none≢some}
use Rattle.check_typing.specs.Fitting.{fitting, fit_all}
use Rattle.check_known.specs.Known.{found, meet, zip_all, meet_all}

-- ---- options

bind_none : {A B : Type 0} (x : Option A) → ◌≡◌ {A = Option B} (x >>= λ a. none) none
bind_none none = refl
bind_none (some a) = refl

bind_same : {A B : Type 0} (x : Option A) (f g : A → Option B) → ((a : A) → x ≡ some a → f a ≡ g a) → (x >>= f) ≡ (x >>= g)
bind_same none f g h = refl
bind_same (some a) f g h = h a refl

bind_each : {A B C : Type 0} (x : Option A) (f : A → Option B) (g : A → Option C) (k : C → Option B) → ((a : A) → f a ≡ (g a >>= k)) → (x >>= f) ≡ ((x >>= g) >>= k)
bind_each none f g k h = refl
bind_each (some a) f g k h = h a

-- ---- lists taken together

module _ {A : Type 0} where
  pub zip_long : (f : A → A → Option A) (s w r : List A) → zip_all f s w ≡ some r → length r ≡ length s
  zip_long f [] w r e = ap length (sym (some_inj e))
  zip_long f (x ∷ s) [] r e = absurd (none≢some e)
  zip_long f (x ∷ s) (y ∷ w) r e =
      let one = bind_some (f x y) (λ z. zip_all f s w >>= λ r. some (z ∷ r)) e in
      let two = bind_some (zip_all f s w) (λ r. some (one.0 ∷ r)) one.2 in
      ap length (sym (some_inj two.2)) ∙ ap suc (zip_long f s w two.0 two.1)

  zip_turned : (f : A → A → Option A) (s w : List A) → length s ≡ length w → zip_all (λ x y. f y x) s w ≡ zip_all f w s
  zip_turned f [] [] h = refl
  zip_turned f [] (y ∷ w) h = absurd (omega arith)
  zip_turned f (x ∷ s) [] h = absurd (omega arith)
  zip_turned f (x ∷ s) (y ∷ w) h = ap (λ o. f y x >>= λ z. o >>= λ r. some (z ∷ r)) (zip_turned f s w (omega arith))

  -- heads and tails apart
  parted : (x : Option A) (o : Option (List A)) (f : A → Option A) (g : List A → Option (List A)) (k : List A → Option (List A))
      → ((z : A) (r : List A) → k (z ∷ r) ≡ (f z >>= λ y. g r >>= λ t. some (y ∷ t)))
      → ((x >>= λ z. o >>= λ r. some (z ∷ r)) >>= k) ≡ ((x >>= f) >>= λ y. (o >>= g) >>= λ t. some (y ∷ t))
  parted none o f g k h = refl
  parted (some z) none f g k h = sym (bind_none (f z))
  parted (some z) (some r) f g k h = h z r

  -- two lists one after the other, or both together
  zip_twice : (f g : A → A → Option A) → ((x u v : A) → (f x u >>= λ d. f d v) ≡ (g u v >>= f x)) → (s us vs : List A) → length us ≡ length s → length vs ≡ length s
      → (zip_all f s us >>= λ d. zip_all f d vs) ≡ (zip_all g us vs >>= λ d. zip_all f s d)
  zip_twice f g h [] [] [] a b = refl
  zip_twice f g h [] (u ∷ us) vs a b = absurd (omega arith)
  zip_twice f g h [] [] (v ∷ vs) a b = absurd (omega arith)
  zip_twice f g h (x ∷ s) [] vs a b = absurd (omega arith)
  zip_twice f g h (x ∷ s) (u ∷ us) [] a b = absurd (omega arith)
  zip_twice f g h (x ∷ s) (u ∷ us) (v ∷ vs) a b =
      parted (f x u) (zip_all f s us) (λ z. f z v) (λ r. zip_all f r vs) (λ d. zip_all f d (v ∷ vs)) (λ z r. refl)
      ∙ ap₂ (λ m n. m >>= λ y. n >>= λ t. some (y ∷ t)) (h x u v) (zip_twice f g h s us vs (omega arith) (omega arith))
      ∙ sym (parted (g u v) (zip_all g us vs) (f x) (λ d. zip_all f s d) (λ d. zip_all f (x ∷ s) d) (λ z r. refl))

-- ---- slots

bound_twice : (x u v : Option Ty) → (meet true x u >>= λ d. meet true d v) ≡ (meet true u v >>= meet true x)
bound_twice x u none = sym (same_bind (meet true x u))
bound_twice x none (some b) = refl
bound_twice none (some a) (some b) = refl
bound_twice (some c) (some a) (some b) = refl

used_twice : (x u v : Option Ty) → (meet false x u >>= λ d. meet false d v) ≡ (meet true v u >>= meet false x)
used_twice x none none = refl
used_twice x none (some b) = refl
used_twice none (some a) none = refl
used_twice none (some a) (some b) = refl
used_twice (some c) (some a) none = sym (same_bind (meet false (some c) (some a)))
used_twice (some c) (some a) (some b) = go (same_type c a)
  where
    go : (t : Bool) → ((guard t >>= λ _. some none) >>= λ d. meet false d (some b)) ≡ none
    go true = refl
    go false = refl

-- none live
pub meet_fresh : (b : Bool) (s : Slots Ty) (n : ℕ) → length s ≡ n → meet_all b s (replicate n none) ≡ some s
meet_fresh b [] n h = refl
meet_fresh b (x ∷ s) zero h = absurd (omega arith)
meet_fresh b (x ∷ s) (suc n) h = ap (λ o. o >>= λ r. some (x ∷ r)) (meet_fresh b s n (omega arith))

-- ---- a variable

put_meets : (n : ℕ) (a : Ty) (s : Slots Ty) (m : ℕ) → length s ≡ m → put n a s ≡ (put n a (replicate m none) >>= λ w. meet_all true s w)
put_meets n a [] zero h = refl
put_meets n a [] (suc m) h = absurd (omega arith)
put_meets n a (x ∷ s) zero h = absurd (omega arith)
put_meets zero a (none ∷ s) (suc m) h = sym (ap (λ o. o >>= λ r. some (some a ∷ r)) (meet_fresh true s m (omega arith)))
put_meets zero a (some c ∷ s) (suc m) h = refl
put_meets (suc n) a (x ∷ s) (suc m) h =
    ap (λ o. o >>= λ r. some (x ∷ r)) (put_meets n a s m (omega arith))
    ∙ bind_assoc (put n a (replicate m none)) (λ w. meet_all true s w) (λ r. some (x ∷ r))
    ∙ sym (bind_assoc (put n a (replicate m none)) (λ w. some (none ∷ w)) (λ w. meet_all true (x ∷ s) w))

-- what a use leaves of what it got
abbrev left : Ty → Option (Ty × Slots Ty) → Option (Slots Ty)
left a o = o >>= λ r. guard (same_type r.0 a) >>= λ _. some r.1

left_behind : (a : Ty) (x : Option Ty) (o : Option (Ty × Slots Ty)) → left a (o >>= λ r. some (r.0, x ∷ r.1)) ≡ (left a o >>= λ t. some (x ∷ t))
left_behind a x none = refl
left_behind a x (some r) = go (same_type r.0 a)
  where
    go : (b : Bool) → (guard b >>= λ _. some (x ∷ r.1)) ≡ ((guard b >>= λ _. some r.1) >>= λ t. some (x ∷ t))
    go true = refl
    go false = refl

get_meets : (n : ℕ) (a : Ty) (s : Slots Ty) (m : ℕ) → length s ≡ m → left a (get n s) ≡ (put n a (replicate m none) >>= λ w. meet_all false s w)
get_meets n a [] zero h = refl
get_meets n a [] (suc m) h = absurd (omega arith)
get_meets n a (x ∷ s) zero h = absurd (omega arith)
get_meets zero a (none ∷ s) (suc m) h = refl
get_meets zero a (some c ∷ s) (suc m) h = go (same_type c a)
  where
    go : (b : Bool) → (guard b >>= λ _. some (none ∷ s)) ≡ ((guard b >>= λ _. some none) >>= λ z. meet_all false s (replicate m none) >>= λ r. some (z ∷ r))
    go true = sym (ap (λ o. o >>= λ r. some (none ∷ r)) (meet_fresh false s m (omega arith)))
    go false = refl
get_meets (suc n) a (x ∷ s) (suc m) h =
    left_behind a x (get n s)
    ∙ ap (λ o. o >>= λ r. some (x ∷ r)) (get_meets n a s m (omega arith))
    ∙ bind_assoc (put n a (replicate m none)) (λ w. meet_all false s w) (λ r. some (x ∷ r))
    ∙ sym (bind_assoc (put n a (replicate m none)) (λ w. some (none ∷ w)) (λ w. meet_all false (x ∷ s) w))

-- ---- patterns

-- two parts found with none live: bound one after the other, or used, the second first
module _ (s : Slots Ty) (m : ℕ) (h : length s ≡ m) where
  both_bound : (v u : Option (Slots Ty)) → ((w : Slots Ty) → v ≡ some w → length w ≡ m) → ((w : Slots Ty) → u ≡ some w → length w ≡ m)
      → ((v >>= λ w. meet_all true s w) >>= λ d. u >>= λ w. meet_all true d w) ≡ ((v >>= λ d. u >>= λ w. meet_all true d w) >>= λ w. meet_all true s w)
  both_bound none u f g = refl
  both_bound (some w) none f g = bind_none (meet_all true s w)
  both_bound (some w) (some z) f g = zip_twice (meet true) (meet true) bound_twice s w z (f w refl ∙ sym h) (g z refl ∙ sym h)

  both_used : (v u : Option (Slots Ty)) → ((w : Slots Ty) → v ≡ some w → length w ≡ m) → ((w : Slots Ty) → u ≡ some w → length w ≡ m)
      → ((u >>= λ w. meet_all false s w) >>= λ d. v >>= λ w. meet_all false d w) ≡ ((v >>= λ d. u >>= λ w. meet_all true d w) >>= λ w. meet_all false s w)
  both_used none none f g = refl
  both_used none (some z) f g = bind_none (meet_all false s z)
  both_used (some w) none f g = refl
  both_used (some w) (some z) f g =
      zip_twice (meet false) (λ x y. meet true y x) used_twice s z w (g z refl ∙ sym h) (f w refl ∙ sym h)
      ∙ ap (λ o. o >>= λ d. meet_all false s d) (zip_turned (meet true) z w (g z refl ∙ sym (f w refl)))

abbrev freshly : ℕ → Pat → Ty → Option (Slots Ty)
freshly m p a = learn p a (replicate m none)

-- the slots stay as many
put_long : (n : ℕ) (a : Ty) (e d : Slots Ty) → put n a e ≡ some d → length d ≡ length e
put_long n a [] d q = absurd (none≢some q)
put_long zero a (none ∷ e) d q = ap length (sym (some_inj q))
put_long zero a (some b ∷ e) d q = absurd (none≢some q)
put_long (suc n) a (x ∷ e) d q =
    let o = bind_some (put n a e) (λ r. some (x ∷ r)) q in
    ap length (sym (some_inj o.2)) ∙ ap suc (put_long n a e o.0 o.1)

learn_long : (p : Pat) (a : Ty) (e d : Slots Ty) → learn p a e ≡ some d → length d ≡ length e
learn_long (pvar n) a e d q = put_long n a e d q
learn_long (pleaf l) a e d q = let o = bind_some (guard (leaf_fits l a)) (λ _. some e) q in ap length (sym (some_inj o.2))
learn_long (pinj t p) a e d q = let o = bind_some (beneath t a) (λ b. learn p b e) q in learn_long p o.0 e d o.2
learn_long (pnode k p r) a e d q =
    let c = bind_some (parts k a) (λ s. learn p s.0 e >>= λ d. learn r s.1 d) q in
    let o = bind_some (learn p c.0.0 e) (λ d. learn r c.0.1 d) c.2 in
    learn_long r c.0.1 o.0 d o.2 ∙ learn_long p c.0.0 e o.0 o.1

freshly_long : (m : ℕ) (p : Pat) (a : Ty) (w : Slots Ty) → freshly m p a ≡ some w → length w ≡ m
freshly_long m p a w q = learn_long p a (replicate m none) w q ∙ length-replicate {A = Option Ty} m none

learn_meets : (p : Pat) (a : Ty) (s : Slots Ty) (m : ℕ) → length s ≡ m → learn p a s ≡ (freshly m p a >>= λ w. meet_all true s w)
learn_meets (pvar n) a s m h = put_meets n a s m h
learn_meets (pleaf l) a s m h =
    bind_each (guard (leaf_fits l a)) (λ _. some s) (λ _. some (replicate m none)) (λ w. meet_all true s w) (λ _. sym (meet_fresh true s m h))
learn_meets (pinj t p) a s m h =
    bind_each (beneath t a) (λ b. learn p b s) (λ b. freshly m p b) (λ w. meet_all true s w) (λ b. learn_meets p b s m h)
learn_meets (pnode k p q) a s m h =
    bind_each (parts k a) (λ c. learn p c.0 s >>= λ d. learn q c.1 d) (λ c. freshly m p c.0 >>= λ d. learn q c.1 d) (λ w. meet_all true s w)
    (λ c.
    bind_same (learn p c.0 s) (λ d. learn q c.1 d) (λ d. freshly m q c.1 >>= λ w. meet_all true d w)
    (λ d e. learn_meets q c.1 d m (learn_long p c.0 s d e ∙ h))
    ∙ ap (λ o. o >>= λ d. freshly m q c.1 >>= λ w. meet_all true d w) (learn_meets p c.0 s m h)
    ∙ both_bound s m h (freshly m p c.0) (freshly m q c.1) (freshly_long m p c.0) (freshly_long m q c.1)
    ∙ ap (λ o. o >>= λ w. meet_all true s w)
    (sym
    (bind_same (freshly m p c.0) (λ d. learn q c.1 d) (λ d. freshly m q c.1 >>= λ w. meet_all true d w)
    (λ d e. learn_meets q c.1 d m (freshly_long m p c.0 d e)))))

spend_meets : (p : Pat) (a : Ty) (s : Slots Ty) (m : ℕ) → length s ≡ m → spend p a s ≡ (freshly m p a >>= λ w. meet_all false s w)
spend_meets (pvar n) a s m h = get_meets n a s m h
spend_meets (pleaf l) a s m h =
    bind_each (guard (leaf_fits l a)) (λ _. some s) (λ _. some (replicate m none)) (λ w. meet_all false s w) (λ _. sym (meet_fresh false s m h))
spend_meets (pinj t p) a s m h =
    bind_each (beneath t a) (λ b. spend p b s) (λ b. freshly m p b) (λ w. meet_all false s w) (λ b. spend_meets p b s m h)
spend_meets (pnode k p q) a s m h =
    bind_each (parts k a) (λ c. spend q c.1 s >>= λ d. spend p c.0 d) (λ c. freshly m p c.0 >>= λ d. learn q c.1 d) (λ w. meet_all false s w)
    (λ c.
    ap (λ o. o >>= λ d. spend p c.0 d) (spend_meets q c.1 s m h)
    ∙ bind_same (freshly m q c.1 >>= λ w. meet_all false s w) (λ d. spend p c.0 d) (λ d. freshly m p c.0 >>= λ w. meet_all false d w)
    (λ d e. spend_meets p c.0 d m (used_long c.1 d e))
    ∙ both_used s m h (freshly m p c.0) (freshly m q c.1) (freshly_long m p c.0) (freshly_long m q c.1)
    ∙ ap (λ o. o >>= λ w. meet_all false s w)
    (sym
    (bind_same (freshly m p c.0) (λ d. learn q c.1 d) (λ d. freshly m q c.1 >>= λ w. meet_all true d w)
    (λ d e. learn_meets q c.1 d m (freshly_long m p c.0 d e)))))
  where
    used_long : (b : Ty) (d : Slots Ty) → (freshly m q b >>= λ w. meet_all false s w) ≡ some d → length d ≡ m
    used_long b d e = let o = bind_some (freshly m q b) (λ w. meet_all false s w) e in zip_long (meet false) s o.0 d o.2 ∙ h

-- a pattern bound, or used, with some variables live: as it fits with none live, slot by slot
pub fitting_meets : (c : Bool) (p : Pat) (a : Ty) (s : Slots Ty) → length s ≡ variables → fitting c p a s ≡ (found p a >>= λ w. meet_all c s w)
fitting_meets true p a s h = learn_meets p a s variables h
fitting_meets false p a s h = spend_meets p a s variables h
