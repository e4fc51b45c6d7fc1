-- Environments slot by slot: putting into a slot and getting from it undo each other, putting fills one empty slot and no other, and an
-- environment without values holds nothing.
use Prim.Native.Nat.{ℕ, zero, suc, ◌<◌}
use native.Mathlib.Nat.{suc_inj, suc-ne-zero, not-suc-le-zero, le_of_suc-le-suc}
use native.Mathlib.Decide.{ℕ_discrete}
use mathlib.Core.Path.{◌≡◌, refl, sym, ap, ◌∙◌, subst}
use mathlib.Core.Logic.{◌↔◌}
use mathlib.Core.Bool.{true, false≢true}
use mathlib.Core.Option.{Option, none, some}
use mathlib.Core.List.{[], ◌∷◌}
use lib.ListN.{length, replicate, length-replicate}
use Rattle.limits.specs.Limits.{variables}
use Rattle.calculus.specs.Slots.{Slots, put, get, empty, all_empty}
pub use Rattle.calculus.specs.Slots.{slot}
use Rattle.calculus.proofs.Basic.{bind_some, some_bind, none≢some, some_inj}

-- ---- put and get

module _ {A : Type 0} where
  pub get_of_put : (n : ℕ) (a : A) (e : Slots A) {e' : Slots A} → put n a e ≡ some e' → get n e' ≡ some (a, e)
  get_of_put n a [] h = absurd (none≢some h)
  get_of_put zero a (none ∷ e) h = ap (get zero) (sym (some_inj h))
  get_of_put zero a (some b ∷ e) h = absurd (none≢some h)
  get_of_put (suc n) a (s ∷ e) h =
      let t = bind_some (put n a e) (λ e'. some (s ∷ e')) h in
      ap (get (suc n)) (sym (some_inj t.2)) ∙ some_bind (λ r. some (r.0, s ∷ r.1)) (get_of_put n a e t.1)

  pub put_of_get : (n : ℕ) (a : A) {e : Slots A} (e' : Slots A) → get n e' ≡ some (a, e) → put n a e ≡ some e'
  put_of_get n a [] h = absurd (none≢some h)
  put_of_get zero a (none ∷ e') h = absurd (none≢some h)
  put_of_get zero a (some b ∷ e') h = sym (ap (λ r. put zero r.0 r.1) (some_inj h))
  put_of_get (suc n) a (s ∷ e') h =
      let t = bind_some (get n e') (λ r. some (r.0, s ∷ r.1)) h in
      sym (ap (λ r. put (suc n) r.0 r.1) (some_inj t.2)) ∙ some_bind (λ d. some (s ∷ d)) (put_of_get n t.0.0 e' t.1)

  pub put_get : (n : ℕ) (a : A) (e e' : Slots A) → (put n a e ≡ some e') ↔ (get n e' ≡ some (a, e))
  put_get n a e e' = (get_of_put n a e, put_of_get n a e')

  pub put_length : (n : ℕ) (a : A) (e : Slots A) {e' : Slots A} → put n a e ≡ some e' → length e' ≡ length e
  put_length n a [] h = absurd (none≢some h)
  put_length zero a (none ∷ e) h = ap length (sym (some_inj h))
  put_length zero a (some b ∷ e) h = absurd (none≢some h)
  put_length (suc n) a (s ∷ e) h =
      let t = bind_some (put n a e) (λ e'. some (s ∷ e')) h in ap length (sym (some_inj t.2)) ∙ ap suc (put_length n a e t.1)

  pub get_length : (n : ℕ) (e : Slots A) {a : A} {e' : Slots A} → get n e ≡ some (a, e') → length e' ≡ length e
  get_length n e {a} {e'} h = sym (put_length n a e' (put_of_get n a e h))

  -- two environments of one length with no value are the same
  pub all_empty_unique : (e d : Slots A) → length e ≡ length d → all_empty e ≡ true → all_empty d ≡ true → e ≡ d
  all_empty_unique [] [] l h k = refl
  all_empty_unique [] (s ∷ d) l h k = absurd (suc-ne-zero (length d) (sym l))
  all_empty_unique (s ∷ e) [] l h k = absurd (suc-ne-zero (length e) l)
  all_empty_unique (none ∷ e) (none ∷ d) l h k = ap (λ r. none ∷ r) (all_empty_unique e d (suc_inj l) h k)
  all_empty_unique (none ∷ e) (some b ∷ d) l h k = absurd (false≢true k)
  all_empty_unique (some a ∷ e) (s ∷ d) l h k = absurd (false≢true h)

-- ---- what a slot holds

-- what f gives, g gives too
abbrev pub Contained : {A : Type 0} → (ℕ → Option A) → (ℕ → Option A) → Type 0
Contained {A} f g = (n : ℕ) (a : A) → f n ≡ some a → g n ≡ some a

-- slot n, empty in e, holds a in d, which is e elsewhere
pub record Filled {A : Type 0} (n : ℕ) (a : A) (e d : Slots A) : Type 0 where
  pub new : slot e n ≡ none
  pub held : slot d n ≡ some a
  pub same : (m : ℕ) → (m ≡ n → ⊥) → slot d m ≡ slot e m

filled_later : {A : Type 0} {n : ℕ} {a : A} {e d : Slots A} (s : Option A) → Filled n a e d → Filled (suc n) a (s ∷ e) (s ∷ d)
filled_later {A} {n} {a} {e} {d} s h = record { new = h.new; held = h.held; same = same }
  where
    same : (m : ℕ) → (m ≡ suc n → ⊥) → slot (s ∷ d) m ≡ slot (s ∷ e) m
    same zero differs = refl
    same (suc m) differs = h.same m (λ p. differs (ap suc p))

filled_here : {A : Type 0} (a : A) (e : Slots A) → Filled zero a (none ∷ e) (some a ∷ e)
filled_here a e = record { new = refl; held = refl; same = same }
  where
    same : (m : ℕ) → (m ≡ zero → ⊥) → slot (some a ∷ e) m ≡ slot (none ∷ e) m
    same zero differs = absurd (differs refl)
    same (suc m) differs = refl

pub put_filled : {A : Type 0} (n : ℕ) (a : A) (e : Slots A) {d : Slots A} → put n a e ≡ some d → Filled n a e d
put_filled n a [] h = absurd (none≢some h)
put_filled zero a (none ∷ e) h = subst (Filled zero a (none ∷ e)) (some_inj h) (filled_here a e)
put_filled zero a (some b ∷ e) h = absurd (none≢some h)
put_filled (suc n) a (s ∷ e) h =
    let (d, put_n, is) = bind_some (put n a e) (λ e'. some (s ∷ e')) h in
    subst (Filled (suc n) a (s ∷ e)) (some_inj is) (filled_later s (put_filled n a e put_n))

-- full slots stay full
pub filled_keeps : {A : Type 0} {n : ℕ} {a : A} {e d : Slots A} → Filled n a e d → Contained (slot e) (slot d)
filled_keeps {A} {n} {a} {e} {d} f m b h = go (ℕ_discrete m n)
  where
    go : Dec (m ≡ n) → slot d m ≡ some b
    go (yes p) = absurd (none≢some (sym f.new ∙ ap (slot e) (sym p) ∙ h))
    go (no differs) = f.same m differs ∙ h

-- an empty slot takes a value
pub put_empty : {A : Type 0} (n : ℕ) (a : A) (e : Slots A) → n < length e → slot e n ≡ none → (d : Slots A) × (put n a e ≡ some d)
put_empty n a [] h k = absurd (not-suc-le-zero h)
put_empty zero a (none ∷ e) h k = (some a ∷ e, refl)
put_empty zero a (some b ∷ e) h k = absurd (none≢some (sym k))
put_empty (suc n) a (s ∷ e) h k =
    let r = put_empty n a e (le_of_suc-le-suc h) k in (s ∷ r.0, some_bind (λ e'. some (s ∷ e')) r.1)

-- ---- no values

pub slot_all_empty : {A : Type 0} (e : Slots A) → all_empty e ≡ true → (n : ℕ) → slot e n ≡ none
slot_all_empty [] h n = refl
slot_all_empty (none ∷ e) h zero = refl
slot_all_empty (none ∷ e) h (suc n) = slot_all_empty e h n
slot_all_empty (some a ∷ e) h n = absurd (false≢true h)

pub all_empty_replicate : (A : Type 0) (n : ℕ) → all_empty (replicate {A = Option A} n none) ≡ true
all_empty_replicate A zero = refl
all_empty_replicate A (suc n) = all_empty_replicate A n

pub all_empty_empty : (A : Type 0) → all_empty (empty A) ≡ true
unfolding empty
all_empty_empty A = all_empty_replicate A variables

pub slot_empty : {A : Type 0} (n : ℕ) → slot (empty A) n ≡ none
slot_empty {A} n = slot_all_empty (empty A) (all_empty_empty A) n

pub length_empty : (A : Type 0) → length (empty A) ≡ variables
unfolding empty
length_empty A = length-replicate {A = Option A} variables none

-- what is as long as the empty environment and has no value is that environment
pub is_empty : {A : Type 0} (e : Slots A) → length e ≡ length (empty A) → all_empty e ≡ true → e ≡ empty A
is_empty {A} e l h = all_empty_unique e (empty A) l h (all_empty_empty A)
