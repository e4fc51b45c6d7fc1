-- What is kept, entry by entry: found again, met with live variables, stored.
use Prim.Native.Nat.{ℕ, zero, suc, ◌+◌, ◌-◌, ◌*◌, ◌%◌, ◌/◌, ◌<◌, ◌≤◌}
use native.Mathlib.Omega.{arith}
use native.Mathlib.Nat.{eq-or-lt_of_le}
use mathlib.Core.Path.{◌≡◌, refl, sym, ap, ap₂, ◌∙◌, subst}
use mathlib.Core.Bool.{Bool, true, false, true≢false}
use mathlib.Core.Logic.{◌⊎◌, inl, inr}
use mathlib.Core.Option.{Option, none, some}
use mathlib.Core.List.{List, [], ◌∷◌, map}
use lib.Dec.{eqb}
use lib.ListN.{length, length-map, get_or, set, length-set, replicate, get_or-replicate, get_or-map, length-replicate}
use lib.Seq.{get_or-set_same, get_or-set_other, ext_get_or}
use borrow.Author.Tests.{eqb-true}
use Rattle.limits.specs.Limits.{variables}
use Rattle.calculus.specs.Tools.{◌>>=◌, guard}
use Rattle.calculus.specs.Trees.{Ty, Pat, same_type}
use Rattle.calculus.specs.Slots.{Slots}
use Rattle.calculus.proofs.Basic.{some_bind, same_type_refl, bind_some, none≢some, some_inj, le_or_lt}
use Rattle.table_trees.specs.Unfolding.{cell_of, type_of, pattern_of}
use Rattle.check_typing.specs.declared.Env.{Env}
use Rattle.check_typing.specs.Fitting.{fitting, fit_all, entry_view, view_if, env_view, fresh_env}
use Rattle.check_known.specs.Known.{found, meet, zip_all, meet_all, meeting, Entries, NextEntry, Skipped, MetEntry, Kept, line_at, own_at, Known, Slot, Place, Full, Went, Entered, Stored}
use Rattle.check_known.proofs.Meets.{fitting_meets, meet_fresh}

-- ---- slots

pub never : {A : Type 0} → false ≡ true → A
never e = absurd (true≢false (sym e))

pub slot_is : (k : List ℕ) (at p a : ℕ) {o l h : ℕ} → o ≡ own_at k at → o ≡ a → l ≡ get_or k (at + 34) 0 → h ≡ get_or k (at + 35) 0
    → (eqb (l + h * 256) p ≡ true → (line_at k at ≡ p) × (own_at k at ≡ a))
slot_is k at p a {o} {l} {h} e f m n q = (sym (ap₂ (λ x y. x + y * 256) m n) ∙ eqb-true (l + h * 256) p q, sym e ∙ f)

pub place_free : (k : List ℕ) (p a s : ℕ) {h : ℕ} → s * 36 + 36 ≤ length k → h ≡ get_or k (s * 36 + 33) 0 → h ≡ 0 → Place k p a (s * 36)
place_free k p a s w e z = record { within = omega arith; slot = s; begins = refl; line = λ n. absurd (n (sym e ∙ z)); own = λ n. absurd (n (sym e ∙ z)) }

pub place_own : (k : List ℕ) (p a s : ℕ) → s * 36 + 36 ≤ length k → (line_at k (s * 36) ≡ p) × (own_at k (s * 36) ≡ a) → Place k p a (s * 36)
place_own k p a s w h = record { within = omega arith; slot = s; begins = refl; line = λ n. h.0; own = λ n. h.1 }

pub slot_there : {k : List ℕ} {p a at : ℕ} → Place k p a at → Slot k at
slot_there w = record { within = w.within; slot = w.slot; begins = w.begins }

pub slot_stays : {k k' : List ℕ} {at : ℕ} → length k' ≡ length k → Slot k at → Slot k' at
slot_stays {at = at} e w = record { within = subst (λ n. at + 35 < n) (sym e) w.within; slot = w.slot; begins = w.begins }

pub place_full : {k : List ℕ} {p a at h : ℕ} → Place k p a at → h ≡ get_or k (at + 33) 0 → 0 < h → h < 4 → Full k p a at
place_full w e l m = record { place = w; some = subst (λ n. 0 < n) e l; few = subst (λ n. n < 4) e m }

pub last_how : (h : ℕ) → 0 < h → h < 4 → (h ≡ 1 → ⊥) → (h ≡ 2 → ⊥) → h ≡ 3
last_how zero l m n o = absurd (omega arith)
last_how (suc zero) l m n o = absurd (n refl)
last_how (suc (suc zero)) l m n o = absurd (o refl)
last_how (suc (suc (suc h))) l m n o = omega arith

-- a pair and a product
pub both_parted : (t : List ℕ) (base p a : ℕ) {d x y : ℕ} → 0 < d → x ≡ cell_of t (base + p) 1 → x ≡ 4 → y ≡ cell_of t a 1 → eqb y 2 ≡ true
    → (cell_of t (base + p) 1 ≡ 4) × (cell_of t a 1 ≡ 2) × (0 < d)
both_parted t base p a {y = y} l e h f q = (sym e ∙ h, sym f ∙ eqb-true y 2 q, l)

pub no_place : {A : Type 0} (n : ℕ) → n < n → A
no_place n h = absurd (omega arith)

-- ---- an entry

entry_some : (t : List ℕ) (x : ℕ) → 0 < x → entry_view t x ≡ some (type_of t (x - 1))
entry_some t zero h = absurd (omega arith)
entry_some t (suc x) h = let e : x ≡ suc x - 1 = omega arith in ap (λ y. some (type_of t y)) e

positive : (n : ℕ) → (n ≡ 0 → ⊥) → 0 < n
positive zero h = absurd (h refl)
positive (suc n) h = omega arith

module _ (t : List ℕ) {b : Bool} (n x : ℕ) (h : 0 < x) (l : x < 256) where
  pub bind_free : b ≡ true → n ≡ 0 → MetEntry t b n x x × (x ≤ 65536)
  bind_free q z = (record { apart = λ e. absurd (omega arith); met = λ _. go }, omega arith)
    where
      go : meet b (entry_view t n) (entry_view t x) ≡ some (entry_view t x)
      go = (λ i. meet (q i) (entry_view t (z i)) (entry_some t x h i)) ∙ ap some (sym (entry_some t x h))

  pub bind_live : b ≡ true → (n ≡ 0 → ⊥) → MetEntry t b n x 65536 × (65536 ≤ 65536)
  bind_live q z = (record { apart = λ _. λ i. meet (q i) (entry_some t n (positive n z) i) (entry_some t x h i); met = λ e. absurd (omega arith) }, omega arith)

  pub use_free : b ≡ false → n ≡ 0 → MetEntry t b n x 65536 × (65536 ≤ 65536)
  use_free q z = (record { apart = λ _. λ i. meet (q i) (entry_view t (z i)) (entry_some t x h i); met = λ e. absurd (omega arith) }, omega arith)

  used : {s : Bool} → b ≡ false → (n ≡ 0 → ⊥) → s ≡ same_type (type_of t (n - 1)) (type_of t (x - 1)) → meet b (entry_view t n) (entry_view t x) ≡ (guard s >>= λ _. some none)
  used q z e = (λ i. meet (q i) (entry_some t n (positive n z) i) (entry_some t x h i)) ∙ ap (λ s. guard s >>= λ _. some none) (sym e)

  pub use_same : {s : Bool} → b ≡ false → (n ≡ 0 → ⊥) → s ≡ same_type (type_of t (n - 1)) (type_of t (x - 1)) → s ≡ true → MetEntry t b n x 0 × (0 ≤ 65536)
  use_same q z e y = (record { apart = λ e. absurd (omega arith); met = λ _. used q z e ∙ ap (λ s. guard s >>= λ _. some none) y }, omega arith)

  pub use_own : b ≡ false → (n ≡ 0 → ⊥) → n ≡ x → MetEntry t b n x 0 × (0 ≤ 65536)
  use_own q z e = use_same {s = same_type (type_of t (n - 1)) (type_of t (x - 1))} q z refl (ap (λ y. same_type (type_of t (y - 1)) (type_of t (x - 1))) e ∙ same_type_refl (type_of t (x - 1)))

  pub use_other : {s : Bool} → b ≡ false → (n ≡ 0 → ⊥) → s ≡ same_type (type_of t (n - 1)) (type_of t (x - 1)) → s ≡ false → MetEntry t b n x 65536 × (65536 ≤ 65536)
  use_other q z e y = (record { apart = λ _. used q z e ∙ ap (λ s. guard s >>= λ _. some none) y; met = λ e. absurd (omega arith) }, omega arith)

-- ---- the next entry

pub scan_start : (k : List ℕ) (at from : ℕ) → Skipped k at from from
scan_start k at from = record { onward = omega arith; empty = λ j h l. absurd (omega arith) }

pub scan_step : (k : List ℕ) (at from i : ℕ) {v : ℕ} → Skipped k at from i → v ≡ get_or k (at + i) 0 → v ≤ 0 → Skipped k at from (i + 1)
scan_step k at from i {v} s e z = record { onward = omega (arith, s.onward); empty = λ j h l. go j h (eq-or-lt_of_le l) }
  where
    go : (j : ℕ) → from ≤ j → (suc j ≡ i + 1) ⊎ (suc j < i + 1) → get_or k (at + j) 0 ≡ 0
    go j h (inl q) = let same : j ≡ i = omega arith in ap (λ n. get_or k (at + n) 0) same ∙ sym e ∙ omega arith
    go j h (inr q) = s.empty j h (omega arith)

-- four numbers that add up to nothing
pub four_none : (k : List ℕ) (at : ℕ) {w x y z : ℕ} → w ≡ get_or k at 0 → x ≡ get_or k (at + 1) 0 → y ≡ get_or k (at + 2) 0 → z ≡ get_or k (at + 3) 0 → eqb (w + x + (y + z)) 0 ≡ true
    → (j : ℕ) → j < 4 → get_or k (at + j) 0 ≡ 0
four_none k at {w} {x} {y} {z} a b c d e = go
  where
    none : w + x + (y + z) ≡ 0
    none = eqb-true (w + x + (y + z)) 0 e

    go : (j : ℕ) → j < 4 → get_or k (at + j) 0 ≡ 0
    go zero h = let same : at + 0 ≡ at = omega arith in ap (λ n. get_or k n 0) same ∙ sym a ∙ omega (arith, none)
    go (suc zero) h = sym b ∙ omega (arith, none)
    go (suc (suc zero)) h = sym c ∙ omega (arith, none)
    go (suc (suc (suc zero))) h = sym d ∙ omega (arith, none)
    go (suc (suc (suc (suc j)))) h = absurd (omega arith)

pub scan_four : (k : List ℕ) (at from i : ℕ) → Skipped k at from i → ((j : ℕ) → j < 4 → get_or k (at + i + j) 0 ≡ 0) → Skipped k at from (i + 4)
scan_four k at from i s f = record { onward = omega (arith, s.onward); empty = λ j h l. go j h l (le_or_lt i j) }
  where
    go : (j : ℕ) → from ≤ j → j < i + 4 → (i ≤ j) ⊎ (j < i) → get_or k (at + j) 0 ≡ 0
    go j h l (inr q) = s.empty j h q
    go j h l (inl q) = let same : at + j ≡ at + i + (j - i) = omega arith in ap (λ n. get_or k n 0) same ∙ f (j - i) (omega arith)

pub scan_found : (k : List ℕ) (at from i : ℕ) {v : ℕ} → Skipped k at from i → v ≡ get_or k (at + i) 0 → 0 < v → NextEntry k at from i
scan_found k at from i s e p = record { onward = s.onward; empty = s.empty; full = λ l. subst (λ n. 0 < n) e p }

pub scan_end : (k : List ℕ) (at from i : ℕ) → Skipped k at from i → 32 ≤ i → NextEntry k at from i
scan_end k at from i s p = record { onward = s.onward; empty = s.empty; full = λ l. absurd (omega arith) }

-- ---- all entries

module _ {A : Type 0} (d : A) where
  zip_none : (f : A → A → Option A) (s w : List A) (i : ℕ) → i < length s → f (get_or s i d) (get_or w i d) ≡ none → length w ≡ length s → zip_all f s w ≡ none
  zip_none f [] w i h e l = absurd (omega arith)
  zip_none f (x ∷ s) [] i h e l = absurd (omega arith)
  zip_none f (x ∷ s) (y ∷ w) zero h e l = ap (λ o. o >>= λ z. zip_all f s w >>= λ r. some (z ∷ r)) e
  zip_none f (x ∷ s) (y ∷ w) (suc i) h e l = ap (λ o. f x y >>= λ z. o >>= λ r. some (z ∷ r)) (zip_none f s w i (omega arith) e (omega arith)) ∙ go (f x y)
    where
      go : (o : Option A) → ◌≡◌ {A = Option (List A)} (o >>= λ z. none) none
      go none = refl
      go (some z) = refl

  zip_each : (f : A → A → Option A) (s w r : List A) → length w ≡ length s → length r ≡ length s → ((i : ℕ) → i < length s → f (get_or s i d) (get_or w i d) ≡ some (get_or r i d))
      → zip_all f s w ≡ some r
  zip_each f [] w [] h l e = refl
  zip_each f [] w (y ∷ r) h l e = absurd (omega arith)
  zip_each f (x ∷ s) [] r h l e = absurd (omega arith)
  zip_each f (x ∷ s) (y ∷ w) [] h l e = absurd (omega arith)
  zip_each f (x ∷ s) (y ∷ w) (z ∷ r) h l e =
      some_bind (λ z. zip_all f s w >>= λ r. some (z ∷ r)) (e zero (omega arith))
      ∙ some_bind (λ r. some (z ∷ r)) (zip_each f s w r (omega arith) (omega arith) (λ i g. e (suc i) (omega arith)))

-- the entries below i are met, the others are as they were
pub record Met (t k : List ℕ) (at : ℕ) (b : Bool) (first line : List ℕ) (i : ℕ) : Type 0 where
  pub long : length line ≡ length first
  pub done : (j : ℕ) → j < i → meet b (entry_view t (get_or first j 0)) (entry_view t (get_or k (at + j) 0)) ≡ some (entry_view t (get_or line j 0))
  pub rest : (j : ℕ) → i ≤ j → get_or line j 0 ≡ get_or first j 0

-- up to the next entry that is not 0
met_on : {t k : List ℕ} {at : ℕ} {b : Bool} {first line : List ℕ} {i n : ℕ} → Met t k at b first line i → NextEntry k at i n → Met t k at b first line n
met_on {t} {k} {at} {b} {first} {line} {i} {n} m s = record { long = m.long; done = λ j l. go j l (le_or_lt i j); rest = λ j h. m.rest j (omega (arith, s.onward)) }
  where
    go : (j : ℕ) → j < n → (i ≤ j) ⊎ (j < i) → meet b (entry_view t (get_or first j 0)) (entry_view t (get_or k (at + j) 0)) ≡ some (entry_view t (get_or line j 0))
    go j l (inr h) = m.done j h
    go j l (inl h) = ap (λ x. meet b (entry_view t (get_or first j 0)) (entry_view t x)) (s.empty j h l) ∙ ap (λ x. some (entry_view t x)) (sym (m.rest j h))

pub met_start : (t : List ℕ) {k : List ℕ} {at : ℕ} (b : Bool) (line : List ℕ) {n : ℕ} → NextEntry k at 0 n
    → Met t k at b line line n × (n < 32 → 0 < get_or k (at + n) 0)
met_start t b line s = (met_on (record { long = refl; done = λ j l. absurd (omega arith); rest = λ j h. refl }) s, s.full)

pub met_step : {t k : List ℕ} {at : ℕ} {b : Bool} {first line : List ℕ} {i n m u x r : ℕ} → Met t k at b first line i → i < length line → u ≡ get_or line i 0 → x ≡ get_or k (at + i) 0
    → MetEntry t b u x m × (m ≤ 65536) → (m ≡ 65536 → ⊥) → r ≡ m → NextEntry k at (i + 1) n
    → Met t k at b first (set line i r) n × (n < 32 → 0 < get_or k (at + n) 0)
met_step {t} {k} {at} {b} {first} {line} {i} {n} {m} {u} {x} {r} w h e f d ne c s = (
  met_on (record {
    long = length-set line i r ∙ w.long;
    done = λ j l. go j (eq-or-lt_of_le l);
    rest = λ j l. get_or-set_other line i j r 0 (λ z. absurd (omega arith)) ∙ w.rest j (omega arith);
  }) s,
  s.full,
)
  where
    small : (m : ℕ) → m ≤ 65536 → (m ≡ 65536 → ⊥) → m < 65536
    small m l q = pick (eq-or-lt_of_le l)
      where
        pick : (m ≡ 65536) ⊎ (m < 65536) → m < 65536
        pick (inl z) = absurd (q z)
        pick (inr z) = z

    go : (j : ℕ) → (suc j ≡ i + 1) ⊎ (suc j < i + 1) → meet b (entry_view t (get_or first j 0)) (entry_view t (get_or k (at + j) 0)) ≡ some (entry_view t (get_or (set line i r) j 0))
    go j (inl q) =
        let same : j ≡ i = omega arith in
        ap (λ j. meet b (entry_view t (get_or first j 0)) (entry_view t (get_or k (at + j) 0))) same
        ∙ ap₂ (λ p q. meet b (entry_view t p) (entry_view t q)) (sym (w.rest i (omega arith)) ∙ sym e) (sym f)
        ∙ d.0.met (small m d.1 ne)
        ∙ ap (λ v. some (entry_view t v)) (sym c ∙ sym (get_or-set_same line i r 0 h) ∙ ap (λ j. get_or (set line i r) j 0) (sym same))
    go j (inr q) = w.done j (omega arith) ∙ ap (λ v. some (entry_view t v)) (sym (get_or-set_other line i j r 0 (λ z. absurd (omega arith))))

-- ---- the types that have fitted, once all entries are met

fitted_view : (t : List ℕ) (e : Env) → e.fits ≡ true → env_view t e ≡ some (map (entry_view t) e.line)
fitted_view t e h = ap (λ b. view_if b (map (entry_view t) e.line)) h

failed_view : (t : List ℕ) (r : Env) → r.fits ≡ false → env_view t r ≡ none
failed_view t r e = ap (λ b. view_if b (map (entry_view t) r.line)) e

viewed : (t l : List ℕ) (i : ℕ) → get_or (map (entry_view t) l) i none ≡ entry_view t (get_or l i 0)
viewed t l i = get_or-map (entry_view t) l i 0

module _ (t k : List ℕ) (at : ℕ) (b : Bool) (e : Env) (wide : length e.line ≡ 32) (fits : e.fits ≡ true) (w : Slots Ty) (s : Entries t k at w) where
  opened : meeting b (env_view t e) (some w) ≡ meet_all b (map (entry_view t) e.line) w
  opened = some_bind (λ s. some w >>= λ w. meet_all b s w) (fitted_view t e fits)

  slots_long : length (map (entry_view t) e.line) ≡ 32
  slots_long = length-map e.line (entry_view t) ∙ wide

  pub met_apart : (r : Env) {line : List ℕ} {i m u x : ℕ} → Met t k at b e.line line i → i < 32 → u ≡ get_or line i 0 → x ≡ get_or k (at + i) 0 → MetEntry t b u x m × (m ≤ 65536) → m ≡ 65536
      → r.fits ≡ false → env_view t r ≡ meeting b (env_view t e) (some w)
  met_apart r {i = i} m h p q d z f =
      failed_view t r f
      ∙ sym (zip_none none (meet b) (map (entry_view t) e.line) w i (omega (arith, slots_long))
      (ap₂ (meet b) (viewed t e.line i ∙ ap (entry_view t) (sym (m.rest i (omega arith)) ∙ sym p)) (s.each i h ∙ ap (entry_view t) (sym q)) ∙ d.0.apart z)
      (s.long ∙ sym slots_long))
      ∙ sym opened

  pub met_all : (r : Env) {line : List ℕ} {i : ℕ} → Met t k at b e.line line i → 32 ≤ i → r.fits ≡ true → r.line ≡ line → env_view t r ≡ meeting b (env_view t e) (some w)
  met_all r {line} m h f l =
      fitted_view t r f
      ∙ ap (λ l. some (map (entry_view t) l)) l
      ∙ sym (zip_each none (meet b) (map (entry_view t) e.line) w (map (entry_view t) line) (s.long ∙ sym slots_long)
      (length-map line (entry_view t) ∙ m.long ∙ sym (length-map e.line (entry_view t)))
      (λ j q. ap₂ (meet b) (viewed t e.line j) (s.each j (omega (arith, slots_long))) ∙ m.done j (omega (arith, slots_long)) ∙ ap some (sym (viewed t line j))))
      ∙ sym opened

-- ---- a fit that is kept

pub met_stopped : (t : List ℕ) (b : Bool) (e : Env) (w : Slots Ty) → e.fits ≡ false → env_view t e ≡ meeting b (env_view t e) (some w)
met_stopped t b e w h = failed_view t e h ∙ sym (ap (λ x. meeting b x (some w)) (failed_view t e h))

meeting_fits : (b : Bool) (p : Pat) (a : Ty) (x : Option (Slots Ty)) → ((s : Slots Ty) → x ≡ some s → length s ≡ variables) → meeting b x (found p a) ≡ fit_all b p a x
meeting_fits b p a none h = refl
meeting_fits b p a (some s) h = sym (fitting_meets b p a s (h s refl))

view_long : (t : List ℕ) (e : Env) → length e.line ≡ 32 → (s : Slots Ty) → env_view t e ≡ some s → length s ≡ variables
view_long t e w = go e.fits
  where
    go : (b : Bool) (s : Slots Ty) → view_if b (map (entry_view t) e.line) ≡ some s → length s ≡ variables
    go true s q = ap length (sym (some_inj q)) ∙ length-map e.line (entry_view t) ∙ w
    go false s q = absurd (none≢some q)

module _ (t k : List ℕ) (base p a : ℕ) (b : Bool) (e : Env) (wide : length e.line ≡ 32) (known : Known t base k) {at h : ℕ} (place : Place k p a at) (q : h ≡ get_or k (at + 33) 0) where
  some_there : (n : ℕ) → h ≡ suc n → get_or k (at + 33) 0 ≡ 0 → ⊥
  some_there n y z = absurd (omega arith)

  kept_there : (n : ℕ) → h ≡ suc n → Kept t k at (found (pattern_of t base p) (type_of t a))
  kept_there n y =
      let s = place.slot in
      let here = place.begins in
      subst (λ v. Kept t k at v) (ap₂ (λ p a. found (pattern_of t base p) (type_of t a)) (place.line (some_there n y)) (place.own (some_there n y)))
      (subst (λ m. Kept t k m (found (pattern_of t base (line_at k m)) (type_of t (own_at k m)))) (sym here) (known.kept s (omega (arith, here, place.within))))

  told : {v : Option (Slots Ty)} → found (pattern_of t base p) (type_of t a) ≡ v → meeting b (env_view t e) v ≡ fit_all b (pattern_of t base p) (type_of t a) (env_view t e)
  told f = ap (meeting b (env_view t e)) (sym f) ∙ meeting_fits b (pattern_of t base p) (type_of t a) (env_view t e) (view_long t e wide)

  pub known_closed : h ≡ 1 → env_view t e ≡ fit_all b (pattern_of t base p) (type_of t a) (env_view t e)
  known_closed y = go (env_view t e) (view_long t e wide) ∙ told ((kept_there 0 y).closed (sym q ∙ y))
    where
      go : (x : Option (Slots Ty)) → ((s : Slots Ty) → x ≡ some s → length s ≡ variables) → x ≡ meeting b x (some (replicate variables none))
      go none l = refl
      go (some s) l = sym (meet_fresh b s variables (l s refl))

  pub known_types : (r : Env) → h ≡ 2 → ((w : Slots Ty) → Entries t k at w → env_view t r ≡ meeting b (env_view t e) (some w)) → env_view t r
      ≡ fit_all b (pattern_of t base p) (type_of t a) (env_view t e)
  known_types r y f = let o = (kept_there 1 y).types (sym q ∙ y) in f o.0 o.2 ∙ told o.1

  pub known_fails : (r : Env) → h ≡ 3 → r.fits ≡ false → env_view t r ≡ fit_all b (pattern_of t base p) (type_of t a) (env_view t e)
  known_fails r y f = failed_view t r f ∙ go (env_view t e) ∙ told ((kept_there 2 y).fails (sym q ∙ y))
    where
      go : (x : Option (Slots Ty)) → none ≡ meeting b x none
      go none = refl
      go (some s) = refl

-- ---- entries stored

pub record Entering (k₀ k : List ℕ) (at : ℕ) (line : List ℕ) (i : ℕ) : Type 0 where
  pub long : length k ≡ length k₀
  pub before : (m : ℕ) → m < at → get_or k m 0 ≡ get_or k₀ m 0
  pub after : (m : ℕ) → at + i ≤ m → get_or k m 0 ≡ get_or k₀ m 0
  pub entries : (j : ℕ) → j < i → get_or line j 0 < 256 → get_or k (at + j) 0 ≡ get_or line j 0

pub enter_start : (k : List ℕ) (at : ℕ) (line : List ℕ) → Entering k k at line 0
enter_start k at line = record { long = refl; before = λ m l. refl; after = λ m l. refl; entries = λ j l s. absurd (omega arith) }

pub enter_step : {k₀ k : List ℕ} {at : ℕ} {line : List ℕ} {i x r : ℕ} → Entering k₀ k at line i → at + i < length k → x ≡ get_or line i 0 → (x < 256 → r ≡ x)
    → Entering k₀ (set k (at + i) r) at line (i + 1)
enter_step {k₀} {k} {at} {line} {i} {x} {r} w h e f = record {
  long = length-set k (at + i) r ∙ w.long;
  before = λ m l. get_or-set_other k (at + i) m r 0 (λ z. absurd (omega arith)) ∙ w.before m l;
  after = λ m l. get_or-set_other k (at + i) m r 0 (λ z. absurd (omega arith)) ∙ w.after m (omega arith);
  entries = λ j l s. go j (eq-or-lt_of_le l) s;
}
  where
    go : (j : ℕ) → (suc j ≡ i + 1) ⊎ (suc j < i + 1) → get_or line j 0 < 256 → get_or (set k (at + i) r) (at + j) 0 ≡ get_or line j 0
    go j (inl q) s =
        let same : j ≡ i = omega arith in
        let own : get_or line j 0 ≡ x = ap (λ j. get_or line j 0) same ∙ sym e in
        ap (λ j. get_or (set k (at + i) r) (at + j) 0) same ∙ get_or-set_same k (at + i) r 0 h ∙ f (subst (λ n. n < 256) own s) ∙ sym own
    go j (inr q) s = get_or-set_other k (at + i) (at + j) r 0 (λ z. absurd (omega arith)) ∙ w.entries j (omega arith) s

pub enter_all : {k₀ k : List ℕ} {at : ℕ} {line : List ℕ} {i : ℕ} → Entering k₀ k at line i → 32 ≤ i → i ≤ 32 → Entered k k₀ at line
enter_all w h l = record { long = w.long; before = w.before; after = λ m q. w.after m (omega arith); entries = λ j q s. w.entries j (omega arith) s }

-- the four bytes behind them
pub stored_all : {k k₀ : List ℕ} {at : ℕ} {line : List ℕ} {p a h b₁ b₂ b₃ b₄ x y : ℕ} → Entered k k₀ at line → at + 35 < length k₀ → p < 65536 → a < 256 → h < 256
    → (a < 256 → b₁ ≡ a) → (h < 256 → b₂ ≡ h) → x ≡ p % 256 → (x < 256 → b₃ ≡ x) → y ≡ p / 256 → (y < 256 → b₄ ≡ y)
    → Stored (set (set (set (set k (at + 32) b₁) (at + 33) b₂) (at + 34) b₃) (at + 35) b₄) k₀ at line p a h
stored_all {k} {k₀} {at} {line} {p} {a} {h} {b₁} {b₂} {b₃} {b₄} {x} {y} w l sp sa sh e₁ e₂ x' e₃ y' e₄ = record {
  long = long₄ ∙ w.long;
  before = λ m q. other m (λ z. absurd (omega arith)) (λ z. absurd (omega arith)) (λ z. absurd (omega arith)) (λ z. absurd (omega arith)) ∙ w.before m q;
  after = λ m q. other m (λ z. absurd (omega arith)) (λ z. absurd (omega arith)) (λ z. absurd (omega arith)) (λ z. absurd (omega arith)) ∙ w.after m (omega arith);
  entries = λ i q s. other (at + i) (λ z. absurd (omega arith)) (λ z. absurd (omega arith)) (λ z. absurd (omega arith)) (λ z. absurd (omega arith)) ∙ w.entries i q s;
  own =
      get_or-set_other k₃ (at + 35) (at + 32) b₄ 0 (λ z. absurd (omega arith))
      ∙ get_or-set_other k₂ (at + 34) (at + 32) b₃ 0 (λ z. absurd (omega arith))
      ∙ get_or-set_other k₁ (at + 33) (at + 32) b₂ 0 (λ z. absurd (omega arith))
      ∙ get_or-set_same k (at + 32) b₁ 0 (omega (arith, w.long))
      ∙ e₁ sa;
  how =
      get_or-set_other k₃ (at + 35) (at + 33) b₄ 0 (λ z. absurd (omega arith))
      ∙ get_or-set_other k₂ (at + 34) (at + 33) b₃ 0 (λ z. absurd (omega arith))
      ∙ get_or-set_same k₁ (at + 33) b₂ 0 (omega (arith, w.long, long₁))
      ∙ e₂ sh;
  row =
      ap₂ (λ m n. m + n * 256)
      (get_or-set_other k₃ (at + 35) (at + 34) b₄ 0 (λ z. absurd (omega arith)) ∙ get_or-set_same k₂ (at + 34) b₃ 0 (omega (arith, w.long, long₂)) ∙ e₃ (omega arith))
      (get_or-set_same k₃ (at + 35) b₄ 0 (omega (arith, w.long, long₃)) ∙ e₄ (omega arith))
      ∙ omega arith;
}
  where
    k₁ : List ℕ
    k₁ = set k (at + 32) b₁

    k₂ : List ℕ
    k₂ = set k₁ (at + 33) b₂

    k₃ : List ℕ
    k₃ = set k₂ (at + 34) b₃

    long₁ : length k₁ ≡ length k
    long₁ = length-set k (at + 32) b₁

    long₂ : length k₂ ≡ length k
    long₂ = length-set k₁ (at + 33) b₂ ∙ long₁

    long₃ : length k₃ ≡ length k
    long₃ = length-set k₂ (at + 34) b₃ ∙ long₂

    long₄ : length (set k₃ (at + 35) b₄) ≡ length k
    long₄ = length-set k₃ (at + 35) b₄ ∙ long₃

    other : (m : ℕ) → (m ≡ at + 32 → ⊥) → (m ≡ at + 33 → ⊥) → (m ≡ at + 34 → ⊥) → (m ≡ at + 35 → ⊥) → get_or (set k₃ (at + 35) b₄) m 0 ≡ get_or k m 0
    other m n₁ n₂ n₃ n₄ = get_or-set_other k₃ (at + 35) m b₄ 0 n₄ ∙ get_or-set_other k₂ (at + 34) m b₃ 0 n₃ ∙ get_or-set_other k₁ (at + 33) m b₂ 0 n₂ ∙ get_or-set_other k (at + 32) m b₁ 0 n₁

-- there is room for them
module _ {k k₀ : List ℕ} {at : ℕ} {line : List ℕ} (w : Entered k k₀ at line) (l : at + 35 < length k₀) (b₁ b₂ b₃ : ℕ) where
  pub room_how : at + 33 < length (set k (at + 32) b₁)
  room_how = omega (arith, w.long, length-set k (at + 32) b₁)

  pub room_low : at + 34 < length (set (set k (at + 32) b₁) (at + 33) b₂)
  room_low = omega (arith, w.long, length-set k (at + 32) b₁, length-set (set k (at + 32) b₁) (at + 33) b₂)

  pub room_high : at + 35 < length (set (set (set k (at + 32) b₁) (at + 33) b₂) (at + 34) b₃)
  room_high = omega (arith, w.long, length-set k (at + 32) b₁, length-set (set k (at + 32) b₁) (at + 33) b₂, length-set (set (set k (at + 32) b₁) (at + 33) b₂) (at + 34) b₃)

-- ---- how a fit went

pub below_next : (line : List ℕ) {most i x r : ℕ} → ((j : ℕ) → j < i → get_or line j 0 ≤ most) → x ≡ get_or line i 0 → (most ≤ r) × (x ≤ r) → (j : ℕ) → j < i + 1 → get_or line j 0 ≤ r
below_next line {most} {i} {x} {r} w e h j l = go (eq-or-lt_of_le l)
  where
    go : (suc j ≡ i + 1) ⊎ (suc j < i + 1) → get_or line j 0 ≤ r
    go (inl q) = let same : j ≡ i = omega arith in subst (λ n. n ≤ r) (e ∙ ap (λ j. get_or line j 0) (sym same)) h.1
    go (inr q) = let low = w j (omega arith) in omega (arith, h.0)

pub went_closed : (e : Env) {m : ℕ} → e.fits ≡ true → ((i : ℕ) → i < 32 → get_or e.line i 0 ≤ m) → m ≡ 0 → Went e 1
went_closed e f h z = record { some = λ q. absurd (omega arith); closed = λ _. (f, λ i l. let low = h i l in omega arith); types = λ q. absurd (omega arith); fails = λ q. absurd (omega arith) }

pub went_types : (e : Env) {m : ℕ} → e.fits ≡ true → ((i : ℕ) → i < 32 → get_or e.line i 0 ≤ m) → m < 256 → Went e 2
went_types e f h z = record { some = λ q. absurd (omega arith); closed = λ q. absurd (omega arith); types = λ _. (f, λ i l. let low = h i l in omega arith); fails = λ q. absurd (omega arith) }

pub went_no_room : (e : Env) → Went e 4
went_no_room e = record { some = λ q. absurd (omega arith); closed = λ q. absurd (omega arith); types = λ q. absurd (omega arith); fails = λ q. absurd (omega arith) }

pub went_fails : (e : Env) → e.fits ≡ false → Went e 3
went_fails e f = record { some = λ q. absurd (omega arith); closed = λ q. absurd (omega arith); types = λ q. absurd (omega arith); fails = λ _. f }

-- ---- what is kept stays right

kept_same : (t : List ℕ) (base : ℕ) (k k' : List ℕ) (at : ℕ) → ((i : ℕ) → i < 36 → get_or k' (at + i) 0 ≡ get_or k (at + i) 0)
    → Kept t k at (found (pattern_of t base (line_at k at)) (type_of t (own_at k at))) → Kept t k' at (found (pattern_of t base (line_at k' at)) (type_of t (own_at k' at)))
kept_same t base k k' at same w =
    subst (Kept t k' at) (sym (ap₂ (λ p a. found (pattern_of t base p) (type_of t a)) (ap₂ (λ m n. m + n * 256) (same 34 (omega arith)) (same 35 (omega arith))) (same 32 (omega arith))))
    (record {
      closed = λ q. w.closed (sym (same 33 (omega arith)) ∙ q);
      types = λ q. let o = w.types (sym (same 33 (omega arith)) ∙ q) in
          (o.0, o.1, record { long = o.2.long; each = λ i l. o.2.each i l ∙ ap (entry_view t) (sym (same i (omega arith))) });
      fails = λ q. w.fails (sym (same 33 (omega arith)) ∙ q);
    })

fresh_view : (t : List ℕ) (n : ℕ) → map (entry_view t) (replicate n 0) ≡ replicate n none
fresh_view t zero = refl
fresh_view t (suc n) = ap (λ r. none ∷ r) (fresh_view t n)

-- a fit with none live is what is kept of it
found_is : (t : List ℕ) (p : Pat) (a : Ty) (e f : Env) → f ≡ fresh_env → env_view t e ≡ fit_all true p a (env_view t f) → found p a ≡ env_view t e
unfolding fresh_env
found_is t p a e f z q = sym (q ∙ ap (λ d. fit_all true p a (env_view t d)) z ∙ ap (λ s. fit_all true p a (some s)) (fresh_view t variables))

empty_view : (t line : List ℕ) → length line ≡ 32 → ((i : ℕ) → i < 32 → get_or line i 0 ≡ 0) → map (entry_view t) line ≡ replicate variables none
empty_view t line w h =
    ext_get_or none (map (entry_view t) line) (replicate variables none) (long ∙ sym (length-replicate {A = Option Ty} variables none))
    (λ i l. viewed t line i ∙ ap (entry_view t) (h i (omega (arith, long))) ∙ sym (get_or-replicate {A = Option Ty} variables i none none (omega (arith, long))))
  where
    long : length (map (entry_view t) line) ≡ 32
    long = length-map line (entry_view t) ∙ w

module _ (t k k' : List ℕ) (base p a at : ℕ) (e f : Env) {h : ℕ} (wide : length e.line ≡ 32) (known : Known t base k) (place : Slot k at) (s : Stored k' k at e.line p a h) (w : Went e h)
    (z : f ≡ fresh_env) (q : env_view t e ≡ fit_all true (pattern_of t base p) (type_of t a) (env_view t f)) where
  fit_found : found (pattern_of t base p) (type_of t a) ≡ env_view t e
  fit_found = found_is t (pattern_of t base p) (type_of t a) e f z q

  kept_new : Kept t k' at (found (pattern_of t base p) (type_of t a))
  kept_new = record {
    closed = λ y. let o = w.closed (sym s.how ∙ y) in fit_found ∙ fitted_view t e o.0 ∙ ap some (empty_view t e.line wide o.1);
    types = λ y. let o = w.types (sym s.how ∙ y) in (
      map (entry_view t) e.line,
      fit_found ∙ fitted_view t e o.0,
      record {
        long = length-map e.line (entry_view t) ∙ wide;
        each = λ i l. viewed t e.line i ∙ ap (entry_view t) (sym (s.entries i l (o.1 i l)));
      },
    );
    fails = λ y. fit_found ∙ failed_view t e (w.fails (sym s.how ∙ y));
  }

  pub known_stored : (length k' ≡ length k) × Known t base k'
  known_stored = (s.long, record { kept = λ m l. go m l (le_or_lt m place.slot) })
    where
      at_slot : Kept t k' (place.slot * 36) (found (pattern_of t base (line_at k' (place.slot * 36))) (type_of t (own_at k' (place.slot * 36))))
      at_slot =
          subst (λ m. Kept t k' m (found (pattern_of t base (line_at k' m)) (type_of t (own_at k' m)))) place.begins
          (subst (Kept t k' at) (sym (ap₂ (λ p a. found (pattern_of t base p) (type_of t a)) s.row s.own)) kept_new)

      below : (m : ℕ) → m * 36 + 35 < length k' → (m ≡ place.slot) ⊎ (m < place.slot) → Kept t k' (m * 36) (found (pattern_of t base (line_at k' (m * 36))) (type_of t (own_at k' (m * 36))))
      below m l (inl y) = subst (λ m. Kept t k' (m * 36) (found (pattern_of t base (line_at k' (m * 36))) (type_of t (own_at k' (m * 36))))) (sym y) at_slot
      below m l (inr y) =
          kept_same t base k k' (m * 36) (λ i v. s.before (m * 36 + i) (let b = place.begins in omega arith)) (known.kept m (omega (arith, s.long)))

      go : (m : ℕ) → m * 36 + 35 < length k' → (m ≤ place.slot) ⊎ (place.slot < m) → Kept t k' (m * 36) (found (pattern_of t base (line_at k' (m * 36))) (type_of t (own_at k' (m * 36))))
      go m l (inl y) = below m l (eq-or-lt_of_le y)
      go m l (inr y) =
          kept_same t base k k' (m * 36) (λ i v. s.after (m * 36 + i) (let b = place.begins in omega arith)) (known.kept m (omega (arith, s.long)))

-- nothing is kept at first
pub known_none : (t : List ℕ) (base n : ℕ) → Known t base (replicate n 0)
known_none t base n = record {
  kept = λ s l. record {
    closed = λ q. absurd (not_zero (zeros (s * 36 + 33)) q);
    types = λ q. absurd (not_zero (zeros (s * 36 + 33)) q);
    fails = λ q. absurd (not_zero (zeros (s * 36 + 33)) q);
  };
}
  where
    zeros : (i : ℕ) → ◌≡◌ {A = ℕ} (get_or (replicate n 0) i 0) 0
    zeros i = go n i
      where
        go : (n i : ℕ) → ◌≡◌ {A = ℕ} (get_or (replicate n 0) i 0) 0
        go zero i = refl
        go (suc n) zero = refl
        go (suc n) (suc i) = go n i

    not_zero : {x m : ℕ} → x ≡ 0 → x ≡ suc m → ⊥
    not_zero e f = omega arith
