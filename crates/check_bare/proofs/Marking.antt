-- The marks of a line from those of the lines that it names, and the loops that find them.
use Prim.Native.Nat.{ℕ, zero, suc, ◌+◌, ◌-◌, ◌%◌, ◌≤◌, ◌<◌}
use native.Mathlib.Nat.{eq-or-lt_of_le, mod-eq_of_lt}
use native.Mathlib.Omega.{arith}
use mathlib.Core.Path.{◌≡◌, refl, sym, ap, ap₂, ◌∙◌, subst}
use mathlib.Core.Bool.{Bool, true, false, cond, true≢false}
use mathlib.Core.Logic.{◌⊎◌, inl, inr}
use mathlib.Core.List.{List}
use lib.Dec.{eqb, ltb}
use lib.ListN.{length, get_or, set, length-set}
use lib.Seq.{get_or-set_same, get_or-set_other}
use borrow.Author.Tests.{ltb-true, lt-ltb, le-ltb, eqb-true}
use Rattle.limits.specs.Limits.{max_lines}
use Rattle.calculus.specs.Trees.{Ty, tunit, tprod, Pat, pleaf, unit_leaf, pnode, pair_node}
use Rattle.table_trees.specs.Unfolding.{cell_of, smaller_of, type_of, pattern_of}
use Rattle.table_trees.proofs.Unfolding.{type_unit, pattern_unit}
use Rattle.table_trees.proofs.Lines.{line_product, is_pair}
use Rattle.check_bare.specs.Bare.{Bare, unit, pair, Stands, Suits, Types, Patterns, Bares, Multiplies}

zero_not : {x c : ℕ} → x ≡ 0 → x ≡ suc c → ⊥
zero_not e f = omega arith

-- ---- the mark of a named line

pub told_smaller : {a i x v : ℕ} → a < i → v ≡ x → v ≡ cond (ltb a i) x 0
told_smaller {a} {i} {x} h e = e ∙ sym (ap (λ b. cond b x 0) (lt-ltb a i h))

pub told_not : {a i : ℕ} (x : ℕ) → i ≤ a → 0 ≡ cond (ltb a i) x 0
told_not {a} {i} x h = sym (ap (λ b. cond b x 0) (le-ltb a i h))

named_type : (t g : List ℕ) (i : ℕ) {v : ℕ} (a : ℕ) → Types t g i → v ≡ cond (ltb a i) (get_or g (0 + a) 0) 0 → Stands t v (type_of t (smaller_of a i))
named_type t g i {v} a w e c f = go (ltb a i) refl e
  where
    go : (b : Bool) → ltb a i ≡ b → v ≡ cond b (get_or g (0 + a) 0) 0 → type_of t c ≡ type_of t (cond b a max_lines)
    go true q d = w.types a (ltb-true a i q) c (ap (λ n. get_or g n 0) (omega arith) ∙ sym d ∙ f)
    go false q d = absurd (zero_not d f)

named_pattern : (t : List ℕ) (base : ℕ) (g : List ℕ) (j : ℕ) {v : ℕ} (a : ℕ) → Patterns t base g j → v ≡ cond (ltb a j) (get_or g (base + a) 0) 0
    → Suits t v (pattern_of t base (smaller_of a j))
named_pattern t base g j {v} a w e c f = go (ltb a j) refl e
  where
    go : (b : Bool) → ltb a j ≡ b → v ≡ cond b (get_or g (base + a) 0) 0 → Bare (pattern_of t base (cond b a max_lines)) (type_of t c)
    go true q d = w.patterns a (ltb-true a j q) c (sym d ∙ f)
    go false q d = absurd (zero_not d f)

-- ---- T lines

module _ (t g : List ℕ) (i : ℕ) {k a b m n : ℕ} (w : Types t g i) (e : k ≡ cell_of t i 1) (z : k ≡ 2) (p : a ≡ cell_of t i 2) (q : m ≡ cond (ltb a i) (get_or g (0 + a) 0) 0)
    (u : b ≡ cell_of t i 3) (v : n ≡ cond (ltb b i) (get_or g (0 + b) 0) 0) where
  pub product_of : Multiplies t (type_of t i) m n
  product_of c d f h =
      line_product t i e (ap (λ x. smaller_of x i) p) (ap (λ x. smaller_of x i) u) z
      ∙ ap₂ tprod (sym (named_type t g i a w q c f)) (sym (named_type t g i b w v d h))

pub product_test : (t : List ℕ) (a : Ty) {m n x y : ℕ} → Multiplies t a m n → m ≡ x → (eqb n y ≡ true → Multiplies t a x y)
product_test t a {n = n} {y = y} h e f c d p q = h c d (e ∙ p) (eqb-true n y f ∙ q)

pub never : {A : Type 0} → false ≡ true → A
never e = absurd (true≢false (sym e))

-- a line with an equal tree is of that type too
pub stands_at : (t g : List ℕ) {n i v : ℕ} {a : Ty} → Types t g n → i < n → type_of t i ≡ a → v ≡ get_or g i 0 → Stands t v a
stands_at t g {i = i} w l h e c f = w.types i l c (sym e ∙ f) ∙ h

pub multiplies_at : (t g : List ℕ) {n i v x y : ℕ} → Types t g n → i < n → Multiplies t (type_of t i) x y → v ≡ get_or g i 0
    → (c : ℕ) → v ≡ suc c → Multiplies t (type_of t c) x y
multiplies_at t g {i = i} w l h e c f d k p q = w.types i l c (sym e ∙ f) ∙ h d k p q

pub stands_none : (t : List ℕ) (a : Ty) → Stands t 0 a
stands_none t a c e = absurd (omega arith)

pub unit_is : (t : List ℕ) (i : ℕ) {k : ℕ} → k ≡ cell_of t i 1 → k ≡ 0 → type_of t i ≡ tunit
unit_is t i e z = type_unit t i (sym e ∙ z)

pub own_stands : (t : List ℕ) (i : ℕ) {r m : ℕ} → Stands t r (type_of t i) → m ≡ cond (ltb 0 r) r (suc i) → Stands t m (type_of t i)
own_stands t i {r} {m} h e c f = go (ltb 0 r) e
  where
    go : (b : Bool) → m ≡ cond b r (suc i) → type_of t c ≡ type_of t i
    go true d = h c (sym d ∙ f)
    go false d = let same : c ≡ i = omega arith in ap (type_of t) same

positive : (x : ℕ) → 0 < x → (c : ℕ) × (x ≡ suc c)
positive zero h = absurd (omega arith)
positive (suc c) h = (c, refl)

pub product_stands : (t : List ℕ) {a : Ty} {r x y : ℕ} → Multiplies t a x y → 0 < x → 0 < y → ((c : ℕ) → r ≡ suc c → Multiplies t (type_of t c) x y) → Stands t r a
product_stands t {x = x} {y = y} h l k w c f =
    let m = positive x l in
    let n = positive y k in
    w c f m.0 n.0 m.1 n.1 ∙ sym (h m.0 n.0 m.1 n.1)

pub unit_stands : (t : List ℕ) (i : ℕ) {k r : ℕ} → k ≡ cell_of t i 1 → k ≡ 0 → Stands t r tunit → Stands t r (type_of t i)
unit_stands t i e z h c f = h c f ∙ sym (unit_is t i e z)

pub types_less : (t g : List ℕ) {n m : ℕ} → m ≤ n → Types t g n → Types t g m
types_less t g h w = record { types = λ i l. w.types i (omega arith) }

pub multiplies_none : (t : List ℕ) (x y c : ℕ) → 0 ≡ suc c → Multiplies t (type_of t c) x y
multiplies_none t x y c e = absurd (omega arith)

pub own_kept : (r i : ℕ) → 0 < r → r ≡ cond (ltb 0 r) r (suc i)
own_kept r i h = sym (ap (λ b. cond b r (suc i)) (lt-ltb 0 r h))

pub own_new : (r i : ℕ) → r ≤ 0 → i + 1 ≡ cond (ltb 0 r) r (suc i)
own_new r i h = let next : i + 1 ≡ suc i = omega arith in next ∙ sym (ap (λ b. cond b r (suc i)) (le-ltb 0 r h))

-- ---- P lines

pub suits_none : (t : List ℕ) (p : Pat) → Suits t 0 p
suits_none t p c e = absurd (omega arith)

pub suits_unit : (t : List ℕ) (base j : ℕ) {k r : ℕ} → k ≡ cell_of t (base + j) 1 → k ≡ 0 → Stands t r tunit → Suits t r (pattern_of t base j)
suits_unit t base j e z h c f =
    subst (λ p. Bare p (type_of t c)) (sym (pattern_unit t base j (sym e ∙ z))) (subst (Bare (pleaf unit_leaf)) (sym (h c f)) unit)

pub suits_pair : (t : List ℕ) (base : ℕ) (g : List ℕ) (j : ℕ) {k a b x y r : ℕ} → Patterns t base g j → k ≡ cell_of t (base + j) 1 → k ≡ 4
    → a ≡ cell_of t (base + j) 2 → x ≡ cond (ltb a j) (get_or g (base + a) 0) 0 → b ≡ cell_of t (base + j) 3 → y ≡ cond (ltb b j) (get_or g (base + b) 0) 0
    → 0 < x → 0 < y → ((c : ℕ) → r ≡ suc c → Multiplies t (type_of t c) x y) → Suits t r (pattern_of t base j)
suits_pair t base g j {a = a} {b = b} {x = o₁} {y = o₂} w e z p q u v l m h c f =
    let x = positive o₁ l in
    let y = positive o₂ m in
    subst (λ o. Bare o (type_of t c)) (sym (is_pair t base j e z (ap (λ n. smaller_of n j) p) (ap (λ n. smaller_of n j) u)))
    (subst (Bare (pnode pair_node (pattern_of t base (smaller_of a j)) (pattern_of t base (smaller_of b j)))) (sym (h c f x.0 y.0 x.1 y.1))
    (pair (named_pattern t base g j a w q x.0 x.1) (named_pattern t base g j b w v y.0 y.1)))

-- ---- the loops

pub types_step : (t g : List ℕ) (i : ℕ) {v r : ℕ} → Types t g i → i < length g → Stands t v (type_of t i) → v < 65536 → r ≡ v % 65536 → Types t (set g i r) (i + 1)
types_step t g i {v} {r} w l e s b = record { types = λ j h. at j (eq-or-lt_of_le h) }
  where
    at : (j : ℕ) → (suc j ≡ i + 1) ⊎ (suc j < i + 1) → Stands t (get_or (set g i r) j 0) (type_of t j)
    at j (inl q) c f =
        let same : j ≡ i = omega arith in
        e c (sym (b ∙ mod-eq_of_lt s) ∙ sym (get_or-set_same g i r 0 l) ∙ ap (λ n. get_or (set g i r) n 0) (sym same) ∙ f) ∙ ap (type_of t) (sym same)
    at j (inr q) c f = w.types j (omega arith) c (sym (get_or-set_other g i j r 0 (λ z. absurd (omega arith))) ∙ f)

types_kept : (t g : List ℕ) (base j r : ℕ) → Types t g base → Types t (set g (base + j) r) base
types_kept t g base j r w = record { types = λ i h c f. w.types i h c (sym (get_or-set_other g (base + j) i r 0 (λ z. absurd (omega arith))) ∙ f) }

patterns_step : (t : List ℕ) (base : ℕ) (g : List ℕ) (i : ℕ) {v r : ℕ} → Patterns t base g i → base + i < length g → Suits t v (pattern_of t base i) → v < 65536
    → r ≡ v % 65536 → Patterns t base (set g (base + i) r) (i + 1)
patterns_step t base g i {v} {r} w l e s b = record { patterns = λ j h. at j (eq-or-lt_of_le h) }
  where
    at : (j : ℕ) → (suc j ≡ i + 1) ⊎ (suc j < i + 1) → Suits t (get_or (set g (base + i) r) (base + j) 0) (pattern_of t base j)
    at j (inl q) c f =
        let same : j ≡ i = omega arith in
        subst (λ n. Bare (pattern_of t base n) (type_of t c)) (sym same)
        (e c (sym (b ∙ mod-eq_of_lt s) ∙ sym (get_or-set_same g (base + i) r 0 l) ∙ ap (λ n. get_or (set g (base + i) r) (base + n) 0) (sym same) ∙ f))
    at j (inr q) c f = w.patterns j (omega arith) c (sym (get_or-set_other g (base + i) (base + j) r 0 (λ z. absurd (omega arith))) ∙ f)

-- what the loops know
pub record Typing (t g₀ g : List ℕ) (n i : ℕ) : Type 0 where
  pub long : length g ≡ length g₀
  pub within : n ≤ length g
  pub found : Types t g i

pub record Patterning (t g₀ g : List ℕ) (base n j : ℕ) : Type 0 where
  pub long : length g ≡ length g₀
  pub within : base + n ≤ length g
  pub kept : Types t g base
  pub found : Patterns t base g j

pub types_start : (t g : List ℕ) → Types t g 0
types_start t g = record { types = λ i h. absurd (omega arith) }

pub patterns_start : (t : List ℕ) (base : ℕ) (g : List ℕ) → Patterns t base g 0
patterns_start t base g = record { patterns = λ i h. absurd (omega arith) }

pub typing_step : (t g₀ g : List ℕ) (n i : ℕ) {v r : ℕ} → Typing t g₀ g n i → i < n → Stands t v (type_of t i) → v < 65536 → r ≡ v % 65536
    → Typing t g₀ (set g i r) n (i + 1)
typing_step t g₀ g n i {v} {r} w l e s b = record {
  long = length-set g i r ∙ w.long;
  within = omega (arith, w.within, length-set g i r);
  found = types_step t g i w.found (omega (arith, w.within)) e s b;
}

pub patterning_step : (t g₀ g : List ℕ) (base n j : ℕ) {v r : ℕ} → Patterning t g₀ g base n j → j < n → Suits t v (pattern_of t base j) → v < 65536 → r ≡ v % 65536
    → Patterning t g₀ (set g (base + j) r) base n (j + 1)
patterning_step t g₀ g base n j {v} {r} w l e s b = record {
  long = length-set g (base + j) r ∙ w.long;
  within = omega (arith, w.within, length-set g (base + j) r);
  kept = types_kept t g base j r w.kept;
  found = patterns_step t base g j w.found (omega (arith, w.within)) e s b;
}

pub typing_all : {t g₀ g : List ℕ} {n i : ℕ} → Typing t g₀ g n i → n ≤ i → Types t g n
typing_all w h = record { types = λ i l. w.found.types i (omega arith) }

pub patterning_all : {t g₀ g : List ℕ} {base n j : ℕ} → Patterning t g₀ g base n j → n ≤ j → Patterns t base g n
patterning_all w h = record { patterns = λ i l. w.found.patterns i (omega arith) }

-- ---- hints

pub stored_long : (g : List ℕ) (i v : ℕ) {k : List ℕ} {n : ℕ} → k ≡ set g i v → length g ≡ n → length k ≡ n
stored_long g i v e h = ap length e ∙ length-set g i v ∙ h

-- ---- all marks

pub bares_all : {t g : List ℕ} {base n m : ℕ} → length g ≡ m → base ≤ m → n ≡ m - base → Types t g base → Patterns t base g n → Bares t base g
bares_all e h d w v = record { types = λ i l k. w.types i l; patterns = λ j l. v.patterns j (omega arith) }

pub bares_short : {t g : List ℕ} {base m : ℕ} → length g ≡ m → m < base → Types t g m → Bares t base g
bares_short e h w = record { types = λ i l k. w.types i (omega arith); patterns = λ j l. absurd (omega arith) }

-- the same mark: the P line has the T line's type
pub bare_by : (base p a : ℕ) (g : List ℕ) {m k : ℕ} → base ≤ length g → a < base → base + p < length g → m ≡ get_or g (base + p) 0 → 0 < m → k ≡ get_or g a 0 → eqb m k ≡ true
    → (t : List ℕ) → Bares t base g → Bare (pattern_of t base p) (type_of t a)
bare_by base p a g {m} {k} within l s e pos f test t w =
    let c = positive m pos in
    let same : m ≡ k = eqb-true m k test in
    subst (Bare (pattern_of t base p)) (w.types a l (omega arith) c.0 (sym f ∙ sym same ∙ c.1)) (w.patterns p s c.0 (sym e ∙ c.1))
