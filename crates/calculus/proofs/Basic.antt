-- Facts about options, tests and lists that every law uses.
use Prim.Native.Nat.{ℕ, zero, suc, ◌+◌, ◌<◌, ◌≤◌}
use native.Mathlib.Nat.{lt_irrefl, lt_of_lt_of_le, le_refl}
use native.Mathlib.Numerals.{add-one}
use native.Mathlib.Omega.{arith}
use mathlib.Core.Path.{◌≡◌, refl, sym, ap, ap₂, ◌∙◌, subst}
use mathlib.Core.Logic.{◌⊎◌, inl, inr, ⊎_elim}
use mathlib.Core.Bool.{Bool, true, false, not, cond, ◌&&◌, ◌||◌, true≢false, false≢true}
use mathlib.Core.Option.{Option, none, some, some-injective, none-ne-some}
use mathlib.Core.List.Memᴰ
use mathlib.Core.List.{List, [], ◌∷◌, ◌++◌, map, reverse, reverse_aux, reverse-cons, Memᴰ}
use lib.Dec.{T, leb, ltb, eqb, eqb→eq, eqb_refl, leb→le, le→leb, ltb→lt, lt→ltb, nleb→lt, nltb→le}
use lib.ListN.{get_elem?, length, get_or, drop, set, length-map}
use lib.Seq.{drop-cons, drop-set-lt, lt-length-set, get_or-set_same}
use Rattle.calculus.specs.Tools.{◌>>=◌, guard, is_some, all, select, or_else, first_of, stages}
use Rattle.calculus.specs.Trees.{Ty, tunit, tsum, tprod, Tag, left, right, same_tag, same_type, tlist, Leaf, unit_leaf, empty_leaf, Node, pair_node, element_node, same_leaf, same_node}
use Rattle.calculus.specs.Paper.{Distinct, nobody, another}
use Rattle.calculus.specs.Reduction.{Counted, going, ◌>>>◌}

-- ---- options

-- what gives something was given something
pub bind_some : {A B : Type 0} (x : Option A) (f : A → Option B) {b : B} → (x >>= f) ≡ some b → (a : A) × (x ≡ some a) × (f a ≡ some b)
bind_some none f {b} e = absurd (none-ne-some b e)
bind_some (some a) f e = (a, refl, e)

-- and is given by it
pub some_bind : {A B : Type 0} {x : Option A} {a : A} (f : A → Option B) → x ≡ some a → (x >>= f) ≡ f a
some_bind f e = ap (λ x. x >>= f) e

pub bind_assoc : {A B C : Type 0} (x : Option A) (f : A → Option B) (g : B → Option C) → ((x >>= f) >>= g) ≡ (x >>= λ a. f a >>= g)
bind_assoc none f g = refl
bind_assoc (some a) f g = refl

pub none≢some : {A : Type 0} {a : A} → ◌≡◌ {A = Option A} none (some a) → ⊥
none≢some {a} e = none-ne-some a e

pub some_inj : {A : Type 0} {a b : A} → ◌≡◌ {A = Option A} (some a) (some b) → a ≡ b
some_inj {a} {b} e = some-injective a b e

pub some_pair : {A B : Type 0} {a b : A} {x y : B} → a ≡ b → x ≡ y → ◌≡◌ {A = Option (A × B)} (some (a, x)) (some (b, y))
some_pair p q = λ i. some (p i, q i)

pub not_some : {A : Type 0} (x : Option A) → ((a : A) → x ≡ some a → ⊥) → x ≡ none
not_some none h = refl
not_some (some a) h = absurd (h a refl)

pub is_some_true : {A : Type 0} (x : Option A) → is_some x ≡ true → (a : A) × (x ≡ some a)
is_some_true none e = absurd (false≢true e)
is_some_true (some a) e = (a, refl)

pub or_else_cases : {A : Type 0} (x y : Option A) (a : A) → or_else x y ≡ some a → (x ≡ some a) ⊎ ((x ≡ none) × (y ≡ some a))
or_else_cases none y a e = inr (refl, e)
or_else_cases (some b) y a e = inl e

pub or_else_none : {A : Type 0} (x y : Option A) → or_else x y ≡ none → (x ≡ none) × (y ≡ none)
or_else_none none y e = (refl, e)
or_else_none (some b) y e = absurd (none≢some (sym e))

-- ---- what is given, and a number of applications

pub counted : {A : Type 0} {x y : Option A} {j k : ℕ} → x ≡ y → j ≡ k → ◌≡◌ {A = Counted A} (x, j) (y, k)
counted p q = λ i. (p i, q i)

-- what gives something was given something, and its number is the sum
pub then_some : {A B : Type 0} (x : Counted A) (f : A → Counted B) {b : B} {k : ℕ} → (x >>> f) ≡ (some b, k)
    → (a : A) × (m j : ℕ) × (x ≡ (some a, m)) × (f a ≡ (some b, j)) × (m + j ≡ k)
then_some {A} {B} x f {b} {k} e = go x.0 refl e
  where
    go : (y : Option A) → x.0 ≡ y → going y x.1 f ≡ (some b, k) → (a : A) × (m j : ℕ) × (x ≡ (some a, m)) × (f a ≡ (some b, j)) × (m + j ≡ k)
    go none h e = absurd (none≢some (ap (λ r. r.0) e))
    go (some a) h e = (a, x.1, (f a).1, counted h refl, counted (ap (λ r. r.0) e) refl, ap (λ r. r.1) e)

pub some_then : {A B : Type 0} {x : Counted A} {a : A} {m : ℕ} (f : A → Counted B) {y : Option B} {j : ℕ} → x ≡ (some a, m) → f a ≡ (y, j)
    → (x >>> f) ≡ (y, m + j)
some_then {m} f e h = ap (λ x. x >>> f) e ∙ ap (λ r. (r.0, m + r.1)) h

-- ---- tests

pub guard_true : (b : Bool) {u : Unit {0}} → guard b ≡ some u → b ≡ true
guard_true true e = refl
guard_true false e = absurd (none≢some e)

pub true_guard : {b : Bool} → b ≡ true → guard b ≡ some tt
true_guard e = ap guard e

pub bool_cases : (b : Bool) → (b ≡ true) ⊎ (b ≡ false)
bool_cases true = inl refl
bool_cases false = inr refl

pub not_both : {b : Bool} → b ≡ true → b ≡ false → ⊥
not_both p q = true≢false (sym p ∙ q)

pub is_false : (b : Bool) → (b ≡ true → ⊥) → b ≡ false
is_false true h = absurd (h refl)
is_false false h = refl

pub and_true : (a b : Bool) → (a && b) ≡ true → (a ≡ true) × (b ≡ true)
and_true true b e = (refl, e)
and_true false b e = absurd (false≢true e)

pub true_and : {a b : Bool} → a ≡ true → b ≡ true → (a && b) ≡ true
true_and p q = ap₂ ◌&&◌ p q

pub or_true : (a b : Bool) → (a || b) ≡ true → (a ≡ true) ⊎ (b ≡ true)
or_true true b e = inl refl
or_true false b e = inr e

pub true_or_left : {a : Bool} (b : Bool) → a ≡ true → (a || b) ≡ true
true_or_left b p = ap (λ a. a || b) p

pub true_or_right : (a : Bool) {b : Bool} → b ≡ true → (a || b) ≡ true
true_or_right true p = refl
true_or_right false p = p

pub neither : (a b : Bool) → (a || b) ≡ false → (a ≡ false) × (b ≡ false)
neither true b e = absurd (true≢false e)
neither false b e = (refl, e)

pub not_true : (b : Bool) → not b ≡ true → b ≡ false
not_true true e = absurd (false≢true e)
not_true false e = refl

pub T→true : (b : Bool) → T b → b ≡ true
T→true true t = refl
T→true false t = absurd t

pub true→T : {b : Bool} → b ≡ true → T b
true→T e = subst T (sym e) tt

pub eqb_eq : (m n : ℕ) → eqb m n ≡ true → m ≡ n
eqb_eq m n e = eqb→eq m n (true→T e)

pub eq_eqb : {m n : ℕ} → m ≡ n → eqb m n ≡ true
eq_eqb {m} e = ap (eqb m) (sym e) ∙ T→true (eqb m m) (eqb_refl m)

pub leb_le : (m n : ℕ) → leb m n ≡ true → m ≤ n
leb_le m n e = leb→le m n (true→T e)

pub le_leb : {m n : ℕ} → m ≤ n → leb m n ≡ true
le_leb {m} {n} h = T→true (leb m n) (le→leb m n h)

pub ltb_lt : (m n : ℕ) → ltb m n ≡ true → m < n
ltb_lt m n e = ltb→lt m n (true→T e)

pub lt_ltb : {m n : ℕ} → m < n → ltb m n ≡ true
lt_ltb {m} {n} h = T→true (ltb m n) (lt→ltb m n h)

pub leb_false : (m n : ℕ) → leb m n ≡ false → n < m
leb_false m n e = nleb→lt m n (subst (λ b. T (not b)) (sym e) tt)

pub ltb_false : (m n : ℕ) → ltb m n ≡ false → n ≤ m
ltb_false m n e = nltb→le m n (subst (λ b. T (not b)) (sym e) tt)

pub eqb_false : {m n : ℕ} → eqb m n ≡ false → m ≡ n → ⊥
eqb_false e h = not_both (eq_eqb h) e

pub not_eqb : {m n : ℕ} → (m ≡ n → ⊥) → eqb m n ≡ false
not_eqb {m} {n} h = is_false (eqb m n) (λ e. h (eqb_eq m n e))

pub not_leb : {m n : ℕ} → n < m → leb m n ≡ false
not_leb {m} {n} h = is_false (leb m n) (λ e. lt_irrefl n (lt_of_lt_of_le h (leb_le m n e)))

pub not_ltb : {m n : ℕ} → n ≤ m → ltb m n ≡ false
not_ltb {m} {n} h = is_false (ltb m n) (λ e. lt_irrefl m (lt_of_lt_of_le (ltb_lt m n e) h))

-- the first of several tests holds where none fails; x stands for the others
pub none_failing : {A : Type 0} (b : Bool) (a : A) (x : Option A) → cond b x (some a) ≡ none → (b ≡ true) × (x ≡ none)
none_failing true a x e = (refl, e)
none_failing false a x e = absurd (none≢some (sym e))

pub failing_none : {A : Type 0} {b : Bool} (a : A) {x : Option A} → b ≡ true → x ≡ none → cond b x (some a) ≡ none
failing_none a {x} p e = ap (λ b. cond b x (some a)) p ∙ e

-- ---- tags and types

pub same_tag_eq : (s t : Tag) → same_tag s t ≡ true → s ≡ t
same_tag_eq left left e = refl
same_tag_eq left right e = absurd (false≢true e)
same_tag_eq right left e = absurd (false≢true e)
same_tag_eq right right e = refl

pub same_tag_refl : (t : Tag) → same_tag t t ≡ true
same_tag_refl left = refl
same_tag_refl right = refl

pub eq_same_tag : {s t : Tag} → s ≡ t → same_tag s t ≡ true
eq_same_tag {s} e = ap (same_tag s) (sym e) ∙ same_tag_refl s

pub same_leaf_eq : (l k : Leaf) → same_leaf l k ≡ true → l ≡ k
same_leaf_eq unit_leaf unit_leaf e = refl
same_leaf_eq unit_leaf empty_leaf e = absurd (false≢true e)
same_leaf_eq empty_leaf unit_leaf e = absurd (false≢true e)
same_leaf_eq empty_leaf empty_leaf e = refl

pub same_leaf_refl : (l : Leaf) → same_leaf l l ≡ true
same_leaf_refl unit_leaf = refl
same_leaf_refl empty_leaf = refl

pub eq_same_leaf : {l k : Leaf} → l ≡ k → same_leaf l k ≡ true
eq_same_leaf {l} e = ap (same_leaf l) (sym e) ∙ same_leaf_refl l

pub same_node_eq : (l k : Node) → same_node l k ≡ true → l ≡ k
same_node_eq pair_node pair_node e = refl
same_node_eq pair_node element_node e = absurd (false≢true e)
same_node_eq element_node pair_node e = absurd (false≢true e)
same_node_eq element_node element_node e = refl

pub same_node_refl : (l : Node) → same_node l l ≡ true
same_node_refl pair_node = refl
same_node_refl element_node = refl

pub eq_same_node : {l k : Node} → l ≡ k → same_node l k ≡ true
eq_same_node {l} e = ap (same_node l) (sym e) ∙ same_node_refl l

pub same_type_eq : (a b : Ty) → same_type a b ≡ true → a ≡ b
same_type_eq tunit tunit e = refl
same_type_eq tunit (tlist c) e = absurd (false≢true e)
same_type_eq tunit (tsum c d) e = absurd (false≢true e)
same_type_eq tunit (tprod c d) e = absurd (false≢true e)
same_type_eq (tlist a) tunit e = absurd (false≢true e)
same_type_eq (tlist a) (tlist c) e = ap tlist (same_type_eq a c e)
same_type_eq (tlist a) (tsum c d) e = absurd (false≢true e)
same_type_eq (tlist a) (tprod c d) e = absurd (false≢true e)
same_type_eq (tsum a b) tunit e = absurd (false≢true e)
same_type_eq (tsum a b) (tlist c) e = absurd (false≢true e)
same_type_eq (tsum a b) (tsum c d) e =
    let h = and_true (same_type a c) (same_type b d) e in ap₂ tsum (same_type_eq a c h.0) (same_type_eq b d h.1)
same_type_eq (tsum a b) (tprod c d) e = absurd (false≢true e)
same_type_eq (tprod a b) tunit e = absurd (false≢true e)
same_type_eq (tprod a b) (tlist c) e = absurd (false≢true e)
same_type_eq (tprod a b) (tsum c d) e = absurd (false≢true e)
same_type_eq (tprod a b) (tprod c d) e =
    let h = and_true (same_type a c) (same_type b d) e in ap₂ tprod (same_type_eq a c h.0) (same_type_eq b d h.1)

pub same_type_refl : (a : Ty) → same_type a a ≡ true
same_type_refl tunit = refl
same_type_refl (tlist a) = same_type_refl a
same_type_refl (tsum a b) = true_and (same_type_refl a) (same_type_refl b)
same_type_refl (tprod a b) = true_and (same_type_refl a) (same_type_refl b)

-- ---- what holds of each element of a list

pub each_nil : {A : Type 0} (P : A → Type 0) (x : A) → Memᴰ x [] → P x
each_nil P x m = absurd (Memᴰ.not-nil m)

pub each_cons : {A : Type 0} (P : A → Type 0) {x : A} {xs : List A} → P x → ((y : A) → Memᴰ y xs → P y) → (y : A) → Memᴰ y (x ∷ xs) → P y
each_cons P p h y (Memᴰ.head e) = subst P (sym e) p
each_cons P p h y (Memᴰ.tail m) = h y m

pub each_append : {A : Type 0} (P : A → Type 0) (xs : List A) {ys : List A} → ((x : A) → Memᴰ x xs → P x) → ((x : A) → Memᴰ x ys → P x)
    → (x : A) → Memᴰ x (xs ++ ys) → P x
each_append P xs {ys} h k x m = go (Memᴰ.append_cases xs m)
  where
    go : Memᴰ x xs ⊎ Memᴰ x ys → P x
    go (inl i) = h x i
    go (inr i) = k x i

pub each_map : {A B : Type 0} (P : B → Type 0) (f : A → B) (xs : List A) → ((x : A) → Memᴰ x xs → P (f x)) → (y : B) → Memᴰ y (map f xs) → P y
each_map P f xs h y m = let r = Memᴰ.of_map f xs m in subst P r.2 (h r.0 r.1)

pub all_mem : {A : Type 0} (p : A → Bool) {x : A} {xs : List A} → all p xs ≡ true → Memᴰ x xs → p x ≡ true
all_mem p {xs = y ∷ ys} e (Memᴰ.head h) = ap p h ∙ (and_true (p y) (all p ys) e).0
all_mem p {xs = y ∷ ys} e (Memᴰ.tail m) = all_mem p (and_true (p y) (all p ys) e).1 m
all_mem {A = A} p {xs = []} e x6 = elim x6 [ ]

pub mem_all : {A : Type 0} (p : A → Bool) (xs : List A) → ((x : A) → Memᴰ x xs → p x ≡ true) → all p xs ≡ true
mem_all p [] h = refl
mem_all p (x ∷ xs) h = true_and (h x (Memᴰ.head refl)) (mem_all p xs (λ y m. h y (Memᴰ.tail m)))

pub all_append : {A : Type 0} (p : A → Bool) (xs ys : List A) → all p xs ≡ true → all p ys ≡ true → all p (xs ++ ys) ≡ true
all_append p [] ys h k = k
all_append p (x ∷ xs) ys h k = let t = and_true (p x) (all p xs) h in true_and t.0 (all_append p xs ys t.1 k)

module _ {A B : Type 0} (f : A → Option B) where
  pub first_of_none : (xs : List A) → first_of f xs ≡ none → (x : A) → Memᴰ x xs → f x ≡ none
  first_of_none [] e = each_nil (λ x. f x ≡ none)
  first_of_none (y ∷ ys) e = let h = or_else_none (f y) (first_of f ys) e in each_cons (λ x. f x ≡ none) h.0 (first_of_none ys h.1)

  pub none_first_of : (xs : List A) → ((x : A) → Memᴰ x xs → f x ≡ none) → first_of f xs ≡ none
  none_first_of [] h = refl
  none_first_of (x ∷ xs) h = ap₂ or_else (h x (Memᴰ.head refl)) (none_first_of xs (λ y m. h y (Memᴰ.tail m)))

-- ---- stages

or_else_end : {B : Type 0} (o : Option B) → or_else o none ≡ o
or_else_end none = refl
or_else_end (some b) = refl

module _ {A B : Type 0} (x : A) where
  -- the first answer in the list of tests
  pub stages_first : (ts : List (A → Option B)) → stages ts x ≡ first_of (λ t. t x) ts
  stages_first [] = refl
  stages_first (t ∷ []) = sym (or_else_end (t x))
  stages_first (t ∷ (u ∷ ts)) = ap (or_else (t x)) (stages_first (u ∷ ts))

  -- nothing is found exactly where no test finds anything
  pub stages_none : (ts : List (A → Option B)) → stages ts x ≡ none → (t : A → Option B) → Memᴰ t ts → t x ≡ none
  stages_none ts e = first_of_none (λ t. t x) ts (sym (stages_first ts) ∙ e)

  pub none_stages : (ts : List (A → Option B)) → ((t : A → Option B) → Memᴰ t ts → t x ≡ none) → stages ts x ≡ none
  none_stages ts h = stages_first ts ∙ none_first_of (λ t. t x) ts h

-- ---- the elements that pass a test

module _ {A : Type 0} (f : A → Bool) where
  pub select_true : (x : A) (xs : List A) → f x ≡ true → select f (x ∷ xs) ≡ x ∷ select f xs
  select_true x xs h = ap (λ b. cond b (x ∷ select f xs) (select f xs)) h

  pub select_false : (x : A) (xs : List A) → f x ≡ false → select f (x ∷ xs) ≡ select f xs
  select_false x xs h = ap (λ b. cond b (x ∷ select f xs) (select f xs)) h

  pub select_none : (xs : List A) → ((x : A) → Memᴰ x xs → f x ≡ false) → select f xs ≡ []
  select_none [] h = refl
  select_none (x ∷ xs) h = select_false x xs (h x (Memᴰ.head refl)) ∙ select_none xs (λ y m. h y (Memᴰ.tail m))

  pub select_mem : {x : A} (xs : List A) → Memᴰ x (select f xs) → Memᴰ x xs × (f x ≡ true)
  select_mem [] m = absurd (Memᴰ.not-nil m)
  select_mem {x} (y ∷ ys) m = at (f y) refl (λ n. select_mem ys n) m
    where
      later : Memᴰ x ys × (f x ≡ true) → Memᴰ x (y ∷ ys) × (f x ≡ true)
      later t = (Memᴰ.tail t.0, t.1)

      at : (b : Bool) → f y ≡ b → (Memᴰ x (select f ys) → Memᴰ x ys × (f x ≡ true)) → Memᴰ x (cond b (y ∷ select f ys) (select f ys))
          → Memᴰ x (y ∷ ys) × (f x ≡ true)
      at true h below (Memᴰ.head e) = (Memᴰ.head e, ap f e ∙ h)
      at true h below (Memᴰ.tail n) = later (below n)
      at false h below n = later (below n)

-- ---- elements by their place

pub mem_index : {A : Type 0} {x : A} {xs : List A} → Memᴰ x xs → (i : ℕ) × (get_elem? xs i ≡ some x)
mem_index (Memᴰ.head e) = (0, ap some (sym e))
mem_index (Memᴰ.tail m) = let r = mem_index m in (suc r.0, r.1)

pub index_mem : {A : Type 0} (xs : List A) (i : ℕ) {x : A} → get_elem? xs i ≡ some x → Memᴰ x xs
index_mem [] i e = absurd (none≢some e)
index_mem (y ∷ xs) zero e = Memᴰ.head (sym (some_inj e))
index_mem (y ∷ xs) (suc i) e = Memᴰ.tail (index_mem xs i e)

pub index_below : {A : Type 0} (xs : List A) (i : ℕ) {x : A} → get_elem? xs i ≡ some x → i < length xs
index_below [] i e = absurd (none≢some e)
index_below (x ∷ xs) zero e = omega arith
index_below (x ∷ xs) (suc i) e = let h = index_below xs i e in omega arith

pub index_map : {A B : Type 0} (f : A → B) (xs : List A) (i : ℕ) {x : A} → get_elem? xs i ≡ some x → get_elem? (map f xs) i ≡ some (f x)
index_map f [] i e = absurd (none≢some e)
index_map f (y ∷ ys) zero e = ap (λ z. some (f z)) (some_inj e)
index_map f (y ∷ ys) (suc i) e = index_map f ys i e

pub index_of_map : {A B : Type 0} (f : A → B) (xs : List A) (i : ℕ) {y : B} → get_elem? (map f xs) i ≡ some y
    → (x : A) × (get_elem? xs i ≡ some x) × (f x ≡ y)
index_of_map f [] i e = absurd (none≢some e)
index_of_map f (x ∷ xs) zero e = (x, refl, some_inj e)
index_of_map f (x ∷ xs) (suc i) e = index_of_map f xs i e

-- ---- lists backwards, and a function twice

-- what stands in a list read backwards stands in the list
pub mem_reverse : {A : Type 0} {x : A} (xs : List A) → Memᴰ x (reverse xs) → Memᴰ x xs
mem_reverse [] m = m
mem_reverse {A} {x} (y ∷ ys) m =
    each_append (λ z. Memᴰ z (y ∷ ys)) (reverse ys) (λ z k. Memᴰ.tail (mem_reverse ys k)) (λ z k. Memᴰ.head (Memᴰ.eq_of_singleton k)) x
    (subst (Memᴰ x) (reverse-cons y ys) m)

map_reverse_aux : {A B : Type 0} (f : A → B) (xs ys : List A) → map f (reverse_aux xs ys) ≡ reverse_aux (map f xs) (map f ys)
map_reverse_aux f [] ys = refl
map_reverse_aux f (x ∷ xs) ys = map_reverse_aux f xs (x ∷ ys)

pub map_reverse : {A B : Type 0} (f : A → B) (xs : List A) → map f (reverse xs) ≡ reverse (map f xs)
map_reverse f xs = map_reverse_aux f xs []

-- a function that undoes itself does so on a list
pub map_twice : {A : Type 0} (f : A → A) → ((x : A) → f (f x) ≡ x) → (xs : List A) → map f (map f xs) ≡ xs
map_twice f h [] = refl
map_twice f h (x ∷ xs) = ap₂ ◌∷◌ (h x) (map_twice f h xs)

-- ---- no number twice

pub distinct_left : (xs ys : List ℕ) → Distinct (xs ++ ys) → Distinct xs
distinct_left [] ys d = nobody
distinct_left (x ∷ xs) ys (another f d) = another (λ m. f (Memᴰ.append_left ys m)) (distinct_left xs ys d)

pub distinct_right : (xs ys : List ℕ) → Distinct (xs ++ ys) → Distinct ys
distinct_right [] ys d = d
distinct_right (x ∷ xs) ys (another f d) = distinct_right xs ys d

pub distinct_across : {n : ℕ} (xs ys : List ℕ) → Distinct (xs ++ ys) → Memᴰ n xs → Memᴰ n ys → ⊥
distinct_across (x ∷ xs) ys (another f d) (Memᴰ.head e) k = f (Memᴰ.append_right xs (Memᴰ.cast (sym e) k))
distinct_across (x ∷ xs) ys (another f d) (Memᴰ.tail m) k = distinct_across xs ys d m k
distinct_across {n = n} [] ys _ x4 k = elim x4 [ ]

-- what comes out of a search, handed on as it is
pub same_bind : {A : Type 0} (o : Option A) → o ≡ (o >>= λ a. some a)
same_bind none = refl
same_bind (some a) = refl

-- the one or the other
pub le_or_lt : (m n : ℕ) → (m ≤ n) ⊎ (n < m)
le_or_lt m n = ⊎_elim (λ e. inl (leb_le m n e)) (λ e. inr (leb_false m n e)) (bool_cases (leb m n))

-- the byte at a place and those behind it
pub from_byte : (s : List ℕ) (at : ℕ) → at < length s → drop at s ≡ get_or s at 0 ∷ drop (at + 1) s
from_byte s at h = rw (add-one, drop-cons s at 0 h)

-- a store at a place, and what stands from there on
pub drop_set_same : (s : List ℕ) (at a : ℕ) → at < length s → drop at (set s at a) ≡ a ∷ drop (suc at) s
drop_set_same s at a h =
    drop-cons (set s at a) at 0 (lt-length-set s at a h) ∙ ap₂ ◌∷◌ (get_or-set_same s at a 0 h) (drop-set-lt (suc at) s at a (le_refl (suc at)))

-- a number that is there, by default
pub index_default : {A : Type 0} (xs : List A) (i : ℕ) {x : A} (d : A) → get_elem? xs i ≡ some x → get_or xs i d ≡ x
index_default [] i d e = absurd (none≢some e)
index_default (y ∷ xs) zero d e = some_inj e
index_default (y ∷ xs) (suc i) d e = index_default xs i d e

-- an array of n places, as a value has it, is a list of n
pub array_length : (m : List ℕ) {n : ℕ} → length (map (λ v. v) m) ≡ n → length m ≡ n
array_length m e = sym (length-map m (λ v. v)) ∙ e
