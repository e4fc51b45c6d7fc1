-- Whether two T lines unfold to the same tree, by their kinds and by the lines that they name.
use Prim.Native.Nat.{ℕ, zero, suc, ◌<◌, ◌≤◌}
use native.Mathlib.Omega.{arith}
use mathlib.Core.Path.{◌≡◌, refl, sym, ap, ap₂, ◌∙◌}
use mathlib.Core.Bool.{Bool, true, false, false≢true, ◌&&◌}
use mathlib.Core.List.{List}
use Rattle.calculus.specs.Trees.{Ty, tunit, same_type}
use Rattle.format.specs.Judge.{type_node}
use Rattle.calculus.proofs.Basic.{same_type_refl}
use Rattle.table_trees.specs.Unfolding.{cell_of, smaller_of, type_of}
use Rattle.table_trees.proofs.Cases.{Parted, sums, products, parted_no_unit, Whole, units, others, node_whole}
use Rattle.table_trees.proofs.Unfolding.{type_node_lem}
use Rattle.check_shapes.specs.Naming.{names_nothing}

-- ---- two nodes, by their kinds

both_whole : {k m : ℕ} (x y u v : Ty) → Whole k → Whole m → true ≡ same_type (type_node k x y) (type_node m u v)
both_whole x y u v h l = sym (ap₂ same_type (node_whole x y h) (node_whole u v l))

-- a sum, a product or a list, which names a part
pub data Naming : ℕ → Type 0 where
  two : {k : ℕ} → Parted k → Naming k
  list : Naming 3

pub naming : (k : ℕ) → 1 ≤ k → k < 4 → Naming k
naming zero h l = absurd (omega arith)
naming (suc zero) h l = two sums
naming (suc (suc zero)) h l = two products
naming (suc (suc (suc zero))) h l = list
naming (suc (suc (suc (suc k)))) h l = absurd (omega arith)

pub naming_no_unit : {k : ℕ} → Naming k → k ≡ 0 → ⊥
naming_no_unit (two p) e = parted_no_unit p e
naming_no_unit list e = absurd (omega arith)

-- no list
pub naming_two : {k : ℕ} → Naming k → (k ≡ 3 → ⊥) → Parted k
naming_two (two p) h = p
naming_two list h = absurd (h refl)

whole_parted : {k m : ℕ} (x y u v : Ty) → Whole k → Naming m → false ≡ same_type (type_node k x y) (type_node m u v)
whole_parted {m} x y u v h l = part l ∙ sym (ap (λ a. same_type a (type_node m u v)) (node_whole x y h))
  where
    part : {m : ℕ} → Naming m → false ≡ same_type tunit (type_node m u v)
    part (two sums) = refl
    part (two products) = refl
    part list = refl

-- a sum, a product or a list beside any other kind
unlike : {k : ℕ} (m : ℕ) (x y u v : Ty) → Naming k → (k ≡ m → ⊥) → false ≡ same_type (type_node k x y) (type_node m u v)
unlike zero x y u v (two sums) h = refl
unlike (suc zero) x y u v (two sums) h = absurd (h refl)
unlike (suc (suc zero)) x y u v (two sums) h = refl
unlike (suc (suc (suc zero))) x y u v (two sums) h = refl
unlike (suc (suc (suc (suc m)))) x y u v (two sums) h = refl
unlike zero x y u v (two products) h = refl
unlike (suc zero) x y u v (two products) h = refl
unlike (suc (suc zero)) x y u v (two products) h = absurd (h refl)
unlike (suc (suc (suc zero))) x y u v (two products) h = refl
unlike (suc (suc (suc (suc m)))) x y u v (two products) h = refl
unlike zero x y u v list h = refl
unlike (suc zero) x y u v list h = refl
unlike (suc (suc zero)) x y u v list h = refl
unlike (suc (suc (suc zero))) x y u v list h = absurd (h refl)
unlike (suc (suc (suc (suc m)))) x y u v list h = refl

alike : {k : ℕ} (x y u v : Ty) → Parted k → (same_type x u && same_type y v) ≡ same_type (type_node k x y) (type_node k u v)
alike x y u v sums = refl
alike x y u v products = refl

alike_list : {k : ℕ} (x y u v : Ty) → k ≡ 3 → same_type x u ≡ same_type (type_node k x y) (type_node k u v)
alike_list x y u v e = sym (ap (λ k. same_type (type_node k x y) (type_node k u v)) e)

-- where the first parts differ, they do
unlike_first : {k : ℕ} (x y u v : Ty) → Naming k → same_type x u ≡ false → false ≡ same_type (type_node k x y) (type_node k u v)
unlike_first x y u v (two h) e = sym (ap (λ b. b && same_type y v) e) ∙ alike x y u v h
unlike_first x y u v list e = sym e

-- ---- a kind that names nothing, or two parts

pub is_whole : (k : ℕ) {r : Bool} → r ≡ names_nothing k → r ≡ true → Whole k
is_whole zero e h = units
is_whole (suc zero) e h = absurd (false≢true (sym e ∙ h))
is_whole (suc (suc zero)) e h = absurd (false≢true (sym e ∙ h))
is_whole (suc (suc (suc zero))) e h = absurd (false≢true (sym e ∙ h))
is_whole (suc (suc (suc (suc k)))) e h = others k

pub is_naming : (k : ℕ) {r : Bool} → r ≡ names_nothing k → r ≡ false → Naming k
is_naming zero e h = absurd (false≢true (sym h ∙ e))
is_naming (suc zero) e h = two sums
is_naming (suc (suc zero)) e h = two products
is_naming (suc (suc (suc zero))) e h = list
is_naming (suc (suc (suc (suc k)))) e h = absurd (false≢true (sym h ∙ e))

pub nothing_named : {k : ℕ} → Whole k → true ≡ names_nothing k
nothing_named units = refl
nothing_named (others k) = refl

pub parts_named : {k : ℕ} → Naming k → false ≡ names_nothing k
parts_named (two sums) = refl
parts_named (two products) = refl
parts_named list = refl

whole_beside : {k : ℕ} (m : ℕ) (x y u v : Ty) → Whole k → names_nothing m ≡ same_type (type_node k x y) (type_node m u v)
whole_beside zero x y u v h = both_whole x y u v h units
whole_beside (suc zero) x y u v h = whole_parted x y u v h (two sums)
whole_beside (suc (suc zero)) x y u v h = whole_parted x y u v h (two products)
whole_beside (suc (suc (suc zero))) x y u v h = whole_parted x y u v h list
whole_beside (suc (suc (suc (suc m)))) x y u v h = both_whole x y u v h (others m)

-- ---- two lines of kinds ka and kb

module _ (t : List ℕ) (a b : ℕ) {ka kb : ℕ} (p : ka ≡ cell_of t a 1) (q : kb ≡ cell_of t b 1) where
  same_kinds : same_type (type_node ka (type_of t (smaller_of (cell_of t a 2) a)) (type_of t (smaller_of (cell_of t a 3) a)))
      (type_node kb (type_of t (smaller_of (cell_of t b 2) b)) (type_of t (smaller_of (cell_of t b 3) b))) ≡ same_type (type_of t a) (type_of t b)
  same_kinds =
      ap₂
      (λ k m. same_type (type_node k (type_of t (smaller_of (cell_of t a 2) a)) (type_of t (smaller_of (cell_of t a 3) a)))
      (type_node m (type_of t (smaller_of (cell_of t b 2) b)) (type_of t (smaller_of (cell_of t b 3) b))))
      p
      q
      ∙ sym (ap₂ same_type (type_node_lem t a) (type_node_lem t b))

  -- the first names nothing, as the second does or does not
  pub same_whole : {r : Bool} → Whole ka → r ≡ names_nothing kb → r ≡ same_type (type_of t a) (type_of t b)
  same_whole h e = e ∙ whole_beside kb _ _ _ _ h ∙ same_kinds

  pub other_kind : Naming ka → (ka ≡ kb → ⊥) → false ≡ same_type (type_of t a) (type_of t b)
  other_kind h l = unlike kb _ _ _ _ h l ∙ same_kinds

  -- of the same kind: what the first parts say, and then the second
  parts : {g : Bool} {c d : ℕ} → Parted ka → ka ≡ kb
      → c ≡ smaller_of (cell_of t a 2) a → d ≡ smaller_of (cell_of t b 2) b → g ≡ same_type (type_of t c) (type_of t d)
      → (g && same_type (type_of t (smaller_of (cell_of t a 3) a)) (type_of t (smaller_of (cell_of t b 3) b))) ≡ same_type (type_of t a) (type_of t b)
  parts h e u v i =
      ap (λ g. g && same_type (type_of t (smaller_of (cell_of t a 3) a)) (type_of t (smaller_of (cell_of t b 3) b))) (i ∙ ap₂ (λ x y. same_type (type_of t x) (type_of t y)) u v)
      ∙ alike _ _ _ _ h
      ∙ ap
      (λ m. same_type (type_node ka (type_of t (smaller_of (cell_of t a 2) a)) (type_of t (smaller_of (cell_of t a 3) a)))
      (type_node m (type_of t (smaller_of (cell_of t b 2) b)) (type_of t (smaller_of (cell_of t b 3) b))))
      e
      ∙ same_kinds

  -- of the same kind
  one_kind : ka ≡ kb → same_type (type_node ka (type_of t (smaller_of (cell_of t a 2) a)) (type_of t (smaller_of (cell_of t a 3) a)))
      (type_node ka (type_of t (smaller_of (cell_of t b 2) b)) (type_of t (smaller_of (cell_of t b 3) b))) ≡ same_type (type_of t a) (type_of t b)
  one_kind e =
      ap
      (λ m. same_type (type_node ka (type_of t (smaller_of (cell_of t a 2) a)) (type_of t (smaller_of (cell_of t a 3) a)))
      (type_node m (type_of t (smaller_of (cell_of t b 2) b)) (type_of t (smaller_of (cell_of t b 3) b))))
      e
      ∙ same_kinds

  pub other_first : {g : Bool} {c d : ℕ} → Naming ka → ka ≡ kb
      → c ≡ smaller_of (cell_of t a 2) a → d ≡ smaller_of (cell_of t b 2) b → g ≡ same_type (type_of t c) (type_of t d) → g ≡ false
      → false ≡ same_type (type_of t a) (type_of t b)
  other_first h e u v i n =
      unlike_first _ _ _ _ h (sym (i ∙ ap₂ (λ x y. same_type (type_of t x) (type_of t y)) u v) ∙ n) ∙ one_kind e

  -- of lists the elements decide
  pub same_list : {g : Bool} {c d : ℕ} → ka ≡ 3 → ka ≡ kb
      → c ≡ smaller_of (cell_of t a 2) a → d ≡ smaller_of (cell_of t b 2) b → g ≡ same_type (type_of t c) (type_of t d) → g ≡ true
      → true ≡ same_type (type_of t a) (type_of t b)
  same_list z e u v i y = sym y ∙ i ∙ ap₂ (λ x y. same_type (type_of t x) (type_of t y)) u v ∙ alike_list _ _ _ _ z ∙ one_kind e

  pub same_second : {g r : Bool} {c d x y : ℕ} → Parted ka → ka ≡ kb
      → c ≡ smaller_of (cell_of t a 2) a → d ≡ smaller_of (cell_of t b 2) b → g ≡ same_type (type_of t c) (type_of t d) → g ≡ true
      → x ≡ smaller_of (cell_of t a 3) a → y ≡ smaller_of (cell_of t b 3) b → r ≡ same_type (type_of t x) (type_of t y)
      → r ≡ same_type (type_of t a) (type_of t b)
  same_second h e u v i y w s r =
      r
      ∙ ap₂ (λ x y. same_type (type_of t x) (type_of t y)) w s
      ∙ sym (ap (λ g. g && same_type (type_of t (smaller_of (cell_of t a 3) a)) (type_of t (smaller_of (cell_of t b 3) b))) y)
      ∙ parts h e u v i

-- ---- one and the same line

pub same_line : (t : List ℕ) {a b : ℕ} → a ≡ b → true ≡ same_type (type_of t a) (type_of t b)
same_line t {a} e = sym (ap (λ n. same_type (type_of t a) (type_of t n)) (sym e) ∙ same_type_refl (type_of t a))
