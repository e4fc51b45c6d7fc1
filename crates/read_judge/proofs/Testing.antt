-- The tests of a row by its kind: its place in the order, its fields, the lines that it names.
use Prim.Native.Nat.{ℕ, zero, suc, ◌+◌, ◌<◌, ◌≤◌}
use native.Mathlib.Omega.{arith}
use mathlib.Core.Path.{◌≡◌, refl, sym, ap, ap₂, ◌∙◌}
use mathlib.Core.Bool.{Bool, true, false, ◌&&◌}
use mathlib.Core.Option.{Option}
use lib.Dec.{leb, ltb, eqb}
use borrow.Author.Tests.{lt-ltb, le-ltb, lt-leb, ne_eqb}
use Rattle.limits.specs.Limits.{variables}
use Rattle.calculus.specs.Refusals.{Kind}
use Rattle.format.specs.Judge.{Seen, stage, in_order, type_fields, pattern_fields, fields_fit, type_names, pattern_names, named}
use Rattle.format.specs.declared.Kind as K
use Rattle.format.specs.declared.Kind.TheVariants as kinds
use Rattle.format.specs.declared.Row as R
use Rattle.format.specs.Code.{kind_view, row_view}
use Rattle.table_trees.proofs.Cases.{Parted, sums, products, Whole, units, others, Injects, lefts, rights, Joins, pairs, elements, Leaf, unit, var, empty, other}
use Rattle.read_seen.specs.declared.Seen as C
use Rattle.read_seen.specs.Told.{Counts}

-- ---- order

eqb_zero : (n : ℕ) → eqb n 0 ≡ leb n 0
eqb_zero zero = refl
eqb_zero (suc n) = ne_eqb (suc n) 0 (λ e. omega arith) ∙ sym (lt-leb (suc n) 0 (omega arith))

module _ {n : ℕ} {k : K.Kind} where
  pub type_order : k ≡ kinds.Type → (a : Option Kind) → n ≡ stage a → eqb n 0 ≡ in_order a (kind_view k)
  type_order q a e = eqb_zero n ∙ ap (λ m. leb m 0) e ∙ sym (ap (λ x. in_order a (kind_view x)) q)

  pub pattern_order : k ≡ kinds.Pattern → (a : Option Kind) → n ≡ stage a → leb n 1 ≡ in_order a (kind_view k)
  pattern_order q a e = ap (λ m. leb m 1) e ∙ sym (ap (λ x. in_order a (kind_view x)) q)

  pub iso_order : k ≡ kinds.Iso → (a : Option Kind) → n ≡ stage a → true ≡ in_order a (kind_view k)
  iso_order q a e = sym (ap (λ x. in_order a (kind_view x)) q)

  pub clause_order : k ≡ kinds.Clause → (a : Option Kind) → n ≡ stage a → leb 2 n ≡ in_order a (kind_view k)
  clause_order q a e = ap (leb 2) e ∙ sym (ap (λ x. in_order a (kind_view x)) q)

  pub let_order : k ≡ kinds.Let → (a : Option Kind) → n ≡ stage a → leb 3 n ≡ in_order a (kind_view k)
  let_order q a e = ap (leb 3) e ∙ sym (ap (λ x. in_order a (kind_view x)) q)

-- ---- fields

pub idle_first : {a : ℕ} (b : ℕ) → a ≡ 0 → eqb b 0 ≡ (eqb a 0 && eqb b 0)
idle_first b e = sym (ap (λ x. eqb x 0 && eqb b 0) e)

pub busy_first : {a : ℕ} (b : ℕ) → (a ≡ 0 → ⊥) → false ≡ (eqb a 0 && eqb b 0)
busy_first {a} b h = sym (ap (λ t. t && eqb b 0) (ne_eqb a 0 h))

pub variable_number : {a : ℕ} (b : ℕ) → a < variables → eqb b 0 ≡ (ltb a variables && eqb b 0)
variable_number {a} b h = sym (ap (λ t. t && eqb b 0) (lt-ltb a variables h))

pub no_variable_number : {a : ℕ} (b : ℕ) → variables ≤ a → false ≡ (ltb a variables && eqb b 0)
no_variable_number {a} b h = sym (ap (λ t. t && eqb b 0) (le-ltb a variables h))

-- the test of a listed kind m, and of a number that is none
pub type_listed : {k : ℕ} {r : Bool} (m a b : ℕ) → k ≡ m → r ≡ type_fields m a b → r ≡ type_fields k a b
type_listed m a b e h = h ∙ sym (ap (λ k. type_fields k a b) e)

pub type_unlisted : (k a b : ℕ) → (k ≡ 0 → ⊥) → (k ≡ 1 → ⊥) → (k ≡ 2 → ⊥) → (k ≡ 3 → ⊥) → false ≡ type_fields k a b
type_unlisted zero a b u s p l = absurd (u refl)
type_unlisted (suc zero) a b u s p l = absurd (s refl)
type_unlisted (suc (suc zero)) a b u s p l = absurd (p refl)
type_unlisted (suc (suc (suc zero))) a b u s p l = absurd (l refl)
type_unlisted (suc (suc (suc (suc k)))) a b u s p l = refl

pub pattern_listed : {k : ℕ} {r : Bool} (m a b : ℕ) → k ≡ m → r ≡ pattern_fields m a b → r ≡ pattern_fields k a b
pattern_listed m a b e h = h ∙ sym (ap (λ k. pattern_fields k a b) e)

pub pattern_unlisted : (k a b : ℕ) → (k ≡ 0 → ⊥) → (k ≡ 1 → ⊥) → (k ≡ 2 → ⊥) → (k ≡ 3 → ⊥) → (k ≡ 4 → ⊥) → (k ≡ 5 → ⊥) → (k ≡ 6 → ⊥) → false ≡ pattern_fields k a b
pattern_unlisted zero a b u v l r p n m = absurd (u refl)
pattern_unlisted (suc zero) a b u v l r p n m = absurd (v refl)
pattern_unlisted (suc (suc zero)) a b u v l r p n m = absurd (l refl)
pattern_unlisted (suc (suc (suc zero))) a b u v l r p n m = absurd (r refl)
pattern_unlisted (suc (suc (suc (suc zero)))) a b u v l r p n m = absurd (p refl)
pattern_unlisted (suc (suc (suc (suc (suc zero))))) a b u v l r p n m = absurd (n refl)
pattern_unlisted (suc (suc (suc (suc (suc (suc zero)))))) a b u v l r p n m = absurd (m refl)
pattern_unlisted (suc (suc (suc (suc (suc (suc (suc k))))))) a b u v l r p n m = refl

module _ (r : R.Row) {b : Bool} where
  pub type_fits : r.kind ≡ kinds.Type → b ≡ type_fields r.x r.y r.z → b ≡ fields_fit (kind_view r.kind) (row_view r)
  type_fits q e = e ∙ sym (ap (λ k. fields_fit (kind_view k) (row_view r)) q)

  pub pattern_fits : r.kind ≡ kinds.Pattern → b ≡ pattern_fields r.x r.y r.z → b ≡ fields_fit (kind_view r.kind) (row_view r)
  pattern_fits q e = e ∙ sym (ap (λ k. fields_fit (kind_view k) (row_view r)) q)

-- ---- names

pub first_below : {a n : ℕ} (b : ℕ) → a < n → ltb b n ≡ (ltb a n && ltb b n)
first_below {a} {n} b h = sym (ap (λ t. t && ltb b n) (lt-ltb a n h))

pub first_not_below : {a n : ℕ} (b : ℕ) → n ≤ a → false ≡ (ltb a n && ltb b n)
first_not_below {a} {n} b h = sym (ap (λ t. t && ltb b n) (le-ltb a n h))

pub whole_names : {k : ℕ} (n a b : ℕ) → Whole k → true ≡ type_names n k a b
whole_names n a b units = refl
whole_names n a b (others k) = refl

pub type_node_names : {k : ℕ} (n a b : ℕ) {r : Bool} → Parted k → r ≡ (ltb a n && ltb b n) → r ≡ type_names n k a b
type_node_names n a b sums e = e
type_node_names n a b products e = e

pub leaf_names : {k : ℕ} (n a b : ℕ) → Leaf k → true ≡ pattern_names n k a b
leaf_names n a b unit = refl
leaf_names n a b var = refl
leaf_names n a b empty = refl
leaf_names n a b (other k) = refl

pub injection_names : {k : ℕ} (n a b : ℕ) → Injects k → ltb a n ≡ pattern_names n k a b
injection_names n a b lefts = refl
injection_names n a b rights = refl

pub pair_names : {k : ℕ} (n a b : ℕ) {r : Bool} → Joins k → r ≡ (ltb a n && ltb b n) → r ≡ pattern_names n k a b
pair_names n a b pairs e = e
pair_names n a b elements e = e

pub list_names : {k : ℕ} (n a b : ℕ) → k ≡ 3 → ltb a n ≡ type_names n k a b
list_names n a b h = sym (ap (λ k. type_names n k a b) h)

-- an L line: t says whether its patterns stand
module _ {t p : Bool} (e : t ≡ p) (i isos : ℕ) where
  pub let_iso : t ≡ true → ltb i isos ≡ (p && ltb i isos)
  let_iso h = sym (ap (λ x. x && ltb i isos) (sym e ∙ h))

  pub let_no_pattern : t ≡ false → false ≡ (p && ltb i isos)
  let_no_pattern h = sym (ap (λ x. x && ltb i isos) (sym e ∙ h))

module _ (c : C.Seen) (r : R.Row) {b : Bool} where
  pub type_stands : r.kind ≡ kinds.Type → b ≡ type_names c.types r.x r.y r.z → (s : Seen) → Counts c s → b ≡ named s (kind_view r.kind) (row_view r)
  type_stands q e s h = e ∙ ap (λ n. type_names n r.x r.y r.z) h.types ∙ sym (ap (λ k. named s (kind_view k) (row_view r)) q)

  pub pattern_stands : r.kind ≡ kinds.Pattern → b ≡ pattern_names c.patterns r.x r.y r.z → (s : Seen) → Counts c s → b ≡ named s (kind_view r.kind) (row_view r)
  pattern_stands q e s h = e ∙ ap (λ n. pattern_names n r.x r.y r.z) h.patterns ∙ sym (ap (λ k. named s (kind_view k) (row_view r)) q)

  pub iso_stands : r.kind ≡ kinds.Iso → b ≡ (ltb r.x c.types && ltb r.y c.types) → (s : Seen) → Counts c s → b ≡ named s (kind_view r.kind) (row_view r)
  iso_stands q e s h = e ∙ ap (λ n. ltb r.x n && ltb r.y n) h.types ∙ sym (ap (λ k. named s (kind_view k) (row_view r)) q)

  pub clause_stands : r.kind ≡ kinds.Clause → b ≡ (ltb r.x c.patterns && ltb r.y c.patterns) → (s : Seen) → Counts c s → b ≡ named s (kind_view r.kind) (row_view r)
  clause_stands q e s h = e ∙ ap (λ n. ltb r.x n && ltb r.y n) h.patterns ∙ sym (ap (λ k. named s (kind_view k) (row_view r)) q)

  pub let_stands : r.kind ≡ kinds.Let → b ≡ (ltb r.x c.patterns && ltb r.z c.patterns && ltb r.y c.isos) → (s : Seen) → Counts c s → b ≡ named s (kind_view r.kind) (row_view r)
  let_stands q e s h =
      e
      ∙ ap₂ (λ n i. ltb r.x n && ltb r.z n && ltb r.y i) h.patterns h.isos
      ∙ sym (ap (λ k. named s (kind_view k) (row_view r)) q)
