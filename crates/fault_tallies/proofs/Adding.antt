-- The ways to go on with a value of a type before them, added to others part by part: what is added already and what is still to be added.
use Prim.Native.Nat.{ℕ, zero, suc, ◌+◌, ◌≤◌}
use native.Mathlib.Nat.{add_assoc, add_comm, le_trans, le_of_lt}
use native.Mathlib.Omega.{arith}
use mathlib.Core.Path.{◌≡◌, refl, sym, ap, ap₂, ◌∙◌}
use mathlib.Core.Bool.{Bool, true, false, cond}
use mathlib.Core.Logic.{inl, inr}
use mathlib.Core.List.{List}
use lib.ListN.{length}
use Rattle.limits.specs.Limits.{max_nodes}
use Rattle.calculus.specs.Trees.{Ty, type_nodes}
use Rattle.table_trees.specs.Unfolding.{cell_of, smaller_of, type_of}
use Rattle.table_trees.proofs.Unfolding.{rank}
use Rattle.fault_tallies.specs.Tallies.{Holds, Shifts, Adds, Halved, shifted, more, CountsType, AddsType}
use Rattle.fault_tallies.proofs.Linear.{Same, shift_same, more_same, more_shift, more_swap}
use Rattle.fault_tallies.proofs.Counting.{held_shift, held_add, held_as}
use Rattle.fault_tallies.proofs.Lines.{halves_fall, halves_small}
use Rattle.table_trees.proofs.Lines.{no_unit, line_sum, line_product, line_other}

-- with a value of type a before the ways to go on in k, and what stands in sum, it is T in all
pub record Rest (m : ℕ) (k sum : List ℕ) (a : Ty) (T : ℕ → ℕ) : Type 0 where
  pub ways : ℕ → ℕ
  pub added : ℕ → ℕ
  pub in_k : Holds m k ways
  pub in_sum : Holds m sum added
  pub all : Same (λ n. added n + more a ways n) T

module _ {m : ℕ} {k l sum : List ℕ} {a : Ty} {T : ℕ → ℕ} (s : Shifts k l) (r : Rest m k sum a T) where
  rest_leaf : Same (more a r.ways) (shifted r.ways) → {out : List ℕ} → Adds m sum l out → Holds m out T
  rest_leaf e d = held_as _ (λ n. ap (λ x. r.added n + x) (sym (e n)) ∙ r.all n) (held_add d r.in_sum (held_shift s r.in_k))

  rest_sum : (few many : Ty) → Same (more a r.ways) (shifted (λ n. more few r.ways n + more many r.ways n)) → {out : List ℕ} → type_nodes few ≤ max_nodes → AddsType m few l sum out →
      Rest m l out many T
  rest_sum few many e z d =
      record {
        ways = shifted r.ways;
        added = λ n. r.added n + more few (shifted r.ways) n;
        in_k = held_shift s r.in_k;
        in_sum = d z (shifted r.ways) r.added (held_shift s r.in_k) r.in_sum;
        all = λ n. add_assoc (r.added n) (more few (shifted r.ways) n) (more many (shifted r.ways) n) ∙ ap (λ x. r.added n + x) (apart n ∙ sym (e n)) ∙ r.all n;
      }
    where
      apart : Same (λ n. more few (shifted r.ways) n + more many (shifted r.ways) n) (shifted (λ n. more few r.ways n + more many r.ways n))
      apart zero = ap₂ ◌+◌ (more_shift few r.ways zero) (more_shift many r.ways zero)
      apart (suc n) = ap₂ ◌+◌ (more_shift few r.ways (suc n)) (more_shift many r.ways (suc n))

  rest_product : (few many : Ty) → Same (more a r.ways) (shifted (more many (more few r.ways))) → {n : List ℕ} → type_nodes few ≤ max_nodes → CountsType m few l n → Rest m n sum many T
  rest_product few many e z d =
      record {
        ways = more few (shifted r.ways);
        added = r.added;
        in_k = d z (shifted r.ways) (held_shift s r.in_k);
        in_sum = r.in_sum;
        all = λ n. ap (λ x. r.added n + x) (more_same many (more_shift few r.ways) n ∙ more_shift many (more few r.ways) n ∙ sym (e n)) ∙ r.all n;
      }

-- ---- the walk over a T line: line j is still to be counted

pub record Going (m : ℕ) (t : List ℕ) (i : ℕ) (w sum₀ k sum : List ℕ) (j : ℕ) : Type 0 where
  pub long : length k ≡ 128
  pub wide : length sum ≡ 128
  pub below : rank j ≤ rank i
  pub small : type_nodes (type_of t i) ≤ max_nodes → type_nodes (type_of t j) ≤ max_nodes
  pub at : type_nodes (type_of t i) ≤ max_nodes → (W S : ℕ → ℕ) → Holds m w W → Holds m sum₀ S → Rest m k sum (type_of t j) (λ n. S n + more (type_of t i) W n)

pub going_start : (m : ℕ) (t : List ℕ) (i : ℕ) {w sum : List ℕ} → length w ≡ 128 → length sum ≡ 128 → Going m t i w sum w sum i
going_start m t i e f =
    record {
      long = e;
      wide = f;
      below = omega arith;
      small = λ z. z;
      at = λ z W S h g. record { ways = W; added = S; in_k = h; in_sum = g; all = λ n. refl };
    }

-- a list is counted at once
pub going_list : (m : ℕ) (t : List ℕ) (i : ℕ) {w sum₀ k l sum : List ℕ} {j : ℕ} → Going m t i w sum₀ k sum j → CountsType m (type_of t j) k l
    → {out : List ℕ} → Adds m sum l out → AddsType m (type_of t i) w sum₀ out
going_list m t i {j = j} g c d z W S h f =
    let r = g.at z W S h f in held_as _ r.all (held_add d r.in_sum (c (g.small z) r.ways r.in_k))

module _ (m : ℕ) (t : List ℕ) (i : ℕ) {w sum₀ k l sum : List ℕ} {j kind : ℕ} (g : Going m t i w sum₀ k sum j) (s : Shifts k l) (e : kind ≡ cell_of t j 1) where
  pub going_end : (kind ≡ 1 → ⊥) → (kind ≡ 2 → ⊥) → (kind ≡ 3 → ⊥) → {out : List ℕ} → Adds m sum l out → AddsType m (type_of t i) w sum₀ out
  going_end a b c d z W S h f = let r = g.at z W S h f in rest_leaf s r (λ n. ap (λ x. more x r.ways n) (line_other t j e a b c)) d

  module _ {few many : ℕ} (h : Halved (smaller_of (cell_of t j 2) j) (smaller_of (cell_of t j 3) j) few many) where
    -- the parts of a sum, and of a product, in either order
    sum_parts : kind ≡ 1 → (W : ℕ → ℕ) → Same (more (type_of t j) W) (shifted (λ n. more (type_of t few) W n + more (type_of t many) W n))
    sum_parts z W = go h.turned h.few_is h.many_is
      where
        go : (b : Bool) {x y : ℕ} → x ≡ cond b (smaller_of (cell_of t j 3) j) (smaller_of (cell_of t j 2) j) → y ≡ cond b (smaller_of (cell_of t j 2) j) (smaller_of (cell_of t j 3) j)
            → Same (more (type_of t j) W) (shifted (λ n. more (type_of t x) W n + more (type_of t y) W n))
        go false p q n = ap (λ a. more a W n) (line_sum t j e p q z)
        go true {x} {y} p q n =
            ap (λ a. more a W n) (line_sum t j e q p z) ∙ shift_same (λ m. add_comm (more (type_of t y) W m) (more (type_of t x) W m)) n

    product_parts : kind ≡ 2 → (W : ℕ → ℕ) → Same (more (type_of t j) W) (shifted (more (type_of t many) (more (type_of t few) W)))
    product_parts z W = go h.turned h.few_is h.many_is
      where
        go : (b : Bool) {x y : ℕ} → x ≡ cond b (smaller_of (cell_of t j 3) j) (smaller_of (cell_of t j 2) j) → y ≡ cond b (smaller_of (cell_of t j 2) j) (smaller_of (cell_of t j 3) j)
            → Same (more (type_of t j) W) (shifted (more (type_of t y) (more (type_of t x) W)))
        go false {x} {y} p q n = ap (λ a. more a W n) (line_product t j e p q z) ∙ shift_same (more_swap (type_of t x) (type_of t y) W) n
        go true p q n = ap (λ a. more a W n) (line_product t j e q p z)

    pub going_sum : kind ≡ 1 → length l ≡ 128 → {out : List ℕ} → length out ≡ 128 → AddsType m (type_of t few) l sum out → Going m t i w sum₀ l out many
    going_sum z len {out} wide d =
        record {
          long = len;
          wide = wide;
          below = le_trans (le_of_lt (halves_fall t j e (no_unit z) h).1) g.below;
          small = λ y. (halves_small t j e (inl z) h (g.small y)).1;
          at = λ y W S x u. let r = g.at y W S x u in rest_sum s r (type_of t few) (type_of t many) (sum_parts z r.ways) (halves_small t j e (inl z) h (g.small y)).0 d;
        }

    pub going_product : kind ≡ 2 → {n : List ℕ} → length n ≡ 128 → CountsType m (type_of t few) l n → Going m t i w sum₀ n sum many
    going_product z len d =
        record {
          long = len;
          wide = g.wide;
          below = le_trans (le_of_lt (halves_fall t j e (no_unit z) h).1) g.below;
          small = λ y. (halves_small t j e (inr z) h (g.small y)).1;
          at = λ y W S x u.
              let r = g.at y W S x u in rest_product s r (type_of t few) (type_of t many) (product_parts z r.ways) (halves_small t j e (inr z) h (g.small y)).0 d;
        }
