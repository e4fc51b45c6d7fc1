-- The lines that a T line names rank lower.
use Prim.Native.Nat.{ℕ, ◌+◌, ◌*◌, ◌<◌, ◌≤◌}
use native.Mathlib.Omega.{arith}
use mathlib.Core.Path.{◌≡◌, refl, sym, ap, ◌∙◌, subst}
use mathlib.Core.Logic.{◌⊎◌, inl, inr}
use mathlib.Core.Bool.{Bool, true, false, cond}
use mathlib.Core.List.{List}
use Rattle.limits.specs.Limits.{max_nodes}
use Rattle.calculus.specs.Trees.{Ty, tsum, tprod, type_nodes}
use Rattle.table_trees.specs.Unfolding.{cell_of, smaller_of, type_of}
use Rattle.table_trees.proofs.Lines.{line_sum, line_product}
use Rattle.fault_tallies.specs.Tallies.{Halved}
use Rattle.table_trees.proofs.Unfolding.{rank, type_falls}

-- a line that is no unit names lower ones, whichever comes first
pub halves_fall : (t : List ℕ) (i : ℕ) {k few many : ℕ} → k ≡ cell_of t i 1 → (k ≡ 0 → ⊥)
    → Halved (smaller_of (cell_of t i 2) i) (smaller_of (cell_of t i 3) i) few many → (rank few < rank i) × (rank many < rank i)
halves_fall t i e n h = go h.turned h.few_is h.many_is
  where
    falls : (u : ℕ) {l : ℕ} → l ≡ smaller_of (cell_of t i u) i → rank l < rank i
    falls u f = subst (λ x. rank x < rank i) (sym f) (type_falls t i (cell_of t i u) (λ z. n (e ∙ z)))

    go : (b : Bool) {few many : ℕ} → few ≡ cond b (smaller_of (cell_of t i 3) i) (smaller_of (cell_of t i 2) i)
        → many ≡ cond b (smaller_of (cell_of t i 2) i) (smaller_of (cell_of t i 3) i) → (rank few < rank i) × (rank many < rank i)
    go true f m = (falls 3 f, falls 2 m)
    go false f m = (falls 2 f, falls 3 m)

-- ---- measures: twice the line's rank for what is added, one more for what is counted

pub count_less : (x y z : ℕ) {m : ℕ} → 2 * x ≡ m → y ≤ x → z < y → 2 * z + 1 < m
count_less x y z p q h = omega arith

pub add_less : (x y z : ℕ) {m : ℕ} → 2 * x ≡ m → y ≤ x → z < y → 2 * z < m
add_less x y z p q h = omega arith

-- the parts of a line have at most as many nodes
pub halves_small : (t : List ℕ) (i : ℕ) {k few many : ℕ} → k ≡ cell_of t i 1 → (k ≡ 1) ⊎ (k ≡ 2)
    → Halved (smaller_of (cell_of t i 2) i) (smaller_of (cell_of t i 3) i) few many → type_nodes (type_of t i) ≤ max_nodes
    → (type_nodes (type_of t few) ≤ max_nodes) × (type_nodes (type_of t many) ≤ max_nodes)
halves_small t i {k} e z h small = go h.turned h.few_is h.many_is (parts z)
  where
    of_sum : {a b c : Ty} → a ≡ tsum b c → type_nodes a ≤ max_nodes → (type_nodes b ≤ max_nodes) × (type_nodes c ≤ max_nodes)
    of_sum p l = let q = ap type_nodes p in (omega arith, omega arith)

    of_product : {a b c : Ty} → a ≡ tprod b c → type_nodes a ≤ max_nodes → (type_nodes b ≤ max_nodes) × (type_nodes c ≤ max_nodes)
    of_product p l = let q = ap type_nodes p in (omega arith, omega arith)

    parts : (k ≡ 1) ⊎ (k ≡ 2) → (type_nodes (type_of t (smaller_of (cell_of t i 2) i)) ≤ max_nodes) × (type_nodes (type_of t (smaller_of (cell_of t i 3) i)) ≤ max_nodes)
    parts (inl w) = of_sum (line_sum t i e refl refl w) small
    parts (inr w) = of_product (line_product t i e refl refl w) small

    go : (b : Bool) {few many : ℕ} → few ≡ cond b (smaller_of (cell_of t i 3) i) (smaller_of (cell_of t i 2) i)
        → many ≡ cond b (smaller_of (cell_of t i 2) i) (smaller_of (cell_of t i 3) i) → (type_nodes (type_of t (smaller_of (cell_of t i 2) i)) ≤ max_nodes) ×
        (type_nodes (type_of t (smaller_of (cell_of t i 3) i)) ≤ max_nodes)
        → (type_nodes (type_of t few) ≤ max_nodes) × (type_nodes (type_of t many) ≤ max_nodes)
    go true f m p = (subst (λ l. type_nodes (type_of t l) ≤ max_nodes) (sym f) p.1, subst (λ l. type_nodes (type_of t l) ≤ max_nodes) (sym m) p.0)
    go false f m p = (subst (λ l. type_nodes (type_of t l) ≤ max_nodes) (sym f) p.0, subst (λ l. type_nodes (type_of t l) ≤ max_nodes) (sym m) p.1)
