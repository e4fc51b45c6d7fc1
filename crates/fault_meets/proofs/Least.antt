-- The least value of a type: its length, and its letters written.
use Prim.Native.Nat.{ℕ, ◌+◌, ◌<◌, ◌≤◌, min}
use native.Mathlib.Omega.{arith}
use mathlib.Core.Path.{◌≡◌, refl, sym, ap, ◌∙◌, subst}
use mathlib.Core.Logic.{⊎_elim}
use mathlib.Core.Bool.{Bool, true, false, cond}
use mathlib.Core.List.{List, [], ◌∷◌}
use lib.Dec.{leb}
use lib.ListN.{length, length-append}
use Rattle.limits.specs.Limits.{max_nodes}
use Rattle.calculus.specs.Trees.{Ty, tunit, tlist, tsum, tprod, left, right, vinj, type_nodes}
use Rattle.calculus.specs.Letters.{letters}
use Rattle.law_witnesses.specs.Seeking.{least}
use Rattle.calculus.proofs.Basic.{leb_le, leb_false, le_leb, not_leb}
use Rattle.area_cells.specs.Areas.{Prints}
use Rattle.area_cells.proofs.Writing.{prints_both, prints_as}
use Rattle.table_trees.specs.Unfolding.{cell_of, type_of}
use Rattle.table_trees.proofs.Lines.{line_list, line_other}
use Rattle.fault_tallies.proofs.Patterns.{eq_or_ne}
use Rattle.fault_meets.specs.Spelled.{SpellsLeast}

abbrev pub size : Ty → ℕ
size a = length (letters (least a))

size_sum : (x y : Ty) → size (tsum x y) ≡ 1 + min (size x) (size y)
size_sum x y = go (leb (size x) (size y)) refl
  where
    go : (b : Bool) → leb (size x) (size y) ≡ b → length (letters (cond b (vinj left (least x)) (vinj right (least y)))) ≡ 1 + min (size x) (size y)
    go true e = let l = leb_le (size x) (size y) e in omega arith
    go false e = let l = leb_false (size x) (size y) e in omega arith

size_pair : (x y : Ty) → size (tprod x y) ≡ 1 + size x + size y
size_pair x y = let e = length-append (letters (least x)) (letters (least y)) in omega arith

-- the least value of a type has at most as many letters as the type has nodes
size_small : (a : Ty) → size a ≤ type_nodes a
size_small tunit = omega arith
size_small (tlist a) = omega arith
size_small (tsum x y) = let h = size_small x in let k = size_small y in let e = size_sum x y in omega arith
size_small (tprod x y) = let h = size_small x in let k = size_small y in let e = size_pair x y in omega arith

-- a unit, or a list
pub length_leaf : (t : List ℕ) (i : ℕ) {k : ℕ} → k ≡ cell_of t i 1 → (k ≡ 1 → ⊥) → (k ≡ 2 → ⊥) → 1 ≡ min 128 (size (type_of t i))
length_leaf t i {k} e s p =
    ⊎_elim (λ z. sym (ap (λ b. min 128 (size b)) (line_list t i e refl z))) (λ l. sym (ap (λ b. min 128 (size b)) (line_other t i e s p l))) (eq_or_ne k 3)

pub length_sum : {a x y : Ty} {m n k r : ℕ} → a ≡ tsum x y → m ≡ min 128 (size x) → n ≡ min 128 (size y) → k ≡ min m n → r ≡ min 128 (1 + k + 0) → r ≡ min 128 (size a)
length_sum {a} {x} {y} e p q h c = let s = size_sum x y in capped (size x) (size y) p q h c ∙ ap (min 128) (sym s) ∙ sym (ap (λ z. min 128 (size z)) e)
  where
    capped : {m n k r : ℕ} (u v : ℕ) → m ≡ min 128 u → n ≡ min 128 v → k ≡ min m n → r ≡ min 128 (1 + k + 0) → r ≡ min 128 (1 + min u v)
    capped u v p q h c = omega arith

pub length_pair : {a x y : Ty} {m n r : ℕ} → a ≡ tprod x y → m ≡ min 128 (size x) → n ≡ min 128 (size y) → r ≡ min 128 (1 + m + n) → r ≡ min 128 (size a)
length_pair {a} {x} {y} e p q c = let s = size_pair x y in capped (size x) (size y) p q c ∙ ap (min 128) (sym s) ∙ sym (ap (λ z. min 128 (size z)) e)
  where
    capped : {m n r : ℕ} (u v : ℕ) → m ≡ min 128 u → n ≡ min 128 v → r ≡ min 128 (1 + m + n) → r ≡ min 128 (1 + u + v)
    capped u v p q c = omega arith

-- ---- the letters

pub spells_unit : {a : Ty} {l l' : List ℕ} {at end : ℕ} → a ≡ tunit → Prints l l' at end (85 ∷ []) → SpellsLeast a l l' at end
spells_unit {l = l} {l' = l'} {at = at} {end = end} e w = subst (λ z. SpellsLeast z l l' at end) (sym e) (record { by = λ h. w })

pub spells_list : {a x : Ty} {l l' : List ℕ} {at end : ℕ} → a ≡ tlist x → Prints l l' at end (78 ∷ []) → SpellsLeast a l l' at end
spells_list {l = l} {l' = l'} {at = at} {end = end} e w = subst (λ z. SpellsLeast z l l' at end) (sym e) (record { by = λ h. w })

module _ {a x y : Ty} {l l₁ l₂ : List ℕ} {at next end : ℕ} where
  pub spells_left : {m n : ℕ} → a ≡ tsum x y → m ≡ min 128 (size x) → n ≡ min 128 (size y) → m ≤ n → Prints l l₁ at next (76 ∷ []) → SpellsLeast x l₁ l₂ next end → SpellsLeast a l l₂ at end
  spells_left {m} {n} e p q h w s = subst (λ z. SpellsLeast z l l₂ at end) (sym e) (record {
    by = λ k.
        let sx = size_small x in
        let sy = size_small y in
        let t : leb (size x) (size y) ≡ true = le_leb (test k sx sy) in
        prints_as (ap (λ b. letters (cond b (vinj left (least x)) (vinj right (least y)))) (sym t)) (prints_both w (s.by (part k)));
  })
    where
      test : type_nodes (tsum x y) ≤ max_nodes → size x ≤ type_nodes x → size y ≤ type_nodes y → size x ≤ size y
      test k u v = omega arith

      part : type_nodes (tsum x y) ≤ max_nodes → type_nodes x ≤ max_nodes
      part k = omega arith

  pub spells_right : {m n : ℕ} → a ≡ tsum x y → m ≡ min 128 (size x) → n ≡ min 128 (size y) → n < m → Prints l l₁ at next (82 ∷ []) → SpellsLeast y l₁ l₂ next end → SpellsLeast a l l₂ at end
  spells_right {m} {n} e p q h w s = subst (λ z. SpellsLeast z l l₂ at end) (sym e) (record {
    by = λ k.
        let sx = size_small x in
        let sy = size_small y in
        let t : leb (size x) (size y) ≡ false = not_leb (test k sx sy) in
        prints_as (ap (λ b. letters (cond b (vinj left (least x)) (vinj right (least y)))) (sym t)) (prints_both w (s.by (part k)));
  })
    where
      test : type_nodes (tsum x y) ≤ max_nodes → size x ≤ type_nodes x → size y ≤ type_nodes y → size y < size x
      test k u v = omega arith

      part : type_nodes (tsum x y) ≤ max_nodes → type_nodes y ≤ max_nodes
      part k = omega arith

  pub spells_pair : {l₃ : List ℕ} {last : ℕ} → a ≡ tprod x y → Prints l l₁ at next (80 ∷ []) → SpellsLeast x l₁ l₂ next end → SpellsLeast y l₂ l₃ end last → SpellsLeast a l l₃ at last
  spells_pair {l₃} {last} e w s u = subst (λ z. SpellsLeast z l l₃ at last) (sym e) (record { by = λ k. prints_both w (prints_both (s.by (first k)) (u.by (second k))) })
    where
      first : type_nodes (tprod x y) ≤ max_nodes → type_nodes x ≤ max_nodes
      first k = omega arith

      second : type_nodes (tprod x y) ≤ max_nodes → type_nodes y ≤ max_nodes
      second k = omega arith
