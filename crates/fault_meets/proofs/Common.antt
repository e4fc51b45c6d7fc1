-- The least value of two patterns, written.
use Prim.Native.Nat.{ℕ, zero, suc, ◌+◌, ◌≤◌}
use native.Mathlib.Omega.{arith}
use mathlib.Core.Path.{◌≡◌, refl, sym, ap, ap₂, ◌∙◌, subst}
use mathlib.Core.Option.{some}
use mathlib.Core.List.{List, [], ◌∷◌}
use Rattle.limits.specs.Limits.{max_nodes}
use Rattle.calculus.specs.Tools.{◌>>=◌}
use Rattle.calculus.specs.Trees.{Ty, Leaf, unit_leaf, empty_leaf, Tag, left, right, Node, pair_node, element_node, Pat, pvar, pleaf, pinj, pnode, type_nodes}
use Rattle.calculus.specs.Letters.{leaf_letter, letter_of, node_letter, letters}
use Rattle.format.specs.Judge.{pattern_node}
use Rattle.calculus.specs.Shapes.{Shape}
use Rattle.law_witnesses.specs.Seeking.{least_in, meet}
use Rattle.calculus.proofs.Basic.{bind_some, none≢some, some_inj}
use Rattle.area_cells.specs.Areas.{Prints}
use Rattle.area_cells.proofs.Writing.{prints_both}
use Rattle.fault_tallies.specs.Tallies.{part_of}
use Rattle.table_trees.specs.Unfolding.{cell_of, smaller_of, pattern_of}
use Rattle.table_trees.proofs.Unfolding.{pattern_node_lem}
use Rattle.fault_meets.specs.Spelled.{SpellsIn, SpellsBoth}

module _ {x z : Pat} {a : Ty} {l : List ℕ} {at : ℕ} where
  pub both_var : {l' : List ℕ} {n end : ℕ} → x ≡ pvar n → SpellsIn z a l l' at end → SpellsBoth x z a l l' at end
  both_var {l'} {end = end} e w =
      subst (λ u. SpellsBoth u z a l l' at end) (sym e) (record { by = λ r s s' q h. subst (λ u. Prints l l' at end (letters (least_in u a))) (some_inj q) (w.by s' h) })

  -- the other is a variable; k is the kind of the first, which is none
  pub both_any : {l' : List ℕ} (k n : ℕ) (c d : Pat) {m end : ℕ} → x ≡ pattern_node k n c d → (k ≡ 1 → ⊥) → z ≡ pvar m → SpellsIn x a l l' at end → SpellsBoth x z a l l' at end
  both_any {l'} k n c d {m} {end} e v f w =
      subst (λ u. SpellsBoth x u a l l' at end) (sym f)
      (record { by = λ r s s' q h. subst (λ u. Prints l l' at end (letters (least_in u a))) (some_inj (sym (ap (λ u. meet u (pvar m)) e ∙ go k v ∙ ap some (sym e)) ∙ q)) (w.by s h) })
    where
      go : (k : ℕ) → (k ≡ 1 → ⊥) → meet (pattern_node k n c d) (pvar m) ≡ some (pattern_node k n c d)
      go zero v = refl
      go (suc zero) v = absurd (v refl)
      go (suc (suc zero)) v = refl
      go (suc (suc (suc zero))) v = refl
      go (suc (suc (suc (suc zero)))) v = refl
      go (suc (suc (suc (suc (suc zero))))) v = refl
      go (suc (suc (suc (suc (suc (suc zero)))))) v = refl
      go (suc (suc (suc (suc (suc (suc (suc k))))))) v = refl

  pub both_leaf : {l' : List ℕ} {b end : ℕ} (k : Leaf) → x ≡ pleaf k → b ≡ leaf_letter k → Prints l l' at end (b ∷ []) → SpellsBoth x z a l l' at end
  both_leaf {l'} {end = end} k e f w =
      subst (λ u. SpellsBoth u z a l l' at end) (sym e)
      (record { by = λ r s s' q h. subst (λ u. Prints l l' at end (letters (least_in u a))) (go k z q) (subst (λ b. Prints l l' at end (b ∷ [])) f w) })
    where
      go : {r : Pat} (k : Leaf) (z : Pat) → meet (pleaf k) z ≡ some r → pleaf k ≡ r
      go k (pvar m) q = some_inj q
      go unit_leaf (pleaf unit_leaf) q = some_inj q
      go unit_leaf (pleaf empty_leaf) q = absurd (none≢some q)
      go empty_leaf (pleaf unit_leaf) q = absurd (none≢some q)
      go empty_leaf (pleaf empty_leaf) q = some_inj q
      go k (pinj t u) q = absurd (none≢some q)
      go k (pnode m u u') q = absurd (none≢some q)

module _ {x z : Pat} {a : Ty} {l l₁ : List ℕ} {at b next : ℕ} (k n : ℕ) (c d : Pat) {y : Pat} (f : z ≡ pattern_node k n c d) (v : k ≡ 1 → ⊥)
    (w : Prints l l₁ at next (b ∷ [])) where
  pub both_tag : (s : Tag) {o : Ty} {l₂ : List ℕ} {end : ℕ} → x ≡ pinj s y → b ≡ letter_of s → o ≡ part_of s a → SpellsBoth y c o l₁ l₂ next end
      → SpellsBoth x z a l l₂ at end
  both_tag s {o} {l₂} {end} e p g j =
      subst (λ u. SpellsBoth u z a l l₂ at end) (sym e) (subst (λ u. SpellsBoth (pinj s y) u a l l₂ at end) (sym f)
      (record { by = λ r sh sh' q h. go s k v sh sh' q h (subst (λ u. SpellsBoth y c u l₁ l₂ next end) g j) (subst (λ u. Prints l l₁ at next (u ∷ [])) p w) }))
    where
      go : {r : Pat} {t : Ty} (s : Tag) (k : ℕ) → (k ≡ 1 → ⊥) → Shape (pinj s y) t → Shape (pattern_node k n c d) t → meet (pinj s y) (pattern_node k n c d) ≡ some r
          → type_nodes t ≤ max_nodes → SpellsBoth y c (part_of s t) l₁ l₂ next end → Prints l l₁ at next (letter_of s ∷ []) → Prints l l₂ at end (letters (least_in r t))
      go left zero v s s' q h i o = absurd (none≢some q)
      go left (suc zero) v s s' q h i o = absurd (v refl)
      go {t = t} left (suc (suc zero)) v (Shape.inj s) (Shape.inj s') q h i o =
          let m = bind_some (meet y c) (λ u. some (pinj left u)) q in
          subst (λ u. Prints l l₂ at end (letters (least_in u t))) (some_inj m.2) (prints_both o (i.by m.0 s s' m.1 (omega arith)))
      go left (suc (suc (suc zero))) v s s' q h i o = absurd (none≢some q)
      go left (suc (suc (suc (suc zero)))) v s s' q h i o = absurd (none≢some q)
      go left (suc (suc (suc (suc (suc zero))))) v s s' q h i o = absurd (none≢some q)
      go left (suc (suc (suc (suc (suc (suc zero)))))) v s s' q h i o = absurd (none≢some q)
      go left (suc (suc (suc (suc (suc (suc (suc k))))))) v s s' q h i o = absurd (none≢some q)
      go right zero v s s' q h i o = absurd (none≢some q)
      go right (suc zero) v s s' q h i o = absurd (v refl)
      go right (suc (suc zero)) v s s' q h i o = absurd (none≢some q)
      go {t = t} right (suc (suc (suc zero))) v (Shape.inj s) (Shape.inj s') q h i o =
          let m = bind_some (meet y c) (λ u. some (pinj right u)) q in
          subst (λ u. Prints l l₂ at end (letters (least_in u t))) (some_inj m.2) (prints_both o (i.by m.0 s s' m.1 (omega arith)))
      go right (suc (suc (suc (suc zero)))) v s s' q h i o = absurd (none≢some q)
      go right (suc (suc (suc (suc (suc zero))))) v s s' q h i o = absurd (none≢some q)
      go right (suc (suc (suc (suc (suc (suc zero)))))) v s s' q h i o = absurd (none≢some q)
      go right (suc (suc (suc (suc (suc (suc (suc k))))))) v s s' q h i o = absurd (none≢some q)

  pub both_node : (m : Node) {y' : Pat} {o o' : Ty} {l₂ l₃ : List ℕ} {middle end : ℕ} → x ≡ pnode m y y' → b ≡ node_letter m → o ≡ part_of left a → o' ≡ part_of right a
      → SpellsBoth y c o l₁ l₂ next middle → SpellsBoth y' d o' l₂ l₃ middle end → SpellsBoth x z a l l₃ at end
  both_node m {y'} {o} {o'} {l₂} {l₃} {middle} {end} e p g g' j j' =
      subst (λ u. SpellsBoth u z a l l₃ at end) (sym e) (subst (λ u. SpellsBoth (pnode m y y') u a l l₃ at end) (sym f)
      (record {
        by = λ r sh sh' q h. go m k v sh sh' q h (subst (λ u. SpellsBoth y c u l₁ l₂ next middle) g j) (subst (λ u. SpellsBoth y' d u l₂ l₃ middle end) g' j')
            (subst (λ u. Prints l l₁ at next (u ∷ [])) p w);
      }))
    where
      go : {r : Pat} {t : Ty} (m : Node) (k : ℕ) → (k ≡ 1 → ⊥) → Shape (pnode m y y') t → Shape (pattern_node k n c d) t
          → meet (pnode m y y') (pattern_node k n c d) ≡ some r → type_nodes t ≤ max_nodes → SpellsBoth y c (part_of left t) l₁ l₂ next middle
          → SpellsBoth y' d (part_of right t) l₂ l₃ middle end → Prints l l₁ at next (node_letter m ∷ []) → Prints l l₃ at end (letters (least_in r t))
      go pair_node zero v s s' q h i j o = absurd (none≢some q)
      go pair_node (suc zero) v s s' q h i j o = absurd (v refl)
      go pair_node (suc (suc zero)) v s s' q h i j o = absurd (none≢some q)
      go pair_node (suc (suc (suc zero))) v s s' q h i j o = absurd (none≢some q)
      go {t = t} pair_node (suc (suc (suc (suc zero)))) v (Shape.pair s u) (Shape.pair s' u') q h i j o =
          let m = bind_some (meet y c) (λ r. meet y' d >>= λ r'. some (pnode pair_node r r')) q in
          let m' = bind_some (meet y' d) (λ r'. some (pnode pair_node m.0 r')) m.2 in
          subst (λ r. Prints l l₃ at end (letters (least_in r t))) (some_inj m'.2)
          (prints_both o (prints_both (i.by m.0 s s' m.1 (omega arith)) (j.by m'.0 u u' m'.1 (omega arith))))
      go pair_node (suc (suc (suc (suc (suc zero))))) v s s' q h i j o = absurd (none≢some q)
      go pair_node (suc (suc (suc (suc (suc (suc zero)))))) v s s' q h i j o = absurd (none≢some q)
      go pair_node (suc (suc (suc (suc (suc (suc (suc k))))))) v s s' q h i j o = absurd (none≢some q)
      go element_node zero v s s' q h i j o = absurd (none≢some q)
      go element_node (suc zero) v s s' q h i j o = absurd (v refl)
      go element_node (suc (suc zero)) v s s' q h i j o = absurd (none≢some q)
      go element_node (suc (suc (suc zero))) v s s' q h i j o = absurd (none≢some q)
      go element_node (suc (suc (suc (suc zero)))) v s s' q h i j o = absurd (none≢some q)
      go element_node (suc (suc (suc (suc (suc zero))))) v s s' q h i j o = absurd (none≢some q)
      go {t = t} element_node (suc (suc (suc (suc (suc (suc zero)))))) v (Shape.cons s u) (Shape.cons s' u') q h i j o =
          let m = bind_some (meet y c) (λ r. meet y' d >>= λ r'. some (pnode element_node r r')) q in
          let m' = bind_some (meet y' d) (λ r'. some (pnode element_node m.0 r')) m.2 in
          subst (λ r. Prints l l₃ at end (letters (least_in r t))) (some_inj m'.2)
          (prints_both o (prints_both (i.by m.0 s s' m.1 (omega arith)) (j.by m'.0 u u' m'.1 h)))
      go element_node (suc (suc (suc (suc (suc (suc (suc k))))))) v s s' q h i j o = absurd (none≢some q)

-- a P line by the lines that it names
pub node_of : (t : List ℕ) (base q : ℕ) {k c d : ℕ} → k ≡ cell_of t (base + q) 1 → c ≡ smaller_of (cell_of t (base + q) 2) q → d ≡ smaller_of (cell_of t (base + q) 3) q
    → pattern_of t base q ≡ pattern_node k (cell_of t (base + q) 2) (pattern_of t base c) (pattern_of t base d)
node_of t base q {k} {c} {d} e f g =
    pattern_node_lem t base q
    ∙ sym (ap (λ j. pattern_node j (cell_of t (base + q) 2) (pattern_of t base c) (pattern_of t base d)) e
    ∙ ap₂ (λ x y. pattern_node (cell_of t (base + q) 1) (cell_of t (base + q) 2) (pattern_of t base x) (pattern_of t base y)) f g)
