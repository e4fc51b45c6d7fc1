-- The states of variables after one more deed, after the variables of a pattern, and once all is walked.
use Prim.Native.Nat.{ℕ, zero, suc, ◌+◌, ◌<◌, ◌≤◌}
use native.Mathlib.Omega.{arith}
use native.Mathlib.Numerals.{add-one}
use mathlib.Core.Path.{◌≡◌, refl, sym, ap, ap₂, ◌∙◌}
use mathlib.Core.Bool.{Bool, true, false, ◌&&◌}
use mathlib.Core.List.{List, [], ◌∷◌, ◌++◌}
use lib.Dec.{eqb}
use lib.ListN.{length, get_or, drop, drop_of_length-le}
use lib.Seq.{set_out, drop-cons}
use borrow.Author.Tests.{eq-eqb, ne_eqb}
use Rattle.calculus.specs.Trees.{Pat, vars}
use Rattle.format.specs.Judge.{pattern_node}
use Rattle.calculus.specs.Clauses.{Deed, binds, uses}
use Rattle.table_trees.specs.Unfolding.{cell_of, smaller_of, pattern_of}
use Rattle.table_trees.proofs.Cases.{Injects, lefts, rights, Joins, pairs, elements, Leaf, unit, var, empty, other}
use Rattle.table_trees.proofs.Unfolding.{pattern_unit, pattern_var, opened}
use Rattle.check_variables.specs.Marks.{deed_view, next_state, mark_one, mark_all, settled_all}

-- ---- one deed

pub bound_again : (b : Bool) (s : ℕ) → b ≡ true → (s ≡ 0 → ⊥) → 2 ≡ next_state (deed_view b) s
bound_again b s e h = go s h ∙ sym (ap (λ x. next_state (deed_view x) s) e)
  where
    go : (s : ℕ) → (s ≡ 0 → ⊥) → 2 ≡ next_state binds s
    go zero h = absurd (h refl)
    go (suc s) h = refl

pub used_again : (b : Bool) (s : ℕ) → b ≡ false → (s ≡ 1 → ⊥) → 2 ≡ next_state (deed_view b) s
used_again b s e h = go s h ∙ sym (ap (λ x. next_state (deed_view x) s) e)
  where
    go : (s : ℕ) → (s ≡ 1 → ⊥) → 2 ≡ next_state uses s
    go zero h = refl
    go (suc zero) h = absurd (h refl)
    go (suc (suc s)) h = refl

-- a number without a slot leaves the states as they are
pub mark_out : (d : Deed) (n : ℕ) (m : List ℕ) → length m ≡ 32 → 32 ≤ n → m ≡ mark_one d n m
mark_out d n m e h = sym (set_out m n (next_state d (get_or m n 0)) (omega arith))

-- ---- the variables of a pattern

pub mark_append : (d : Deed) (xs ys m : List ℕ) → mark_all d (xs ++ ys) m ≡ mark_all d ys (mark_all d xs m)
mark_append d [] ys m = refl
mark_append d (x ∷ xs) ys m = mark_append d xs ys (mark_one d x m)

injected_vars : {k : ℕ} → Injects k → (n : ℕ) (p q : Pat) → vars p ≡ vars (pattern_node k n p q)
injected_vars lefts n p q = refl
injected_vars rights n p q = refl

-- no variable among them
leaf_vars : {k : ℕ} → Leaf k → (k ≡ 1 → ⊥) → (n : ℕ) (p q : Pat) → [] ≡ vars (pattern_node k n p q)
leaf_vars unit h n p q = refl
leaf_vars var h n p q = absurd (h refl)
leaf_vars empty h n p q = refl
leaf_vars (other k) h n p q = refl

joined_vars : {k : ℕ} → Joins k → (n : ℕ) (p q : Pat) → (vars p ++ vars q) ≡ vars (pattern_node k n p q)
joined_vars pairs n p q = refl
joined_vars elements n p q = refl

module _ (t : List ℕ) (base p : ℕ) (d : Deed) (m : List ℕ) {k : ℕ} (e : k ≡ cell_of t (base + p) 1) where
  pub mark_unit : k ≡ 0 → m ≡ mark_all d (vars (pattern_of t base p)) m
  mark_unit z = sym (ap (λ x. mark_all d (vars x) m) (pattern_unit t base p (sym e ∙ z)))

  pub mark_leaf : Leaf k → (k ≡ 1 → ⊥) → m ≡ mark_all d (vars (pattern_of t base p)) m
  mark_leaf h l = ap (λ x. mark_all d x m) (leaf_vars h l _ _ _ ∙ ap vars (opened t base p e))

  pub mark_var : {n : ℕ} {r : List ℕ} → k ≡ 1 → n ≡ cell_of t (base + p) 2 → r ≡ mark_one d n m → r ≡ mark_all d (vars (pattern_of t base p)) m
  mark_var z i s = s ∙ ap (λ x. mark_one d x m) i ∙ sym (ap (λ x. mark_all d (vars x) m) (pattern_var t base p (sym e ∙ z)))

  pub mark_injected : {a : ℕ} {r : List ℕ} → Injects k → a ≡ smaller_of (cell_of t (base + p) 2) p
      → r ≡ mark_all d (vars (pattern_of t base a)) m → r ≡ mark_all d (vars (pattern_of t base p)) m
  mark_injected h s i =
      i ∙ ap (λ x. mark_all d x m) (ap (λ x. vars (pattern_of t base x)) s ∙ injected_vars h _ _ _ ∙ ap vars (opened t base p e))

  pub mark_pair : {a b : ℕ} {f r : List ℕ} → Joins k → a ≡ smaller_of (cell_of t (base + p) 2) p → f ≡ mark_all d (vars (pattern_of t base a)) m
      → b ≡ smaller_of (cell_of t (base + p) 3) p → r ≡ mark_all d (vars (pattern_of t base b)) f → r ≡ mark_all d (vars (pattern_of t base p)) m
  mark_pair {a} {b} h s i u j =
      j
      ∙ ap (λ x. mark_all d (vars (pattern_of t base b)) x) i
      ∙ sym (mark_append d (vars (pattern_of t base a)) (vars (pattern_of t base b)) m)
      ∙ ap₂ (λ x y. mark_all d (vars (pattern_of t base x) ++ vars (pattern_of t base y)) m) s u
      ∙ ap (λ x. mark_all d x m) (joined_vars h _ _ _ ∙ ap vars (opened t base p e))

-- ---- once all is walked

-- what a loop over the numbers knows after i of them: all were 0
pub record Walked (i : ℕ) (m : List ℕ) : Type 0 where
  pub within : i ≤ 32
  pub rest : settled_all m ≡ settled_all (drop i m)

pub walked_start : (m : List ℕ) → Walked 0 m
walked_start m = record { within = omega arith; rest = refl }

module _ (i : ℕ) (m : List ℕ) (full : length m ≡ 32) (w : Walked i m) where
  opens : i < 32 → settled_all m ≡ (eqb (get_or m i 0) 0 && settled_all (drop (suc i) m))
  opens l = w.rest ∙ ap settled_all (drop-cons m i 0 (omega arith))

  pub walked_next : i < 32 → get_or m i 0 ≡ 0 → Walked (i + 1) m
  walked_next l e = record {
    within = omega arith;
    rest = opens l ∙ ap (λ b. b && settled_all (drop (suc i) m)) (eq-eqb _ 0 e) ∙ sym (ap (λ n. settled_all (drop n m)) (add-one i));
  }

  pub walked_wrong : i < 32 → (get_or m i 0 ≡ 0 → ⊥) → false ≡ settled_all m
  walked_wrong l e = sym (opens l ∙ ap (λ b. b && settled_all (drop (suc i) m)) (ne_eqb _ 0 e))

  pub walked_all : 32 ≤ i → true ≡ settled_all m
  walked_all l = let over : length m ≤ i = omega arith in sym (w.rest ∙ ap settled_all (drop_of_length-le m over))
