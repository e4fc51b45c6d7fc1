-- Whether a P line is plain, by its kind and the lines that it names.
use Prim.Native.Nat.{ℕ, ◌+◌}
use mathlib.Core.Path.{◌≡◌, refl, sym, ap, ◌∙◌}
use mathlib.Core.Bool.{Bool, true, false, ◌&&◌}
use mathlib.Core.List.{List}
use Rattle.calculus.specs.Trees.{Pat}
use Rattle.format.specs.Judge.{pattern_node}
use Rattle.calculus.specs.Clauses.{plain}
use Rattle.table_trees.specs.Unfolding.{cell_of, smaller_of, pattern_of}
use Rattle.table_trees.proofs.Cases.{Injects, lefts, rights, Plain}
use Rattle.table_trees.proofs.Unfolding.{opened}

-- ---- a node, by its kind

plain_leaf : {k : ℕ} (n : ℕ) (p q : Pat) → Plain k → true ≡ plain (pattern_node k n p q)
plain_leaf n p q Plain.unit = refl
plain_leaf n p q Plain.var = refl
plain_leaf n p q (Plain.other k) = refl

plain_empty : {k : ℕ} (n : ℕ) (p q : Pat) → k ≡ 5 → false ≡ plain (pattern_node k n p q)
plain_empty n p q e = sym (ap (λ k. plain (pattern_node k n p q)) e)

plain_element : {k : ℕ} (n : ℕ) (p q : Pat) → k ≡ 6 → false ≡ plain (pattern_node k n p q)
plain_element n p q e = sym (ap (λ k. plain (pattern_node k n p q)) e)

plain_tag : {k : ℕ} (n : ℕ) (p q : Pat) → Injects k → false ≡ plain (pattern_node k n p q)
plain_tag n p q lefts = refl
plain_tag n p q rights = refl

plain_pair : {k : ℕ} (n : ℕ) (p q : Pat) → k ≡ 4 → (plain p && plain q) ≡ plain (pattern_node k n p q)
plain_pair n p q e = sym (ap (λ k. plain (pattern_node k n p q)) e)

-- ---- a line of kind k

module _ (t : List ℕ) (base p : ℕ) {k : ℕ} (e : k ≡ cell_of t (base + p) 1) where
  pub plain_no_list : k ≡ 5 → false ≡ plain (pattern_of t base p)
  plain_no_list h = plain_empty _ _ _ h ∙ ap plain (opened t base p e)

  pub plain_no_element : k ≡ 6 → false ≡ plain (pattern_of t base p)
  plain_no_element h = plain_element _ _ _ h ∙ ap plain (opened t base p e)

  pub plain_end : Plain k → true ≡ plain (pattern_of t base p)
  plain_end h = plain_leaf _ _ _ h ∙ ap plain (opened t base p e)

  pub plain_not : Injects k → false ≡ plain (pattern_of t base p)
  plain_not h = plain_tag _ _ _ h ∙ ap plain (opened t base p e)

  -- a pair: what the first part says, and then the second
  plain_parts : {a : ℕ} {f : Bool} → k ≡ 4 → a ≡ smaller_of (cell_of t (base + p) 2) p → f ≡ plain (pattern_of t base a)
      → (f && plain (pattern_of t base (smaller_of (cell_of t (base + p) 3) p))) ≡ plain (pattern_of t base p)
  plain_parts h s i =
      ap (λ x. x && plain (pattern_of t base (smaller_of (cell_of t (base + p) 3) p))) (i ∙ ap (λ x. plain (pattern_of t base x)) s)
      ∙ plain_pair _ _ _ h
      ∙ ap plain (opened t base p e)

  pub plain_first : {a : ℕ} {f : Bool} → k ≡ 4 → a ≡ smaller_of (cell_of t (base + p) 2) p → f ≡ plain (pattern_of t base a) → f ≡ false → false ≡ plain (pattern_of t base p)
  plain_first h s i z = sym (ap (λ x. x && plain (pattern_of t base (smaller_of (cell_of t (base + p) 3) p))) z) ∙ plain_parts h s i

  pub plain_second : {a b : ℕ} {f r : Bool} → k ≡ 4 → a ≡ smaller_of (cell_of t (base + p) 2) p → f ≡ plain (pattern_of t base a) → f ≡ true
      → b ≡ smaller_of (cell_of t (base + p) 3) p → r ≡ plain (pattern_of t base b) → r ≡ plain (pattern_of t base p)
  plain_second h s i z u j =
      j
      ∙ ap (λ x. plain (pattern_of t base x)) u
      ∙ sym (ap (λ x. x && plain (pattern_of t base (smaller_of (cell_of t (base + p) 3) p))) z)
      ∙ plain_parts h s i
