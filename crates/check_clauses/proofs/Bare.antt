-- A pattern is plain exactly where nothing in it counts as a tag.
use Prim.Native.Nat.{ℕ, ◌+◌, min}
use native.Mathlib.Nat.{zero-add}
use native.Mathlib.Omega.{arith}
use mathlib.Core.Path.{◌≡◌, refl, sym, ap, ap₂, ◌∙◌}
use mathlib.Core.Bool.{Bool, true, false, ◌&&◌}
use lib.Dec.{eqb}
use borrow.Author.Tests.{eqb-true, eqb-false, eq-eqb, ne_eqb}
use Rattle.limits.specs.Limits.{many_tags}
use Rattle.calculus.specs.Trees.{Pat, pvar, pleaf, pinj, pnode, unit_leaf, empty_leaf, pair_node, element_node, tags}
use Rattle.calculus.specs.Clauses.{plain}

both_none : (m n : ℕ) → (eqb (min many_tags m) 0 && eqb (min many_tags n) 0) ≡ eqb (min many_tags (m + n)) 0
both_none m n = go (eqb (min many_tags m) 0) (eqb (min many_tags n) 0) refl refl
  where
    go : (x y : Bool) → eqb (min many_tags m) 0 ≡ x → eqb (min many_tags n) 0 ≡ y → (x && y) ≡ eqb (min many_tags (m + n)) 0
    go true true p q = let a = eqb-true (min many_tags m) 0 p in let b = eqb-true (min many_tags n) 0 q in sym (eq-eqb (min many_tags (m + n)) 0 (omega arith))
    go true false p q = let b = eqb-false (min many_tags n) 0 q in sym (ne_eqb (min many_tags (m + n)) 0 (λ e. b (omega arith)))
    go false y p q = let a = eqb-false (min many_tags m) 0 p in sym (ne_eqb (min many_tags (m + n)) 0 (λ e. a (omega arith)))

pub plain_tags : (p : Pat) → plain p ≡ eqb (min many_tags (tags p)) 0
plain_tags (pleaf unit_leaf) = refl
plain_tags (pleaf empty_leaf) = refl
plain_tags (pvar n) = refl
plain_tags (pinj t p) = sym (ne_eqb (min many_tags (1 + tags p)) 0 (λ e. omega arith))
plain_tags (pnode pair_node p q) =
    ap₂ (λ x y. x && y) (plain_tags p) (plain_tags q) ∙ both_none (tags p) (tags q) ∙ ap (λ n. eqb (min many_tags n) 0) (sym (zero-add (tags p + tags q)))
plain_tags (pnode element_node p q) = sym (ne_eqb (min many_tags (1 + (tags p + tags q))) 0 (λ e. omega arith))

pub plain_told : (p : Pat) {v : ℕ} → v ≡ min many_tags (tags p) → eqb v 0 ≡ plain p
plain_told p e = ap (λ x. eqb x 0) e ∙ sym (plain_tags p)
