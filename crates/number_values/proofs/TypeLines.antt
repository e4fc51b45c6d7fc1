-- The T lines of a table: what is neither sum nor product; and in a table that holds a file, the type of line i, or none.
use Prim.Native.Nat.{ℕ, ◌≤◌, ◌<◌}
use native.Mathlib.Omega.{arith}
use mathlib.Core.Path.{◌≡◌, refl, sym, ap, ◌∙◌, subst}
use mathlib.Core.Logic.{◌⊎◌, inl, inr}
use mathlib.Core.Bool.{true, false}
use mathlib.Core.Option.{none, some}
use mathlib.Core.List.{List}
use lib.Dec.{eqb}
use lib.ListN.{get_elem?}
use Rattle.limits.specs.Limits.{max_nodes}
use Rattle.calculus.specs.Trees.{Ty, tunit, tlist, type_nodes}
use Rattle.format.specs.Lines.{Row}
use Rattle.law_ranking.specs.Numbering.{types_of}
use Rattle.model.proofs.Sizes.{types_small}
use Rattle.calculus.proofs.Basic.{bool_cases, eqb_eq, eqb_false}
use Rattle.table_trees.specs.Unfolding.{cell_of, type_of}
use Rattle.table_trees.proofs.Lines.{line_list, line_other}
use Rattle.table_walks.specs.Walk.{FileIn}
use Rattle.table_walks.proofs.Rows.{get_row, past_row}

-- neither a sum nor a product: a list, or a unit
pub line_rest : (P : Ty → Type 0) (t : List ℕ) (i : ℕ) {k : ℕ} → k ≡ cell_of t i 1 → (k ≡ 1 → ⊥) → (k ≡ 2 → ⊥) → P tunit → ((a : Ty) → P (tlist a)) → P (type_of t i)
line_rest P t i {k} e n m u l = go (bool_cases (eqb k 3))
  where
    go : (eqb k 3 ≡ true) ⊎ (eqb k 3 ≡ false) → P (type_of t i)
    go (inl y) = subst P (sym (line_list t i e refl (eqb_eq k 3 y))) (l _)
    go (inr y) = subst P (sym (line_other t i e n m (eqb_false y))) u

module _ {t : List ℕ} {types patterns lines : ℕ} {rs : List Row} (f : FileIn t types patterns lines rs) (i : ℕ) where
  pub absent : types ≤ i → get_elem? (types_of rs) i ≡ none
  unfolding types_of
  absent h = past_row (types_of rs) i (omega (arith, f.type_count))

  pub there : i < types → get_elem? (types_of rs) i ≡ some (type_of t i)
  unfolding types_of
  there h = get_row (types_of rs) i tunit (omega (arith, f.type_count)) ∙ ap some (sym (f.type_trees i h))

  -- its nodes
  pub line_small : i < types → type_nodes (type_of t i) ≤ max_nodes
  line_small h = subst (λ a. type_nodes a ≤ max_nodes) (sym (f.type_trees i h)) (types_small f.passes i)
