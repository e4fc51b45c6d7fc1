-- Two P lines of a file in the table: 15 where one is absent, else what comparing them gives.
use Prim.Native.Nat.{ℕ, ◌%◌, ◌^◌, ◌≤◌, ◌<◌}
use native.Mathlib.Nat.{mod-eq_of_lt}
use native.Mathlib.Omega.{arith}
use mathlib.Core.Path.{◌≡◌, refl, sym, ap, ap₂, ◌∙◌, subst}
use mathlib.Core.Bool.{Bool, false}
use mathlib.Core.Option.{Option, none, some}
use mathlib.Core.List.{List}
use lib.ListN.{get_elem?}
use Rattle.limits.specs.Limits.{max_nodes, budget_bound}
use Rattle.calculus.specs.Trees.{Pat, pleaf, unit_leaf, nodes}
use Rattle.calculus.specs.Refusals.{no_iso}
use Rattle.format.specs.Lines.{Row}
use Rattle.model.specs.Services.{accepted, gives, fails, refusal_of}
use Rattle.format.specs.Code.{refusal_view}
use Rattle.table_trees.specs.Unfolding.{pattern_of}
use Rattle.table_walks.specs.Walk.{FileIn}
use Rattle.table_walks.proofs.Rows.{get_row, past_row}
use Rattle.check_overlap.specs.Comparison.{compare}
use Rattle.check_overlap.specs.Overlap.{patterns_of, on_patterns, overlap_on, clash_of, pairs_of}
use Rattle.check_overlap.proofs.Comparing.{compare_most}
use Rattle.check_overlap.proofs.Overlapping.{patterns_small}
use Rattle.overlaps.specs.OverlapSays.{OverlapAs}
use Rattle.overlaps.specs.declared.Overlapped as O

-- a number of few bits
within : (m : ℕ) → m ≤ max_nodes → m % 2 ^ 63 % budget_bound ≡ m
within m h =
    let low : m < 2 ^ 63 = omega arith in
    let lower : m < budget_bound = omega arith in
    ap (λ k. k % budget_bound) (mod-eq_of_lt low) ∙ mod-eq_of_lt lower

module _ (t : List ℕ) (types patterns i j : ℕ) (r : O.Overlapped) where
  module _ (lines : ℕ) (rs : List Row) (f : FileIn t types patterns lines rs) where
    absent : (k : ℕ) → patterns ≤ k → get_elem? (patterns_of rs) k ≡ none
    unfolding patterns_of
    absent k h = past_row (patterns_of rs) k (omega (arith, f.pattern_count))

    there : (k : ℕ) → k < patterns → get_elem? (patterns_of rs) k ≡ some (pattern_of t types k)
    unfolding patterns_of
    there k h = get_row (patterns_of rs) k (pleaf unit_leaf) (omega (arith, f.pattern_count)) ∙ ap some (sym (f.pattern_trees k h))

    small : (k : ℕ) → k < patterns → nodes (pattern_of t types k) ≤ max_nodes
    small k h = subst (λ p. nodes p ≤ max_nodes) (sym (f.pattern_trees k h)) (patterns_small f.passes k)

    as_fault : overlap_on (accepted rs) i j ≡ fails no_iso → refusal_view r.answer.refusal ≡ some no_iso → r.answer.place ≡ 0 → r.clash ≡ false → r.pairs ≡ 0
        → OverlapAs (overlap_on (accepted rs) i j) r
    as_fault o e n c p =
        record { refusal = e ∙ sym (ap refusal_of o); line = n; clash = c ∙ sym (ap clash_of o); pairs = p ∙ sym (ap pairs_of o) }

  no_right : (p : Option Pat) → on_patterns p none ≡ fails no_iso
  no_right none = refl
  no_right (some p) = refl

  -- 15
  module _ (e : refusal_view r.answer.refusal ≡ some no_iso) (n : r.answer.place ≡ 0) (c : r.clash ≡ false) (p : r.pairs ≡ 0) where
    pub left_absent : patterns ≤ i → (lines : ℕ) (rs : List Row) → FileIn t types patterns lines rs → OverlapAs (overlap_on (accepted rs) i j) r
    left_absent h lines rs f = as_fault lines rs f (ap (λ x. on_patterns x (get_elem? (patterns_of rs) j)) (absent lines rs f i h)) e n c p

    pub right_absent : patterns ≤ j → (lines : ℕ) (rs : List Row) → FileIn t types patterns lines rs → OverlapAs (overlap_on (accepted rs) i j) r
    right_absent h lines rs f =
        as_fault lines rs f
        (ap (on_patterns (get_elem? (patterns_of rs) i)) (absent lines rs f j h) ∙ no_right (get_elem? (patterns_of rs) i)) e n c p

  -- both are there
  pub both_there : i < patterns → j < patterns → {clash : Bool} {pairs : ℕ}
      → (clash ≡ (compare (pattern_of t types i) (pattern_of t types j)).clash) × (pairs ≡ (compare (pattern_of t types i) (pattern_of t types j)).pairs % 2 ^ 63)
      → refusal_view r.answer.refusal ≡ none → r.answer.place ≡ 0 → r.clash ≡ clash → r.pairs ≡ pairs % budget_bound
      → (lines : ℕ) (rs : List Row) → FileIn t types patterns lines rs → OverlapAs (overlap_on (accepted rs) i j) r
  both_there h l told e n c p lines rs f =
      let o : overlap_on (accepted rs) i j ≡ gives (compare (pattern_of t types i) (pattern_of t types j)) =
      ap₂ on_patterns (there lines rs f i h) (there lines rs f j l) in
      let few : (compare (pattern_of t types i) (pattern_of t types j)).pairs ≤ max_nodes =
      omega (arith, (compare_most (pattern_of t types i) (pattern_of t types j)).0, small lines rs f i h) in
      record {
        refusal = e ∙ sym (ap refusal_of o);
        line = n;
        clash = c ∙ told.0 ∙ sym (ap clash_of o);
        pairs = p ∙ ap (λ k. k % budget_bound) told.1 ∙ within (compare (pattern_of t types i) (pattern_of t types j)).pairs few ∙ sym (ap pairs_of o);
      }
