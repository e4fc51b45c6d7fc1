-- The service: the marks of the visits are counted and taken away, and what is left is what the definition gives.
use Prim.Native.Nat.{ℕ, ◌+◌, ◌-◌, ◌≤◌}
use native.Mathlib.Nat.{add-zero, sub-zero}
use native.Mathlib.Omega.{arith}
use mathlib.Core.Path.{◌≡◌, refl, sym, ap, ap₂, ◌∙◌, subst}
use mathlib.Core.Bool.{Bool, true, false, cond, ◌||◌}
use mathlib.Core.Option.{none, some}
use mathlib.Core.List.{List, [], ◌++◌, map}
use lib.Dec.{ltb}
use lib.ListN.{length, take, drop, replicate, length-map, length-replicate, take-append-drop}
use Rattle.limits.specs.Limits.{work_length, max_lines, max_units, run_room}
use Rattle.calculus.specs.Tools.{is_some}
use Rattle.calculus.specs.Refusals.{Refusal, short_area, too_long}
use Rattle.format.specs.Lines.{Row, lines}
use Rattle.format.specs.Code.{numbered}
use Rattle.model.specs.Services.{Verdict, accepted, refused, verdict, short, unless, work_after, Outcome, gives, fails, go_on, refusal_of, Served}
use Rattle.calculus.proofs.Basic.{neither, ltb_false}
use Rattle.model.proofs.Outcomes.{fails≢gives, given_accepted}
use Rattle.law_units.specs.Units.{Units, Tally, Visited, counted, Played, units_from, tally_from, play_rows, unequal, play_verdict, play_served, play_service}
use Rattle.unit_tally.specs.declared.Tally as T
use Rattle.unit_tally.specs.Count.{begun_of, zeros, tallied, emptied}
use Rattle.unit_visits.specs.Visiting.{marked}
use Rattle.unit_plays.specs.Playing.{units_in, with_marks, marks_from}
use Rattle.planner.specs.PlaySays.{tally_view, is_given, SaidOf, VisitsSay, PlaySays}
use Rattle.planner.specs.declared.Visits as Y
use Rattle.planner.proofs.Marks.{tallied_marks, emptied_marks, take_zeros, zeros_again, counts, low_zeros}
use Rattle.planner.proofs.Serving.{given_count}

-- a service that gives a play leaves zeros in the work area, and has few visits
abbrev Cleared : Served Played → List ℕ → Type 0
Cleared x w = (y : Played) → x.outcome ≡ gives y → (x.work ≡ replicate work_length 0 ++ drop work_length w) × (length y.visits ≤ max_lines)

module _ (x : Served Played) (us : Units) (w : List ℕ) {t' w₁ is' ns' : List ℕ} (r : Y.Visits) (says : SaidOf x us t' w₁ is' ns' r) (clear : Cleared x w) (l : T.Tally) {w' : List ℕ} {l' : T.Tally}
    (ew : w' ≡ emptied r.count 0 w₁) (el : l' ≡ tallied r.count 0 w₁ (begun_of l r.played)) where
  counted_away : (o : Outcome Played) → x.outcome ≡ o → (w' ≡ x.work) × (tally_view l' ≡ tally_from o (tally_view l))
  counted_away (fails f) e =
      let n : r.count ≡ 0 = says.count ∙ ap (λ o. length (marks_from o)) e in
      let p : r.played ≡ false = says.played ∙ ap is_given e in (
        ew ∙ ap (λ k. emptied k 0 w₁) n ∙ says.work ∙ ap (λ o. with_marks (marks_from o) x.work) e ∙ take-append-drop run_room x.work,
        ap tally_view (el ∙ ap₂ (λ k b. tallied k 0 w₁ (begun_of l b)) n p),
      )
  counted_away (gives y) e =
      let c = clear y e in
      let ms : List ℕ = map marked y.visits in
      let z : List ℕ = replicate work_length 0 ++ drop work_length w in
      let n : r.count ≡ length ms = says.count ∙ ap (λ o. length (marks_from o)) e in
      let p : r.played ≡ true = says.played ∙ ap is_given e in
      let few : length ms ≤ max_lines = let a = length-map y.visits marked in let b = c.1 in omega (arith, a, b) in
      let pre : length (take run_room z) ≡ run_room + 0 =
      ap length (take_zeros run_room work_length (drop work_length w) (omega arith)) ∙ length-replicate {A = ℕ} run_room 0 ∙ sym (add-zero run_room) in
      let area : w₁ ≡ take run_room z ++ (ms ++ drop (length ms) (drop run_room z)) = says.work ∙ ap₂ (λ o v. with_marks (marks_from o) v) e c.0 in (
        ew ∙ ap₂ (λ k v. emptied k 0 v) n area ∙ emptied_marks (drop (length ms) (drop run_room z)) ms (take run_room z) 0 pre (omega (arith, few))
            ∙ zeros_again (length ms) run_room work_length (drop work_length w) (omega arith) (omega (arith, few)) ∙ sym c.0,
        ap tally_view
            (el ∙ ap (λ b. tallied r.count 0 w₁ (begun_of l b)) p ∙ ap₂ (λ k v. tallied k 0 v zeros) n area
            ∙ tallied_marks (drop (length ms) (drop run_room z)) ms (take run_room z) 0 zeros pre (omega (arith, few)))
            ∙ counts y.visits zeros (low_zeros (length y.visits) c.1),
      )

-- ---- the service

module _ (s t w is ns q : List ℕ) (budget : ℕ) where
  abbrev us : Units
  us = units_in is ns

  clears : Cleared (play_served s t w us q budget) w
  clears y e = go (short t w || unequal us) (ltb max_units (length is) || ltb max_lines (length (lines q))) refl e
    where
      go : (b o : Bool) → (ltb max_units (length is) || ltb max_lines (length (lines q))) ≡ o → go_on (unless b (cond o (refused too_long 0) (verdict s))) (play_rows us q budget) ≡ gives y
          → (work_after (unless b (cond o (refused too_long 0) (verdict s))) w ≡ replicate work_length 0 ++ drop work_length w) × (length y.visits ≤ max_lines)
      go true o h f = absurd (fails≢gives f)
      go false true h f = absurd (fails≢gives f)
      go false false h f =
          let g = given_accepted (verdict s) (play_rows us q budget) f in
          let few = ltb_false max_lines (length (lines q)) (neither (ltb max_units (length is)) (ltb max_lines (length (lines q))) h).1 in
          let n : length (map marked y.visits) ≡ length (lines q) =
          sym (ap (λ o. length (marks_from o)) g.2) ∙ given_count g.0 budget us q ∙ ap (λ o. cond (is_some (refusal_of o)) 0 (length (lines q))) g.2 in
          let k = length-map y.visits marked in
          (ap (λ v. work_after v w) g.1 ∙ ap (λ m. replicate m 0 ++ drop work_length w) (sub-zero work_length), omega (arith, n, k, few))

  pub play_says : (l : T.Tally) {t' w₁ w' is' ns' : List ℕ} {l' : T.Tally} (r : Y.Visits) → VisitsSay s t w is ns q budget t' w₁ is' ns' r
      → (w' ≡ emptied r.count 0 w₁) × (l' ≡ tallied r.count 0 w₁ (begun_of l r.played)) → PlaySays s t w is ns q budget l t' w' is' ns' l' r.answer
  unfolding play_service
  play_says l r says e =
      let c = counted_away (play_served s t w us q budget) us w r says clears l e.0 e.1 (play_served s t w us q budget).outcome refl in
      record {
        refusal = says.refusal;
        number = ap numbered says.refusal;
        line = says.line;
        table = says.table;
        work = c.0;
        units = says.units;
        tally = c.1;
      }
