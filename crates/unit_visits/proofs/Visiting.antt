-- A visit on a checked table: the unit's type against the iso's, and the T line at the other end.
use Prim.Native.Nat.{ℕ, suc, ◌-◌, ◌<◌}
use native.Mathlib.Omega.{arith}
use mathlib.Core.Path.{◌≡◌, refl, sym, ap, ap₂, ◌∙◌}
use mathlib.Core.Bool.{Bool, true, false, cond}
use mathlib.Core.Option.{some}
use mathlib.Core.List.{List}
use lib.ListN.{get_elem?}
use Rattle.calculus.specs.Trees.{Ty, Iso, same_type}
use Rattle.calculus.specs.Lists.{is_free}
use Rattle.format.specs.Lines.{Row}
use Rattle.format.specs.Unfold.{isos_of}
use Rattle.model.specs.Services.{toward}
use Rattle.calculus.proofs.Basic.{some_inj, index_below, same_type_eq}
use Rattle.table_trees.specs.Unfolding.{cell_of, type_of}
use Rattle.number_values.proofs.TypeLines.{there}
use Rattle.run_index.specs.Index.{place_at, iso_at}
use Rattle.run_reduction.specs.Frames.{sided}
use Rattle.run_reduction.proofs.Laying.{inside, laid}
use Rattle.law_ranking.specs.Numbering.{types_of}
use Rattle.law_units.specs.Units.{Planned, Holds, Visited, skipped, end_of, other_end, sent, came_to, visit}
use Rattle.law_units.proofs.Ends.{end_row}
use Rattle.law_units.proofs.Visits.{visit_skips, visit_by_lem}
use Rattle.model.proofs.Runs.{toward_length}
use Rattle.unit_script.specs.declared.Planned as P
use Rattle.unit_script.specs.Views.{planned_view}
use Rattle.unit_visits.specs.Visiting.{Playable}

-- the types and the line of an iso in a direction
sided_from : (back : Bool) (o : Iso) → (sided back o).from ≡ cond back o.to o.from
sided_from false o = refl
sided_from true o = refl

sided_line : (back : Bool) (o : Iso) → (sided back o).line ≡ o.line
sided_line false o = refl
sided_line true o = refl

by_side : (back : Bool) (t : List ℕ) (row : ℕ) → cond back (type_of t (cell_of t row 2)) (type_of t (cell_of t row 1)) ≡ type_of t (cell_of t row (cond back 2 1))
by_side false t row = refl
by_side true t row = refl

module _ {t : List ℕ} {types : ℕ} {index : List ℕ} {isos : ℕ} {rs : List Row} (a : Playable t types index isos rs) where
  -- the type of a T line that is there
  pub line_type : (i : ℕ) {b : Ty} → get_elem? (types_of rs) i ≡ some b → type_of t i ≡ b
  unfolding types_of
  line_type i e =
      let l = index_below (types_of rs) i e in
      let c = a.table.type_count in
      some_inj (sym (there a.table i (omega (arith, c, l))) ∙ e)

  module _ (p : P.Planned) (low : p.iso < isos) where
    -- the iso of the visit
    pub iso_of : (o : Iso) × (get_elem? (isos_of (toward p.back rs)) p.iso ≡ some o)
    iso_of =
        let n = toward_length p.back rs a.prepared.good.passes in
        let c = a.prepared.count in
        inside (isos_of (toward p.back rs)) p.iso (omega (arith, n, c))

    abbrev row : ℕ
    row = place_at index (place_at index p.iso)

    placed : iso_of.0 ≡ sided p.back (iso_at t types index p.iso)
    placed = (laid t types index isos rs a.prepared.good.passes a.prepared.indexed p.back).isos p.iso iso_of.0 iso_of.1

    from_type : iso_of.0.from ≡ type_of t (cell_of t row (cond p.back 2 1))
    from_type = ap (λ (u : Iso). u.from) placed ∙ sided_from p.back (iso_at t types index p.iso) ∙ by_side p.back t row

    line_of : iso_of.0.line ≡ suc row
    line_of = ap (λ (u : Iso). u.line) placed ∙ sided_line p.back (iso_at t types index p.iso)

    -- the T line at the other end
    pub to_end : {c s r h : ℕ} → c ≡ cell_of t r s → s ≡ cond p.back 1 2 → r ≡ place_at index h → h ≡ place_at index p.iso → c ≡ other_end rs p.back (some iso_of.0)
    to_end ec es er eh =
        let q = end_row rs a.prepared.good.passes p.back p.iso iso_of.1 in
        let l = line_of in
        let k : iso_of.0.line - 1 ≡ row = omega (arith, l) in
        let z : get_elem? rs row ≡ some q.0 = ap (get_elem? rs) (sym k) ∙ q.1 in
        ec ∙ ap₂ (cell_of t) (er ∙ ap (place_at index) eh) es ∙ fields p.back q.0 z ∙ sym (ap (end_of p.back) q.1)
      where
        fields : (b : Bool) (r : Row) → get_elem? rs row ≡ some r → cell_of t row (cond b 1 2) ≡ cond b r.x r.y
        fields false r z = a.table.ys row r z
        fields true r z = a.table.xs row r z

    module _ {i n : ℕ} (h : Holds rs i n) {b : Bool} {c s r k : ℕ} (eb : b ≡ same_type (type_of t i) (type_of t c)) (ec : c ≡ cell_of t r s) (es : s ≡ cond p.back 2 1)
        (er : r ≡ place_at index k) (ek : k ≡ place_at index p.iso) where
      compared : b ≡ same_type h.type iso_of.0.from
      compared =
          eb ∙ ap₂ same_type (line_type i h.line.there) (ap (type_of t) (ec ∙ ap₂ (cell_of t) (er ∙ ap (place_at index) ek) es) ∙ sym from_type)

      pub same_types : b ≡ true → h.type ≡ iso_of.0.from
      same_types y = same_type_eq h.type iso_of.0.from (sym compared ∙ y)

      pub visit_skipped : is_free (isos_of rs) p.iso ≡ true → (budget : ℕ) → b ≡ false → skipped ≡ visit rs budget (planned_view p) i n
      visit_skipped free budget y = sym (visit_skips rs a.prepared.good budget (planned_view p) h iso_of.1 free (sym compared ∙ y))

      pub visit_sent : is_free (isos_of rs) p.iso ≡ true → (budget : ℕ) → b ≡ true → {j : ℕ} → j ≡ other_end rs p.back (some iso_of.0) → {z : Visited} → z ≡ came_to j
          (sent rs budget (planned_view p) i n j)
          → z ≡ visit rs budget (planned_view p) i n
      visit_sent free budget y ej ez =
          ez ∙ ap (λ j. came_to j (sent rs budget (planned_view p) i n j)) ej
          ∙ sym (visit_by_lem rs a.prepared.good budget (planned_view p) h iso_of.1 free true (sym compared ∙ y))
