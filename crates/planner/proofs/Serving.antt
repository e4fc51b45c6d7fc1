-- The play with its marks, case by case, against the definition.
use Rattle.std.specs.Prelude.{Option as CodeOption}
use Prim.Native.Nat.{ℕ, ◌-◌, ◌≤◌, ◌<◌}
use native.Mathlib.Nat.{sub-zero}
use native.Mathlib.Omega.{arith}
use mathlib.Core.Path.{◌≡◌, refl, sym, ap, ap₂, ◌∙◌, subst}
use mathlib.Core.Bool.{Bool, true, false, cond, not, ◌||◌, or-false}
use mathlib.Core.Option.{Option, none, some}
use mathlib.Core.List.{List, [], ◌++◌, map}
use lib.Dec.{ltb, eqb}
use lib.ListN.{length, take, drop, replicate, length-map, take-append-drop}
use Rattle.limits.specs.Limits.{table_length, work_length, max_lines, max_units, run_room}
use Rattle.calculus.specs.Tools.{is_some, or_else}
use Rattle.calculus.specs.Refusals.{Refusal, short_area, too_long}
use Rattle.format.specs.Lines.{Row, lines}
use Rattle.format.specs.Unfold.{isos_of}
use Rattle.format.specs.Code.{refusal_view, number_of, numbered}
use Rattle.format.specs.declared.Refusal as F
use Rattle.model.specs.Services.{Verdict, accepted, refused, verdict, filled, short, unless, Outcome, gives, fails, go_on, refusal_of, Served, served, serve}
use Rattle.calculus.proofs.Basic.{neither, ltb_false, not_eqb, eq_eqb, eqb_eq, not_both, lt_ltb, not_ltb, none≢some}
use Rattle.checker.specs.CheckSays.{CheckSays, Accepted}
use Rattle.checker.specs.declared.Checked as C
use Rattle.checker.proofs.Going.{ServedAs, check_refused, check_accepted}
use Rattle.checker.proofs.Whole.{whole}
use Rattle.law_units.specs.Units.{Planned, script_of, Units, units_fault, outcomes, Played, played, on_script, on_units, units_from, play_rows, unequal, play_verdict, play_served}
use Rattle.law_units.proofs.Counts.{script_length, outcomes_length}
use Rattle.unit_visits.specs.Visiting.{marked}
use Rattle.unit_plays.specs.Playing.{units_in, with_marks, marks_from, Into, PlayedInto}
use Rattle.planner.specs.PlaySays.{is_given, SaidOf, VisitsSay}
use Rattle.planner.specs.declared.Visits as Y
use Rattle.planner.proofs.Marks.{take_zeros}

-- ---- the areas

module _ (t w is ns : List ℕ) where
  abbrev too_short : Bool
  too_short = short t w || unequal (units_in is ns)

  pub short_table : length t < table_length → true ≡ too_short
  short_table h = sym (ap (λ b. (b || ltb (length w) work_length) || unequal (units_in is ns)) (lt_ltb h))

  pub short_work : table_length ≤ length t → length w < work_length → true ≡ too_short
  short_work g h = sym (ap₂ (λ a b. (a || b) || unequal (units_in is ns)) (not_ltb g) (lt_ltb h))

  pub uneven : table_length ≤ length t → work_length ≤ length w → {b : Bool} → b ≡ not (eqb (length is) (length ns)) → b ≡ too_short
  uneven g h e = e ∙ sym (ap₂ (λ a b. (a || b) || unequal (units_in is ns)) (not_ltb g) (not_ltb h))

  -- neither
  pub enough : too_short ≡ false → (short t w ≡ false) × (work_length ≤ length w) × (length is ≡ length ns)
  enough e =
      let a = neither (short t w) (unequal (units_in is ns)) e in
      let b = neither (ltb (length t) table_length) (ltb (length w) work_length) a.0 in
      (a.0, ltb_false (length w) work_length b.1, go (eqb (length is) (length ns)) refl a.1)
    where
      go : (b : Bool) → eqb (length is) (length ns) ≡ b → not b ≡ false → length is ≡ length ns
      go true f g = eqb_eq (length is) (length ns) f
      go false f g = absurd (not_both refl g)

-- too many
pub many_units : (units ls : ℕ) → max_units < units → true ≡ (ltb max_units units || ltb max_lines ls)
many_units units ls h = sym (ap (λ b. b || ltb max_lines ls) (lt_ltb h))

pub few_units : (units ls : ℕ) → units ≤ max_units → {b : Bool} → b ≡ ltb max_lines ls → b ≡ (ltb max_units units || ltb max_lines ls)
few_units units ls h e = e ∙ sym (ap (λ b. b || ltb max_lines ls) (not_ltb h))

-- ---- the cases

-- how many marks there are
pub given_count : (rs : List Row) (budget : ℕ) (us : Units) (q : List ℕ) → length (marks_from (play_rows us q budget rs)) ≡ cond (is_some (refusal_of (play_rows us q budget rs))) 0 (length (lines q))
unfolding play_rows
given_count rs budget us q = on (units_fault rs us.types us.settings)
  where
    next : (y : Outcome (List Planned)) → script_of (length us.types) (isos_of rs) (lines q) ≡ y
        → length (marks_from (on_script rs budget us y)) ≡ cond (is_some (refusal_of (on_script rs budget us y))) 0 (length (lines q))
    next (fails f) e = refl
    next (gives ps) e = length-map (outcomes rs budget ps us) marked ∙ outcomes_length rs budget ps us ∙ script_length (length us.types) (isos_of rs) (lines q) ps e

    on : (y : Option Refusal) → length (marks_from (on_units rs budget us (lines q) y)) ≡ cond (is_some (refusal_of (on_units rs budget us (lines q) y))) 0 (length (lines q))
    on none = next (script_of (length us.types) (isos_of rs) (lines q)) refl
    on (some f) = refl

given_flag : (x : Outcome Played) → not (is_some (refusal_of x)) ≡ is_given x
given_flag (gives y) = refl
given_flag (fails f) = refl

module _ (s t w is ns script : List ℕ) (budget : ℕ) where
  abbrev us : Units
  us = units_in is ns

  -- 1 or 2, before the file is looked at
  untouched : (f : Refusal) (r : Y.Visits) → r.answer.place ≡ 0 → refusal_view r.answer.refusal ≡ some f → r.count ≡ 0 → r.played ≡ false
      → {t₁ w₁ : List ℕ} → t ≡ t₁ → w ≡ w₁ → SaidOf (record { outcome = fails f; line = 0; table = t₁; work = w₁ }) us t w is ns r
  untouched f r p n c d kt kw =
      record {
        refusal = n;
        line = p;
        table = kt;
        work = sym (take-append-drop run_room w) ∙ ap (with_marks []) kw;
        units = refl;
        count = c;
        played = d;
      }

  -- a lent area is short, or the units' areas differ
  pub marked_short : {b : Bool} → b ≡ too_short t w is ns → b ≡ true → (r : Y.Visits) → r.answer.place ≡ 0 → refusal_view r.answer.refusal ≡ some short_area → r.count ≡ 0 → r.played ≡ false
      → VisitsSay s t w is ns script budget t w is ns r
  marked_short e y r p n c d =
      subst (λ b. SaidOf (serve b (play_verdict us script (verdict s)) (play_rows us script budget) t w) us t w is ns r) (sym (sym e ∙ y)) (untouched short_area r p n c d refl refl)

  module _ {b : Bool} (e : b ≡ too_short t w is ns) (y : b ≡ false) {n : ℕ} (lines_are : n ≡ length (lines script)) {d : Bool} (over : d ≡ (ltb max_units (length is) || ltb max_lines n)) where
    over_is : d ≡ (ltb max_units (length is) || ltb max_lines (length (lines script)))
    over_is = over ∙ ap (λ k. ltb max_units (length is) || ltb max_lines k) lines_are

    by_over : {c : Bool} → d ≡ c → {t' w' is' ns' : List ℕ} {r : Y.Visits} → SaidOf (serve false (cond c (refused too_long 0) (verdict s)) (play_rows us script budget) t w) us t' w' is' ns' r
        → VisitsSay s t w is ns script budget t' w' is' ns' r
    by_over {c} f {t'} {w'} {is'} {ns'} {r} x =
        subst (λ z. SaidOf (serve z (play_verdict us script (verdict s)) (play_rows us script budget) t w) us t' w' is' ns' r) (sym (sym e ∙ y))
        (subst (λ z. SaidOf (serve false (cond z (refused too_long 0) (verdict s)) (play_rows us script budget) t w) us t' w' is' ns' r) (sym f ∙ over_is) x)

    -- too many units or lines
    pub marked_long : d ≡ true → (r : Y.Visits) → r.answer.place ≡ 0 → refusal_view r.answer.refusal ≡ some too_long → r.count ≡ 0 → r.played ≡ false
        → VisitsSay s t w is ns script budget t w is ns r
    marked_long f r p m c k = by_over f (untouched too_long r p m c k refl refl)

    module _ (f : d ≡ false) {t' w₁ : List ℕ} (c : C.Checked) (says : CheckSays s t w t' w₁ c.answer) {g : Bool} (flag : g ≡ is_some (refusal_view c.answer.refusal)) where
      abbrev own : Served Played
      own = serve false (verdict s) (play_rows us script budget) t w

      -- Check's own refusal
      pub marked_refused : g ≡ true → (r : Y.Visits) → r.answer.place ≡ c.answer.place → r.answer.refusal ≡ c.answer.refusal → r.count ≡ 0 → r.played ≡ false
          → VisitsSay s t w is ns script budget t' w₁ is ns r
      marked_refused z r p m k l =
          let x = check_refused (play_rows us script budget) (λ o. (us ≡ units_from o us) × (marks_from o ≡ []) × (is_given o ≡ false)) s t w {b = false} (sym (enough t w is ns (sym e ∙ y)).0)
          says flag z (λ h. (refl, refl, refl)) in
          let a = x.answers in
          by_over f
          (record {
            refusal = ap refusal_view m ∙ x.refusal;
            line = p ∙ x.line;
            table = x.table;
            work = sym (take-append-drop run_room w₁) ∙ ap (with_marks []) x.work ∙ ap (λ ms. with_marks ms own.work) (sym a.1);
            units = a.0;
            count = k ∙ ap length (sym a.1);
            played = l ∙ sym a.2;
          })

      module _ (z : g ≡ false) (acc : refusal_view c.answer.refusal ≡ none → Accepted s t' c) where
        -- the work area that Check leaves has zeros in front
        zeros_in_front : take run_room w₁ ≡ replicate run_room 0
        zeros_in_front =
            let h = whole s t w t' w₁ c g says acc flag z in
            ap (take run_room) (h.work_is ∙ ap (λ m. replicate m 0 ++ drop work_length w) (sub-zero work_length)) ∙ take_zeros run_room work_length (drop work_length w) (omega arith)

        pub marked_played : {w' is' ns' : List ℕ} {v : CodeOption F.Refusal} → PlayedInto t' c script budget w₁ is ns w' is' ns' v → (r : Y.Visits) → r.answer.place ≡ 0 → r.answer.refusal ≡ v
            → r.count ≡ cond (is_some (refusal_view v)) 0 n → r.played ≡ not (is_some (refusal_view v)) → VisitsSay s t w is ns script budget t' w' is' ns' r
        marked_played {w'} {is'} {ns'} {v} play r p m k l =
            let area = enough t w is ns (sym e ∙ y) in
            let over = neither (ltb max_units (length is)) (ltb max_lines (length (lines script))) (sym over_is ∙ f) in
            let into : (a : Accepted s t' c) → Into (play_rows us script budget a.file) w₁ is ns w' is' ns' v =
            λ a. play s a area.2 (ltb_false max_lines (length (lines script)) over.1) zeros_in_front in
            let x = check_accepted (play_rows us script budget)
            (λ o. (w' ≡ with_marks (marks_from o) w₁) × (units_in is' ns' ≡ units_from o us) × (r.count ≡ length (marks_from o)) × (r.played ≡ is_given o))
            s t w {b = false} (sym area.0) {w₁ = w₁} {w' = w₁} c says acc flag z {f = r.answer.refusal} p
            (λ a. let i = into a in
            let q : is_some (refusal_view v) ≡ is_some (refusal_of (play_rows us script budget a.file)) = ap is_some i.refusal in (
              ap refusal_view m ∙ i.refusal,
              (
                i.work,
                i.units,
                k ∙ ap₂ (λ u j. cond u 0 j) q lines_are ∙ sym (given_count a.file budget us script),
                l ∙ ap not q ∙ given_flag (play_rows us script budget a.file),
              ),
            ))
            (λ u j. j) in
            let a = x.answers in
            by_over f
            (record {
              refusal = x.refusal;
              line = x.line;
              table = x.table;
              work = a.0 ∙ ap (with_marks (marks_from own.outcome)) x.work;
              units = a.1;
              count = a.2;
              played = a.3;
            })
