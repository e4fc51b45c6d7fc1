-- Request 05's promises, of what the services answer: bounds and run for any bytes, numbers and lent areas.
use Prim.Native.Nat.{ℕ, ◌<◌, ◌≤◌}
use native.Mathlib.Nat.{ne_of_gt}
use native.Mathlib.Omega.{arith}
use mathlib.Core.Path.{◌≡◌, refl, sym, ap, ◌∙◌, subst}
use mathlib.Core.Bool.{Bool, true, false, cond, ◌||◌}
use mathlib.Core.Option.{none, some}
use mathlib.Core.List.{List}
use lib.Dec.{ltb}
use lib.ListN.{length, get_or, get_elem?}
use Rattle.limits.specs.Limits.{result_length, max_count}
use Rattle.calculus.specs.Trees.{Iso}
use Rattle.calculus.specs.Refusals.{number, no_iso, spent, too_many}
use Rattle.calculus.specs.Lists.{is_free}
use Rattle.format.specs.Lines.{Row}
use Rattle.format.specs.Unfold.{isos_of}
use Rattle.model.specs.Services.{Verdict, accepted, refused, verdict, turned, short, unless, answer_of, check, Ran, Outcome, gives, fails, go_on, toward, run_of, run, answer_of_run, run_service}
use Rattle.model.specs.Answers.{RunIs, absent, strange, passed, large, done}
use Rattle.model.proofs.Files.{number_positive}
use Rattle.model.proofs.Runs.{run_iff}
use Rattle.law_costs.specs.Costs.{least_costs, greatest_costs}
use Rattle.law_costs.specs.Bounds.{Bounds, no_bounds, told, bounds_from, on_iso, bounds_rows, bounds_of, bounds, bounds_service}
use Rattle.law_costs.proofs.Answers.{count_inside, never_spent, least_flagged, bounds_turned}
use Rattle.law_costs.proofs.Reached.{NoLets, bounds_one, runs_one}

-- ---- refusals

-- After any answer the table and the work area are as after Check.
pub as_check : (file t w : List ℕ) (i : ℕ)
    → ((bounds_service file t w i).table ≡ (check file t w).table) × ((bounds_service file t w i).work ≡ (check file t w).work)
unfolding check bounds_service
as_check file t w i = (refl, refl)

-- Check's refusals come first, with their numbers,
pub refused_first : (file t w : List ℕ) (i : ℕ) → 0 < (check file t w).answer.number
    → (bounds_service file t w i).bounds ≡ record { number = (check file t w).answer.number; least = 0; greatest = 0; least_over = false; greatest_over = false }
unfolding check bounds_service
refused_first file t w i = go (unless (short t w) (verdict file))
  where
    go : (v : Verdict) → 0 < (answer_of v).number
        → bounds_of v i ≡ record { number = (answer_of v).number; least = 0; greatest = 0; least_over = false; greatest_over = false }
    go (accepted rs) h = absurd (omega arith)
    go (refused f n) h = refl

-- then "15 if absent",
pub absent_iso : (file t w : List ℕ) (i : ℕ) (rs : List Row) → verdict file ≡ accepted rs → (check file t w).answer.number ≡ 0 → get_elem? (isos_of rs) i ≡ none
    → (bounds_service file t w i).bounds ≡ no_bounds no_iso
unfolding check bounds_service
absent_iso file t w i rs e h a = go (short t w) h
  where
    go : (b : Bool) → (answer_of (unless b (verdict file))).number ≡ 0 → bounds_of (unless b (verdict file)) i ≡ no_bounds no_iso
    go true z = absurd (omega arith)
    go false z = ap (λ v. bounds_of v i) e ∙ ap (λ x. bounds_from (on_iso (isos_of rs) i x)) a

-- then 18 where a type of the iso, or of one that it reaches, holds a list,
pub list_iso : (file t w : List ℕ) (i : ℕ) (rs : List Row) (o : Iso) → verdict file ≡ accepted rs → (check file t w).answer.number ≡ 0
    → get_elem? (isos_of rs) i ≡ some o → is_free (isos_of rs) i ≡ false → (bounds_service file t w i).bounds ≡ no_bounds too_many
unfolding check bounds_service
list_iso file t w i rs o e h a l = go (short t w) h
  where
    go : (b : Bool) → (answer_of (unless b (verdict file))).number ≡ 0 → bounds_of (unless b (verdict file)) i ≡ no_bounds too_many
    go true z = absurd (omega arith)
    go false z =
        ap (λ v. bounds_of v i) e ∙ ap (λ x. bounds_from (on_iso (isos_of rs) i x)) a
        ∙ ap (λ b. bounds_from (cond b (gives (get_or (least_costs (isos_of rs)) i 0, get_or (greatest_costs (isos_of rs)) i 0)) (fails too_many))) l

-- and no others: any other iso of an accepted file is answered.
pub present_iso : (file t w : List ℕ) (i : ℕ) (rs : List Row) (o : Iso) → verdict file ≡ accepted rs → (check file t w).answer.number ≡ 0
    → get_elem? (isos_of rs) i ≡ some o → is_free (isos_of rs) i ≡ true → (bounds_service file t w i).bounds.number ≡ 0
unfolding check bounds_service
present_iso file t w i rs o e h a l = go (short t w) h
  where
    go : (b : Bool) → (answer_of (unless b (verdict file))).number ≡ 0 → (bounds_of (unless b (verdict file)) i).number ≡ 0
    go true z = absurd (omega arith)
    go false z =
        ap (λ v. (bounds_of v i).number) e ∙ ap (λ x. (bounds_from (on_iso (isos_of rs) i x)).number) a
        ∙ ap (λ b. (bounds_from (cond b (gives (get_or (least_costs (isos_of rs)) i 0, get_or (greatest_costs (isos_of rs)) i 0)) (fails too_many))).number) l

-- "a refusal gives 0 for both, unflagged"
pub refused_zero : (file t w : List ℕ) (i : ℕ) → 0 < (bounds_service file t w i).bounds.number
    → ((bounds_service file t w i).bounds.least ≡ 0) × ((bounds_service file t w i).bounds.greatest ≡ 0)
    × ((bounds_service file t w i).bounds.least_over ≡ false) × ((bounds_service file t w i).bounds.greatest_over ≡ false)
unfolding bounds_service
refused_zero file t w i = go (go_on (unless (short t w) (verdict file)) (bounds_rows i))
  where
    zeros : Bounds → Type 0
    zeros b = (b.least ≡ 0) × (b.greatest ≡ 0) × (b.least_over ≡ false) × (b.greatest_over ≡ false)

    go : (x : Outcome (ℕ × ℕ)) → 0 < (bounds_from x).number → zeros (bounds_from x)
    go (gives r) h = absurd (omega arith)
    go (fails f) h = (refl, refl, refl, refl)

-- ---- what the two services say of each other

-- an answer that is no refusal is that of an accepted file
served : (file t w : List ℕ) (i : ℕ) → (bounds_service file t w i).bounds.number ≡ 0
    → ((bounds_service file t w i).bounds ≡ bounds file i) × (rs : List Row) × (verdict file ≡ accepted rs)
unfolding bounds_service bounds
served file t w i = go (short t w) (verdict file) refl
  where
    go : (b : Bool) (v : Verdict) → verdict file ≡ v → (bounds_of (unless b v) i).number ≡ 0
        → (bounds_of (unless b v) i ≡ bounds_of v i) × (rs : List Row) × (verdict file ≡ accepted rs)
    go true v e h = absurd (omega arith)
    go false (accepted rs) e h = (refl, rs, e)
    go false (refused f n) e h = absurd (ne_of_gt (number_positive f) h)

-- a run that is not refused gives something
ran : (file t w : List ℕ) (i : ℕ) (back : Bool) (budget : ℕ) (value o : List ℕ) → (run_service file t w i back budget value o).number ≡ 0
    → (y : List ℕ) × (run file i back budget value ≡ gives ((run_service file t w i back budget value o).count, y))
unfolding run_service run
ran file t w i back budget value o = go (short t w || ltb (length o) result_length)
  where
    on : (r : Ran) → (answer_of_run r).number ≡ 0 → (y : List ℕ) × (r ≡ gives ((answer_of_run r).count, y))
    on (gives p) h = (p.1, refl)
    on (fails f) h = absurd (ne_of_gt (number_positive f) h)

    go : (b : Bool) → (answer_of_run (run_of (unless b (verdict file)) i back budget value)).number ≡ 0
        → (y : List ℕ) × (run_of (verdict file) i back budget value ≡ gives ((answer_of_run (run_of (unless b (verdict file)) i back budget value)).count, y))
    go true h = absurd (omega arith)
    go false h = on (run_of (verdict file) i back budget value) h

-- a run of an accepted file that is refused 17 is spent
spent_run : (file t w : List ℕ) (i : ℕ) (back : Bool) (budget : ℕ) (value o : List ℕ) (rs : List Row) → verdict file ≡ accepted rs
    → (run_service file t w i back budget value o).number ≡ number spent → run file i back budget value ≡ fails spent
unfolding run_service run
spent_run file t w i back budget value o rs e = go (short t w || ltb (length o) result_length)
  where
    on : (r : Ran) → RunIs (isos_of (toward back rs)) i budget value r → (answer_of_run r).number ≡ 17 → r ≡ fails spent
    on _ (absent a) h = absurd (omega arith)
    on _ (strange p a n) h = absurd (omega arith)
    on _ (passed p v u k f x y s l) h = refl
    on _ (large p v k f x y s l) h = absurd (omega arith)
    on _ (done p v u k f x y s l) h = absurd (omega arith)

    go : (b : Bool) → (answer_of_run (run_of (unless b (verdict file)) i back budget value)).number ≡ 17 → run_of (verdict file) i back budget value ≡ fails spent
    go true h = absurd (omega arith)
    go false h = on (run_of (verdict file) i back budget value) ((run_iff file rs e i back budget value (run_of (verdict file) i back budget value)).0 refl) h

-- For any iso, direction, budget and value, and whatever areas are lent to the two calls:
module _ (file t w t₂ w₂ : List ℕ) (i : ℕ) (back : Bool) (budget : ℕ) (value o : List ℕ) (answered : (bounds_service file t w i).bounds.number ≡ 0) where
  -- "No count of an unrefused run may lie outside": it is at least the least, and at most the greatest, also where that is flagged, since a
  -- budget has 32 bits.
  pub run_inside : (run_service file t₂ w₂ i back budget value o).number ≡ 0
      → ((bounds_service file t w i).bounds.least ≤ (run_service file t₂ w₂ i back budget value o).count)
      × ((bounds_service file t w i).bounds.greatest_over ≡ false → (run_service file t₂ w₂ i back budget value o).count ≤ (bounds_service file t w i).bounds.greatest)
      × (budget ≤ max_count → (run_service file t₂ w₂ i back budget value o).count ≤ (bounds_service file t w i).bounds.greatest)
  run_inside h =
      let r = ran file t₂ w₂ i back budget value o h in
      let k : ℕ = (run_service file t₂ w₂ i back budget value o).count in
      let s = (served file t w i answered).0 in
      let c = count_inside file i back budget value k r.0 (ap (λ b. b.number) (sym s) ∙ answered) r.1 in (
        subst (λ b. b.least ≤ k) (sym s) c.0,
        (λ u. subst (λ b. k ≤ b.greatest) (sym s) (c.1 (ap (λ b. b.greatest_over) (sym s) ∙ u))),
        (λ u. subst (λ b. k ≤ b.greatest) (sym s) (c.2 u)),
      )

  -- "a budget that reaches an unflagged greatest is never refused 17"
  pub run_not_spent : (bounds_service file t w i).bounds.greatest_over ≡ false → (bounds_service file t w i).bounds.greatest ≤ budget
      → (run_service file t₂ w₂ i back budget value o).number ≡ number spent → ⊥
  run_not_spent u h r =
      let a = served file t w i answered in
      let s = a.0 in
      never_spent file a.1 a.2 i back budget value (ap (λ b. b.number) (sym s) ∙ answered) (ap (λ b. b.greatest_over) (sym s) ∙ u) (subst (λ b. b.greatest ≤ budget) s h)
      (spent_run file t₂ w₂ i back budget value o a.1 a.2 r)

  -- Where the least is flagged, every run is refused.
  pub run_refused : (bounds_service file t w i).bounds.least_over ≡ true → budget ≤ max_count → (run_service file t₂ w₂ i back budget value o).number ≡ 0 → ⊥
  run_refused u b h =
      let r = ran file t₂ w₂ i back budget value o h in
      let s = (served file t w i answered).0 in
      least_flagged file i back budget value (ap (λ b. b.number) (sym s) ∙ answered) (ap (λ b. b.least_over) (sym s) ∙ u) b (run_service file t₂ w₂ i back budget value o).count r.0 r.1

-- The bounds of the turned file are the same.
pub turned_same : (file t w : List ℕ) (i : ℕ) (rs : List Row) → verdict file ≡ accepted rs
    → (bounds_service (turned file) t w i).bounds ≡ (bounds_service file t w i).bounds
unfolding bounds_service bounds
turned_same file t w i rs e = go (short t w)
  where
    go : (b : Bool) → bounds_of (unless b (verdict (turned file))) i ≡ bounds_of (unless b (verdict file)) i
    go true = refl
    go false = bounds_turned file rs e i

-- Each bound is reached, there and back, where no clause of the iso has let steps and its types hold no list.
pub bounds_reached : (file t w : List ℕ) (i : ℕ) (back : Bool) (budget : ℕ) (o : List ℕ) (rs : List Row) (p : Iso) → verdict file ≡ accepted rs
    → get_elem? (isos_of rs) i ≡ some p → is_free (isos_of rs) i ≡ true → NoLets p → short t w ≡ false → ltb (length o) result_length ≡ false → 1 ≤ budget
    → (value : List ℕ) × ((run_service file t w i back budget value o).number ≡ 0)
    × ((run_service file t w i back budget value o).count ≡ (bounds_service file t w i).bounds.least)
    × ((run_service file t w i back budget value o).count ≡ (bounds_service file t w i).bounds.greatest)
unfolding run_service run bounds_service bounds
bounds_reached file t w i back budget o rs p e f free n long room h =
    let r = runs_one file rs e i p f free n back budget h in
    let b = bounds_one file rs e i p f free n in
    go (short t w) (ltb (length o) result_length) long room r.0 r.1 r.2 b
  where
    go : (a b : Bool) → a ≡ false → b ≡ false → (value y : List ℕ) → run_of (verdict file) i back budget value ≡ gives (1, y) → bounds_of (verdict file) i ≡ told 1 1
        → (x : List ℕ) × ((answer_of_run (run_of (unless (a || b) (verdict file)) i back budget x)).number ≡ 0)
        × ((answer_of_run (run_of (unless (a || b) (verdict file)) i back budget x)).count ≡ (bounds_of (unless a (verdict file)) i).least)
        × ((answer_of_run (run_of (unless (a || b) (verdict file)) i back budget x)).count ≡ (bounds_of (unless a (verdict file)) i).greatest)
    go true b j k value y r s = let z : ◌≡◌ {A = ℕ} 0 1 = cc in absurd (omega arith)
    go false true j k value y r s = let z : ◌≡◌ {A = ℕ} 0 1 = cc in absurd (omega arith)
    go false false j k value y r s = (
      value,
      ap (λ x. (answer_of_run x).number) r,
      ap (λ x. (answer_of_run x).count) r ∙ ap (λ x. x.least) (sym s),
      ap (λ x. (answer_of_run x).count) r ∙ ap (λ x. x.greatest) (sym s),
    )
