-- The bounds on a checked table and as a service, case by case, against the model's.
use Rattle.std.specs.Prelude.{Option as CodeOption}
use Prim.Native.Nat.{ℕ, zero, suc, ◌≤◌, ◌<◌, min}
use native.Mathlib.Omega.{arith}
use mathlib.Core.Path.{◌≡◌, refl, sym, ap, ◌∙◌, subst}
use mathlib.Core.Bool.{Bool, true, false, cond}
use mathlib.Core.Option.{none, some}
use mathlib.Core.List.{List, [], ◌∷◌}
use lib.Dec.{ltb}
use lib.ListN.{length, get_or, get_elem?, replicate}
use Rattle.limits.specs.Limits.{max_isos, max_count}
use Rattle.calculus.specs.Tools.{is_some}
use Rattle.calculus.specs.Refusals.{no_iso, too_many}
use Rattle.calculus.specs.Lists.{is_free}
use Rattle.format.specs.Lines.{Row}
use Rattle.format.specs.Unfold.{isos_of}
use Rattle.model.specs.Services.{Outcome, gives, fails, refusal_number}
use Rattle.law_costs.specs.Costs.{least_of, greatest_of, costs_from, least_costs, greatest_costs}
use Rattle.law_costs.specs.Bounds.{bounds_from, on_iso, bounds_rows, bounds_served, bounds_service}
use Rattle.format.specs.Code.{refusal_view, number_of, numbered}
use Rattle.format.specs.declared.Answer as A
use Rattle.format.specs.declared.Refusal as F
use Rattle.calculus.proofs.Basic.{ltb_lt, ltb_false, lt_ltb, not_ltb}
use Rattle.model.proofs.Sizes.{few_isos}
use Rattle.run_index.specs.Index.{isos_at}
use Rattle.run_lists.specs.Marks.{FreeTold}
use Rattle.run_lists.proofs.Marking.{free_of}
use Rattle.checker.specs.CheckSays.{CheckSays, Accepted}
use Rattle.checker.specs.declared.Checked as C
use Rattle.checker.proofs.Going.{ServedAs, check_refused, check_accepted}
use Rattle.runner.specs.RunSays.{Prepared}
use Rattle.bound_counts.specs.Held.{cap, Holds}
use Rattle.bounds.specs.declared.Bounded as B
use Rattle.bounds.specs.BoundsSays.{ToldOf, BoundsSays}
use Rattle.run_reduction.proofs.Laying.{inside}

-- ---- on a checked table

past : {A : Type 0} (xs : List A) (i : ℕ) → length xs ≤ i → get_elem? xs i ≡ none
past [] i h = refl
past (x ∷ xs) zero h = absurd (omega arith)
past (x ∷ xs) (suc i) h = past xs i (omega arith)

-- what `refused` gives
abbrev pub Refused : CodeOption F.Refusal → B.Bounded → Type 0
Refused f r = (r.refusal ≡ f) × (r.least ≡ 0) × (r.greatest ≡ 0) × (r.least_over ≡ false) × (r.greatest_over ≡ false)

pub no_iso_lem : (t index : List ℕ) (isos i : ℕ) (f : CodeOption F.Refusal) (r : B.Bounded) → isos ≤ i → refusal_view f ≡ some no_iso → Refused f r
    → (base : ℕ) (rs : List Row) → Prepared t base index isos rs → ToldOf (bounds_rows i rs) r
no_iso_lem t index isos i f r h n z base rs p =
    let k = p.count in
    subst (λ x. ToldOf x r) (sym (ap (on_iso (isos_of rs) i) (past (isos_of rs) i (omega (arith, h, k)))))
    (record {
      refusal = ap refusal_view z.0 ∙ n;
      told = record { number = ap number_of z.0 ∙ ap numbered n; least = z.1; greatest = z.2; least_over = z.3; greatest_over = z.4 };
    })

-- whether the iso has nothing to do with lists, as `is_free` tells it
module _ (t index : List ℕ) (isos i : ℕ) {b : Bool} (tells : FreeTold t index isos i b) (base : ℕ) (rs : List Row) (p : Prepared t base index isos rs) where
  free_as : is_free (isos_of rs) i ≡ b
  free_as = sym (free_of t index base isos rs p.good.passes p.indexed p.count i tells)

pub has_lists : (t index : List ℕ) (isos i : ℕ) (f : CodeOption F.Refusal) (r : B.Bounded) → i < isos → {b : Bool} → FreeTold t index isos i b → b ≡ false
    → refusal_view f ≡ some too_many → Refused f r → (base : ℕ) (rs : List Row) → Prepared t base index isos rs → ToldOf (bounds_rows i rs) r
has_lists t index isos i f r h tells off n z base rs p =
    let k = p.count in
    let o = inside (isos_of rs) i (omega (arith, h, k)) in
    let low : ℕ = get_or (least_costs (isos_of rs)) i 0 in
    let high : ℕ = get_or (greatest_costs (isos_of rs)) i 0 in
    subst (λ x. ToldOf x r)
    (sym (ap (on_iso (isos_of rs) i) o.1 ∙ ap (λ c. cond c (gives (low, high)) (fails too_many)) (free_as t index isos i tells base rs p ∙ off)))
    (record {
      refusal = ap refusal_view z.0 ∙ n;
      told = record { number = ap number_of z.0 ∙ ap numbered n; least = z.1; greatest = z.2; least_over = z.3; greatest_over = z.4 };
    })

pub zeros : (n : ℕ) → Holds (replicate n 0) []
zeros zero j = refl
zeros (suc n) zero = refl
zeros (suc n) (suc j) = zeros n j

stopped_same : (l x : ℕ) → l ≡ min x cap → min l max_count ≡ min x max_count
stopped_same l x h = omega arith

over_same : (l x : ℕ) → l ≡ min x cap → ltb max_count l ≡ ltb max_count x
over_same l x h = go (ltb max_count x) refl
  where
    go : (b : Bool) → ltb max_count x ≡ b → ltb max_count l ≡ b
    go true e = let g = ltb_lt max_count x e in lt_ltb {m = max_count} {n = l} (omega arith)
    go false e = let g = ltb_false max_count x e in not_ltb {m = max_count} {n = l} (omega arith)

-- what `reckon` gives of one of its areas, of zeros before it
abbrev pub Reckons : (List ℕ → ℕ) → List ℕ → List ℕ → ℕ → List ℕ → Type 0
Reckons pick t index isos area = (base : ℕ) → isos ≤ max_isos → Holds area (costs_from pick [] (isos_at t base index 0 isos))

pub told : (t index least greatest : List ℕ) (isos i l g : ℕ) (r : B.Bounded) → i < isos → {b : Bool} → FreeTold t index isos i b → b ≡ true → Reckons least_of t index isos least
    → Reckons greatest_of t index isos greatest → l ≡ get_or least i 0 → g ≡ get_or greatest i 0 → refusal_view r.refusal ≡ none → r.least ≡ min l max_count
    → r.greatest ≡ min g max_count → r.least_over ≡ ltb max_count l → r.greatest_over ≡ ltb max_count g
    → (base : ℕ) (rs : List Row) → Prepared t base index isos rs → ToldOf (bounds_rows i rs) r
unfolding least_costs greatest_costs
told t index least greatest isos i l g r h tells on hl hg el eg n tl tg ol og base rs p =
    let k = p.count in
    let few = few_isos p.good.passes in
    let room : isos ≤ max_isos = omega (arith, k, few) in
    let o = inside (isos_of rs) i (omega (arith, h, k)) in
    let x = el ∙ hl base room i ∙ ap (λ os. min (get_or (costs_from least_of [] os) i 0) cap) (sym p.indexed) in
    let y = eg ∙ hg base room i ∙ ap (λ os. min (get_or (costs_from greatest_of [] os) i 0) cap) (sym p.indexed) in
    let low : ℕ = get_or (costs_from least_of [] (isos_of rs)) i 0 in
    let high : ℕ = get_or (costs_from greatest_of [] (isos_of rs)) i 0 in
    let free = free_as t index isos i tells base rs p ∙ on in
    subst (λ z. ToldOf z r) (sym (ap (on_iso (isos_of rs) i) o.1 ∙ ap (λ b. cond b (gives (low, high)) (fails too_many)) free))
    (record {
      refusal = n;
      told = record {
        number = ap numbered n;
        least = tl ∙ stopped_same l low x;
        greatest = tg ∙ stopped_same g high y;
        least_over = ol ∙ over_same l low x;
        greatest_over = og ∙ over_same g high y;
      };
    })

-- ---- the service; its answer names no line

bounds_number : (x : Outcome (ℕ × ℕ)) → refusal_number x ≡ (bounds_from x).number
bounds_number (gives p) = refl
bounds_number (fails f) = refl

-- the bounds, as an outcome says
abbrev Own : B.Bounded → Outcome (ℕ × ℕ) → Type 0
Own r x =
    (r.least ≡ (bounds_from x).least) × (r.greatest ≡ (bounds_from x).greatest) × (r.least_over ≡ (bounds_from x).least_over)
    × (r.greatest_over ≡ (bounds_from x).greatest_over)

module _ (s t w : List ℕ) (i : ℕ) (t' w' : List ℕ) where
  bounds_says : (r : B.Bounded) {place : ℕ} → ServedAs (bounds_served s t w i) (Own r) r.refusal place t' w' → BoundsSays s t w i t' w' r
  unfolding bounds_service
  bounds_says r g =
      record {
        refusal = g.refusal;
        told = record {
          number = g.number ∙ bounds_number (bounds_served s t w i).outcome;
          least = g.answers.0;
          greatest = g.answers.1;
          least_over = g.answers.2;
          greatest_over = g.answers.3;
        };
        table = g.table;
        work = g.work;
      }

  pub bounds_refused : (a : A.Answer) (r : B.Bounded) (b : Bool)
      → CheckSays s t w t' w' a → b ≡ is_some (refusal_view a.refusal) → b ≡ true → Refused a.refusal r → BoundsSays s t w i t' w' r
  bounds_refused a r b c e y z =
      bounds_says r
      (subst (λ x. ServedAs (bounds_served s t w i) (Own r) x a.place t' w') (sym z.0)
      (check_refused (bounds_rows i) (Own r) s t w refl c e y (λ g. (z.1, z.2, z.3, z.4))))

  pub bounds_accepted : (c : C.Checked) (r : B.Bounded) (b : Bool)
      → CheckSays s t w t' w' c.answer → (refusal_view c.answer.refusal ≡ none → Accepted s t' c)
      → b ≡ is_some (refusal_view c.answer.refusal) → b ≡ false
      → ((x : List ℕ) (a : Accepted x t' c) → ToldOf (bounds_rows i a.file) r) → BoundsSays s t w i t' w' r
  bounds_accepted c r b says acc e y q =
      bounds_says r
      (check_accepted (bounds_rows i) (Own r) s t w refl c says acc e y {place = 0} refl
      (λ a. let k = (q s a).told in ((q s a).refusal, (k.least, k.greatest, k.least_over, k.greatest_over))) (λ _ u. u))
