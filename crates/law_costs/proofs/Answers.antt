-- Request 05 on a file's bytes: no run that is not refused counts outside the bounds, a budget that reaches an unflagged greatest is never
-- refused 17, and the turned file has the same bounds.
use Prim.Native.Nat.{ℕ, ◌<◌, ◌≤◌}
use native.Mathlib.Omega.{arith}
use mathlib.Core.Path.{◌≡◌, refl, sym, ap, ap₂, ◌∙◌, subst}
use mathlib.Core.Bool.{Bool, true, false, cond}
use mathlib.Core.Option.{Option, none, some}
use mathlib.Core.List.{List, map}
use lib.ListN.{get_or, get_elem?}
use Rattle.limits.specs.Limits.{max_count}
use Rattle.calculus.specs.Trees.{Val, Iso, invert}
use Rattle.calculus.specs.Refusals.{Refusal, spent, no_iso, too_many}
use Rattle.calculus.specs.Lists.{is_free}
use Rattle.format.specs.Lines.{Row}
use Rattle.format.specs.Unfold.{isos_of}
use Rattle.calculus.specs.Reduction.{reduce}
use Rattle.model.specs.Services.{accepted, refused, verdict, turned, gives, fails, toward, run_on, run}
use Rattle.model.specs.Answers.{RunIs, passed, done}
use Rattle.calculus.proofs.Basic.{none≢some, ltb_lt, ltb_false, index_map, index_of_map, not_some}
use Rattle.format.proofs.Turning.{isos_turn}
use Rattle.model.proofs.Files.{turned_accepted}
use Rattle.model.proofs.Outcomes.{given_accepted}
use Rattle.model.proofs.Runs.{GoodRows, good, good_toward, accepted_good, halted, run_iff}
use Rattle.model.proofs.Sizes.{near_of, list_toward, free_ends}
use Rattle.calculus.proofs.Lists.{free_invert}
use Rattle.law_costs.specs.Costs.{least_costs, greatest_costs}
use Rattle.law_costs.specs.Bounds.{stopped, over, no_bounds, told, bounds_from, on_iso, bounds_of, bounds}
use Rattle.law_costs.proofs.Between.{counts_between}
use Rattle.law_costs.proofs.Inverted.{least_invert, greatest_invert, least_toward, greatest_toward, present}

-- ---- the numbers told

-- a number that is not flagged is told as it is
pub stopped_exact : (n : ℕ) → over n ≡ false → stopped n ≡ n
stopped_exact n e = let h = ltb_false max_count n e in omega arith

below_stopped : (k n : ℕ) → k ≤ n → k ≤ max_count → k ≤ stopped n
below_stopped k n h l = omega arith

-- ---- which file, and which iso

pub bounds_refused : (file : List ℕ) (f : Refusal) (n : ℕ) → verdict file ≡ refused f n → (i : ℕ) → bounds file i ≡ no_bounds f
unfolding bounds
bounds_refused file f n e i = ap (λ v. bounds_of v i) e

pub bounds_absent : (file : List ℕ) (rs : List Row) → verdict file ≡ accepted rs → (i : ℕ) → get_elem? (isos_of rs) i ≡ none → bounds file i ≡ no_bounds no_iso
unfolding bounds
bounds_absent file rs e i h = ap (λ v. bounds_of v i) e ∙ ap (λ x. bounds_from (on_iso (isos_of rs) i x)) h

-- 18 where a type of the iso, or of one that it reaches, holds a list
pub bounds_lists : (file : List ℕ) (rs : List Row) → verdict file ≡ accepted rs → (i : ℕ) {o : Iso} → get_elem? (isos_of rs) i ≡ some o
    → is_free (isos_of rs) i ≡ false → bounds file i ≡ no_bounds too_many
unfolding bounds
bounds_lists file rs e i h l =
    let os : List Iso = isos_of rs in
    ap (λ v. bounds_of v i) e ∙ ap (λ x. bounds_from (on_iso os i x)) h
    ∙ ap (λ b. bounds_from (cond b (gives (get_or (least_costs os) i 0, get_or (greatest_costs os) i 0)) (fails too_many))) l

pub bounds_present : (file : List ℕ) (rs : List Row) → verdict file ≡ accepted rs → (i : ℕ) {o : Iso} → get_elem? (isos_of rs) i ≡ some o
    → is_free (isos_of rs) i ≡ true → bounds file i ≡ told (get_or (least_costs (isos_of rs)) i 0) (get_or (greatest_costs (isos_of rs)) i 0)
unfolding bounds
bounds_present file rs e i h l =
    let os : List Iso = isos_of rs in
    ap (λ v. bounds_of v i) e ∙ ap (λ x. bounds_from (on_iso os i x)) h
    ∙ ap (λ b. bounds_from (cond b (gives (get_or (least_costs os) i 0, get_or (greatest_costs os) i 0)) (fails too_many))) l

-- what is answered is of an iso without lists
pub bounds_free : (file : List ℕ) (rs : List Row) → verdict file ≡ accepted rs → (i : ℕ) {o : Iso} → get_elem? (isos_of rs) i ≡ some o
    → (bounds file i).number ≡ 0 → is_free (isos_of rs) i ≡ true
bounds_free file rs e i h z = go (is_free (isos_of rs) i) refl
  where
    go : (b : Bool) → is_free (isos_of rs) i ≡ b → b ≡ true
    go true l = refl
    go false l = let k = ap (λ x. x.number) (bounds_lists file rs e i h l) in absurd (omega (arith, k, z))

-- a run that gives something is of an accepted file
pub gives_accepted : (file : List ℕ) (i : ℕ) (back : Bool) (budget : ℕ) (value : List ℕ) (k : ℕ) (y : List ℕ)
    → run file i back budget value ≡ gives (k, y) → (rs : List Row) × (verdict file ≡ accepted rs)
unfolding run
gives_accepted file i back budget value k y r =
    let (rs, e, a) = given_accepted (verdict file) (run_on i back budget value) r in (rs, e)

-- ---- runs

-- the numbers reckoned for iso i, and a count between them
record Counted (file : List ℕ) (i : ℕ) (k : ℕ) : Type 0 where
  low : ℕ
  high : ℕ
  is : bounds file i ≡ told low high
  not_less : low ≤ k
  not_more : k ≤ high

counted : (file : List ℕ) (rs : List Row) → verdict file ≡ accepted rs → (i : ℕ) (back : Bool) (o : Iso) → get_elem? (isos_of (toward back rs)) i ≡ some o
    → is_free (isos_of rs) i ≡ true → (v w : Val) (k : ℕ) → reduce (isos_of (toward back rs)) i v ≡ (some w, k) → Counted file i k
counted file rs e i back o f free v w k r =
    let g = accepted_good file rs e in
    let h = good (toward back rs) (good_toward back rs g) in
    let b = counts_between (isos_of (toward back rs)) (near_of h) h.ok i (list_toward back rs g i o f free) v w k r in
    record {
      low = get_or (least_costs (isos_of rs)) i 0;
      high = get_or (greatest_costs (isos_of rs)) i 0;
      is = bounds_present file rs e i (present back rs g i f).1 free;
      not_less = subst (λ ns. get_or ns i 0 ≤ k) (least_toward back rs g) b.0;
      not_more = subst (λ ns. k ≤ get_or ns i 0) (greatest_toward back rs g) b.1;
    }

-- where the reduction halts, it has given something
halt_gives : {r : Option Val × ℕ} {w : Val} {k n : ℕ} {x : Option Val} → r ≡ (x, k) → r ≡ (some w, n) → r ≡ (some w, k)
halt_gives {k = k} e h = e ∙ ap (λ y. (y, k)) (ap (λ y. y.0) (sym e ∙ h))

module _ (file : List ℕ) (rs : List Row) (e : verdict file ≡ accepted rs) (i : ℕ) (back : Bool) (budget : ℕ) (value : List ℕ) (answered : (bounds file i).number ≡ 0) where
  the_good : GoodRows rs
  the_good = accepted_good file rs e

  free : {o : Iso} → get_elem? (isos_of (toward back rs)) i ≡ some o → is_free (isos_of rs) i ≡ true
  free f = bounds_free file rs e i (present back rs the_good i f).1 answered

  -- a run that gives something
  on_gives : {k : ℕ} {y : List ℕ} → RunIs (isos_of (toward back rs)) i budget value (gives (k, y)) → Counted file i k × (k ≤ budget)
  on_gives (done o v w k f x h s l) =
      let g = good (toward back rs) (good_toward back rs the_good) in
      (counted file rs e i back o f (free f) v w k (halted (isos_of (toward back rs)) g i o f v h s), l)

  -- a run that is spent
  on_spent : RunIs (isos_of (toward back rs)) i budget value (fails spent) → (k : ℕ) × Counted file i k × (budget < k)
  on_spent (passed o v x k f b h s l) =
      let os : List Iso = isos_of (toward back rs) in
      let g = good (toward back rs) (good_toward back rs the_good) in
      let (w, n, r, t) = free_ends back rs the_good i o f (free f) v h in
      (k, counted file rs e i back o f (free f) v w k (halt_gives (halted os g i o f v h s) r), l)

-- "No count of an unrefused run may lie outside"; a budget has 32 bits, so that no count is above a flagged greatest either
pub count_inside : (file : List ℕ) (i : ℕ) (back : Bool) (budget : ℕ) (value : List ℕ) (k : ℕ) (y : List ℕ) → (bounds file i).number ≡ 0
    → run file i back budget value ≡ gives (k, y)
    → ((bounds file i).least ≤ k) × ((bounds file i).greatest_over ≡ false → k ≤ (bounds file i).greatest) × (budget ≤ max_count → k ≤ (bounds file i).greatest)
count_inside file i back budget value k y answered r =
    let a = gives_accepted file i back budget value k y r in
    let p = on_gives file a.0 a.1 i back budget value answered ((run_iff file a.0 a.1 i back budget value (gives (k, y))).0 r) in
    let c = p.0 in
    let z = p.1 in
    let low = c.not_less in (
      subst (λ q. q.least ≤ k) (sym c.is) (omega arith),
      (λ u. subst (λ q. k ≤ q.greatest) (sym c.is)
          (subst (λ n. k ≤ n) (sym (stopped_exact c.high (ap (λ q. q.greatest_over) (sym c.is) ∙ u))) c.not_more)),
      (λ u. subst (λ q. k ≤ q.greatest) (sym c.is) (below_stopped k c.high c.not_more (omega arith))),
    )

-- "a budget that reaches an unflagged greatest is never refused 17"
pub never_spent : (file : List ℕ) (rs : List Row) → verdict file ≡ accepted rs → (i : ℕ) (back : Bool) (budget : ℕ) (value : List ℕ) → (bounds file i).number ≡ 0
    → (bounds file i).greatest_over ≡ false → (bounds file i).greatest ≤ budget → run file i back budget value ≡ fails spent → ⊥
never_spent file rs e i back budget value answered u h r =
    let p = on_spent file rs e i back budget value answered ((run_iff file rs e i back budget value (fails spent)).0 r) in
    let c = p.1 in
    let exact = stopped_exact c.high (ap (λ q. q.greatest_over) (sym c.is) ∙ u) in
    let reach : stopped c.high ≤ budget = subst (λ q. q.greatest ≤ budget) c.is h in
    let a = c.not_more in
    let l = p.2 in
    absurd (omega arith)

-- where the least is flagged no run gives anything: every budget is too small
pub least_flagged : (file : List ℕ) (i : ℕ) (back : Bool) (budget : ℕ) (value : List ℕ) → (bounds file i).number ≡ 0 → (bounds file i).least_over ≡ true
    → budget ≤ max_count → (k : ℕ) (y : List ℕ) → run file i back budget value ≡ gives (k, y) → ⊥
least_flagged file i back budget value answered u h k y r =
    let t = gives_accepted file i back budget value k y r in
    let p = on_gives file t.0 t.1 i back budget value answered ((run_iff file t.0 t.1 i back budget value (gives (k, y))).0 r) in
    let c = p.0 in
    let above = ltb_lt max_count c.low (ap (λ q. q.least_over) (sym c.is) ∙ u) in
    let a = c.not_less in
    let z = p.1 in
    absurd (omega arith)

-- ---- the turned file

on_iso_invert : (os : List Iso) (i : ℕ) (x : Option Iso) → get_elem? os i ≡ x → on_iso (map invert os) i (get_elem? (map invert os) i) ≡ on_iso os i x
on_iso_invert os i none e = ap (on_iso (map invert os) i) (not_some (get_elem? (map invert os) i) (λ n h. none≢some (sym e ∙ (index_of_map invert os i h).1)))
on_iso_invert os i (some o) e =
    ap (on_iso (map invert os) i) (index_map invert os i e)
    ∙ ap (λ bs. cond (get_or bs i true) (gives (get_or (least_costs (map invert os)) i 0, get_or (greatest_costs (map invert os)) i 0)) (fails too_many)) (free_invert os)
    ∙ ap₂ (λ ls gs. cond (is_free os i) (gives (get_or ls i 0, get_or gs i 0)) (fails too_many)) (least_invert os) (greatest_invert os)

-- The turned file has the same bounds, so that they serve a run back as well.
pub bounds_turned : (file : List ℕ) (rs : List Row) → verdict file ≡ accepted rs → (i : ℕ) → bounds (turned file) i ≡ bounds file i
unfolding bounds
bounds_turned file rs e i =
    let g = accepted_good file rs e in
    ap (λ v. bounds_of v i) (turned_accepted file rs e)
    ∙ ap (λ os. bounds_from (on_iso os i (get_elem? os i))) (isos_turn rs g.passes)
    ∙ ap bounds_from (on_iso_invert (isos_of rs) i (get_elem? (isos_of rs) i) refl)
    ∙ ap (λ v. bounds_of v i) (sym e)
