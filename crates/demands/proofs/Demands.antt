-- The demands of `specs/Demands.antt`, proved.
use Prim.Native.Nat.{ℕ, ◌≤◌}
use native.Mathlib.Nat.{le_trans}
use native.Mathlib.Omega.{arith}
use mathlib.Core.Path.{◌≡◌, refl, sym, ap, ◌∙◌, subst}
use mathlib.Core.Logic.{◌⊎◌, inl, inr}
use mathlib.Core.Bool.{Bool, true, false, cond, ◌||◌}
use mathlib.Core.List.{List}
use mathlib.Core.Bool.{true, false}
use mathlib.Core.Option.{Option, none, some}
use lib.Dec.{ltb}
use lib.ListN.{get_elem?, length}
use Rattle.limits.specs.Limits.{max_depth, result_length}
use Rattle.calculus.specs.Trees.{Val, Iso}
use Rattle.calculus.specs.Refusals.{Refusal, number, spent, too_large}
use Rattle.calculus.specs.Clauses.{sigs_of}
use Rattle.calculus.specs.Reduction.{small, reduce_to, reduce}
use Rattle.format.specs.Lines.{Row}
use Rattle.format.specs.Unfold.{isos_of}
use Rattle.model.specs.Services.{Verdict, accepted, refused, verdict, answer_of, check, Ran, gives, fails, short, unless, within, toward, run_of, run, RunAnswer, answer_of_run, run_service}
use Rattle.calculus.specs.Letters.{letters}
use Rattle.calculus.specs.Paper.{Of}
use Rattle.calculus.specs.Terms.{eapp, val_term, Steps}
use Rattle.calculus.specs.Faulty.{FirstIso}
use Rattle.model.specs.Answers.{Halts, reaches, RunIs}
use Rattle.calculus.proofs.Basic.{some_inj, none≢some, counted, le_leb}
use Rattle.calculus.proofs.Inverse.{reduce_unfold}
use Rattle.calculus.proofs.Reaching.{reduction_iff}
use Rattle.calculus.proofs.Before.{Before, same, less, before_to}
use Rattle.calculus.proofs.Letters.{letters_injective}
use Rattle.model.proofs.Files.{answer_iff, refused_iff, turned_accepted}
use Rattle.calculus.proofs.Steps.{unique, LeftsApart}
use Rattle.model.proofs.Runs as Runs
use Rattle.model.proofs.Runs.{Good, GoodRows, good, good_toward, accepted_good, sound, left_sides, given_from, reduces_one, run_iff, run_at, run_back}
use Rattle.model.proofs.Runs.{there_and_back, ends_there, onto, one_clause, halted}
use Rattle.model.proofs.Sizes.{free_gives}
use Rattle.demands.specs.Words.{turned_bytes, Areas, Gives}
use Rattle.demands.specs.Demands.{EndsThatWay, NeverLarge, AcceptedExactly, AcceptedAnywhere, RefusedExactly, RunExactly, TurnedAccepted, RunsBackwards, RunBack, OneClause, ReachedOnce}
use Rattle.demands.proofs.Serving.{check_says, accepted_rows, accepted_as, turn_writes, turn_says, run_shows, gives_run, run_gives}
use Rattle.calculus.proofs.Way.{steps_on_way}

-- ---- demand 2

pub accepted_exactly : AcceptedExactly
accepted_exactly file t w a =
    let s = check_says file a in
    let h = answer_iff file in
    ((λ e. h.0 (sym s ∙ e)), (λ f. s ∙ h.1 f))

pub accepted_anywhere : AcceptedAnywhere
accepted_anywhere file a t w areas = check_says file areas ∙ ap answer_of (accepted_rows a).1

pub refused_exactly : RefusedExactly
refused_exactly file rs f t w a n m positive = ((λ e. go (verdict file) refl (sym (check_says file a) ∙ e)), back)
  where
    go : (v : Verdict) → verdict file ≡ v → answer_of v ≡ record { number = n; line = m } → (g : Refusal) × (number g ≡ n) × FirstIso (sigs_of (isos_of rs)) 0 (isos_of rs) g m
    go (accepted qs) e h = let z = ap (λ x. x.number) h in absurd (omega (arith, z, positive))
    go (refused g k) e h =
        let same = ap (λ x. x.line) h in
        (g, ap (λ x. x.number) h, subst (FirstIso (sigs_of (isos_of rs)) 0 (isos_of rs) g) same ((refused_iff file rs f g k).0 e))

    back : (g : Refusal) × (number g ≡ n) × FirstIso (sigs_of (isos_of rs)) 0 (isos_of rs) g m → (check file t w).answer ≡ record { number = n; line = m }
    back (g, e, h) = check_says file a ∙ ap answer_of ((refused_iff file rs f g m).1 h) ∙ ap (λ x. record { number = x; line = m }) e

pub run_exactly : RunExactly
run_exactly file accepts rs f t w result areas h i back budget value a =
    let e = accepted_as accepts rs f in
    let s = run_shows file result i back budget value areas h in
    let r : Ran = run file i back budget value in (
      (λ x. (r, sym s ∙ x, (run_iff file rs e i back budget value r).0 refl)),
      (λ (q, p, j). s ∙ ap answer_of_run ((run_iff file rs e i back budget value q).1 j) ∙ p),
    )

-- ---- demand 3

pub turned_accepted_too : TurnedAccepted
turned_accepted_too file a t w output areas h =
    let (rs, e) = accepted_rows a in (
      turn_says file output areas h ∙ ap answer_of e,
      (λ t₂ w₂ areas₂. check_says (turned_bytes file t w output) areas₂ ∙ ap (λ bs. answer_of (verdict bs)) (turn_writes file output areas h) ∙ ap answer_of (turned_accepted file rs e)),
    )

pub runs_backwards : RunsBackwards
runs_backwards file a t w output areas h i back budget k x y t₁ w₁ r₁ t₂ w₂ r₂ a₁ l₁ a₂ l₂ =
    let (rs, e) = accepted_rows a in
    let law = there_and_back file rs e i back budget k x y in
    let same = turn_writes file output areas h in (
      (λ g. run_gives (turned_bytes file t w output) r₂ i back budget y k x a₂ l₂ (ap (λ bs. run bs i back budget y) same ∙ law.0 (gives_run file t₁ w₁ r₁ i back budget x k y g))),
      (λ g. run_gives file r₁ i back budget x k y a₁ l₁
          (law.1 (sym (ap (λ bs. run bs i back budget y) same) ∙ gives_run (turned_bytes file t w output) t₂ w₂ r₂ i back budget y k x g))),
    )

pub back_is_turned : RunBack
back_is_turned file a t w output areas h i budget x t₁ w₁ r₁ t₂ w₂ r₂ a₁ l₁ a₂ l₂ =
    let (rs, e) = accepted_rows a in
    run_shows file r₁ i true budget x a₁ l₁
    ∙ ap answer_of_run (run_back file rs e i budget x ∙ sym (ap (λ bs. run bs i false budget x) (turn_writes file output areas h)))
    ∙ sym (run_shows (turned_bytes file t w output) r₂ i false budget x a₂ l₂)

pub one_clause_matches : OneClause
one_clause_matches file a rs f back i o known v h u k s j w next =
    let e = accepted_as a rs f in
    let os : List Iso = isos_of (toward back rs) in
    let g : Good os = good (toward back rs) (good_toward back rs (accepted_good file rs e)) in
    one_clause file rs e back i o known v h j w (steps_on_way (sound os g) j w i o known v h u k s next)

halts_steps : {os : List Iso} {i : ℕ} {v w : Val} {k : ℕ} → Halts os i v (some w) k → Steps os (eapp i (val_term v)) (val_term w) k
halts_steps (reaches s never) = s

-- bytes for which a run gives the letters of w are those of the value that w is reached from
only_source : {os : List Iso} {i : ℕ} {o : Iso} {w : Val} → LeftsApart os → get_elem? os i ≡ some o → (r : Runs.ReachedOnce os i o w)
    → {budget k : ℕ} {x : List ℕ} → RunIs os i budget x (gives (k, letters w)) → (x ≡ letters r.source) × (k ≡ r.count)
only_source {os} {i} {o} {w} apart known r {k} says =
    let (p, v, z, there, value, typed, result, s, l) = given_from says in
    let from : Of v o.from = subst (λ y. Of v y.from) (some_inj (sym there ∙ known)) typed in
    let steps : Steps os (eapp i (val_term v)) (val_term w) k = subst (λ y. Steps os (eapp i (val_term v)) (val_term y) k) (sym (letters_injective w z result)) (halts_steps s) in
    let same = r.one v k from steps in
    let again : Steps os (eapp i (val_term r.source)) (val_term w) k = subst (λ y. Steps os (eapp i (val_term y)) (val_term w) k) same steps in
    (value ∙ ap letters same, (unique os apart (eapp i (val_term r.source)) w w k r.count again r.reduces).1)

-- a reduction that stops has made no more applications than the steps to the value are
stopped_before : (os : List Iso) → Good os → (i : ℕ) (o : Iso) → get_elem? os i ≡ some o → (v w : Val) (n k : ℕ) → Of v o.from
    → reduce os i v ≡ (none, n) → Steps os (eapp i (val_term v)) (val_term w) k → n ≤ k
stopped_before os g i o known v w n k typed r s =
    let (d, full) = (reduction_iff (sound os g) i o known v typed w k).0 s in
    go (before_to os small max_depth d i v w k full)
  where
    here : reduce os i v ≡ reduce_to small max_depth os i v
    here = ap (λ f. f i v) (reduce_unfold os)

    go : Before (reduce_to small max_depth os i v) w k → n ≤ k
    go (same q) = absurd (none≢some (ap (λ x. x.0) (sym r ∙ here ∙ q)))
    go (less m q l) = let e = ap (λ x. x.1) (sym r ∙ here ∙ q) in omega (arith, e, l)

-- a value that the steps lead to within the budget is given, or the run is 24
module _ (file : List ℕ) (rs : List Row) (e : verdict file ≡ accepted rs) (back : Bool) (i : ℕ) (o : Iso) (known : get_elem? (isos_of (toward back rs)) i ≡ some o)
    (v w : Val) (k : ℕ) (typed : Of v o.from) (s : Steps (isos_of (toward back rs)) (eapp i (val_term v)) (val_term w) k) where
  given_or_large : (t u result : List ℕ) (budget : ℕ) → Areas t u → 127 ≤ length result → k ≤ budget
      → Gives (run_service file t u i back budget (letters v) result) k (letters w) ⊎ ((run_service file t u i back budget (letters v) result).number ≡ 24)
  given_or_large t u result budget areas l b = go (reduce os i v).0 (reduce os i v).1 refl
    where
      os : List Iso
      os = isos_of (toward back rs)

      g : Good os
      g = good (toward back rs) (good_toward back rs (accepted_good file rs e))

      at : run file i back budget (letters v) ≡ within budget (reduce os i v)
      at = run_at file rs e i back budget o known v typed

      shows : (x : Ran) → run file i back budget (letters v) ≡ x → (run_service file t u i back budget (letters v) result).number ≡ (answer_of_run x).number
      shows x h = ap (λ y. y.number) (run_shows file result i back budget (letters v) areas l) ∙ ap (λ y. (answer_of_run y).number) h

      go : (x : Option Val) (n : ℕ) → reduce os i v ≡ (x, n)
          → Gives (run_service file t u i back budget (letters v) result) k (letters w) ⊎ ((run_service file t u i back budget (letters v) result).number ≡ 24)
      go (some z) n r =
          let one = reduces_one os g i v z w n k r s in
          let r' = r ∙ counted (ap some one.0) one.1 in
          inl (run_gives file result i back budget (letters v) k (letters w) areas l (at ∙ ap (within budget) r' ∙ ap (λ c. cond c (gives (k, letters w)) (fails spent)) (le_leb b)))
      go none n r =
          let m = stopped_before os g i o known v w n k typed r s in
          inr (shows (fails too_large) (at ∙ ap (within budget) r ∙ ap (λ c. cond c (fails too_large) (fails spent)) (le_leb (le_trans m b))))

pub never_large : NeverLarge
unfolding run_service run
never_large file a rs f back i free table work value result budget h = go (short table work || ltb (length result) result_length) h
  where
    e : verdict file ≡ accepted rs
    e = accepted_as a rs f

    q : GoodRows (toward back rs)
    q = good_toward back rs (accepted_good file rs e)

    os : List Iso
    os = isos_of (toward back rs)

    never : (r : Ran) → RunIs os i budget value r → (answer_of_run r).number ≡ 24 → ⊥
    never _ (RunIs.absent k) n = omega (arith, n)
    never _ (RunIs.strange o k x) n = omega (arith, n)
    never _ (RunIs.passed o v x k known bytes typed s l) n = omega (arith, n)
    never _ (RunIs.large o v k known bytes typed s l) n =
        let (w, m, r) = free_gives (toward back rs) q i free o known v typed in
        none≢some (ap (λ x. x.0) (sym (halted os (good (toward back rs) q) i o known v typed s) ∙ r))
    never _ (RunIs.done o v w k known bytes typed s l) n = omega (arith, n)

    go : (b : Bool) → (let r : RunAnswer = answer_of_run (run_of (unless b (verdict file)) i back budget value) in r.number ≡ 24) → ⊥
    go true n = omega (arith, n)
    go false n = never (run file i back budget value) ((run_iff file rs e i back budget value (run file i back budget value)).0 refl) n

pub reached_once : ReachedOnce
reached_once file a rs f never back i o known w h =
    let e = accepted_as a rs f in
    let os : List Iso = isos_of (toward back rs) in
    let g : Good os = good (toward back rs) (good_toward back rs (accepted_good file rs e)) in
    let r = onto file rs e never back i o known w h in
    let says = run_iff file rs e i back in
    record {
      source = r.source;
      typed = r.typed;
      count = r.count;
      reduces = r.reduces;
      one = r.one;
      given = given_or_large file rs e back i o known r.source w r.count r.typed r.reduces;
      one_given = λ t u result budget k x gave.
          only_source (left_sides os g.ok) known r
          ((says budget x (gives (k, letters w))).0 (gives_run file t u result i back budget x k (letters w) gave));
    }

-- ---- request 14

pub ends_that_way : EndsThatWay
ends_that_way file a rs f back i o known rules v h =
    let e = accepted_as a rs f in
    let r = ends_there file rs e back i o known rules v h in
    (r, given_or_large file rs e back i o known v r.result r.count h r.reduces)
