-- Runs as bytes: what Run answers, there and back, where the reduction ends, and every value of the to-type reached from exactly one value of
-- the from-type where no iso calls itself.
use Prim.Native.Nat.{ℕ, ◌<◌, ◌≤◌}
use mathlib.Core.Path.{◌≡◌, refl, sym, ap, ◌∙◌, subst, subst₂}
use mathlib.Core.Logic.{◌↔◌}
use mathlib.Core.Bool.{Bool, true, false, cond, false≢true}
use mathlib.Core.Option.{Option, none, some}
use mathlib.Core.List.{List, map, Memᴰ}
use lib.Dec.{leb}
use lib.ListN.{get_elem?, length, length-map}
use Rattle.limits.specs.Limits.{max_depth}
use Rattle.calculus.specs.Tools.{◌>>=◌, guard}
use Rattle.calculus.specs.Trees.{Ty, Val, Iso, invert}
use Rattle.calculus.specs.Refusals.{spent, too_large}
use Rattle.format.specs.Lines.{Row}
use Rattle.format.specs.Unfold.{isos_of, turn_rows}
use Rattle.calculus.specs.Reduction.{Counted, small, reduce_to, reduce}
use Rattle.calculus.specs.Letters.{letters, value_of, inhabits}
use Rattle.model.specs.Services.{accepted, verdict, turned, Ran, gives, fails, ended, within, value_in, argument, from, on_iso, run_rows, toward, run_of, run}
use Rattle.calculus.specs.Paper.{Of, Apart, FileOk, NeverCalls, NoneCalls, MeetsRule, Ending, OnWay, ExactlyOne, Stops}
use Rattle.calculus.specs.Clauses.{lefts, rights}
use Rattle.calculus.specs.Terms.{Steps, eapp, val_term}
use Rattle.model.specs.Answers.{Halts, reaches, stops, RunIs, absent, strange, passed, large, done}
pub use Rattle.calculus.specs.Faulty.{ReachedOnce, Ends}
pub use Rattle.model.specs.Answers.{GoodRows}
use Rattle.calculus.proofs.Basic.{bind_some, some_bind, none≢some, some_inj, not_some, counted, guard_true, true_guard, leb_le, le_leb, leb_false, not_leb, mem_index, index_map, index_of_map}
use Rattle.calculus.proofs.Formed.{Formed}
use Rattle.calculus.proofs.Letters.{value_letters, letters_value, letters_injective, inhabits_of, of_inhabits}
use Rattle.calculus.proofs.Inverse.{reduce_inverse, reduce_unfold, reduce_to_inverse}
use Rattle.calculus.proofs.Recursion.{never_invert}
use Rattle.calculus.proofs.Totality.{Sound, sig, reduction_keeps, on_way}
use Rattle.calculus.proofs.Ending.{ends}
use Rattle.calculus.proofs.Stopping.{progress, stops_none}
use Rattle.calculus.proofs.Steps.{forward, unique}
use Rattle.format.proofs.Passing.{Passes, formed}
use Rattle.format.specs.Judge.{start}
use Rattle.format.proofs.Turning.{turn_turn, isos_turn, passes_turn}
use Rattle.model.proofs.Files.{passes as passes_of, accepted_iff, turned_ok, turned_accepted}

-- ---- the isos of an accepted file

pub record Good (os : List Iso) : Type 0 where
  pub form : Formed os
  pub ok : FileOk os

pub sound : (os : List Iso) → Good os → Sound os
sound os g =
    record {
      linear = λ o m c k. let r = mem_index m in ((g.ok r.0 o r.1).clauses c k).types;
      shapes = λ o m c k. let r = mem_index m in ((g.ok r.0 o r.1).clauses c k).shapes;
      lefts_apart = λ o m. let r = mem_index m in (g.ok r.0 o r.1).lefts_apart;
      lefts_cover = λ o m. let r = mem_index m in (g.ok r.0 o r.1).lefts_cover;
      earlier = λ i o e c k l n. ((g.form i o e c k).lets l n).earlier;
    }

pub sides : (os : List Iso) → FileOk os → (o : Iso) → Memᴰ o os → Apart (lefts o) × Apart (rights o)
sides os ok o m = let r = mem_index m in ((ok r.0 o r.1).lefts_apart, (ok r.0 o r.1).rights_apart)

pub left_sides : (os : List Iso) → FileOk os → (o : Iso) → Memᴰ o os → Apart (lefts o)
left_sides os ok o m = (sides os ok o m).0

-- what the reduction gives is a closed value of the to-type
pub preserves : (os : List Iso) → Good os → (i : ℕ) (o : Iso) → get_elem? os i ≡ some o → (v w : Val) (k : ℕ) → Of v o.from
    → reduce os i v ≡ (some w, k) → Of w o.to
preserves os g i o e v w k h r =
    reduction_keeps (sound os g) small max_depth i (sig o) (index_map sig os i e) v w k h (sym (ap (λ f. f i v) (reduce_unfold os)) ∙ r)

-- and what the rules of Table 3 lead to, with the same number of applications
pub reduces : (os : List Iso) (i : ℕ) (v w : Val) (k : ℕ) → reduce os i v ≡ (some w, k) → Steps os (eapp i (val_term v)) (val_term w) k
reduces os i v w k r = forward os small max_depth i v w k (sym (ap (λ f. f i v) (reduce_unfold os)) ∙ r)

-- and nothing else
pub reduces_one : (os : List Iso) → Good os → (i : ℕ) (v w w' : Val) (k k' : ℕ) → reduce os i v ≡ (some w, k) → Steps os (eapp i (val_term v)) (val_term w') k'
    → (w ≡ w') × (k ≡ k')
reduces_one os g i v w w' k k' r s = unique os (left_sides os g.ok) (eapp i (val_term v)) w w' k k' (reduces os i v w k r) s

-- The reduction that executes ends as the judgement says, value and count.
module _ (os : List Iso) (g : Good os) (i : ℕ) (o : Iso) (e : get_elem? os i ≡ some o) (v : Val) (h : Of v o.from) where
  same : reduce os i v ≡ reduce_to small max_depth os i v
  same = ap (λ f. f i v) (reduce_unfold os)

  no_stop : {u : Val} {j : ℕ} → reduce os i v ≡ (some u, j) → (m : ℕ) → Stops os small max_depth i v m → ⊥
  no_stop r m s = none≢some (ap (λ x. x.0) (sym (same ∙ stops_none (left_sides os g.ok) small s) ∙ r))

  stop : (k : ℕ) → reduce os i v ≡ (none, k) → Stops os small max_depth i v k
  stop k r = progress (sound os g) small max_depth i o e v h k (sym same ∙ r)

  pub halts : (x : Option Val) (k : ℕ) → reduce os i v ≡ (x, k) → Halts os i v x k
  halts none k r = stops (stop k r)
  halts (some w) k r = reaches (reduces os i v w k r) (no_stop r)

  pub halted : {x : Option Val} {k : ℕ} → Halts os i v x k → reduce os i v ≡ (x, k)
  halted (stops s) = same ∙ stops_none (left_sides os g.ok) small s
  halted (reaches {w} {k} s never) = go (reduce os i v).0 (reduce os i v).1 refl
    where
      go : (x : Option Val) (j : ℕ) → reduce os i v ≡ (x, j) → reduce os i v ≡ (some w, k)
      go none j r = absurd (never j (stop j r))
      go (some u) j r = let x = reduces_one os g i v u w j k r s in r ∙ counted (ap some x.0) x.1

  pub halts_iff : (x : Option Val) (k : ℕ) → (reduce os i v ≡ (x, k)) ↔ Halts os i v x k
  halts_iff x k = (halts x k, halted)

-- ---- what Run answers

pub good : (rs : List Row) → GoodRows rs → Good (isos_of rs)
good rs g = record { form = formed g.passes; ok = g.ok }

pub good_turn : (rs : List Row) → GoodRows rs → GoodRows (turn_rows rs)
good_turn rs g =
    record { passes = passes_turn g.passes; ok = turned_ok rs g.passes g.ok }

pub good_toward : (back : Bool) (rs : List Row) → GoodRows rs → GoodRows (toward back rs)
good_toward true rs g = good_turn rs g
good_toward false rs g = g

pub accepted_good : (bs : List ℕ) (rs : List Row) → verdict bs ≡ accepted rs → GoodRows rs
accepted_good bs rs e = let h = (accepted_iff bs rs).0 e in record { passes = passes_of bs rs h.0; ok = h.1 }

-- the bytes are one closed value of a type
pub value_in_lem : (bs : List ℕ) (a : Ty) (v : Val) → value_in bs a ≡ some v → (bs ≡ letters v) × (inhabits v a ≡ true)
value_in_lem bs a v e =
    let r = bind_some (value_of bs) (λ u. guard (inhabits u a) >>= λ _. some u) e in
    let s = bind_some (guard (inhabits r.0 a)) (λ _. some r.0) r.2 in
    let same = some_inj s.2 in
    (letters_value bs r.0 r.1 ∙ ap letters same, subst (λ u. inhabits u a ≡ true) same (guard_true (inhabits r.0 a) s.1))

-- of the from-type, or they are not
argument_some : (o : Iso) (bs : List ℕ) (v : Val) → argument o bs ≡ some v → (bs ≡ letters v) × Of v o.from
argument_some o bs v e = let r = value_in_lem bs o.from v e in (r.0, inhabits_of v o.from r.1)

some_argument : (o : Iso) (bs : List ℕ) (v : Val) → bs ≡ letters v → Of v o.from → argument o bs ≡ some v
some_argument o bs v e h =
    some_bind (λ u. guard (inhabits u o.from) >>= λ _. some u) (ap value_of e ∙ value_letters v)
    ∙ some_bind (λ _. some v) (true_guard (of_inhabits h))

no_argument : (o : Iso) (bs : List ℕ) → ((v : Val) → bs ≡ letters v → Of v o.from → ⊥) → argument o bs ≡ none
no_argument o bs h = not_some (argument o bs) (λ v e. let r = argument_some o bs v e in h v r.0 r.1)

module _ (os : List Iso) (g : Good os) (i budget : ℕ) (bs : List ℕ) where
  abbrev answered : Ran
  answered = on_iso os i budget bs (get_elem? os i)

  -- the answer where iso and value are there
  reached : (o : Iso) (v : Val) (x : Option Val) (k : ℕ) → get_elem? os i ≡ some o → bs ≡ letters v → Of v o.from → reduce os i v ≡ (x, k)
      → answered ≡ cond (leb k budget) (ended x k) (fails spent)
  reached o v x k e b h r =
      ap (on_iso os i budget bs) e ∙ ap (from os i budget) (some_argument o bs v b h) ∙ ap (within budget) r

  says : RunIs os i budget bs answered
  says = on (get_elem? os i) refl
    where
      within_says : (o : Iso) → get_elem? os i ≡ some o → (v : Val) → bs ≡ letters v → Of v o.from → (x : Option Val) (k : ℕ) → Halts os i v x k
          → (b : Bool) → leb k budget ≡ b → RunIs os i budget bs (cond b (ended x k) (fails spent))
      within_says o e v p h none k r true l = large o v k e p h r (leb_le k budget l)
      within_says o e v p h (some w) k r true l = done o v w k e p h r (leb_le k budget l)
      within_says o e v p h x k r false l = passed o v x k e p h r (leb_false k budget l)

      arg : (o : Iso) → get_elem? os i ≡ some o → (x : Option Val) → argument o bs ≡ x → RunIs os i budget bs (from os i budget x)
      arg o e none a = strange o e (λ v p h. none≢some (sym a ∙ some_argument o bs v p h))
      arg o e (some v) a =
          let p = argument_some o bs v a in
          let x : Option Val = (reduce os i v).0 in
          let k : ℕ = (reduce os i v).1 in
          within_says o e v p.0 p.1 x k (halts os g i o e v p.1 x k refl) (leb k budget) refl

      on : (x : Option Iso) → get_elem? os i ≡ x → RunIs os i budget bs (on_iso os i budget bs x)
      on none e = absent e
      on (some o) e = arg o e (argument o bs) refl

  said : {r : Ran} → RunIs os i budget bs r → answered ≡ r
  said (absent e) = ap (on_iso os i budget bs) e
  said (strange o e h) = ap (on_iso os i budget bs) e ∙ ap (from os i budget) (no_argument o bs h)
  said (passed o v x k e b h r l) = reached o v x k e b h (halted os g i o e v h r) ∙ ap (λ t. cond t (ended x k) (fails spent)) (not_leb l)
  said (large o v k e b h r l) = reached o v none k e b h (halted os g i o e v h r) ∙ ap (λ t. cond t (fails too_large) (fails spent)) (le_leb l)
  said (done o v w k e b h r l) =
      reached o v (some w) k e b h (halted os g i o e v h r) ∙ ap (λ t. cond t (gives (k, letters w)) (fails spent)) (le_leb l)

  -- the answer is what the judgement says, and no other
  pub says_iff : (r : Ran) → (answered ≡ r) ↔ RunIs os i budget bs r
  says_iff r = ((λ e. subst (RunIs os i budget bs) e says), said)

-- what a run gives is the letters of what its value reduces to
pub given_from : {os : List Iso} {i budget k : ℕ} {x y : List ℕ} → RunIs os i budget x (gives (k, y))
    → (o : Iso) × (v : Val) × (z : Val) × (get_elem? os i ≡ some o) × (x ≡ letters v) × Of v o.from × (y ≡ letters z) × Halts os i v (some z) k × (k ≤ budget)
given_from (done o v z j e p h s l) = (o, v, z, e, p, h, refl, s, l)

pub run_rows_iff : (rs : List Row) → GoodRows rs → (i budget : ℕ) (bs : List ℕ) (r : Ran)
    → (run_rows rs i budget bs ≡ r) ↔ RunIs (isos_of rs) i budget bs r
unfolding run_rows
run_rows_iff rs g i budget bs r = says_iff (isos_of rs) (good rs g) i budget bs r

-- Run's answer for an accepted file, in either direction.
pub run_iff : (file : List ℕ) (rs : List Row) → verdict file ≡ accepted rs → (i : ℕ) (back : Bool) (budget : ℕ) (bs : List ℕ) (r : Ran)
    → (run file i back budget bs ≡ r) ↔ RunIs (isos_of (toward back rs)) i budget bs r
unfolding run
run_iff file rs e i back budget bs r =
    let h = run_rows_iff (toward back rs) (good_toward back rs (accepted_good file rs e)) i budget bs r in
    let same = ap (λ v. run_of v i back budget bs) e in
    ((λ k. h.0 (sym same ∙ k)), (λ k. same ∙ h.1 k))

-- ---- there and back

there : (os : List Iso) → Good os → Good (map invert os) → (i budget k : ℕ) (x y : List ℕ)
    → RunIs os i budget x (gives (k, y)) → RunIs (map invert os) i budget y (gives (k, x))
there os g b i budget k x y (done o v w j e p h s l) =
    let r = halted os g i o e v h s in
    let f = index_map invert os i e in
    let t = preserves os g i o e v w j h r in
    let q = (reduce_inverse os (sides os g.ok) i v w j).0 r in
    subst (λ z. RunIs (map invert os) i budget (letters w) (gives (j, z))) (sym p)
    (done (invert o) w v j f refl t (halts (map invert os) b i (invert o) f w t (some v) j q) l)

pub good_invert : (rs : List Row) → GoodRows rs → Good (map invert (isos_of rs))
good_invert rs g = subst Good (isos_turn rs g.passes) (good (turn_rows rs) (good_turn rs g))

there_rows : (rs : List Row) → GoodRows rs → (i budget k : ℕ) (x y : List ℕ)
    → run_rows rs i budget x ≡ gives (k, y) → run_rows (turn_rows rs) i budget y ≡ gives (k, x)
there_rows rs g i budget k x y e =
    (run_rows_iff (turn_rows rs) (good_turn rs g) i budget y (gives (k, x))).1
    (subst (λ os. RunIs os i budget y (gives (k, x))) (sym (isos_turn rs g.passes))
    (there (isos_of rs) (good rs g) (good_invert rs g) i budget k x y ((run_rows_iff rs g i budget x (gives (k, y))).0 e)))

there_and_back_rows : (rs : List Row) → GoodRows rs → (i budget k : ℕ) (x y : List ℕ)
    → (run_rows rs i budget x ≡ gives (k, y)) ↔ (run_rows (turn_rows rs) i budget y ≡ gives (k, x))
there_and_back_rows rs g i budget k x y = (
  there_rows rs g i budget k x y,
  (λ e. subst (λ q. run_rows q i budget x ≡ gives (k, y)) (turn_turn rs) (there_rows (turn_rows rs) (good_turn rs g) i budget k y x e)),
)

toward_turn : (back : Bool) (rs : List Row) → toward back (turn_rows rs) ≡ turn_rows (toward back rs)
toward_turn true rs = refl
toward_turn false rs = refl

pub run_accepted : (file : List ℕ) (rs : List Row) → verdict file ≡ accepted rs → (i : ℕ) (back : Bool) (budget : ℕ) (bs : List ℕ)
    → run file i back budget bs ≡ run_rows (toward back rs) i budget bs
unfolding run
run_accepted file rs e i back budget bs = ap (λ v. run_of v i back budget bs) e

-- For every iso, direction, budget, count and any two byte strings: the file's run gives y for x with that count exactly when the run of
-- the turned file, with the same direction and budget, gives x for y with that count.
pub there_and_back : (file : List ℕ) (rs : List Row) → verdict file ≡ accepted rs → (i : ℕ) (back : Bool) (budget k : ℕ) (x y : List ℕ)
    → (run file i back budget x ≡ gives (k, y)) ↔ (run (turned file) i back budget y ≡ gives (k, x))
there_and_back file rs e i back budget k x y =
    let h = there_and_back_rows (toward back rs) (good_toward back rs (accepted_good file rs e)) i budget k x y in
    let p = run_accepted file rs e i back budget x in
    let q = run_accepted (turned file) (turn_rows rs) (turned_accepted file rs e) i back budget y
    ∙ ap (λ r. run_rows r i budget y) (toward_turn back rs) in
    ((λ a. q ∙ h.0 (sym p ∙ a)), (λ a. p ∙ h.1 (sym q ∙ a)))

-- "A run back is a run forward of the turned file."
pub run_back : (file : List ℕ) (rs : List Row) → verdict file ≡ accepted rs → (i budget : ℕ) (bs : List ℕ)
    → run file i true budget bs ≡ run (turned file) i false budget bs
run_back file rs e i budget bs =
    run_accepted file rs e i true budget bs ∙ sym (run_accepted (turned file) (turn_rows rs) (turned_accepted file rs e) i false budget bs)

-- ---- where the reduction ends

reduction_ends : (os : List Iso) → Good os → (i : ℕ) (o : Iso) → get_elem? os i ≡ some o → Ending os i → (v : Val) → Of v o.from → Ends os i o v
reduction_ends os g i o e rules v t =
    let r = ends (sound os g) i o e rules v t in
    record { result = r.0; count = r.1.count; reduces = forward os (λ v. true) r.1.deep i v r.0 r.1.count r.1.gives; typed = r.2 }

-- "Where an iso and all it reaches meet the rule in one direction (those that never call themselves meet it in both), the reduction that way ends"
pub ends_there : (file : List ℕ) (rs : List Row) → verdict file ≡ accepted rs → (back : Bool) (i : ℕ) (o : Iso) → get_elem? (isos_of (toward back rs)) i ≡ some o
    → Ending (isos_of (toward back rs)) i → (v : Val) → Of v o.from → Ends (isos_of (toward back rs)) i o v
ends_there file rs e back i o =
    reduction_ends (isos_of (toward back rs)) (good (toward back rs) (good_toward back rs (accepted_good file rs e))) i o

-- ---- every value of the to-type is reached from exactly one value of the from-type, where no iso calls itself

none_invert : (os : List Iso) → NoneCalls os → NoneCalls (map invert os)
none_invert os h i q e = let r = index_of_map invert os i e in subst (NeverCalls i) r.2 (never_invert i r.0 (h i r.0 r.1))

pub none_toward : (back : Bool) (rs : List Row) → GoodRows rs → NoneCalls (isos_of rs) → NoneCalls (isos_of (toward back rs))
none_toward true rs g h = subst NoneCalls (sym (isos_turn rs g.passes)) (none_invert (isos_of rs) h)
none_toward false rs g h = h

reached_once : (os : List Iso) → Good os → Good (map invert os) → NoneCalls os → (i : ℕ) (o : Iso) → get_elem? os i ≡ some o → (w : Val) → Of w o.to
    → ReachedOnce os i o w
reached_once os g b never i o e w h =
    let free : Val → Bool = λ v. true in
    let f = index_map invert os i e in
    let t = ends (sound (map invert os) b) i (invert o) f (λ j p r k. MeetsRule.never (none_invert os never j p k)) w h in
    let source : Val = t.0 in
    let back = (reduce_to_inverse os (sides os g.ok) free t.1.deep i source w t.1.count).1 t.1.gives in
    record {
      source = source;
      typed = t.2;
      count = t.1.count;
      reduces = forward os free t.1.deep i source w t.1.count back;
      one = λ v k p s.
          let r = ends (sound os g) i o e (λ j p r k. MeetsRule.never (never j p k)) v p in
          let same = unique os (left_sides os g.ok) (eapp i (val_term v)) r.0 w r.1.count k
          (forward os free r.1.deep i v r.0 r.1.count r.1.gives) s in
          let turned = (reduce_to_inverse os (sides os g.ok) free r.1.deep i v w r.1.count).0 (r.1.gives ∙ counted (ap some same.0) refl) in
          (unique (map invert os) (left_sides (map invert os) b.ok) (eapp i (val_term w)) v source r.1.count t.1.count
          (forward (map invert os) free r.1.deep i w v r.1.count turned)
          (forward (map invert os) free t.1.deep i w source t.1.count t.1.gives)).0;
    }

-- In an accepted file where no iso calls itself, there or back, each closed value of the to-type is the result of exactly one closed value of
-- the from-type.
pub onto : (file : List ℕ) (rs : List Row) → verdict file ≡ accepted rs → NoneCalls (isos_of rs) → (back : Bool) (i : ℕ) (o : Iso)
    → get_elem? (isos_of (toward back rs)) i ≡ some o → (w : Val) → Of w o.to → ReachedOnce (isos_of (toward back rs)) i o w
onto file rs e never back i o =
    let p : GoodRows rs = accepted_good file rs e in
    let q : GoodRows (toward back rs) = good_toward back rs p in
    reached_once (isos_of (toward back rs)) (good (toward back rs) q) (good_invert (toward back rs) q) (none_toward back rs p never) i o

-- ---- exactly one clause matches at each application on the way

pub one_clause : (file : List ℕ) (rs : List Row) → verdict file ≡ accepted rs → (back : Bool) (i : ℕ) (o : Iso) → get_elem? (isos_of (toward back rs)) i ≡ some o
    → (v : Val) → Of v o.from → (j : ℕ) (w : Val) → OnWay (isos_of (toward back rs)) i v j w
    → (n : Iso) × (get_elem? (isos_of (toward back rs)) j ≡ some n) × Of w n.from × ExactlyOne n.clauses w
one_clause file rs e back i o f v h j w m =
    on_way (sound (isos_of (toward back rs)) (good (toward back rs) (good_toward back rs (accepted_good file rs e)))) m o f h

-- ---- the budget and the ceilings

module _ (file : List ℕ) (rs : List Row) (e : verdict file ≡ accepted rs) (i : ℕ) (back : Bool) (budget : ℕ) (o : Iso)
    (f : get_elem? (isos_of (toward back rs)) i ≡ some o) (v : Val) (h : Of v o.from) where
  abbrev the_isos : List Iso
  the_isos = isos_of (toward back rs)

  the_good : Good the_isos
  the_good = good (toward back rs) (good_toward back rs (accepted_good file rs e))

  pub run_at : run file i back budget (letters v) ≡ within budget (reduce the_isos i v)
  unfolding run run_rows
  run_at =
      ap (λ w. run_of w i back budget (letters v)) e
      ∙ reached the_isos the_good i budget (letters v) o v (reduce the_isos i v).0 (reduce the_isos i v).1 f refl h refl

  within_spent : (r : Counted Val) → (within budget r ≡ fails spent) ↔ (budget < r.1)
  within_spent r = (go r.0 (leb r.1 budget) refl, λ l. ap (λ b. cond b (ended r.0 r.1) (fails spent)) (not_leb l))
    where
      go : (x : Option Val) (b : Bool) → leb r.1 budget ≡ b → cond b (ended x r.1) (fails spent) ≡ fails spent → budget < r.1
      go none true l e = absurd (false≢true cc)
      go (some w) true l e = absurd (false≢true cc)
      go x false l e = leb_false r.1 budget l

  within_large : (r : Counted Val) → (within budget r ≡ fails too_large) ↔ ((r.0 ≡ none) × (r.1 ≤ budget))
  within_large r = (
    go r.0 refl (leb r.1 budget) refl,
    λ l. ap (λ b. cond b (ended r.0 r.1) (fails spent)) (le_leb l.1) ∙ ap (λ x. ended x r.1) l.0,
  )
    where
      go : (x : Option Val) → r.0 ≡ x → (b : Bool) → leb r.1 budget ≡ b → cond b (ended x r.1) (fails spent) ≡ fails too_large
          → (r.0 ≡ none) × (r.1 ≤ budget)
      go none h true l e = (h, leb_le r.1 budget l)
      go (some w) h true l e = absurd (false≢true cc)
      go x h false l e = absurd (false≢true cc)

  -- 17 exactly when the applications that the reduction makes, to its end or to what is too large, are more than the budget
  pub spent_iff : (run file i back budget (letters v) ≡ fails spent) ↔ ((x : Option Val) × (k : ℕ) × Halts the_isos i v x k × (budget < k))
  spent_iff =
      let w = within_spent (reduce the_isos i v) in
      let r = run_at in (
        (λ k. ((reduce the_isos i v).0, (reduce the_isos i v).1, halts the_isos the_good i o f v h (reduce the_isos i v).0 (reduce the_isos i v).1 refl, w.0 (sym r ∙ k))),
        (λ (x, k, s, l). r ∙ w.1 (subst (λ n. budget < n) (sym (ap (λ y. y.1) (halted the_isos the_good i o f v h s))) l)),
      )

  -- 24 exactly when, by the rules of request 14, it stops at what is too large within the budget
  pub stops_iff : (run file i back budget (letters v) ≡ fails too_large) ↔ ((k : ℕ) × Stops the_isos small max_depth i v k × (k ≤ budget))
  stops_iff =
      let w = within_large (reduce the_isos i v) in
      let r = run_at in (
        (λ k. let x = w.0 (sym r ∙ k) in ((reduce the_isos i v).1, stop the_isos the_good i o f v h (reduce the_isos i v).1 (counted x.0 refl), x.1)),
        (λ (k, s, l). let x = halted the_isos the_good i o f v h (stops s) in
            r ∙ w.1 (ap (λ y. y.0) x, subst (λ n. n ≤ budget) (sym (ap (λ y. y.1) x)) l)),
      )

  -- A result exactly when the rules of Table 3 lead to it, the budget holds their number, and nothing too large is met on the way.
  pub gives_iff : (w : Val) (k : ℕ) → (run file i back budget (letters v) ≡ gives (k, letters w))
      ↔ (Steps the_isos (eapp i (val_term v)) (val_term w) k × (k ≤ budget) × ((m : ℕ) → Stops the_isos small max_depth i v m → ⊥))
  gives_iff w k =
      let at = run_iff file rs e i back budget (letters v) (gives (k, letters w)) in (
        (λ r. go (at.0 r)),
        (λ (s, l, never). at.1 (done o v w k f refl h (reaches s never) l)),
      )
    where
      of : (u z : Val) → Halts the_isos i u (some z) k → u ≡ v → z ≡ w → k ≤ budget
          → Steps the_isos (eapp i (val_term v)) (val_term w) k × (k ≤ budget) × ((m : ℕ) → Stops the_isos small max_depth i v m → ⊥)
      of u z (reaches s never) p q l =
          (subst₂ (λ x y. Steps the_isos (eapp i (val_term x)) (val_term y) k) p q s, l, subst (λ x. (m : ℕ) → Stops the_isos small max_depth i x m → ⊥) p never)

      go : RunIs the_isos i budget (letters v) (gives (k, letters w))
          → Steps the_isos (eapp i (val_term v)) (val_term w) k × (k ≤ budget) × ((m : ℕ) → Stops the_isos small max_depth i v m → ⊥)
      go x =
          let (p, u, z, there, value, typed, result, s, l) = given_from x in
          of u z s (sym (letters_injective v u value)) (sym (letters_injective w z result)) l

-- as many isos either way
pub toward_length : (back : Bool) (rs : List Row) → Passes start rs → length (isos_of (toward back rs)) ≡ length (isos_of rs)
toward_length false rs ps = refl
toward_length true rs ps = ap length (isos_turn rs ps) ∙ length-map (isos_of rs) invert
