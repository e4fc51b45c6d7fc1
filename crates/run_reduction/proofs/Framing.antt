-- The reduction in the work area, function by function: what each assumes, what it finds, what it leaves.
use Prim.Native.Nat.{ℕ, zero, suc, ◌+◌, ◌-◌, ◌*◌, ◌≤◌, ◌<◌, min, max}
use native.Mathlib.Nat.{zero-add}
use native.Mathlib.Omega.{arith}
use mathlib.Core.Path.{◌≡◌, refl, sym, ap, ap₂, ◌∙◌, subst, subst₂}
use mathlib.Core.Bool.{Bool, true, false, cond, ◌||◌, true≢false}
use mathlib.Core.Option.{Option, none, some}
use mathlib.Core.Logic.{◌⊎◌, inl, inr, ⊎_elim}
use mathlib.Core.List.{List, [], ◌∷◌, ◌++◌}
use lib.Dec.{eqb, ltb}
use lib.ListN.{length, get_or, get_elem?, take, drop, replicate, length-append, drop_of_length-le, take-append-drop}
use lib.Seq.{sets, slice, sets-eq, length-take-le, length-slice, drop_at, take-take, drop-drop, drop-append-le}
use Rattle.limits.specs.Limits.{variables, max_lets, max_letters, result_length, work_length, frame, word_bound}
use Rattle.calculus.specs.Trees.{Pat, pvar, Val, Let, Clause, Iso}
use Rattle.calculus.specs.Slots.{Slots, empty}
use Rattle.calculus.specs.Letters.{letters}
use Rattle.calculus.specs.Reduction.{bind, build}
use Rattle.calculus.proofs.Basic.{none≢some, some_inj, not_both, index_below, le_or_lt, ltb_lt, ltb_false, eqb_eq, eqb_false, or_true}
use Rattle.calculus.proofs.Binding.{bind_length, build_length}
use Rattle.calculus.proofs.Letters.{letters_some}
use Rattle.area_cells.specs.Areas.{Writes}
use Rattle.table_trees.specs.Unfolding.{cell_of, pattern_of}
use Rattle.table_walks.specs.InTable.{let_at, clause_in}
use Rattle.run_index.specs.Index.{place_at, iso_at}
use Rattle.run_values.specs.Texts.{At, alike, Below, ranges, built}
use Rattle.run_values.specs.Agrees.{Agrees}
use Rattle.run_values.specs.Traces.{Fitting, Over, Calls, LetTrace, LetsTrace, EndTrace, ClauseTrace, Applies, Runs}
use Rattle.run_values.proofs.Agreeing.{at_within, at_take, at_sets, take_sets, bind_alike, length_ranges, below_ranges, below_more, agrees_empty, agrees_more, agrees_bind, built_build, at_slice}
use Rattle.run_values.proofs.Tracing.{runs_least}
use Rattle.std.specs.declared.result.Result as Outcome
use Rattle.std.specs.Prelude.{Ok, Err}
use Rattle.run_reduction.specs.declared.Given as G
use Rattle.run_reduction.specs.declared.Place as P
use Rattle.run_reduction.specs.declared.Reduced as R
use Rattle.run_reduction.specs.declared.Stop as S
use Rattle.run_reduction.specs.declared.Stop.TheVariants as halt
use Rattle.run_reduction.specs.Frames.{sided, sided_clause, sided_let, sided_lets, side_at, Laid, EnvAt, Chosen, Spares, too_large, Giving, Reducing, given_at}
use Rattle.run_reduction.specs.Frames.{done_at, rest_of, remaining, Result, Answers, Applied}
use Rattle.run_reduction.specs.Frames.{Reached, Comes, Stepped, Gives, Gave, Stood, Handed, Argued, ChoiceSays, StepSays, LetsSay, ApplySays, SettleSays, GiveSays, ArgueSays}
use Rattle.run_reduction.proofs.Laying.{inside, clause_at, lhs_at, rhs_at, lets_at, length_sided, let_at_lem, let_q, let_p, let_iso}

-- ---- answers

ok_inj : {A B : Type 0} {a b : A} → ◌≡◌ {A = Outcome.Result A B} (Ok a) (Ok b) → a ≡ b
ok_inj {A} {B} {a} e = ap value e
  where
    value : Outcome.Result A B → A
    value (Ok x) = x
    value (Err x) = a

pub done_place : {a b c d : ℕ} → done_at a b ≡ done_at c d → a ≡ c
done_place e = ap (λ (r : R.Reduced). r.top) (ok_inj e)

pub done_left : {a b c d : ℕ} → done_at a b ≡ done_at c d → b ≡ d
done_left e = ap remaining e

pub range_begin : {a b c d e f : ℕ} → given_at a b c ≡ given_at d e f → a ≡ d
range_begin e = ap (λ (g : G.Given). g.at) (ok_inj e)

pub range_end : {a b c d e f : ℕ} → given_at a b c ≡ given_at d e f → b ≡ e
range_end e = ap (λ (g : G.Given). g.end) (ok_inj e)

pub range_left : {a b c d e f : ℕ} → given_at a b c ≡ given_at d e f → c ≡ f
range_left e = ap rest_of e

-- which of the three an answer is
tells : {A : Type 0} → Outcome.Result A S.Stop → ℕ
tells (Ok x) = 0
tells (Err halt.Spent) = 1
tells (Err halt.Large) = 2

pub ok≢spent : {A : Type 0} {a : A} → ◌≡◌ {A = Outcome.Result A S.Stop} (Ok a) (Err halt.Spent) → ⊥
unfolding tells
ok≢spent e = let h = ap tells e in omega (arith, h)

pub ok≢large : {A : Type 0} {a : A} → ◌≡◌ {A = Outcome.Result A S.Stop} (Ok a) (Err halt.Large) → ⊥
unfolding tells
ok≢large e = let h = ap tells e in omega (arith, h)

pub spent≢large : {A : Type 0} → ◌≡◌ {A = Outcome.Result A S.Stop} (Err halt.Spent) (Err halt.Large) → ⊥
unfolding tells
spent≢large e = let h = ap tells e in omega (arith, h)

-- ---- what is left alone

pub spares_none : (w : List ℕ) (from to : ℕ) → Spares w w from to
spares_none w from to = record { before = refl; behind = refl }

pub spares_both : {w w₁ w₂ : List ℕ} {from to : ℕ} → Spares w w₁ from to → Spares w₁ w₂ from to → Spares w w₂ from to
spares_both a b = record { before = b.before ∙ a.before; behind = b.behind ∙ a.behind }

pub spares_more : {w w' : List ℕ} (a b from to : ℕ) → Spares w w' a b → from ≤ a → b ≤ to → Spares w w' from to
spares_more {w} {w'} a b from to k h g =
    let place : b + (to - b) ≡ to = omega arith in
    record {
      before = sym (take-take from a w' h) ∙ ap (take from) k.before ∙ take-take from a w h;
      behind = ap (λ n. drop n w') (sym place) ∙ sym (drop-drop (to - b) b w') ∙ ap (drop (to - b)) k.behind ∙ drop-drop (to - b) b w ∙ ap (λ n. drop n w) place;
    }

-- letters written
spares_sets : (w bs : List ℕ) (at : ℕ) → at + length bs ≤ length w → Spares w (sets w at bs) at (at + length bs)
spares_sets w bs at h =
    let long = length-take-le at w (omega arith) in
    let front = length-append (take at w) bs in
    record {
      before = take_sets w bs at at (omega arith);
      behind = ap (drop (at + length bs)) (sets-eq bs w at h) ∙ drop_at (take at w ++ bs) (drop (at + length bs) w) (at + length bs) (omega (arith, long, front));
    }

-- ---- the choice of a clause

-- the pattern that is read for the clause at place m
pub side_found : (t : List ℕ) (base : ℕ) (index : List ℕ) (back : Bool) (m : ℕ) {j p f : ℕ} → j ≡ cell_of t p f → p ≡ place_at index m → f ≡ cond back 2 1
    → pattern_of t base j ≡ side_at t base index back m
side_found t base index back m {j} {p} {f} e h k = ap (pattern_of t base) (e ∙ ap₂ (cell_of t) h k)

-- no clause from place `from` up to place m matches
pub record Choosing (S : ℕ → Pat) (work : List ℕ) (at end from stop : ℕ) (vars₀ vars : List ℕ) (m : ℕ) : Type 0 where
  pub onward : from ≤ m
  pub wide : length vars ≡ length vars₀
  pub not_yet : (v : Val) (n : ℕ) → At work at v → end ≡ at + length (letters v) → Below vars₀ (at + length (letters v)) → from + n < stop → alike (S (from + n)) v ≡ true
      → ((k : ℕ) → k < n → alike (S (from + k)) v ≡ false) → (m ≤ from + n) × Below vars (at + length (letters v))

pub choosing_start : (S : ℕ → Pat) (work : List ℕ) (at end from stop : ℕ) (vars : List ℕ) → Choosing S work at end from stop vars vars from
choosing_start S work at end from stop vars =
    record { onward = omega arith; wide = refl; not_yet = λ v n a z b h hit miss. (omega arith, b) }

pub choosing_next : {S : ℕ → Pat} {work : List ℕ} {at end from stop : ℕ} {vars₀ vars vars' : List ℕ} {m : ℕ} (q : Pat) → Choosing S work at end from stop vars₀ vars m
    → q ≡ S m → length vars' ≡ length vars → ((v : Val) → At work at v → end ≡ at + length (letters v) → (false ≡ alike q v) × (vars' ≡ ranges q v at vars))
    → Choosing S work at end from stop vars₀ vars' (m + 1)
choosing_next {S} {work} {at} {end} {from} {stop} {vars₀} {vars} {vars'} {m} q c e wide says =
    let o = c.onward in
    record {
      onward = omega (arith, o);
      wide = wide ∙ c.wide;
      not_yet = λ v n a z b h hit miss.
          let r = c.not_yet v n a z b h hit miss in
          let r₀ = r.0 in
          let f : alike (S m) v ≡ false = subst (λ p. alike p v ≡ false) e (sym (says v a z).0) in
          let other : m ≡ from + n → ⊥ = λ k. not_both hit (subst (λ x. alike (S x) v ≡ false) k f) in
          let later : m < from + n = further m (from + n) r₀ other in
          (omega (arith, later), subst (λ u. Below u (at + length (letters v))) (sym (says v a z).1) (below_ranges q v at vars _ r.1 (omega arith)));
    }
  where
    further : (x y : ℕ) → x ≤ y → (x ≡ y → ⊥) → x < y
    further x y h k = go (le_or_lt y x)
      where
        go : (y ≤ x) ⊎ (x < y) → x < y
        go (inl b) = absurd (k (omega arith))
        go (inr b) = b

pub choosing_found : {S : ℕ → Pat} {work : List ℕ} {at end from stop : ℕ} {vars₀ vars vars' : List ℕ} {m : ℕ} (q : Pat) → Choosing S work at end from stop vars₀ vars m
    → q ≡ S m → ((v : Val) → At work at v → end ≡ at + length (letters v) → (true ≡ alike q v) × (vars' ≡ ranges q v at vars))
    → (v : Val) (n : ℕ) → At work at v → end ≡ at + length (letters v) → Below vars₀ (at + length (letters v)) → from + n < stop → alike (S (from + n)) v ≡ true
    → ((k : ℕ) → k < n → alike (S (from + k)) v ≡ false) → Chosen (S (from + n)) v at vars₀ vars' (from + n) m
choosing_found {S} {work} {at} {end} {from} {stop} {vars₀} {vars} {vars'} {m} q c e says v n a z b h hit miss =
    let r = c.not_yet v n a z b h hit miss in
    let hits : alike (S m) v ≡ true = subst (λ p. alike p v ≡ true) e (sym (says v a z).0) in
    let same : m ≡ from + n = here (le_or_lt (from + n) m) r.0 c.onward hits in
    record {
      place = same;
      earlier = vars;
      below = r.1;
      wide = c.wide;
      matched = (says v a z).1 ∙ ap (λ p. ranges p v at vars) (e ∙ ap S same);
    }
  where
    here : (from + n ≤ m) ⊎ (m < from + n) → m ≤ from + n → from ≤ m → alike (S m) v ≡ true → m ≡ from + n
    here (inl x) y o z = omega arith
    here (inr x) y o z =
        let k : from + (m - from) ≡ m = omega arith in
        absurd (not_both z (subst (λ w. alike (S w) v ≡ false) k (miss (m - from) (omega arith))))

pub choosing_end : {S : ℕ → Pat} {work : List ℕ} {at end from stop : ℕ} {vars₀ vars : List ℕ} {m : ℕ} → Choosing S work at end from stop vars₀ vars m → stop ≤ m
    → (v : Val) (n : ℕ) → At work at v → end ≡ at + length (letters v) → Below vars₀ (at + length (letters v)) → from + n < stop → alike (S (from + n)) v ≡ true
    → ((k : ℕ) → k < n → alike (S (from + k)) v ≡ false) → Chosen (S (from + n)) v at vars₀ vars (from + n) stop
choosing_end c past v n a z b h hit miss = let r = c.not_yet v n a z b h hit miss in let r₀ = r.0 in absurd (omega (arith, r₀))

-- ---- a pattern built on top of the letters

-- the slots that are left
built_rest : {w vars : List ℕ} {top : ℕ} (p : Pat) {e f : Slots Val} {u : Val} → EnvAt w top vars e → build p e ≡ some (u, f) → EnvAt w top vars f
built_rest {w} {vars} {top} p {e} env b =
    record { agrees = (built_build p e (take top w) vars b env.agrees).1; below = env.below; wide = env.wide; slots = build_length p e b ∙ env.slots }

-- its letters stand at `top`, what is below is as it was
pub record Ready (w₀ w₁ vars : List ℕ) (top end : ℕ) (u : Val) (f : Slots Val) : Type 0 where
  pub spelled : At w₁ top u
  pub ends : end ≡ top + length (letters u)
  pub spares : Spares w₀ w₁ top (top + length (letters u))
  pub wide : length w₁ ≡ length w₀
  pub rest : EnvAt w₀ top vars f

pub ready : {w₀ w₁ vars : List ℕ} {top end : ℕ} (q : Pat) {e f : Slots Val} {u : Val} → EnvAt w₀ top vars e → build q e ≡ some (u, f)
    → top + length (letters u) ≤ length w₀ → ((n : ℕ) → Below vars n → n ≤ top → Writes w₀ w₁ top end (built q (take n w₀) vars))
    → Ready w₀ w₁ vars top end u f
ready {w₀} {w₁} {vars} {top} {end} q {e} {f} {u} env b room writes =
    let w = writes top env.below (omega arith) in
    let same = built_build q e (take top w₀) vars b env.agrees in
    let fits : top + length (built q (take top w₀) vars) ≤ length w₀ = subst (λ bs. top + length bs ≤ length w₀) (sym same.0) room in
    let is : w₁ ≡ sets w₀ top (letters u) = w.area fits ∙ ap (sets w₀ top) same.0 in
    record {
      spelled = subst (λ l. At l top u) (sym is) (at_sets w₀ (letters u) top u refl room);
      ends = w.place fits ∙ ap (λ bs. top + length bs) same.0;
      spares = subst (λ l. Spares w₀ l top (top + length (letters u))) (sym is) (spares_sets w₀ (letters u) top room);
      wide = w.kept;
      rest = built_rest q env b;
    }

-- ---- a variable's letters

-- letters between two places
pub range_at : (w : List ℕ) (from to : ℕ) (u : Val) → to ≤ length w → slice from to w ≡ letters u → At w from u × (to ≡ from + length (letters u))
range_at w from to u h e =
    let n = length-slice from to w h in
    let m = ap length e in
    let some' = letters_some u in
    let place : to ≡ from + length (letters u) = omega (arith, n, m, some') in
    let front = length-take-le to w h in (
      record {
        rest = drop to w;
        spells = ap (drop from) (sym (take-append-drop to w)) ∙ drop-append-le from (take to w) (drop to w) (omega (arith, front, place)) ∙ ap (λ x. x ++ drop to w) e;
      },
      place,
    )

-- the slots, seen from further on
env_more : {w vars : List ℕ} {top : ℕ} {e : Slots Val} (next : ℕ) → EnvAt w top vars e → top ≤ next → EnvAt w next vars e
env_more {w} {vars} {top} {e} next env h =
    record { agrees = agrees_more w vars e top next env.agrees env.below h; below = below_more vars top next env.below h; wide = env.wide; slots = env.slots }

record Ranged (w vars : List ℕ) (top n : ℕ) (u : Val) (f : Slots Val) : Type 0 where
  pub stands : At w (get_or vars n 0) u
  pub ends : get_or vars (32 + n) 0 ≡ get_or vars n 0 + length (letters u)
  pub low : get_or vars (32 + n) 0 ≤ top
  pub bytes : slice (get_or vars n 0) (get_or vars (32 + n) 0) w ≡ letters u
  pub rest : EnvAt w top vars f

ranged : {w vars : List ℕ} {top : ℕ} (p : Pat) (n : ℕ) {e f : Slots Val} {u : Val} → p ≡ pvar n → EnvAt w top vars e → build p e ≡ some (u, f) → top ≤ length w → Ranged w vars top n u f
ranged {w} {vars} {top} p n {e} {f} {u} is env b room =
    let b' : build (pvar n) e ≡ some (u, f) = subst (λ q. build q e ≡ some (u, f)) is b in
    let same = built_build (pvar n) e (take top w) vars b' env.agrees in
    let low = env.below.ends n in
    let bytes : slice (get_or vars n 0) (get_or vars (32 + n) 0) w ≡ letters u = ap (drop (get_or vars n 0)) (sym (take-take (get_or vars (32 + n) 0) top w low)) ∙ same.0 in
    let r = range_at w (get_or vars n 0) (get_or vars (32 + n) 0) u (omega (arith, low, room)) bytes in
    record {
      stands = r.0;
      ends = r.1;
      low = low;
      bytes = bytes;
      rest = built_rest p env b;
    }

-- ---- how many letters a pattern builds

-- as measured: the number of letters up to the first that is too large
pub measured_letters : {w vars : List ℕ} {top r : ℕ} (p : Pat) {e f : Slots Val} {u : Val} → EnvAt w top vars e → build p e ≡ some (u, f) → top ≤ length w
    → ((s : List ℕ) → Below vars (length s) → r ≡ min (length (built p s vars)) (suc max_letters)) → r ≡ min (length (letters u)) (suc max_letters)
measured_letters {w} {vars} {top} p {e} env b room says =
    let same = (built_build p e (take top w) vars b env.agrees).0 in
    let long : length (take top w) ≡ top = length-take-le top w room in
    says (take top w) (subst (Below vars) (sym long) env.below) ∙ ap (λ bs. min (length bs) (suc max_letters)) same

-- ---- the argument of a let step

pub argue_var : (p : Pat) (n : ℕ) {vars work : List ℕ} {top : ℕ} (a : P.Place) → p ≡ pvar n → a.at ≡ get_or vars n 0 → a.end ≡ get_or vars (32 + n) 0 → a.free ≡ top
    → ArgueSays p vars work work top a
argue_var p n {vars} {work} {top} a is ea ez ef e f u b env room =
    let r = ranged p n is env b (omega arith) in
    let ends = r.ends in
    let low = r.low in
    let place : a.end ≡ a.at + length (letters u) = ez ∙ ends ∙ ap (λ k. k + length (letters u)) (sym ea) in
    record {
      handed = record {
        large = λ h. omega (arith, place, h);
        fits = λ h. record {
          stands = subst (λ k. At work k u) (sym ea) r.stands;
          ends = place;
          low = omega (arith, ez, ef, low);
          over = omega (arith, ef);
          near = omega (arith, ef);
        };
      };
      spares = spares_none work top (top + result_length);
      rest = r.rest;
    }

-- too large to be built
pub argue_large : (p : Pat) {vars work : List ℕ} {top r : ℕ} (a : P.Place) → a.at ≡ 0 → a.end ≡ r → max_letters < r
    → ((s : List ℕ) → Below vars (length s) → r ≡ min (length (built p s vars)) (suc max_letters)) → ArgueSays p vars work work top a
argue_large p {vars} {work} {top} {r} a ea ez over says e f u b env room =
    let n = measured_letters p env b (omega arith) says in
    record {
      handed = record { large = λ h. omega (arith, ea, ez, over); fits = λ h. absurd (omega (arith, n, over, h)) };
      spares = spares_none work top (top + result_length);
      rest = built_rest p env b;
    }

pub argue_built : (p : Pat) {vars w₀ w₁ : List ℕ} {top end r : ℕ} (a : P.Place) → a.at ≡ top → a.end ≡ end → a.free ≡ end → r ≤ max_letters
    → ((s : List ℕ) → Below vars (length s) → r ≡ min (length (built p s vars)) (suc max_letters))
    → ((n : ℕ) → Below vars n → n ≤ top → Writes w₀ w₁ top end (built p (take n w₀) vars)) → ArgueSays p vars w₀ w₁ top a
argue_built p {vars} {w₀} {w₁} {top} {end} {r} a ea ez ef less says writes e f u b env room =
    let n = measured_letters p env b (omega arith) says in
    let fits : length (letters u) ≤ max_letters = omega (arith, n, less) in
    let rd = ready p env b (omega (arith, fits, room)) writes in
    let ends = rd.ends in
    record {
      handed = record {
        large = λ h. absurd (omega (arith, fits, h));
        fits = λ h. record {
          stands = subst (λ k. At w₁ k u) (sym ea) rd.spelled;
          ends = ez ∙ ends ∙ ap (λ k. k + length (letters u)) (sym ea);
          low = omega (arith, ez, ef);
          over = omega (arith, ef, ends);
          near = omega (arith, ef, ends, fits);
        };
      };
      spares = spares_more top (top + length (letters u)) top (top + result_length) rd.spares (omega arith) (omega (arith, fits));
      rest = rd.rest;
    }

-- ---- the result of a clause

-- a variable's letters where they stand
pub settle_place : (p : Pat) (n : ℕ) {vars work : List ℕ} {top dest left from to : ℕ} → p ≡ pvar n → from ≡ get_or vars n 0 → to ≡ get_or vars (32 + n) 0 → to ≤ dest
    → SettleSays p vars work work top dest left (given_at from to left)
settle_place p n {vars} {work} {top} {dest} {left} {from} {to} is ea ez h e f w b fits env low room =
    let r = ranged p n is env b (omega (arith, room)) in
    let ends = r.ends in (
      record {
        begin = from;
        gives = ap (λ k. given_at from k left) (ez ∙ ends ∙ ap (λ k. k + length (letters w)) (sym ea));
        stands = subst (λ k. At work k w) (sym ea) r.stands;
        near = omega (arith, ends, ea, ez, h);
      },
      spares_none work dest (top + result_length),
    )

-- copied to `dest`
pub settle_copied : (p : Pat) (n : ℕ) {vars work work' : List ℕ} {top dest left from to end : ℕ} → p ≡ pvar n → from ≡ get_or vars n 0 → to ≡ get_or vars (32 + n) 0 → dest ≤ from
    → (dest ≤ from → to ≤ length work → Writes work work' dest end (slice from to work)) → SettleSays p vars work work' top dest left (given_at dest end left)
settle_copied p n {vars} {work} {work'} {top} {dest} {left} {from} {to} {end} is ea ez h copy e f w b fits env low room =
    let r = ranged p n is env b (omega (arith, room)) in
    let ends = r.ends in
    let under = r.low in
    let bytes : slice from to work ≡ letters w = ap₂ (λ x y. slice x y work) ea ez ∙ r.bytes in
    let c = copy h (omega (arith, under, ez, room)) in
    let far : dest + length (letters w) ≤ top = omega (arith, ends, ea, ez, h, under) in
    let fits' : dest + length (slice from to work) ≤ length work = subst (λ bs. dest + length bs ≤ length work) (sym bytes) (omega (arith, far, room)) in
    let final : work' ≡ sets work dest (letters w) = c.area fits' ∙ ap (sets work dest) bytes in
    let stops : end ≡ dest + length (letters w) = c.place fits' ∙ ap (λ bs. dest + length bs) bytes in
    let room' : dest + length (letters w) ≤ length work = omega (arith, far, room) in (
      record {
        begin = dest;
        gives = ap (λ k. given_at dest k left) stops;
        stands = subst (λ l. At l dest w) (sym final) (at_sets work (letters w) dest w refl room');
        near = omega (arith, fits);
      },
      subst (λ z. Spares work z dest (top + result_length)) (sym final)
          (spares_more dest (dest + length (letters w)) dest (top + result_length) (spares_sets work (letters w) dest room') (omega arith) (omega (arith, far))),
    )

-- built at `dest`
pub settle_built : (p : Pat) {vars work work' : List ℕ} {top dest left last : ℕ} → top ≡ dest
    → ((n : ℕ) → Below vars n → n ≤ top → Writes work work' top last (built p (take n work) vars)) → SettleSays p vars work work' top dest left (given_at dest last left)
settle_built p {vars} {work} {work'} {top} {dest} {left} {last} here writes e f w b fits env low room =
    let rd = ready p env b (omega (arith, fits, room)) writes in
    let ends = rd.ends in (
      record {
        begin = dest;
        gives = ap (λ k. given_at dest k left) (ends ∙ ap (λ k. k + length (letters w)) here);
        stands = subst (λ k. At work' k w) here rd.spelled;
        near = omega (arith, fits);
      },
      spares_more top (top + length (letters w)) dest (top + result_length) rd.spares (omega (arith, here)) (omega (arith, fits)),
    )

-- built at `top`, and copied to `dest`
pub settle_moved : (p : Pat) {vars work w₁ work' : List ℕ} {top dest left last end : ℕ} → ((n : ℕ) → Below vars n → n ≤ top → Writes work w₁ top last (built p (take n work) vars))
    → (dest ≤ top → last ≤ length w₁ → Writes w₁ work' dest end (slice top last w₁)) → SettleSays p vars work work' top dest left (given_at dest end left)
settle_moved p {vars} {work} {w₁} {work'} {top} {dest} {left} {last} {end} writes copy e f w b fits env low room =
    let rd = ready p env b (omega (arith, fits, room)) writes in
    let stop = rd.ends in
    let long = rd.wide in
    let c = copy low (omega (arith, stop, fits, room, long)) in
    let bytes : slice top last w₁ ≡ letters w = ap (λ k. slice top k w₁) stop ∙ at_slice rd.spelled in
    let room' : dest + length (letters w) ≤ length w₁ = omega (arith, low, fits, room, long) in
    let fits' : dest + length (slice top last w₁) ≤ length w₁ = subst (λ bs. dest + length bs ≤ length w₁) (sym bytes) room' in
    let final : work' ≡ sets w₁ dest (letters w) = c.area fits' ∙ ap (sets w₁ dest) bytes in
    let stops : end ≡ dest + length (letters w) = c.place fits' ∙ ap (λ bs. dest + length bs) bytes in (
      record {
        begin = dest;
        gives = ap (λ k. given_at dest k left) stops;
        stands = subst (λ l. At l dest w) (sym final) (at_sets w₁ (letters w) dest w refl room');
        near = omega (arith, fits);
      },
      spares_both (spares_more top (top + length (letters w)) dest (top + result_length) rd.spares low (omega (arith, fits)))
          (subst (λ z. Spares w₁ z dest (top + result_length)) (sym final)
          (spares_more dest (dest + length (letters w)) dest (top + result_length) (spares_sets w₁ (letters w) dest room') (omega arith) (omega (arith, low, fits)))),
    )

-- measured before
pub give_large : (p : Pat) {vars work : List ℕ} {top dest left r : ℕ} → max_letters < r
    → ((s : List ℕ) → Below vars (length s) → r ≡ min (length (built p s vars)) (suc max_letters)) → GiveSays p vars work work top dest left (Err halt.Large)
give_large p {vars} {work} {top} {dest} over says e f w b env low room =
    let n = measured_letters p env b (omega (arith, room)) says in
    record { gives = Gives.large (omega (arith, n, over)) refl; spares = spares_none work dest (top + result_length) }

pub give_settled : (p : Pat) {vars work work' : List ℕ} {top dest left r : ℕ} {g : Giving} → r ≤ max_letters
    → ((s : List ℕ) → Below vars (length s) → r ≡ min (length (built p s vars)) (suc max_letters)) → SettleSays p vars work work' top dest left g
    → GiveSays p vars work work' top dest left g
give_settled p less says settles e f w b env low room =
    let n = measured_letters p env b (omega (arith, room)) says in
    let fits : length (letters w) ≤ max_letters = omega (arith, n, less) in
    let r = settles e f w b fits env low room in
    record { gives = Gives.gives fits r.0; spares = r.1 }

-- ---- a let step

-- a call that gives something is not too deep
runs_deep : (d : ℕ) (os : List Iso) (i : ℕ) (v w : Val) (m : ℕ) → Runs d os i v (some w) m → 1 ≤ d
runs_deep zero os i v w m r = absurd (none≢some (sym r.0))
runs_deep (suc d) os i v w m r = omega arith

-- its argument, and the iso applied to it
record Called (w₀ w₁ w₂ vars : List ℕ) (top depth left : ℕ) (u : Val) (f : Slots Val) (x : Option Val) (m : ℕ) (a : P.Place) (r : Giving) : Type 0 where
  pub argued : Argued w₀ w₁ vars top u f a
  pub applied : Applied w₁ w₂ top depth left x m r
  -- q's letters and the frames of the calls
  pub spares : Spares w₀ w₂ top (top + 1 * result_length + depth * frame)

called : (t : List ℕ) (base : ℕ) (index : List ℕ) (back : Bool) (row depth : ℕ) {jq j : ℕ} {w₀ w₁ w₂ vars : List ℕ} {top left : ℕ} {a : P.Place} {r : Giving}
    → jq ≡ cell_of t row (cond back 1 3) → ArgueSays (pattern_of t base jq) vars w₀ w₁ top a → length w₁ ≡ length w₀ → j ≡ cell_of t row 2
    → ApplySays t base index back j depth w₁ w₂ a.at a.end top a.free left r
    → (os : List Iso) (l : Let) (e : Slots Val) {f : Slots Val} {u : Val} (x : Option Val) (m : ℕ) → Laid t base index back os → l ≡ sided_let back (let_at t base row)
    → build l.q e ≡ some (u, f) → Runs depth os l.iso u x m → EnvAt w₀ top vars e → top + 1 * result_length + depth * frame ≤ length w₀ → length w₀ ≤ work_length
    → Called w₀ w₁ w₂ vars top depth left u f x m a r
called t base index back row depth {jq} {j} {top = top} cellq argues wide cell says os l e {f} {u} x m laid is b run env room most =
    let same : l.iso ≡ j = ap (λ x. x.iso) is ∙ let_iso t base back row ∙ sym cell in
    let q : l.q ≡ pattern_of t base jq = ap (λ x. x.q) is ∙ let_q t base back row ∙ ap (pattern_of t base) (sym cellq) in
    let a = argues e f u (subst (λ p. build p e ≡ some (u, f)) q b) env (omega (arith, room)) in
    let p = says os u x m laid (subst (λ k. Runs depth os k u x m) same run) a.handed (omega (arith, room, wide)) (omega (arith, wide, most)) in
    record {
      argued = a;
      applied = p;
      spares = spares_both
          (spares_more top (top + result_length) top (top + 1 * result_length + depth * frame) a.spares (omega arith) (omega arith))
          (spares_more top (top + depth * frame) top (top + 1 * result_length + depth * frame) p.spares (omega arith) (omega arith));
    }

module _ (t : List ℕ) (base : ℕ) (index : List ℕ) (back : Bool) (row depth : ℕ) {jq j : ℕ} {w₀ w₁ w₂ vars : List ℕ} {top left : ℕ} {a : P.Place} {r : Giving}
    (cellq : jq ≡ cell_of t row (cond back 1 3)) (argues : ArgueSays (pattern_of t base jq) vars w₀ w₁ top a) (wide : length w₁ ≡ length w₀) (cell : j ≡ cell_of t row 2)
    (says : ApplySays t base index back j depth w₁ w₂ a.at a.end top a.free left r) where
  -- a result, which p binds
  bound_by : {jp b x y next : ℕ} {vars' : List ℕ} → length w₂ ≡ length w₁ → jp ≡ cell_of t row (cond back 3 1)
      → ((v : Val) → At w₂ b v → x ≡ b + length (letters v) → vars' ≡ ranges (pattern_of t base jp) v b vars) → (top ≤ next) × (x ≤ next) × ((next ≡ top) ⊎ (next ≡ x))
      → (l : Let) {u w : Val} {f g : Slots Val} {z : Option Val} {m rest : ℕ} → 1 ≤ depth → l ≡ sided_let back (let_at t base row)
      → Called w₀ w₁ w₂ vars top depth left u f z m a r → Result w₂ top rest w r → r ≡ given_at b x y → bind l.p w f ≡ some g
      → top + 1 * result_length + depth * frame ≤ length w₀ → length w₀ ≤ work_length → Reached w₂ vars' top 1 rest g (done_at next y)
  bound_by {jp} {b} {x} {y} {next} {vars'} kept cellp range far l {u} {w} {f} {g} deep is c res told bound room most =
      let p : Pat = pattern_of t base jp in
      let same : l.p ≡ p = ap (λ z. z.p) is ∙ let_p t base back row ∙ ap (pattern_of t base) (sym cellp) in
      let done = sym told ∙ res.gives in
      let eb = range_begin done in
      let ex = range_end done in
      let near = res.near in
      let place : x ≡ b + length (letters w) = ex ∙ ap (λ k. k + length (letters w)) (sym eb) in
      let at : At w₂ b w = subst (λ k. At w₂ k w) (sym eb) res.stands in
      let ranged' = range w at place in
      let low = far.0 in
      let over = far.1 in
      let rest = c.argued.rest in
      let alone : take top w₀ ≡ take top w₂ = sym (c.applied.spares.before ∙ c.argued.spares.before) in
      let older : Agrees (take next w₂) vars f = agrees_more w₂ vars f top next (subst (λ z. Agrees z vars f) alone rest.agrees) rest.below low in
      let top' : next ≤ top + result_length = bounded far.2 (omega (arith, ex, near)) in
      let long = length-take-le next w₂ (omega (arith, top', room, kept, wide)) in
      record {
        next = next;
        further = low;
        near = omega (arith, top');
        done = ap (done_at next) (range_left done);
        env = record {
          agrees = subst (λ z. Agrees (take next w₂) z g) (sym ranged')
              (agrees_bind p w f (take next w₂) vars b rest.wide rest.slots (omega (arith, long, top', room, most, deep)) (at_take w₂ b next w at (omega (arith, place, over)))
              (subst (λ z. bind z w f ≡ some g) same bound) older);
          below = subst (λ z. Below z next) (sym ranged') (below_ranges p w b vars next (below_more vars top next rest.below low) (omega (arith, place, over)));
          wide = ap length ranged' ∙ length_ranges p w b vars ∙ rest.wide;
          slots = bind_length p w f (subst (λ z. bind z w f ≡ some g) same bound) ∙ rest.slots;
        };
      }
    where
      bounded : (next ≡ top) ⊎ (next ≡ x) → x ≤ top + result_length → next ≤ top + result_length
      bounded (inl z) k = omega (arith, z)
      bounded (inr z) k = omega (arith, z, k)

  pub step_done : {jp b x y next : ℕ} {vars' : List ℕ} → length w₂ ≡ length w₁ → r ≡ given_at b x y → jp ≡ cell_of t row (cond back 3 1)
      → ((v : Val) → At w₂ b v → x ≡ b + length (letters v) → vars' ≡ ranges (pattern_of t base jp) v b vars) → (top ≤ next) × (x ≤ next) × ((next ≡ top) ⊎ (next ≡ x))
      → StepSays t base index back depth row w₀ w₂ top vars vars' left (done_at next y)
  step_done {jp} {b} {x} {y} {next} {vars'} kept told cellp range far os l e z m laid is trace env room most = go trace
    where
      go : {z : Option (Slots Val)} {m : ℕ} → LetTrace (Runs depth os) l e z m → Stepped w₀ w₂ vars' top 1 depth left z m (done_at next y)
      go (LetTrace.stops {m = m} bu run) =
          let c = called t base index back row depth cellq argues wide cell says os l e none m laid is bu run env room most in
          record { comes = nothing c.applied.answers; spares = c.spares }
        where
          nothing : Answers w₂ top left none m r → Comes w₂ vars' top 1 left none m (done_at next y)
          nothing (Answers.spent h k) = absurd (ok≢spent (sym told ∙ k))
          nothing (Answers.large h n k) = absurd (ok≢large (sym told ∙ k))
          nothing (Answers.gives w h n k) = absurd (none≢some n)
      go (LetTrace.gives {f = f} {g = g} {u = u} {w = w} {m = m} bu run bound) =
          let c = called t base index back row depth cellq argues wide cell says os l e (some w) m laid is bu run env room most in
          record { comes = something c c.applied.answers; spares = c.spares }
        where
          something : Called w₀ w₁ w₂ vars top depth left u f (some w) m a r → Answers w₂ top left (some w) m r → Comes w₂ vars' top 1 left (some g) m (done_at next y)
          something c (Answers.spent h k) = absurd (ok≢spent (sym told ∙ k))
          something c (Answers.large h n k) = absurd (none≢some (sym n))
          something c (Answers.gives v h n k) =
              let k' : Result w₂ top (left - m) w r = subst (λ v. Result w₂ top (left - m) v r) (sym (some_inj n)) k in
              Comes.ends g h refl (bound_by kept cellp range far l (runs_deep depth os l.iso u w m run) is c k' told bound room most)

  step_spent : {vars' : List ℕ} → r ≡ Err halt.Spent → StepSays t base index back depth row w₀ w₂ top vars vars' left (Err halt.Spent)
  step_spent {vars'} told os l e z m laid is trace env room most = go trace
    where
      passed : {z : Option (Slots Val)} (x : Option Val) {m : ℕ} → Answers w₂ top left x m r → Comes w₂ vars' top 1 left z m (Err halt.Spent)
      passed x (Answers.spent h k) = Comes.spent h refl
      passed x (Answers.large h n k) = absurd (spent≢large (sym told ∙ k))
      passed x (Answers.gives w h n k) = absurd (ok≢spent (sym k.gives ∙ told))

      go : {z : Option (Slots Val)} {m : ℕ} → LetTrace (Runs depth os) l e z m → Stepped w₀ w₂ vars' top 1 depth left z m (Err halt.Spent)
      go (LetTrace.stops {m = m} bu run) =
          let c = called t base index back row depth cellq argues wide cell says os l e none m laid is bu run env room most in
          record { comes = passed none c.applied.answers; spares = c.spares }
      go (LetTrace.gives {w = w} {m = m} bu run bound) =
          let c = called t base index back row depth cellq argues wide cell says os l e (some w) m laid is bu run env room most in
          record { comes = passed (some w) c.applied.answers; spares = c.spares }

  step_large : {vars' : List ℕ} → r ≡ Err halt.Large → StepSays t base index back depth row w₀ w₂ top vars vars' left (Err halt.Large)
  step_large {vars'} told os l e z m laid is trace env room most = go trace
    where
      met : {z : Option (Slots Val)} (x : Option Val) {m : ℕ} → (x ≡ none → z ≡ none) → Answers w₂ top left x m r → Comes w₂ vars' top 1 left z m (Err halt.Large)
      met x f (Answers.spent h k) = absurd (spent≢large (sym k ∙ told))
      met x f (Answers.large h n k) = Comes.large h (f n) refl
      met x f (Answers.gives w h n k) = absurd (ok≢large (sym k.gives ∙ told))

      go : {z : Option (Slots Val)} {m : ℕ} → LetTrace (Runs depth os) l e z m → Stepped w₀ w₂ vars' top 1 depth left z m (Err halt.Large)
      go (LetTrace.stops {m = m} bu run) =
          let c = called t base index back row depth cellq argues wide cell says os l e none m laid is bu run env room most in
          record { comes = met none (λ h. refl) c.applied.answers; spares = c.spares }
      go (LetTrace.gives {w = w} {m = m} bu run bound) =
          let c = called t base index back row depth cellq argues wide cell says os l e (some w) m laid is bu run env room most in
          record { comes = met (some w) (λ h. absurd (none≢some (sym h))) c.applied.answers; spares = c.spares }

  -- nothing, by what it met
  pub step_stops : {vars' : List ℕ} (s : S.Stop) → r ≡ Err s → StepSays t base index back depth row w₀ w₂ top vars vars' left (Err s)
  step_stops halt.Spent = step_spent
  step_stops halt.Large = step_large

-- ---- the let steps of a clause

-- the first of some let steps: it gives something and others follow, or it stops
data FirstLet (call : Calls) (l : Let) (ls : List Let) (e : Slots Val) (x : Option (Slots Val)) (m : ℕ) : Type 0 where
  goes : {g : Slots Val} {j k : ℕ} → LetTrace call l e (some g) j → LetsTrace call ls g x k → j + k ≡ m → FirstLet call l ls e x m
  stops : LetTrace call l e none m → x ≡ none → FirstLet call l ls e x m

first_let : {call : Calls} {l : Let} {ls : List Let} {e : Slots Val} {x : Option (Slots Val)} {m : ℕ} → LetsTrace call (l ∷ ls) e x m → FirstLet call l ls e x m
first_let (LetsTrace.step a t) = FirstLet.goes a t refl
first_let (LetsTrace.stop a) = FirstLet.stops a refl

-- no let steps
no_lets : {call : Calls} {e : Slots Val} {x : Option (Slots Val)} {m : ℕ} → LetsTrace call [] e x m → (x ≡ some e) × (m ≡ 0)
no_lets LetsTrace.done = (refl, refl)

-- what let steps have come to before step k
pub record LetsAt (call : Calls) (ls : List Let) (x : Option (Slots Val)) (m budget end : ℕ) (w₀ : List ℕ) (depth k top left : ℕ) (work vars : List ℕ) : Type 0 where
  pub now : Slots Val
  pub past : ℕ
  pub rest : ℕ
  pub counts : past + rest ≡ m
  pub paid : past + left ≡ budget
  pub trace : LetsTrace call (drop k ls) now x rest
  pub env : EnvAt work top vars now
  pub spares : Spares w₀ work end (end + length ls * result_length + depth * frame)
  pub further : end ≤ top
  pub near : top ≤ end + k * result_length

-- what holds of whatever trace there is of n let steps from row `from` on
abbrev pub ForLets : List ℕ → ℕ → List ℕ → Bool → ℕ → ℕ → ℕ → ℕ → List ℕ → List ℕ → (List Iso → List Let → Option (Slots Val) → ℕ → Type 0) → Type 0
ForLets t base index back depth from n end w₀ vars₀ P =
    (os : List Iso) (ls : List Let) (e : Slots Val) (x : Option (Slots Val)) (m : ℕ) → Laid t base index back os → ls ≡ sided_lets back t base from n
    → LetsTrace (Runs depth os) ls e x m → EnvAt w₀ end vars₀ e → end + length ls * result_length + depth * frame ≤ length w₀ → length w₀ ≤ work_length → P os ls x m

-- the same before step k of them
pub record Letting (t : List ℕ) (base : ℕ) (index : List ℕ) (back : Bool) (depth from n end budget : ℕ) (w₀ vars₀ : List ℕ) (k top left : ℕ) (work vars : List ℕ) : Type 0 where
  pub within : k ≤ n
  pub wide : length work ≡ length w₀
  pub holds : ForLets t base index back depth from n end w₀ vars₀ (λ os ls x m. LetsAt (Runs depth os) ls x m budget end w₀ depth k top left work vars)

pub letting_start : (t : List ℕ) (base : ℕ) (index : List ℕ) (back : Bool) (depth from n end budget : ℕ) (w₀ vars₀ : List ℕ)
    → Letting t base index back depth from n end budget w₀ vars₀ 0 end budget w₀ vars₀
letting_start t base index back depth from n end budget w₀ vars₀ =
    record {
      within = omega arith;
      wide = refl;
      holds = λ os ls e x m laid is trace env room most.
          record {
            now = e;
            past = 0;
            rest = m;
            counts = zero-add m;
            paid = zero-add budget;
            trace = trace;
            env = env;
            spares = spares_none w₀ end (end + length ls * result_length + depth * frame);
            further = omega arith;
            near = omega arith;
          };
    }

-- the let step at k, in a trace
record OneStep (call : Calls) (ls : List Let) (x : Option (Slots Val)) (m budget end : ℕ) (w₀ : List ℕ) (depth k top left : ℕ) (work work' vars vars' : List ℕ) (r : Reducing)
    : Type 0 where
  pub before : LetsAt call ls x m budget end w₀ depth k top left work vars
  pub l : Let
  pub first : FirstLet call l (drop (suc k) ls) before.now x before.rest
  pub says : {z : Option (Slots Val)} {j : ℕ} → LetTrace call l before.now z j
      → Comes work' vars' top 1 left z j r × Spares w₀ work' end (end + length ls * result_length + depth * frame)

module _ {t : List ℕ} {base : ℕ} {index : List ℕ} {back : Bool} {depth from n end budget : ℕ} {w₀ vars₀ : List ℕ} {k top left row : ℕ} {work work' vars vars' : List ℕ} {r : Reducing}
    (inv : Letting t base index back depth from n end budget w₀ vars₀ k top left work vars) (below : k < n) (where' : row ≡ from + cond back (n - suc k) k)
    (says : StepSays t base index back depth row work work' top vars vars' left r) where
  one_step : ForLets t base index back depth from n end w₀ vars₀ (λ os ls x m. OneStep (Runs depth os) ls x m budget end w₀ depth k top left work work' vars vars' r)
  one_step os ls e x m laid is trace env room most =
      let b = inv.holds os ls e x m laid is trace env room most in
      let l : Let = sided_let back (let_at t base (from + cond back (n - suc k) k)) in
      let parts : drop k ls ≡ l ∷ drop (suc k) ls = ap (drop k) is ∙ let_at_lem back t base from n k below ∙ ap (λ x. l ∷ drop (suc k) x) (sym is) in
      let many : length ls ≡ n = ap length is ∙ length_sided back t base from n in
      let near = b.near in
      let wide = inv.wide in
      let further = b.further in
      record {
        before = b;
        l = l;
        first = first_let (subst (λ z. LetsTrace (Runs depth os) z b.now x b.rest) parts b.trace);
        says = λ {z} {j} lt.
            let s = says os l b.now z j laid (ap (λ x. sided_let back (let_at t base x)) (sym where')) lt b.env (omega (arith, near, wide, many)) (omega (arith, wide)) in (
              s.comes,
              spares_both b.spares (spares_more top (top + 1 * result_length + depth * frame) end (end + length ls * result_length + depth * frame) s.spares further
                  (omega (arith, near, many))),
            );
      }

  pub letting_next : {x y : ℕ} → r ≡ done_at x y → length work' ≡ length work → Letting t base index back depth from n end budget w₀ vars₀ (k + 1) x y work' vars'
  letting_next {x} {y} told wide =
      record {
        within = omega arith;
        wide = wide ∙ inv.wide;
        holds = λ os ls e z m laid is trace env room most. onward os ls z m (one_step os ls e z m laid is trace env room most);
      }
    where
      onward : (os : List Iso) (ls : List Let) (z : Option (Slots Val)) (m : ℕ) → OneStep (Runs depth os) ls z m budget end w₀ depth k top left work work' vars vars' r
          → LetsAt (Runs depth os) ls z m budget end w₀ depth (k + 1) x y work' vars'
      onward os ls z m o = go o.first
        where
          ahead : {g : Slots Val} {j q : ℕ} → LetsTrace (Runs depth os) (drop (suc k) ls) g z q → j + q ≡ o.before.rest
              → Comes work' vars' top 1 left (some g) j r → Spares w₀ work' end (end + length ls * result_length + depth * frame)
              → LetsAt (Runs depth os) ls z m budget end w₀ depth (k + 1) x y work' vars'
          ahead follows split (Comes.spent h e) spares = absurd (ok≢spent (sym told ∙ e))
          ahead follows split (Comes.large h e f) spares = absurd (none≢some (sym e))
          ahead {g} {j} {q} follows split (Comes.ends g' h e reached) spares =
              let same = some_inj e in
              let place = done_place (sym told ∙ reached.done) in
              let rest = done_left (sym told ∙ reached.done) in
              let b = o.before in
              let counts = b.counts in
              let paid = b.paid in
              let near = b.near in
              let further = b.further in
              let on = reached.further in
              let close = reached.near in
              let up : suc k ≡ k + 1 = omega arith in
              record {
                now = g;
                past = b.past + j;
                rest = q;
                counts = omega (arith, counts, split);
                paid = omega (arith, paid, rest, h);
                trace = subst (λ i. LetsTrace (Runs depth os) (drop i ls) g z q) up follows;
                env = subst₂ (λ i f. EnvAt work' i vars' f) (sym place) (sym same) reached.env;
                spares = spares;
                further = omega (arith, further, place, on);
                near = omega (arith, near, place, close);
              }

          stuck : {P : Type 0} {j : ℕ} → Comes work' vars' top 1 left none j r → P
          stuck (Comes.spent h e) = absurd (ok≢spent (sym told ∙ e))
          stuck (Comes.large h e f) = absurd (ok≢large (sym told ∙ f))
          stuck (Comes.ends g h e reached) = absurd (none≢some e)

          go : FirstLet (Runs depth os) o.l (drop (suc k) ls) o.before.now z o.before.rest
              → LetsAt (Runs depth os) ls z m budget end w₀ depth (k + 1) x y work' vars'
          go (FirstLet.goes lt follows split) = let s = o.says lt in ahead follows split s.0 s.1
          go (FirstLet.stops lt e) = stuck (o.says lt).0

  lets_spent : r ≡ Err halt.Spent
      → ForLets t base index back depth from n end w₀ vars₀ (λ os ls x m. Stepped w₀ work' vars' end (length ls) depth budget x m (Err halt.Spent))
  lets_spent told os ls e x m laid is trace env room most = go (one_step os ls e x m laid is trace env room most)
    where
      passed : {z : Option (Slots Val)} (p q : ℕ) {j : ℕ} → Comes work' vars' top 1 left z j r → p + q ≡ m → p + left ≡ budget → j ≤ q
          → Comes work' vars' end (length ls) budget x m (Err halt.Spent)
      passed p q (Comes.spent h e) a b c = Comes.spent (omega (arith, h, a, b, c)) refl
      passed p q (Comes.large h e f) a b c = absurd (spent≢large (sym told ∙ f))
      passed p q (Comes.ends g h e reached) a b c = absurd (ok≢spent (sym reached.done ∙ told))

      go : OneStep (Runs depth os) ls x m budget end w₀ depth k top left work work' vars vars' r → Stepped w₀ work' vars' end (length ls) depth budget x m (Err halt.Spent)
      go o = first o.first
        where
          first : FirstLet (Runs depth os) o.l (drop (suc k) ls) o.before.now x o.before.rest → Stepped w₀ work' vars' end (length ls) depth budget x m (Err halt.Spent)
          first (FirstLet.goes lt follows split) =
              let s = o.says lt in record { comes = passed o.before.past o.before.rest s.0 o.before.counts o.before.paid (omega (arith, split)); spares = s.1 }
          first (FirstLet.stops lt f) =
              let s = o.says lt in record { comes = passed o.before.past o.before.rest s.0 o.before.counts o.before.paid (omega arith); spares = s.1 }

  lets_large : r ≡ Err halt.Large
      → ForLets t base index back depth from n end w₀ vars₀ (λ os ls x m. Stepped w₀ work' vars' end (length ls) depth budget x m (Err halt.Large))
  lets_large told os ls e x m laid is trace env room most = go (one_step os ls e x m laid is trace env room most)
    where
      met : {z : Option (Slots Val)} (p : ℕ) {j : ℕ} → (z ≡ none → (x ≡ none) × (p + j ≡ m)) → Comes work' vars' top 1 left z j r → p + left ≡ budget
          → Comes work' vars' end (length ls) budget x m (Err halt.Large)
      met p f (Comes.spent h e) b = absurd (spent≢large (sym e ∙ told))
      met p f (Comes.large h e g) b = let y = f e in let a = y.1 in Comes.large (omega (arith, h, a, b)) y.0 refl
      met p f (Comes.ends g h e reached) b = absurd (ok≢large (sym reached.done ∙ told))

      go : OneStep (Runs depth os) ls x m budget end w₀ depth k top left work work' vars vars' r → Stepped w₀ work' vars' end (length ls) depth budget x m (Err halt.Large)
      go o = first o.first
        where
          first : FirstLet (Runs depth os) o.l (drop (suc k) ls) o.before.now x o.before.rest → Stepped w₀ work' vars' end (length ls) depth budget x m (Err halt.Large)
          first (FirstLet.goes lt follows split) =
              let s = o.says lt in record { comes = met o.before.past (λ h. absurd (none≢some (sym h))) s.0 o.before.paid; spares = s.1 }
          first (FirstLet.stops lt f) =
              let s = o.says lt in record { comes = met o.before.past (λ h. (f, o.before.counts)) s.0 o.before.paid; spares = s.1 }

  pub lets_stop : (s : S.Stop) → r ≡ Err s
      → ForLets t base index back depth from n end w₀ vars₀ (λ os ls x m. Stepped w₀ work' vars' end (length ls) depth budget x m (Err s))
  lets_stop halt.Spent = lets_spent
  lets_stop halt.Large = lets_large

pub lets_end : {t : List ℕ} {base : ℕ} {index : List ℕ} {back : Bool} {depth from n end budget : ℕ} {w₀ vars₀ : List ℕ} {k top left : ℕ} {work vars : List ℕ}
    → Letting t base index back depth from n end budget w₀ vars₀ k top left work vars → n ≤ k
    → ForLets t base index back depth from n end w₀ vars₀ (λ os ls x m. Stepped w₀ work vars end (length ls) depth budget x m (done_at top left))
lets_end {t} {base} {index} {back} {depth} {from} {n} {end} {budget} {w₀} {vars₀} {k} {top} {left} {work} {vars} inv past os ls e x m laid is trace env room most =
    let b = inv.holds os ls e x m laid is trace env room most in
    let many : length ls ≡ n = ap length is ∙ length_sided back t base from n in
    let within = inv.within in
    let short : length ls ≤ k = omega (arith, many) in
    let none' : drop k ls ≡ [] = drop_of_length-le ls short in
    let z = no_lets (subst (λ q. LetsTrace (Runs depth os) q b.now x b.rest) none' b.trace) in
    let zero' = z.1 in
    let counts = b.counts in
    let paid = b.paid in
    let near = b.near in
    let left' : left ≡ budget - m = omega (arith, counts, paid, zero') in
    record {
      comes = Comes.ends b.now (omega (arith, counts, paid, zero')) z.0
          (record { next = top; further = b.further; near = omega (arith, near, many, within); done = ap (done_at top) left'; env = b.env });
      spares = b.spares;
    }

-- ---- an application

neither : (a b : Bool) → (a || b) ≡ false → (a ≡ false) × (b ≡ false)
neither true b e = absurd (true≢false e)
neither false b e = (refl, e)

-- what is measured before it
pub not_large : (depth at end : ℕ) → too_large depth at end ≡ false → (depth ≡ suc (depth - 1)) × (end - at ≤ max_letters)
not_large depth at end e =
    let r = neither (eqb depth 0) (ltb max_letters (end - at)) e in
    (above depth (eqb_false r.0), ltb_false max_letters (end - at) r.1)
  where
    above : (n : ℕ) → (n ≡ 0 → ⊥) → n ≡ suc (n - 1)
    above zero h = absurd (h refl)
    above (suc n) h = omega arith

is_large : (depth at end : ℕ) → too_large depth at end ≡ true → (depth ≡ 0) ⊎ (max_letters < end - at)
is_large depth at end e =
    ⊎_elim (λ z. inl (eqb_eq depth 0 z)) (λ z. inr (ltb_lt max_letters (end - at) z)) (or_true (eqb depth 0) (ltb max_letters (end - at)) e)

-- the clause that is chosen for a trace, as the code finds it: its C row at `row`, its L rows up to row `below`, the environment that matching
-- left; its let steps' calls nest at most d deep
pub record Picked (t : List ℕ) (base : ℕ) (back : Bool) (os : List Iso) (d row below : ℕ) (w₀ : List ℕ) (end : ℕ) (vars : List ℕ) (x : Option Val) (m : ℕ) : Type 0 where
  pub lets : List Let
  pub rows : lets ≡ sided_lets back t base (row + 1) (below - (row + 1))
  pub few : length lets ≤ max_lets
  pub first : Slots Val
  pub env : EnvAt w₀ end vars first
  pub last : Option (Slots Val)
  pub count : ℕ
  pub trace : LetsTrace (Runs d os) lets first last count
  pub ends : EndTrace (pattern_of t base (cell_of t row (cond back 1 2))) last x
  pub counts : suc count ≡ m

get_d_zeros : (k n : ℕ) → ◌≡◌ {A = ℕ} (get_or (replicate {A = ℕ} k 0) n 0) 0
get_d_zeros zero n = refl
get_d_zeros (suc k) zero = refl
get_d_zeros (suc k) (suc n) = get_d_zeros k n

below_zeros : (k top : ℕ) → Below (replicate k 0) top
below_zeros k top = record { ends = λ n. let z = get_d_zeros k (variables + n) in omega (arith, z) }

length_empty : length (empty Val) ≡ variables
unfolding empty
length_empty = refl

-- a clause's place in the index, as a trace has it
record Placed (t : List ℕ) (base : ℕ) (index : List ℕ) (back : Bool) (i place : ℕ) (v : Val) (c : Clause) : Type 0 where
  pub within : place_at index i + 1 + place < place_at index (suc i)
  pub is : c ≡ sided_clause back (clause_in t base (place_at index (place_at index i + 1 + place)) (place_at index (place_at index i + 1 + place + 1)))
  pub hit : alike (side_at t base index back (place_at index i + 1 + place)) v ≡ true
  pub miss : (k : ℕ) → k < place → alike (side_at t base index back (place_at index i + 1 + k)) v ≡ false

placed : (t : List ℕ) (base : ℕ) (index : List ℕ) (back : Bool) (i : ℕ) (o : Iso) (v : Val) (place : ℕ) (c : Clause) {first : Slots Val} → o ≡ sided back (iso_at t base index i)
    → get_elem? o.clauses place ≡ some c → bind c.lhs v (empty Val) ≡ some first
    → ((k : ℕ) (b : Clause) → k < place → get_elem? o.clauses k ≡ some b → alike b.lhs v ≡ false) → Placed t base index back i place v c
placed t base index back i o v place c {first} e chosen bound before =
    let at : (k : ℕ) (b : Clause) → get_elem? o.clauses k ≡ some b → get_elem? (sided back (iso_at t base index i)).clauses k ≡ some b =
    λ k b h. subst (λ x. get_elem? x.clauses k ≡ some b) e h in
    let here = clause_at t base index back i place (at place c chosen) in
    let hits = bind_alike c.lhs v (empty Val) bound in
    record {
      within = here.0;
      is = here.1;
      hit = subst (λ p. alike p v ≡ true) (ap (λ x. x.lhs) here.1 ∙ lhs_at t base back _ _) hits;
      miss = λ k h. missed k h (inside o.clauses k (let b = index_below o.clauses place chosen in omega (arith, b)));
    }
  where
    missed : (k : ℕ) → k < place → (b : Clause) × (get_elem? o.clauses k ≡ some b) → alike (side_at t base index back (place_at index i + 1 + k)) v ≡ false
    missed k h b =
        let there = clause_at t base index back i k (subst (λ x. get_elem? x.clauses k ≡ some b.0) e b.1) in
        subst (λ p. alike p v ≡ false) (ap (λ x. x.lhs) there.1 ∙ lhs_at t base back _ _) (before k b.0 h b.1)

-- what a right pattern came to, by its slots
record Ended (p : Pat) (e : Slots Val) (x : Option Val) : Type 0 where
  pub value : Val
  pub rest : Slots Val
  pub built : build p e ≡ some (value, rest)
  pub large : Over value → x ≡ none
  pub fits : Fitting value → x ≡ some value

ends_some : {p : Pat} {y : Option (Slots Val)} {x : Option Val} {e : Slots Val} → EndTrace p y x → y ≡ some e → Ended p e x
ends_some EndTrace.stopped n = absurd (none≢some n)
ends_some {p} (EndTrace.large {f = rest} {w = w} b o) n =
    record { value = w; rest = rest; built = subst (λ e. build p e ≡ some (w, rest)) (some_inj n) b; large = λ h. refl; fits = λ h. absurd (omega (arith, o, h)) }
ends_some {p} (EndTrace.gives {f = rest} {w = w} b f) n =
    record { value = w; rest = rest; built = subst (λ e. build p e ≡ some (w, rest)) (some_inj n) b; large = λ h. absurd (omega (arith, f, h)); fits = λ h. refl }

ends_none : {p : Pat} {y : Option (Slots Val)} {x : Option Val} → EndTrace p y x → y ≡ none → x ≡ none
ends_none EndTrace.stopped n = refl
ends_none (EndTrace.large b o) n = refl
ends_none (EndTrace.gives b f) n = absurd (none≢some (sym n))

-- a budget that is not spent
one_or_more : (n : ℕ) → (n ≡ 0 → ⊥) → 1 ≤ n
one_or_more zero h = absurd (h refl)
one_or_more (suc n) h = omega arith

-- the choice comes out at the trace's clause
picked : (t : List ℕ) (base : ℕ) (index : List ℕ) (back : Bool) (i first stop r row below at end : ℕ) {w₀ vars' : List ℕ}
    → ChoiceSays t base index back first stop w₀ at end (replicate 64 0) vars' r → first ≡ place_at index i + 1 → stop ≡ place_at index (i + 1)
    → row ≡ place_at index r → below ≡ place_at index (r + 1) → (os : List Iso) (d : ℕ) (v : Val) → Laid t base index back os → At w₀ at v
    → end ≡ at + length (letters v) → end < 65536 → {x : Option Val} {m : ℕ} (o : Iso) → get_elem? os i ≡ some o → ClauseTrace (Runs d os) o v x m
    → (r < stop) × Picked t base back os d row below w₀ end vars' x m
picked t base index back i first stop r row below at end {w₀} {vars'} says f s row' below' os d v laid a e small {x} o known c =
    let p = placed t base index back i o v c.place c.clause (laid.isos i o known) c.chosen c.bound c.before in
    let n : ℕ = c.place in
    let same : place_at index i + 1 + n ≡ first + n = ap (λ x. x + n) (sym f) in
    let stops : place_at index (suc i) ≡ stop = ap (place_at index) (omega arith) ∙ sym s in
    let inside : first + n < stop = subst (λ x. first + n < x) stops (subst (λ x. x < place_at index (suc i)) same p.within) in
    let ch = says v n a e (below_zeros 64 _) inside (subst (λ x. alike (side_at t base index back x) v ≡ true) same p.hit)
    (λ k h. subst (λ x. alike (side_at t base index back (x + k)) v ≡ false) (sym f) (p.miss k h)) in
    let here : place_at index i + 1 + n ≡ r = same ∙ sym ch.place in
    let is : c.clause ≡ sided_clause back (clause_in t base row below) =
    p.is ∙ ap₂ (λ x y. sided_clause back (clause_in t base x y)) (ap (place_at index) here ∙ sym row') (ap (λ x. place_at index (x + 1)) here ∙ sym below') in
    let side : c.clause.lhs ≡ side_at t base index back (first + n) =
    ap (λ x. x.lhs) is ∙ lhs_at t base back row below ∙ ap (λ x. pattern_of t base (cell_of t x (cond back 2 1))) (row' ∙ ap (place_at index) ch.place) in
    let lets' : c.clause.lets ≡ sided_lets back t base (row + 1) (below - (row + 1)) = ap (λ x. x.lets) is ∙ lets_at t base back row below in
    let within = at_within a in
    let long = length-take-le end w₀ (omega (arith, within, e)) in
    let q : Pat = side_at t base index back (first + n) in (
      subst (λ x. x < stop) (sym ch.place) inside,
      record {
        lets = c.clause.lets;
        rows = lets';
        few = c.few;
        first = c.first;
        env = record {
          agrees = subst (λ x. Agrees (take end w₀) x c.first) (sym ch.matched)
              (agrees_bind q v (empty Val) (take end w₀) ch.earlier at (ch.wide ∙ refl) length_empty (omega (arith, long)) (at_take w₀ at end v a (omega (arith, e)))
              (subst (λ x. bind x v (empty Val) ≡ some c.first) side c.bound) (agrees_empty (take end w₀) ch.earlier));
          below = subst (λ x. Below x end) (sym ch.matched)
              (below_ranges q v at ch.earlier end (subst (Below ch.earlier) (sym e) ch.below) (omega (arith, e)));
          wide = ap length ch.matched ∙ length_ranges q v at ch.earlier ∙ ch.wide;
          slots = bind_length c.clause.lhs v (empty Val) c.bound ∙ length_empty;
        };
        last = c.last;
        count = c.count;
        trace = c.lets;
        ends = subst (λ p. EndTrace p c.last x) (ap (λ x. x.rhs) is ∙ rhs_at t base back row below) c.ends;
        counts = c.counts;
      },
    )

-- an argument that is not too large stands in the area
fits_handed : {work : List ℕ} {at end dest free : ℕ} {v : Val} → Handed work at end dest free v → end - at ≤ max_letters → Fitting v
fits_handed {at = at} {end = end} {v = v} h small = go (le_or_lt (length (letters v)) max_letters)
  where
    go : (Fitting v) ⊎ (Over v) → Fitting v
    go (inl f) = f
    go (inr o) = let far = h.large o in absurd (omega (arith, far, small))

-- no budget
pub applied_none : (t : List ℕ) (base : ℕ) (index : List ℕ) (back : Bool) (i depth at end dest free left : ℕ) {work : List ℕ} → left ≡ 0
    → ApplySays t base index back i depth work work at end dest free left (Err halt.Spent)
applied_none t base index back i depth at end dest free left {work} z os v x m laid run handed room most =
    let least = runs_least depth os i v x m run in
    record { answers = Answers.spent (omega (arith, z, least)) refl; spares = spares_none work dest (dest + depth * frame) }

-- too deep, or too large an argument
pub applied_large : (t : List ℕ) (base : ℕ) (index : List ℕ) (back : Bool) (i depth at end dest free left : ℕ) {work : List ℕ} → (left ≡ 0 → ⊥)
    → too_large depth at end ≡ true → ApplySays t base index back i depth work work at end dest free left (Err halt.Large)
applied_large t base index back i depth at end dest free left {work} some' large os v x m laid run handed room most =
    record { answers = go depth (is_large depth at end large) run; spares = spares_none work dest (dest + depth * frame) }
  where
    measured : (d : ℕ) {x : Option Val} {m : ℕ} → Applies (Runs d os) os i v x m → max_letters < end - at → Answers work dest left x m (Err halt.Large)
    measured d (Applies.large o) far = Answers.large (one_or_more left some') refl refl
    measured d (Applies.runs fits o e c) far = let ends = (handed.fits fits).ends in absurd (omega (arith, ends, fits, far))

    go : (n : ℕ) → (n ≡ 0) ⊎ (max_letters < end - at) → Runs n os i v x m → Answers work dest left x m (Err halt.Large)
    go zero h r = Answers.large (let one = r.1 in let least = one_or_more left some' in omega (arith, one, least)) r.0 refl
    go (suc d) (inl z) r = absurd (omega (arith, z))
    go (suc d) (inr far) r = measured d r far

-- let results and the frames of deeper calls are within the frames of an application
within_frames : {w₀ w₁ : List ℕ} (dest free n : ℕ) {depth d : ℕ} → depth ≡ suc d → n ≤ max_lets → dest ≤ free → free ≤ dest + result_length
    → Spares w₀ w₁ free (free + n * result_length + d * frame) → Spares w₀ w₁ dest (dest + depth * frame)
within_frames dest free n {depth} {d} up few low near k =
    spares_more free (free + n * result_length + d * frame) dest (dest + depth * frame) k low (omega (arith, few, near, up))

-- an application whose let steps were run: the clause, and what they came to
record Ran (t : List ℕ) (base : ℕ) (back : Bool) (os : List Iso) (d row below dest free rest : ℕ) (w₀ w₁ : List ℕ) (end : ℕ) (vars vars' : List ℕ) (x : Option Val) (m : ℕ) (r : Reducing)
    : Type 0 where
  pub picked : Picked t base back os d row below w₀ end vars x m
  pub steps : Stepped w₀ w₁ vars' free (length picked.lets) d rest picked.last picked.count r
  pub over : dest ≤ free
  pub near : free ≤ dest + result_length

module _ (t : List ℕ) (base : ℕ) (index : List ℕ) (back : Bool) (i depth r row below at end dest free left : ℕ) {h stop : ℕ} {w₀ vars : List ℕ}
    (says : ChoiceSays t base index back (h + 1) stop w₀ at end (replicate 64 0) vars r) (eh : h ≡ place_at index i) (es : stop ≡ place_at index (i + 1))
    (row' : row ≡ place_at index r) (below' : below ≡ place_at index (r + 1)) (measured : too_large depth at end ≡ false) where
  -- the choice: its clause, by the places read
  choice : (os : List Iso) (v : Val) (x : Option Val) (m : ℕ) → Laid t base index back os → Runs depth os i v x m → Handed w₀ at end dest free v
      → dest + depth * frame ≤ length w₀ → length w₀ ≤ work_length
      → (r < stop) × Picked t base back os (depth - 1) row below w₀ end vars x m × Stood w₀ at end dest free v
  choice os v x m laid run handed room most =
      let up = not_large depth at end measured in
      go (subst (λ k. Runs k os i v x m) up.0 run) up.1
    where
      go : {x : Option Val} {m : ℕ} → Applies (Runs (depth - 1) os) os i v x m → end - at ≤ max_letters
          → (r < stop) × Picked t base back os (depth - 1) row below w₀ end vars x m × Stood w₀ at end dest free v
      go (Applies.large o) short = let f = fits_handed handed short in absurd (omega (arith, f, o))
      go (Applies.runs fits o e c) short =
          let s = handed.fits fits in
          let low = s.low in
          let near = s.near in
          let up = (not_large depth at end measured).0 in
          let p = picked t base index back i (h + 1) stop r row below at end says (ap (λ x. x + 1) eh) es row' below' os (depth - 1) v laid s.stands s.ends
          (omega (arith, low, near, room, most, up)) o e c in
          (p.0, p.1, s)

  pub unmatched : stop ≤ r → ApplySays t base index back i depth w₀ w₀ at end dest free left (Err halt.Spent)
  unmatched past os v x m laid run handed room most = let c = choice os v x m laid run handed room most in let c₀ = c.0 in absurd (omega (arith, c₀))

  module _ {w₁ vars' : List ℕ} {z : Reducing} (some' : left ≡ 0 → ⊥) (lets : LetsSay t base index back (depth - 1) (row + 1) below w₀ w₁ free vars vars' (left - 1) z) where
    -- its let steps
    ran : (os : List Iso) (v : Val) (x : Option Val) (m : ℕ) → Laid t base index back os → Runs depth os i v x m → Handed w₀ at end dest free v
        → dest + depth * frame ≤ length w₀ → length w₀ ≤ work_length → Ran t base back os (depth - 1) row below dest free (left - 1) w₀ w₁ end vars vars' x m z
    ran os v x m laid run handed room most =
        let c = choice os v x m laid run handed room most in
        let p = c.1 in
        let s = c.2 in
        let few = p.few in
        let near = s.near in
        let up = (not_large depth at end measured).0 in
        record {
          picked = p;
          steps = lets os p.lets p.first p.last p.count laid p.rows p.trace (env_more free p.env s.low) (omega (arith, few, near, room, up)) most;
          over = s.over;
          near = near;
        }

    -- what is left alone
    alone : {os : List Iso} {x : Option Val} {m : ℕ} → Ran t base back os (depth - 1) row below dest free (left - 1) w₀ w₁ end vars vars' x m z
        → Spares w₀ w₁ dest (dest + depth * frame)
    alone q =
        within_frames dest free (length q.picked.lets) (not_large depth at end measured).0 q.picked.few q.over q.near q.steps.spares

    apply_spent : z ≡ Err halt.Spent → ApplySays t base index back i depth w₀ w₁ at end dest free left (Err halt.Spent)
    apply_spent told os v x m laid run handed room most =
        let q = ran os v x m laid run handed room most in record { answers = go q.picked q.steps.comes; spares = alone q }
      where
        go : (p : Picked t base back os (depth - 1) row below w₀ end vars x m) → Comes w₁ vars' free (length p.lets) (left - 1) p.last p.count z
            → Answers w₁ dest left x m (Err halt.Spent)
        go p (Comes.spent h e) = let counts = p.counts in Answers.spent (omega (arith, h, counts)) refl
        go p (Comes.large h n e) = absurd (spent≢large (sym told ∙ e))
        go p (Comes.ends g h n e) = absurd (ok≢spent (sym e.done ∙ told))

    apply_large : z ≡ Err halt.Large → ApplySays t base index back i depth w₀ w₁ at end dest free left (Err halt.Large)
    apply_large told os v x m laid run handed room most =
        let q = ran os v x m laid run handed room most in record { answers = go q.picked q.steps.comes; spares = alone q }
      where
        go : (p : Picked t base back os (depth - 1) row below w₀ end vars x m) → Comes w₁ vars' free (length p.lets) (left - 1) p.last p.count z
            → Answers w₁ dest left x m (Err halt.Large)
        go p (Comes.spent h e) = absurd (spent≢large (sym e ∙ told))
        go p (Comes.large h n e) =
            let counts = p.counts in
            let least = one_or_more left some' in
            Answers.large (omega (arith, h, counts, least)) (ends_none p.ends n) refl
        go p (Comes.ends g h n e) = absurd (ok≢large (sym e.done ∙ told))

    pub apply_stops : (s : S.Stop) → z ≡ Err s → ApplySays t base index back i depth w₀ w₁ at end dest free left (Err s)
    apply_stops halt.Spent = apply_spent
    apply_stops halt.Large = apply_large

    pub apply_done : {top y jr : ℕ} {w₂ : List ℕ} {g : Giving} → z ≡ done_at top y → length w₁ ≡ length w₀
        → jr ≡ cell_of t row (cond back 1 2) → GiveSays (pattern_of t base jr) vars' w₁ w₂ top dest y g → ApplySays t base index back i depth w₀ w₂ at end dest free left g
    apply_done {top} {y} {jr} {w₂} {g} told wide er gives' os v x m laid run handed room most =
        let q = ran os v x m laid run handed room most in go q q.picked q.steps.comes
      where
        up : depth ≡ suc (depth - 1)
        up = (not_large depth at end measured).0

        p' : Pat
        p' = pattern_of t base (cell_of t row (cond back 1 2))

        go : Ran t base back os (depth - 1) row below dest free (left - 1) w₀ w₁ end vars vars' x m z → (p : Picked t base back os (depth - 1) row below w₀ end vars x m)
            → Comes w₁ vars' free (length p.lets) (left - 1) p.last p.count z → Applied w₀ w₂ dest depth left x m g
        go q p (Comes.spent h e) = absurd (ok≢spent (sym told ∙ e))
        go q p (Comes.large h n e) = absurd (ok≢large (sym told ∙ e))
        go q p (Comes.ends s h n e) =
            let place = done_place (sym told ∙ e.done) in
            let paid = done_left (sym told ∙ e.done) in
            let counts = p.counts in
            let few = p.few in
            let close = e.near in
            let further = e.further in
            let low = q.over in
            let near = q.near in
            let least = one_or_more left some' in
            let env : EnvAt w₁ top vars' s = subst (λ k. EnvAt w₁ k vars' s) (sym place) e.env in
            let b = ends_some p.ends n in
            let v = subst (λ j. GiveSays (pattern_of t base j) vars' w₁ w₂ top dest y g) er gives' s b.rest b.value b.built env (omega (arith, place, further, low))
            (omega (arith, close, place, few, near, room, wide, up)) in
            record {
              answers = ended b v (omega (arith, counts, h, least)) (omega (arith, paid, counts, h, least));
              spares = spares_both (alone q)
                  (spares_more dest (top + result_length) dest (dest + depth * frame) v.spares (omega arith) (omega (arith, close, place, few, near, up)));
            }
          where
            ended : (b : Ended p' s x) → Gave w₁ w₂ top dest y b.value g → m ≤ left → y ≡ left - m → Answers w₂ dest left x m g
            ended b v h e = answers v.gives
              where
                answers : Gives w₂ dest y b.value g → Answers w₂ dest left x m g
                answers (Gives.large o k) = Answers.large h (b.large o) k
                answers (Gives.gives f k) = Answers.gives b.value h (b.fits f) (subst (λ n. Result w₂ dest n b.value g) e k)

-- ---- the budget that is left, which falls with each application: three for each in the measures of the cycle

-- each let step against what is left
pub step_falls : (n k : ℕ) {t : ℕ} → 3 * n + 2 ≡ t → k ≤ n → 3 * k + 1 < t
step_falls n k {t} e h = omega arith

pub rest_falls : (g : Giving) {z : Reducing} {top y left : ℕ} → rest_of g ≤ y → remaining z ≤ left - 1 → z ≡ done_at top y → rest_of g ≤ left
rest_falls g a b e = let n = ap remaining e in omega (arith, a, b, n)

pub range_falls : {r : Giving} {b x y left : ℕ} → rest_of r ≤ left → r ≡ given_at b x y → y ≤ left
range_falls a e = let n = ap rest_of e in omega (arith, a, n)

pub steps_fall : {z : Reducing} {top y left budget : ℕ} → remaining z ≤ left → z ≡ done_at top y → left ≤ budget → y ≤ budget
steps_fall a e b = let n = ap remaining e in omega (arith, a, b, n)

-- the rows of a clause's L lines
pub rows_in : {row : ℕ} → row < word_bound → row + 1 ≤ word_bound
rows_in h = omega arith

-- the further one of two places
pub further : {a b c : ℕ} → c ≡ max a b → (a ≤ c) × (b ≤ c) × ((c ≡ a) ⊎ (c ≡ b))
further {a} {b} {c} e = go (le_or_lt a b)
  where
    go : (a ≤ b) ⊎ (b < a) → (a ≤ c) × (b ≤ c) × ((c ≡ a) ⊎ (c ≡ b))
    go (inl h) = (omega (arith, e), omega (arith, e), inr (omega (arith, e)))
    go (inr h) = (omega (arith, e), omega (arith, e), inl (omega (arith, e)))
