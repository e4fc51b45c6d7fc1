-- Sizes of an accepted file: its types have few nodes, and so values of types without lists have few letters; a run's result is measured.
use Prim.Native.Nat.{ℕ, zero, suc, ◌+◌, ◌<◌, ◌≤◌}
use native.Mathlib.Nat.{le_trans}
use native.Mathlib.Omega.{arith}
use mathlib.Core.Path.{◌≡◌, refl, sym, ap, ◌∙◌}
use mathlib.Core.Bool.{Bool, true, false}
use mathlib.Core.Option.{Option, none, some}
use mathlib.Core.List.{List, [], ◌∷◌, ◌++◌, Memᴰ}
use lib.ListN.{length, length-append, get_or, get_elem?}
use Rattle.limits.specs.Limits.{max_nodes, max_isos, max_letters, max_depth, result_length}
use Rattle.calculus.specs.Trees.{Ty, tunit, left, right, Pat, Val, Iso, type_nodes}
use Rattle.calculus.specs.Refusals.{Kind, type_line, pattern_line, iso_line, clause_line, let_line}
use Rattle.format.specs.Lines.{Row}
use Rattle.format.specs.Judge.{Seen, start, type_tree, after_kind, after_all}
use Rattle.format.specs.Unfold.{place, tail_from, isos_of}
use Rattle.calculus.specs.Letters.{letters}
use Rattle.model.specs.Services.{accepted, verdict, Ran, answer_of_run, run_rows, toward, run_of}
use Rattle.calculus.specs.Paper.{Of}
use Rattle.calculus.specs.Lists.{is_free, Finite, ListFree}
use Rattle.calculus.specs.Reduction.{small, reduce}
use Rattle.model.specs.Answers.{Halts, RunIs, absent, strange, passed, large, done}
use Rattle.calculus.proofs.Basic.{leb_le, le_leb, counted, each_nil, each_cons, index_mem, index_below}
use Rattle.calculus.proofs.Inverse.{reduce_unfold}
use Rattle.calculus.proofs.Running.{application}
use Rattle.calculus.proofs.Lists.{EarlierOrOwn, free_iff, free_invert, never_stops}
use Rattle.format.proofs.Turning.{isos_turn}
use Rattle.format.proofs.Passing as P
use Rattle.model.proofs.Runs.{Good, GoodRows, good, good_toward, accepted_good, sound, preserves, halts, halted, run_rows_iff}

-- ---- types

-- a value of a type without lists has at most as many letters as its type has nodes
pub of_small : {v : Val} {a : Ty} → Finite a → Of v a → length (letters v) ≤ type_nodes a
of_small Finite.unit Of.unit = omega arith
of_small (Finite.sum f g) (Of.inj {t = left} h) = let k = of_small f h in omega arith
of_small (Finite.sum f g) (Of.inj {t = right} h) = let k = of_small g h in omega arith
of_small (Finite.product f g) (Of.pair {v} {w} h k) = let i = of_small f h in let j = of_small g k in omega (arith, length-append (letters v) (letters w))

-- every type that a number names has few nodes; one that names nothing is the unit type
abbrev pub AllSmall : List Ty → Type 0
AllSmall ts = (i : ℕ) → type_nodes (get_or ts i tunit) ≤ max_nodes

snoc_small : (ts : List Ty) (a : Ty) → AllSmall ts → type_nodes a ≤ max_nodes → AllSmall (ts ++ (a ∷ []))
snoc_small [] a h f zero = f
snoc_small [] a h f (suc i) = omega arith
snoc_small (b ∷ ts) a h f zero = h zero
snoc_small (b ∷ ts) a h f (suc i) = snoc_small ts a (λ j. h (suc j)) f i

after_small : (s : Seen) (k : Kind) (r : Row) → P.Fit s k r → AllSmall s.types → AllSmall (after_kind k s r).types
after_small s type_line r f h = snoc_small s.types (type_tree s.types r) h (P.type_fit s r f).1
after_small s pattern_line r f h = h
after_small s iso_line r f h = h
after_small s clause_line r f h = h
after_small s let_line r f h = h

types_small_from : {s : Seen} {rs : List Row} → P.Passes s rs → AllSmall s.types → AllSmall (after_all s rs).types
types_small_from P.done h = h
types_small_from (P.next {s = s} {r = r} j ps) h = types_small_from ps (after_small s r.kind r (P.judge_fit s r j) h)

-- the T lines of rows that pass have few nodes
pub types_small : {rs : List Row} → P.Passes start rs → AllSmall (after_all start rs).types
unfolding start
types_small d = types_small_from d (λ i. omega arith)

-- the types of every iso have few nodes
abbrev pub SmallTypes : List Iso → Type 0
SmallTypes os = (o : Iso) → Memᴰ o os → (type_nodes o.from ≤ max_nodes) × (type_nodes o.to ≤ max_nodes)

isos_small : (ts : List Ty) (ps : List Pat) → AllSmall ts → (n : ℕ) (rs : List Row) → SmallTypes (tail_from ts ps n rs).isos
isos_small ts ps h n [] = each_nil (λ o. (type_nodes o.from ≤ max_nodes) × (type_nodes o.to ≤ max_nodes))
isos_small ts ps h n (r ∷ rs) = step r.kind (isos_small ts ps h (suc n) rs)
  where
    step : (k : Kind) → SmallTypes (tail_from ts ps (suc n) rs).isos → SmallTypes (place ts ps k n r (tail_from ts ps (suc n) rs)).isos
    step type_line g = g
    step pattern_line g = g
    step iso_line g = each_cons (λ o. (type_nodes o.from ≤ max_nodes) × (type_nodes o.to ≤ max_nodes)) (h r.x, h r.y) g
    step clause_line g = g
    step let_line g = g

-- the isos of rows that pass have types of few nodes
pub small_types : {rs : List Row} → P.Passes start rs → SmallTypes (isos_of rs)
unfolding isos_of
small_types {rs} d = isos_small (after_all start rs).types (after_all start rs).patterns (types_small d) 1 rs

-- ---- how many isos there are

-- a row adds at most one iso
isos_of_lem : (ts : List Ty) (ps : List Pat) (s : Seen) (n : ℕ) (rs : List Row) → s.isos + length (tail_from ts ps n rs).isos ≡ (after_all s rs).isos
isos_of_lem ts ps s n [] = omega arith
isos_of_lem ts ps s n (r ∷ rs) = step r.kind (λ k. isos_of_lem ts ps (after_kind k s r) (suc n) rs)
  where
    step : (k : Kind) → ((k : Kind) → (after_kind k s r).isos + length (tail_from ts ps (suc n) rs).isos ≡ (after_all (after_kind k s r) rs).isos)
        → s.isos + length (place ts ps k n r (tail_from ts ps (suc n) rs)).isos ≡ (after_all (after_kind k s r) rs).isos
    step type_line h = h type_line
    step pattern_line h = h pattern_line
    step iso_line h = let k = h iso_line in omega arith
    step clause_line h = h clause_line
    step let_line h = h let_line

few_from : {s : Seen} {rs : List Row} → P.Passes s rs → s.isos ≤ max_isos → (after_all s rs).isos ≤ max_isos
few_from P.done h = h
few_from (P.next {s = s} {r = r} j ps) h = few_from ps (step r.kind (P.judge_fit s r j))
  where
    step : (k : Kind) → P.Fit s k r → (after_kind k s r).isos ≤ max_isos
    step type_line f = h
    step pattern_line f = h
    step iso_line f = let k = (P.iso_fit s r f).2 in omega arith
    step clause_line f = h
    step let_line f = h

-- rows that pass have few isos
pub few_isos : {rs : List Row} → P.Passes start rs → length (isos_of rs) ≤ max_isos
unfolding isos_of start
few_isos {rs} d =
    let n = isos_of_lem (after_all start rs).types (after_all start rs).patterns start 1 rs in
    let m = few_from d (omega arith) in
    omega arith

-- ---- isos without lists

-- Where no type of an iso, and none of one that it reaches, holds a list, the reduction meets no ceiling: such isos answer as before request 14, and no run of
-- theirs is 24.
pub free_gives : (rs : List Row) → GoodRows rs → (i : ℕ) → ListFree (isos_of rs) i → (o : Iso) → get_elem? (isos_of rs) i ≡ some o → (v : Val) → Of v o.from
    → (w : Val) × (k : ℕ) × (reduce (isos_of rs) i v ≡ (some w, k))
free_gives rs q i free o e v t = go (reduce os i v).0 refl
  where
    os : List Iso
    os = isos_of rs

    g : Good os
    g = good rs q

    few : (j : ℕ) (p : Iso) → get_elem? os j ≡ some p → (u : Val) → (Finite p.from → Of u p.from → small u ≡ true) × (Finite p.to → Of u p.to → small u ≡ true)
    few j p f u =
        let s = small_types q.passes p (index_mem os j f) in
        (λ n h. le_leb (le_trans (of_small n h) s.0), λ n h. le_leb (le_trans (of_small n h) s.1))

    go : (x : Option Val) → (reduce os i v).0 ≡ x → (w : Val) × (k : ℕ) × (reduce os i v ≡ (some w, k))
    go none h =
        let n = index_below os i e in
        let m = few_isos q.passes in
        let halt = halts os g i o e v t none (reduce os i v).1 (counted h refl) in
        absurd (no_halt halt (omega arith))
      where
        no_halt : {k : ℕ} → Halts os i v none k → i < max_depth → ⊥
        no_halt (Halts.stops s) l = never_stops (sound os g) g.ok small few s l free o e t
    go (some w) h = (w, (reduce os i v).1, counted h refl)

-- a let step of rows that pass names an earlier iso, or its own
pub near_of : {os : List Iso} → Good os → EarlierOrOwn os
near_of g i o e c m l k = ((g.form i o e c m).lets l k).earlier

pub free_rows : (rs : List Row) → GoodRows rs → (i : ℕ) (o : Iso) → get_elem? (isos_of rs) i ≡ some o → is_free (isos_of rs) i ≡ true → ListFree (isos_of rs) i
free_rows rs q i o e h = (free_iff (isos_of rs) (near_of (good rs q)) i o e).0 h

-- the isos of a file and of the turned file have to do with lists alike
pub free_toward : (back : Bool) (rs : List Row) → GoodRows rs → (i : ℕ) → is_free (isos_of (toward back rs)) i ≡ is_free (isos_of rs) i
free_toward true rs g i = ap (λ os. is_free os i) (isos_turn rs g.passes) ∙ ap (λ bs. get_or bs i true) (free_invert (isos_of rs))
free_toward false rs g i = refl

pub list_toward : (back : Bool) (rs : List Row) → GoodRows rs → (i : ℕ) (o : Iso) → get_elem? (isos_of (toward back rs)) i ≡ some o → is_free (isos_of rs) i ≡ true
    → ListFree (isos_of (toward back rs)) i
list_toward back rs g i o e h = free_rows (toward back rs) (good_toward back rs g) i o e (free_toward back rs g i ∙ h)

-- the reduction of such an iso, in either direction, ends in a value
pub free_ends : (back : Bool) (rs : List Row) → GoodRows rs → (i : ℕ) (o : Iso) → get_elem? (isos_of (toward back rs)) i ≡ some o → is_free (isos_of rs) i ≡ true
    → (v : Val) → Of v o.from → (w : Val) × (k : ℕ) × (reduce (isos_of (toward back rs)) i v ≡ (some w, k)) × Of w o.to
free_ends back rs g i o e h v t =
    let q = good_toward back rs g in
    let (w, k, r) = free_gives (toward back rs) q i (list_toward back rs g i o e h) o e v t in
    (w, k, r, preserves (isos_of (toward back rs)) (good (toward back rs) q) i o e v w k t r)

-- ---- results

-- an application measures its result
pub result_small : (os : List Iso) (i : ℕ) (v w : Val) (k : ℕ) → reduce os i v ≡ (some w, k) → length (letters w) ≤ result_length
result_small os i v w k r = leb_le (length (letters w)) max_letters (application small 39 os i v (sym (ap (λ f. f i v) (reduce_unfold os)) ∙ r)).result

-- what a run answers has few letters: a result passed the ceiling, a refusal has none
says_short : (os : List Iso) → Good os → {i budget : ℕ} {bs : List ℕ} {r : Ran} → RunIs os i budget bs r → length (answer_of_run r).letters ≤ result_length
says_short os g (absent e) = omega arith
says_short os g (strange o e h) = omega arith
says_short os g (passed o v x k e b h s l) = omega arith
says_short os g (large o v k e b h s l) = omega arith
says_short os g {i} (done o v w k e b h s l) = result_small os i v w k (halted os g i o e v h s)

run_short : (rs : List Row) → GoodRows rs → (i budget : ℕ) (bs : List ℕ) → length (answer_of_run (run_rows rs i budget bs)).letters ≤ result_length
run_short rs g i budget bs = says_short (isos_of rs) (good rs g) ((run_rows_iff rs g i budget bs (run_rows rs i budget bs)).0 refl)

-- the letters of every run of an accepted file, in either direction, fit the result area
pub short_result : (file : List ℕ) (rs : List Row) → verdict file ≡ accepted rs → (i : ℕ) (back : Bool) (budget : ℕ) (bs : List ℕ)
    → length (answer_of_run (run_of (accepted rs) i back budget bs)).letters ≤ result_length
short_result file rs e i back budget bs = run_short (toward back rs) (good_toward back rs (accepted_good file rs e)) i budget bs
