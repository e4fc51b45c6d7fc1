-- The numbers for the P lines, line by line.
use Prim.Native.Nat.{ℕ, suc, ◌+◌, ◌%◌, ◌-◌, ◌≤◌, ◌<◌}
use native.Mathlib.Omega.{arith}
use mathlib.Core.Path.{◌≡◌, refl, sym, ap, ap₂, ◌∙◌, subst}
use mathlib.Core.Bool.{cond}
use mathlib.Core.Logic.{◌⊎◌, inl, inr}
use mathlib.Core.List.{List, [], ◌∷◌, ◌++◌, append_assoc}
use lib.Dec.{ltb}
use lib.ListN.{length, get_or, set, take, drop, length-append, length-drop, take-append-drop}
use lib.Seq.{sets, sets-eq, length-sets, length-take-le, take_at, drop_at, take-add, drop-append-le, take-set-lt, drop-set-lt, get_or-set_same, get_or-set_other, get_or-take}
use borrow.Author.Tests.{lt-ltb, le-ltb}
use Rattle.std.specs.Prelude.{Some, None}
use Rattle.calculus.specs.Trees.{Pat, pvar}
use Rattle.calculus.proofs.Basic.{le_or_lt}
use Rattle.table_trees.specs.Unfolding.{cell_of, pattern_of}
use Rattle.table_trees.proofs.Unfolding.{pattern_var}
use Rattle.run_flat.specs.Flat.{flat, stop, Stands}
use Rattle.run_coding.specs.Coded.{entry_of, Entry, uncoded, variable, coded, Coded, Stopped, Listed, nothing, one, many, LineCoded}

-- ---- a flat pattern among more numbers

stands_within : {l : List ℕ} {d : ℕ} {p : Pat} → Stands l d p → d ≤ length l
stands_within {l} {d} {p} s =
    let n = ap length s.spells in let m = length-append (flat p) (stop ∷ s.rest) in let k = length-drop d l in omega (arith, n, m, k)

stands_more : {l : List ℕ} {d : ℕ} {p : Pat} (more : List ℕ) → Stands l d p → Stands (l ++ more) d p
stands_more {l} {d} {p} more s =
    record {
      rest = s.rest ++ more;
      spells = drop-append-le d l more (stands_within s) ∙ ap (λ x. x ++ more) s.spells ∙ append_assoc (flat p) (stop ∷ s.rest) more;
      few = s.few;
    }

stands_set : {l : List ℕ} {d : ℕ} {p : Pat} (i v : ℕ) → i < d → Stands l d p → Stands (set l i v) d p
stands_set {l} {d} {p} i v h s = record { rest = s.rest; spells = drop-set-lt d l i v h ∙ s.spells; few = s.few }

stands_as : {l l' : List ℕ} {d : ℕ} {p : Pat} → l ≡ l' → Stands l d p → Stands l' d p
stands_as {d = d} {p = p} e s = subst (λ x. Stands x d p) e s

-- ---- earlier lines keep theirs

listed_keeps : {code : List ℕ} (area : List ℕ) {code' : List ℕ} {at next : ℕ} (i v : ℕ) {p : Pat} {d d' : ℕ} → at ≤ next → take at area ≡ take at code → code' ≡ set area i v → i < 1025 →
    1025 ≤ at → d ≡ d'
    → Listed code at p d → Listed code' next p d'
listed_keeps area i v on same e low up ed (nothing z) = nothing (sym ed ∙ z)
listed_keeps area i v on same e low up ed (one n h z q) = one n h (sym ed ∙ z) q
listed_keeps {code} area {code'} {at} {next} i v {p} {d} {d'} on same e low up ed (many h s) =
    let far : next ≡ at + (next - at) = omega arith in
    let one' : Stands (take at area) d p = stands_as (sym same) s in
    let two : Stands (take next area) d p =
    stands_as (sym (ap (λ n. take n area) far ∙ take-add at (next - at) area)) (stands_more (take (next - at) (drop at area)) one') in
    let three : Stands (take next code') d p =
    stands_as (sym (ap (take next) e ∙ take-set-lt next area i v (omega arith))) (stands_set i v (omega (arith, h)) two) in
    many (subst (λ x. 1025 ≤ x) ed h) (subst (λ x. Stands (take next code') x p) ed three)

-- ---- line j

-- its number is the one stored
here : (area : List ℕ) {code' : List ℕ} {j v : ℕ} → suc j < length area → code' ≡ set area (suc j) v → v ≡ get_or code' (suc j) 0
here area {code'} {j} {v} h e = sym (ap (λ l. get_or l (suc j) 0) e ∙ get_or-set_same area (suc j) v 0 h)

pub line_var : (t : List ℕ) (base j : ℕ) {k x v i at : ℕ} {code code' : List ℕ} → k ≡ cell_of t (base + j) 1 → k ≡ 1 → x ≡ cell_of t (base + j) 2 → v ≡ cond (ltb x 32) (suc x) 0
    → i ≡ j + 1 → code' ≡ set code i v → j < 1024 → 1025 ≤ length code → LineCoded (pattern_of t base j) j code code' at at
line_var t base j {k} {x} {v} {i} {at} {code} {code'} ek z ex ev ei e less long =
    let up : i ≡ suc j = omega (arith, ei) in
    let e' : code' ≡ set code (suc j) v = e ∙ ap (λ n. set code n v) up in
    record { onward = omega arith; area = code; value = v; before = refl; stored = e'; entry = go (le_or_lt 32 x) (here code (omega arith) e') }
  where
    go : (32 ≤ x) ⊎ (x < 32) → v ≡ get_or code' (suc j) 0 → Listed code' at (pattern_of t base j) (get_or code' (suc j) 0)
    go (inl h) g = nothing (sym g ∙ ev ∙ ap (λ b. cond b (suc x) 0) (le-ltb x 32 h))
    go (inr h) g = one x h (sym g ∙ ev ∙ ap (λ b. cond b (suc x) 0) (lt-ltb x 32 h)) (pattern_var t base j (sym ek ∙ z) ∙ ap pvar (sym ex))

-- no room: nothing before the place has changed
pub line_none : (p : Pat) (j : ℕ) {i at : ℕ} {code : List ℕ} (c₂ : List ℕ) {code' : List ℕ} → Stopped p code c₂ at None → i ≡ j + 1 → code' ≡ set c₂ i 0 → j < 1024 → 1025 ≤ length c₂
    → LineCoded p j code code' at at
line_none p j {i} {at} {code} c₂ {code'} f ei e less long =
    let up : i ≡ suc j = omega (arith, ei) in
    let e' : code' ≡ set c₂ (suc j) 0 = e ∙ ap (λ n. set c₂ n 0) up in
    record { onward = omega arith; area = c₂; value = 0; before = f; stored = e'; entry = nothing (sym (here c₂ (omega arith) e')) }

-- the stored numbers, up to behind them
taken : (l : List ℕ) (a : ℕ) (bs : List ℕ) → a + length bs ≤ length l → take (a + length bs) (sets l a bs) ≡ take a l ++ bs
taken l a bs h =
    let t = length-take-le a l (omega arith) in
    let both = length-append (take a l) bs in
    ap (take (a + length bs)) (sets-eq bs l a h) ∙ take_at (take a l ++ bs) (drop (a + length bs) l) (a + length bs) (omega (arith, t, both))

pub line_flat : (p : Pat) (j : ℕ) {i v at next : ℕ} {code c₂ code' : List ℕ} → Stopped p code c₂ at (Some next) → i ≡ j + 1 → v ≡ at % 65536 → code' ≡ set c₂ i v → j < 1024 → 1025 ≤ at
    → LineCoded p j code code' at next
line_flat p j {i} {v} {at} {next} {code} {c₂} {code'} f ei ev e less low =
    let up : i ≡ suc j = omega (arith, ei) in
    let e' : code' ≡ set c₂ (suc j) v = e ∙ ap (λ n. set c₂ n v) up in
    let there = f.0.place in
    let near = f.0.near in
    let fits = f.0.fits in
    let is : v ≡ at = omega (arith, ev, near, there) in
    let bs : List ℕ = flat p ++ (128 ∷ []) in
    let long = length-append (flat p) (128 ∷ []) in
    let front : take next c₂ ≡ take at code ++ bs = ap₂ take there f.0.area ∙ taken code at bs (omega (arith, fits, there)) in
    let room = length-take-le at code (omega (arith, fits, there)) in
    let same_length = ap length f.0.area ∙ length-sets code at bs in
    record {
      onward = omega (arith, there);
      area = c₂;
      value = v;
      before = f.0.before;
      stored = e';
      entry = subst (Listed code' next p) (here c₂ (omega (arith, same_length, fits, there, long)) e')
          (many (omega (arith, is))
          record {
            rest = [];
            spells = ap₂ (λ n l. drop n (take next l)) is e' ∙ ap (drop at) (take-set-lt next c₂ (suc j) v (omega (arith, there, long)))
                ∙ drop-set-lt at (take next c₂) (suc j) v (omega arith) ∙ ap (drop at) front ∙ drop_at (take at code) bs at room;
            few = f.1;
          });
    }

-- ---- all lines

-- the lines from line j up to line n have their numbers
pub record Listing (t : List ℕ) (base : ℕ) (code : List ℕ) (at j n : ℕ) : Type 0 where
  pub low : 1025 ≤ at
  pub below : j ≤ n
  pub each : (k : ℕ) → j ≤ k → k < n → Listed code at (pattern_of t base k) (get_or code (suc k) 0)

pub listing_next : {t : List ℕ} {base : ℕ} {code code' : List ℕ} {at next : ℕ} (j : ℕ) {i n : ℕ} → Listing t base code at i n → 0 < i → j ≡ i - 1
    → LineCoded (pattern_of t base j) j code code' at next → n ≤ 1024 → Listing t base code' next j n
listing_next {t} {base} {code} {code'} {at} {next} j {i} {n} l some' before c few =
    let up = l.low in
    let on = c.onward in
    let top = l.below in
    record { low = omega (arith, up, on); below = omega (arith, top, before); each = λ k h g. go k (le_or_lt i k) h g }
  where
    go : (k : ℕ) → (i ≤ k) ⊎ (k < i) → j ≤ k → k < n → Listed code' next (pattern_of t base k) (get_or code' (suc k) 0)
    go k (inr g) h r =
        let is : j ≡ k = omega arith in subst (λ x. Listed code' next (pattern_of t base x) (get_or code' (suc x) 0)) is c.entry
    go k (inl g) h r =
        let up = l.low in
        let here' : suc k < at = omega (arith, up, few) in
        let same : get_or code (suc k) 0 ≡ get_or code' (suc k) 0 =
        sym (get_or-take at code (suc k) 0 here') ∙ ap (λ x. get_or x (suc k) 0) (sym c.before) ∙ get_or-take at c.area (suc k) 0 here'
        ∙ sym (ap (λ x. get_or x (suc k) 0) c.stored ∙ get_or-set_other c.area (suc j) (suc k) c.value 0 (λ e. absurd (omega (arith, e, before, some', g)))) in
        listed_keeps c.area (suc j) c.value c.onward c.before c.stored (omega (arith, few, r, h)) l.low same (l.each k g r)

-- number 0 is the number of lines
pub all_coded : (t : List ℕ) (base patterns : ℕ) {code code' : List ℕ} {at v n : ℕ} → Listing t base code at n patterns → n ≤ 0 → patterns ≤ 1024 → v ≡ patterns % 65536 → 1025 ≤ length code
    → code' ≡ set code 0 v → Coded t base code'
all_coded t base patterns {code} {code'} {at} {v} {n} l past few ev long e = record { entries = λ j. go j (le_or_lt patterns j) }
  where
    is : get_or code' 0 0 ≡ patterns
    is = let p : v ≡ patterns = omega (arith, ev) in ap (λ x. get_or x 0 0) e ∙ get_or-set_same code 0 v 0 (omega arith) ∙ p

    same : (j : ℕ) → get_or code (suc j) 0 ≡ get_or code' (suc j) 0
    same j = sym (ap (λ x. get_or x (suc j) 0) e ∙ get_or-set_other code 0 (suc j) v 0 (λ z. absurd (omega (arith, z))))

    as_entry : {p : Pat} {d d' : ℕ} → d ≡ d' → Listed code at p d → Entry code' p d'
    as_entry ed (nothing z) = uncoded (sym ed ∙ z)
    as_entry ed (one n h z q) = variable n h (sym ed ∙ z) q
    as_entry {p} {d} {d'} ed (many h s) =
        let whole : Stands code d p = stands_as (take-append-drop at code) (stands_more (drop at code) s) in
        coded (omega (arith, h, ed)) (subst (λ x. Stands code' x p) ed (stands_as (sym e) (stands_set 0 v (omega (arith, h)) whole)))

    go : (j : ℕ) → (patterns ≤ j) ⊎ (j < patterns) → Entry code' (pattern_of t base j) (entry_of code' j)
    go j (inl h) = uncoded (ap (λ n. cond (ltb j n) (get_or code' (suc j) 0) 0) is ∙ ap (λ b. cond b (get_or code' (suc j) 0) 0) (le-ltb j patterns h))
    go j (inr h) =
        as_entry (sym (ap (λ n. cond (ltb j n) (get_or code' (suc j) 0) 0) is ∙ ap (λ b. cond b (get_or code' (suc j) 0) 0) (lt-ltb j patterns h) ∙ sym (same j))) (l.each j (omega (arith, past)) h)
