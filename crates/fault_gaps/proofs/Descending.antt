-- The rows and types after some letters, one letter more; what the code's counts then tell.
use Prim.Native.Nat.{ℕ, suc, ◌-◌, ◌^◌, ◌%◌, ◌<◌, ◌≤◌}
use native.Mathlib.Nat.{le_trans, pow-le-pow_right, mod-eq_of_lt}
use native.Mathlib.Omega.{arith}
use mathlib.Core.Path.{◌≡◌, refl, sym, ap, ap₂, ◌∙◌, subst}
use mathlib.Core.Bool.{Bool, true, false, cond}
use mathlib.Core.Option.{Option, none, some}
use mathlib.Core.List.{List, [], ◌∷◌, ◌++◌, Memᴰ}
use lib.ListN.{get_or}
use Rattle.calculus.specs.Tools.{◌>>=◌}
use Rattle.calculus.specs.Trees.{Ty, tunit, tlist, tsum, tprod, unit_leaf, empty_leaf, left, right, pair_node, element_node, Pat, type_nodes}
use Rattle.calculus.specs.Shapes.{Shape}
use Rattle.calculus.specs.Paper.{Apart}
use Rattle.law_witnesses.specs.Showing.{Move, leaf, tag, node, letter_on, moves}
use Rattle.law_witnesses.specs.Seeking.{after, how_many, also, keep, lacks, alone, pick}
use Rattle.calculus.proofs.Basic.{bind_some, none≢some, some_inj, ltb_lt, lt_ltb, not_ltb, each_nil, each_cons}
use Rattle.limits.specs.Limits.{max_nodes}
use Rattle.law_witnesses.proofs.Gaps.{Once, once_after, once_alone, matched_le}
use Rattle.law_witnesses.proofs.Descent.{how_many_power}
use Rattle.law_witnesses.proofs.Moduli.{tells}
use Rattle.fault_tallies.specs.Tallies.{modulus, other_modulus}
use Rattle.fault_tallies.proofs.Counting.{zero_mod}
use Rattle.fault_stacks.specs.Stacks.{Shapes, ends, also as with, Countable, none_left, one_more, move_of, types_after, types_along, row_along}
use Rattle.fault_gaps.specs.Gaps.{matched_by, TakesAll, types_at, rows_at, Good, Leaves, FirstCount, FirstLack, first_move, first_letter, Picks}

-- ---- one letter more

pub types_snoc : (w : List ℕ) (c : ℕ) (ts : List Ty) → types_along (w ++ (c ∷ [])) ts ≡ types_after (move_of c) (types_along w ts)
types_snoc [] c ts = refl
types_snoc (b ∷ w) c ts = types_snoc w c (types_after (move_of b) ts)

bind_none : (x : Option (List Pat)) → (x >>= λ r. some r) ≡ x
bind_none none = refl
bind_none (some r) = refl

pub row_snoc : (w : List ℕ) (c : ℕ) (row : List Pat) → row_along (w ++ (c ∷ [])) row ≡ (row_along w row >>= λ r. after (move_of c) r)
row_snoc [] c row = bind_none (after (move_of c) row)
row_snoc (b ∷ w) c row = go (after (move_of b) row) (row_snoc w c)
  where
    go : (x : Option (List Pat)) → ((r : List Pat) → row_along (w ++ (c ∷ [])) r ≡ (row_along w r >>= λ z. after (move_of c) z))
        → (x >>= λ r. row_along (w ++ (c ∷ [])) r) ≡ ((x >>= λ r. row_along w r) >>= λ r. after (move_of c) r)
    go none h = refl
    go (some r) h = h r

pub keep_snoc : (w : List ℕ) (c : ℕ) (rows : List (List Pat)) → keep (row_along (w ++ (c ∷ []))) rows ≡ keep (after (move_of c)) (keep (row_along w) rows)
keep_snoc w c [] = refl
keep_snoc w c (row ∷ rows) = ap₂ also (row_snoc w c row) (keep_snoc w c rows) ∙ go (row_along w row)
  where
    go : (x : Option (List Pat)) → also (x >>= λ r. after (move_of c) r) (keep (after (move_of c)) (keep (row_along w) rows)) ≡ keep (after (move_of c)) (also x (keep (row_along w) rows))
    go none = refl
    go (some r) = refl

-- ---- the letters of a type

abbrev Named : Move × List Ty → Type 0
Named m = move_of (letter_on m.0) ≡ m.0

pub move_letter : (a : Ty) (m : Move × List Ty) → Memᴰ m (moves a) → move_of (letter_on m.0) ≡ m.0
move_letter tunit = each_cons Named refl (each_nil Named)
move_letter (tlist a) = each_cons Named refl (each_cons Named refl (each_nil Named))
move_letter (tsum a b) = each_cons Named refl (each_cons Named refl (each_nil Named))
move_letter (tprod a b) = each_cons Named refl (each_nil Named)

-- a letter that a type can begin with goes to the types that follow it
abbrev Leads : Ty → Move × List Ty → Type 0
Leads a m = (ts : List Ty) → types_after m.0 (a ∷ ts) ≡ m.1 ++ ts

abbrev chosen : Bool → Ty → Ty → Move × List Ty
chosen c a b = cond c (tag left, a ∷ []) (tag right, b ∷ [])

pub picked_mem : (n : ℕ) (a : Ty) (ts : List Ty) (rows : List (List Pat)) → Memᴰ (pick n a ts rows) (moves a)
picked_mem n tunit ts rows = Memᴰ.head refl
picked_mem n (tlist a) ts rows = go (lacks n (a ∷ (tlist a ∷ ts)) (keep (after (node element_node)) rows))
  where
    go : (c : Bool) → Memᴰ (cond c (node element_node, a ∷ (tlist a ∷ [])) (leaf empty_leaf, [])) (moves (tlist a))
    go true = Memᴰ.head refl
    go false = Memᴰ.tail (Memᴰ.head refl)
picked_mem n (tprod a b) ts rows = Memᴰ.head refl
picked_mem n (tsum a b) ts rows = go (lacks n (a ∷ ts) (keep (after (tag left)) rows))
  where
    go : (c : Bool) → Memᴰ (chosen c a b) (moves (tsum a b))
    go true = Memᴰ.head refl
    go false = Memᴰ.tail (Memᴰ.head refl)

-- ---- rows that fit go on to rows that fit

fits_unit : {row row' : List Pat} {ts : List Ty} → Shapes row (tunit ∷ ts) → after (leaf unit_leaf) row ≡ some row' → Shapes row' ts
fits_unit {ts = ts} (with Shape.unit s) e = subst (λ r. Shapes r ts) (some_inj e) s
fits_unit {ts = ts} (with Shape.var s) e = subst (λ r. Shapes r ts) (some_inj e) s

fits_both : {row row' : List Pat} {a b : Ty} {ts : List Ty} → Shapes row (tprod a b ∷ ts) → after (node pair_node) row ≡ some row' → Shapes row' (a ∷ (b ∷ ts))
fits_both {a = a} {b = b} {ts = ts} (with Shape.var s) e = subst (λ r. Shapes r (a ∷ (b ∷ ts))) (some_inj e) (with Shape.var (with Shape.var s))
fits_both {a = a} {b = b} {ts = ts} (with (Shape.pair h k) s) e = subst (λ r. Shapes r (a ∷ (b ∷ ts))) (some_inj e) (with h (with k s))

fits_left : {row row' : List Pat} {a b : Ty} {ts : List Ty} → Shapes row (tsum a b ∷ ts) → after (tag left) row ≡ some row' → Shapes row' (a ∷ ts)
fits_left {a = a} {ts = ts} (with Shape.var s) e = subst (λ r. Shapes r (a ∷ ts)) (some_inj e) (with Shape.var s)
fits_left {a = a} {ts = ts} (with (Shape.inj {t = left} h) s) e = subst (λ r. Shapes r (a ∷ ts)) (some_inj e) (with h s)
fits_left {a = a} {ts = ts} (with (Shape.inj {t = right} h) s) e = absurd (none≢some e)

fits_right : {row row' : List Pat} {a b : Ty} {ts : List Ty} → Shapes row (tsum a b ∷ ts) → after (tag right) row ≡ some row' → Shapes row' (b ∷ ts)
fits_right {b = b} {ts = ts} (with Shape.var s) e = subst (λ r. Shapes r (b ∷ ts)) (some_inj e) (with Shape.var s)
fits_right {b = b} {ts = ts} (with (Shape.inj {t = left} h) s) e = absurd (none≢some e)
fits_right {b = b} {ts = ts} (with (Shape.inj {t = right} h) s) e = subst (λ r. Shapes r (b ∷ ts)) (some_inj e) (with h s)

fits_empty : {row row' : List Pat} {a : Ty} {ts : List Ty} → Shapes row (tlist a ∷ ts) → after (leaf empty_leaf) row ≡ some row' → Shapes row' ts
fits_empty {ts = ts} (with Shape.nil s) e = subst (λ r. Shapes r ts) (some_inj e) s
fits_empty {ts = ts} (with Shape.var s) e = subst (λ r. Shapes r ts) (some_inj e) s
fits_empty {ts = ts} (with (Shape.cons h k) s) e = absurd (none≢some e)

fits_element : {row row' : List Pat} {a : Ty} {ts : List Ty} → Shapes row (tlist a ∷ ts) → after (node element_node) row ≡ some row' → Shapes row' (a ∷ (tlist a ∷ ts))
fits_element {a = a} {ts = ts} (with Shape.var s) e = subst (λ r. Shapes r (a ∷ (tlist a ∷ ts))) (some_inj e) (with Shape.var (with Shape.var s))
fits_element {a = a} {ts = ts} (with (Shape.cons h k) s) e = subst (λ r. Shapes r (a ∷ (tlist a ∷ ts))) (some_inj e) (with h (with k s))
fits_element {ts = ts} (with Shape.nil s) e = absurd (none≢some e)

abbrev Goes : Ty → Move × List Ty → Type 0
Goes a m = (ts : List Ty) (row row' : List Pat) → Shapes row (a ∷ ts) → after m.0 row ≡ some row' → Shapes row' (m.1 ++ ts)

goes : (a : Ty) (m : Move × List Ty) → Memᴰ m (moves a) → Goes a m
goes tunit = each_cons (Goes tunit) (λ ts row row' s e. fits_unit s e) (each_nil (Goes tunit))
goes (tlist a) =
    each_cons (Goes (tlist a)) (λ ts row row' s e. fits_element s e) (each_cons (Goes (tlist a)) (λ ts row row' s e. fits_empty s e) (each_nil (Goes (tlist a))))
goes (tsum a b) =
    each_cons (Goes (tsum a b)) (λ ts row row' s e. fits_left s e) (each_cons (Goes (tsum a b)) (λ ts row row' s e. fits_right s e) (each_nil (Goes (tsum a b))))
goes (tprod a b) = each_cons (Goes (tprod a b)) (λ ts row row' s e. fits_both s e) (each_nil (Goes (tprod a b)))

leads : (a : Ty) (m : Move × List Ty) → Memᴰ m (moves a) → Leads a m
leads tunit = each_cons (Leads tunit) (λ ts. refl) (each_nil (Leads tunit))
leads (tlist a) = each_cons (Leads (tlist a)) (λ ts. refl) (each_cons (Leads (tlist a)) (λ ts. refl) (each_nil (Leads (tlist a))))
leads (tsum a b) = each_cons (Leads (tsum a b)) (λ ts. refl) (each_cons (Leads (tsum a b)) (λ ts. refl) (each_nil (Leads (tsum a b))))
leads (tprod a b) = each_cons (Leads (tprod a b)) (λ ts. refl) (each_nil (Leads (tprod a b)))

-- and to types with at most as many nodes
abbrev Stays : Ty → Move × List Ty → Type 0
Stays a m = (ts : List Ty) → type_nodes a ≤ max_nodes → Countable ts → Countable (m.1 ++ ts)

still : (a : Ty) (m : Move × List Ty) → Memᴰ m (moves a) → Stays a m
still tunit = each_cons (Stays tunit) (λ ts h c. c) (each_nil (Stays tunit))
still (tlist a) =
    each_cons (Stays (tlist a)) (λ ts h c. one_more (omega arith) (one_more h c)) (each_cons (Stays (tlist a)) (λ ts h c. c) (each_nil (Stays (tlist a))))
still (tsum a b) =
    each_cons (Stays (tsum a b)) (λ ts h c. one_more (omega arith) c) (each_cons (Stays (tsum a b)) (λ ts h c. one_more (omega arith) c) (each_nil (Stays (tsum a b))))
still (tprod a b) = each_cons (Stays (tprod a b)) (λ ts h c. one_more (omega arith) (one_more (omega arith) c)) (each_nil (Stays (tprod a b)))

first_small : {a : Ty} {ts : List Ty} → Countable (a ∷ ts) → type_nodes a ≤ max_nodes
first_small (one_more h c) = h

rest_small : {a : Ty} {ts : List Ty} → Countable (a ∷ ts) → Countable ts
rest_small (one_more h c) = c

-- ---- what holds on the way

pub keep_all : (rows : List (List Pat)) → keep (row_along []) rows ≡ rows
keep_all [] = refl
keep_all (r ∷ rows) = ap (λ l. r ∷ l) (keep_all rows)

pub good_start : {a : Ty} (ps : List Pat) → Apart ps → ((p : Pat) → Memᴰ p ps → Shape p a) → type_nodes a ≤ max_nodes → Good a ps []
good_start {a} ps apart shapes small =
    record {
      once = subst (Once (a ∷ [])) (sym (keep_all (alone ps))) (once_alone a ps apart);
      fits = λ p m row e. subst (λ r. Shapes r (a ∷ [])) (some_inj e) (with (shapes p m) ends);
      countable = one_more small none_left;
    }

module _ {a : Ty} {ps : List Pat} {w : List ℕ} (g : Good a ps w) (b : Ty) (ts : List Ty) (e : types_at a w ≡ b ∷ ts) (m : Move × List Ty) (i : Memᴰ m (moves b)) where
  pub types_next : types_at a (w ++ (letter_on m.0 ∷ [])) ≡ m.1 ++ ts
  types_next = types_snoc w (letter_on m.0) (a ∷ []) ∙ ap₂ types_after (move_letter b m i) e ∙ leads b m i ts

  pub rows_next : rows_at ps (w ++ (letter_on m.0 ∷ [])) ≡ keep (after m.0) (rows_at ps w)
  rows_next = keep_snoc w (letter_on m.0) (alone ps) ∙ ap (λ x. keep (after x) (rows_at ps w)) (move_letter b m i)

  row_next : (p : Pat) → row_along (w ++ (letter_on m.0 ∷ [])) (p ∷ []) ≡ (row_along w (p ∷ []) >>= λ r. after m.0 r)
  row_next p = row_snoc w (letter_on m.0) (p ∷ []) ∙ ap (λ x. row_along w (p ∷ []) >>= λ r. after x r) (move_letter b m i)

  free : Countable (b ∷ ts)
  free = subst Countable e g.countable

  pub good_next : Good a ps (w ++ (letter_on m.0 ∷ []))
  good_next =
      record {
        once = subst (λ z. Once z (rows_at ps (w ++ (letter_on m.0 ∷ [])))) (sym types_next)
            (subst (Once (m.1 ++ ts)) (sym rows_next) (once_after b m i ts (rows_at ps w) (subst (λ z. Once z (rows_at ps w)) e g.once)));
        fits = λ p k row h.
            let r = bind_some (row_along w (p ∷ [])) (λ z. after m.0 z) (sym (row_next p) ∙ h) in
            subst (Shapes row) (sym types_next) (goes b m i ts r.0 row (subst (Shapes r.0) e (g.fits p k r.0 r.1)) r.2);
        countable = subst Countable (sym types_next) (still b m i ts (first_small free) (rest_small free));
      }

-- ---- what a count tells

module _ {a : Ty} {ps : List Pat} {w : List ℕ} (g : Good a ps w) where
  -- what is left
  abbrev left_over : ℕ → ℕ
  left_over r = how_many r (types_at a w) - matched_by r (types_at a w) (rows_at ps w)

  count_tells : {m : ℕ} {k : List ℕ} → 1 < m → TakesAll m k w (types_at a w) ps → (r : ℕ) → r < 128 → get_or k r 0 ≡ left_over r % m
  count_tells v t r h = (t.at v g.fits g.countable (λ n. matched_le n (types_at a w) (rows_at ps w) g.once)).at r h

  over_le : (r : ℕ) → left_over r ≤ how_many r (types_at a w)
  over_le r = le_minus (how_many r (types_at a w)) (matched_by r (types_at a w) (rows_at ps w))
    where
      le_minus : (x y : ℕ) → x - y ≤ x
      le_minus x y = omega arith

  nothing_left : (r : ℕ) → left_over r ≡ 0 → lacks r (types_at a w) (rows_at ps w) ≡ false
  nothing_left r e = not_ltb (zero_le (how_many r (types_at a w)) (matched_by r (types_at a w) (rows_at ps w)) e)
    where
      zero_le : (x y : ℕ) → x - y ≡ 0 → x ≤ y
      zero_le x y q = omega arith

  -- both counts are 0
  pub none_lacks : {k o : List ℕ} → TakesAll modulus k w (types_at a w) ps → TakesAll other_modulus o w (types_at a w) ps → (r : ℕ) → r < 128
      → get_or k r 0 ≡ 0 → get_or o r 0 ≡ 0 → lacks r (types_at a w) (rows_at ps w) ≡ false
  none_lacks t s r h e f =
      nothing_left r
      (tells r (left_over r) (types_at a w) (omega arith) (over_le r) (sym (count_tells (omega arith) s r h) ∙ f) (sym (count_tells (omega arith) t r h) ∙ e))

  -- of fewer than 64 letters one tells
  pub few_lacks : {k : List ℕ} → TakesAll modulus k w (types_at a w) ps → (r : ℕ) → r < 64 → get_or k r 0 ≡ 0 → lacks r (types_at a w) (rows_at ps w) ≡ false
  few_lacks t r h e =
      let q : r ≤ 63 = omega arith in
      let s = le_trans (over_le r) (le_trans (how_many_power r (types_at a w)) (pow-le-pow_right (omega arith) q)) in
      nothing_left r (sym (mod-eq_of_lt (small_enough (left_over r) s)) ∙ sym (count_tells (omega arith) t r (omega arith)) ∙ e)
    where
      small_enough : (x : ℕ) → x ≤ 2 ^ 63 → x < modulus
      small_enough x q = let z : ◌≡◌ {A = ℕ} (2 ^ 63) 9223372036854775808 = refl in omega arith

  -- one is not
  pub some_lacks : {m : ℕ} {k : List ℕ} → 1 < m → TakesAll m k w (types_at a w) ps → (r : ℕ) → r < 128 → (get_or k r 0 ≡ 0 → ⊥) → lacks r (types_at a w) (rows_at ps w) ≡ true
  some_lacks {m} v t r h e =
      lt_ltb (not_zero (how_many r (types_at a w)) (matched_by r (types_at a w) (rows_at ps w)) (λ z. e (count_tells v t r h ∙ ap (λ x. x % m) z ∙ sym (zero_mod m v))))
    where
      not_zero : (x y : ℕ) → (x - y ≡ 0 → ⊥) → y < x
      not_zero x y q = omega arith

-- ---- whether a gap is left, and the fewest letters of one

module _ {a : Ty} {ps : List Pat} {w : List ℕ} where
  pub leaves_few : {k : List ℕ} {n : ℕ} → TakesAll modulus k w (types_at a w) ps → n < 64 → get_or k n 0 ≡ 0 → Leaves a ps w n false
  leaves_few {n = n} t h e = record { at = λ g. sym (few_lacks g t n h e) }

  pub leaves_none : {k o : List ℕ} {n : ℕ} → TakesAll modulus k w (types_at a w) ps → TakesAll other_modulus o w (types_at a w) ps → n < 128
      → get_or k n 0 ≡ 0 → get_or o n 0 ≡ 0 → Leaves a ps w n false
  leaves_none {n = n} t s h e f = record { at = λ g. sym (none_lacks g t s n h e f) }

  pub leaves_some : {m : ℕ} {k : List ℕ} {n : ℕ} → 1 < m → TakesAll m k w (types_at a w) ps → n < 128 → (get_or k n 0 ≡ 0 → ⊥) → Leaves a ps w n true
  leaves_some {n = n} v t h e = record { at = λ g. sym (some_lacks g v t n h e) }

  pub first_few : {k : List ℕ} {n : ℕ} → TakesAll modulus k w (types_at a w) ps → FirstCount k n → n ≤ 64 → FirstLack a ps w n
  first_few {n = n} t f h =
      record {
        before = λ g j l. few_lacks g t j (omega arith) (f.before j l);
        here = λ g l. some_lacks g (omega arith) t n l (f.here l);
        most = f.most;
      }

  module _ {k o : List ℕ} {n p : ℕ} (t : TakesAll modulus k w (types_at a w) ps) (f : FirstCount k n) (s : TakesAll other_modulus o w (types_at a w) ps) (e : FirstCount o p) where
    pub first_other : p < n → FirstLack a ps w p
    first_other h =
        record {
          before = λ g j l. none_lacks g t s j (omega (arith, e.most)) (f.before j (omega arith)) (e.before j l);
          here = λ g l. some_lacks g (omega arith) s p l (e.here l);
          most = e.most;
        }

    pub first_one : n ≤ p → FirstLack a ps w n
    first_one h =
        record {
          before = λ g j l. none_lacks g t s j (omega (arith, f.most)) (f.before j l) (e.before j (omega arith));
          here = λ g l. some_lacks g (omega arith) t n l (f.here l);
          most = f.most;
        }

-- ---- the letter

pub first_unit : {b : Ty} → b ≡ tunit → 85 ≡ first_letter b
first_unit e = sym (ap first_letter e)

pub first_pair : {b x y : Ty} → b ≡ tprod x y → 80 ≡ first_letter b
first_pair e = sym (ap first_letter e)

pub first_sum : {b x y : Ty} → b ≡ tsum x y → 76 ≡ first_letter b
first_sum e = sym (ap first_letter e)

pub first_list : {b x : Ty} → b ≡ tlist x → 75 ≡ first_letter b
first_list e = sym (ap first_letter e)

first_mem : (b : Ty) → Memᴰ (first_move b) (moves b)
first_mem tunit = Memᴰ.head refl
first_mem (tlist a) = Memᴰ.head refl
first_mem (tsum a b) = Memᴰ.head refl
first_mem (tprod a b) = Memᴰ.head refl

abbrev chosen_list : Bool → Ty → Move × List Ty
chosen_list c a = cond c (node element_node, a ∷ (tlist a ∷ [])) (leaf empty_leaf, [])

module _ {a : Ty} {ps : List Pat} {w : List ℕ} (n : ℕ) where
  pub picks_unit : {b : Ty} → b ≡ tunit → Picks a ps w b n 85
  picks_unit e = subst (λ z. Picks a ps w z n 85) (sym e) (record { at = λ v ts g q h. refl })

  pub picks_pair : {b x y : Ty} → b ≡ tprod x y → Picks a ps w b n 80
  picks_pair e = subst (λ z. Picks a ps w z n 80) (sym e) (record { at = λ v ts g q h. refl })

  -- the test of the first letter
  first_test : (b : Ty) (v : List ℕ) (ts : List Ty) {c : Bool} → Good a ps v → w ≡ v ++ (first_letter b ∷ []) → types_at a v ≡ b ∷ ts → Leaves a ps w n c
      → c ≡ lacks n ((first_move b).1 ++ ts) (keep (after (first_move b).0) (rows_at ps v))
  first_test b v ts {c} g q h f =
      let i = first_mem b in
      (subst (λ u. Leaves a ps u n c) q f).at (good_next g b ts h (first_move b) i)
      ∙ ap₂ (lacks n) (types_next g b ts h (first_move b) i) (rows_next g b ts h (first_move b) i)

  pub picks_sum : {c : Bool} {b x y : Ty} → b ≡ tsum x y → Leaves a ps w n c → Picks a ps w b n (letter_on (chosen c x y).0)
  picks_sum {c} {b} {x} {y} e f =
      subst (λ u. Picks a ps w u n (letter_on (chosen c x y).0)) (sym e)
      (record { at = λ v ts g q h. ap (λ z. letter_on (chosen z x y).0) (first_test (tsum x y) v ts g q h f) })

  pub picks_list : {c : Bool} {b x : Ty} → b ≡ tlist x → Leaves a ps w n c → Picks a ps w b n (letter_on (chosen_list c x).0)
  picks_list {c} {b} {x} e f =
      subst (λ u. Picks a ps w u n (letter_on (chosen_list c x).0)) (sym e)
      (record { at = λ v ts g q h. ap (λ z. letter_on (chosen_list z x).0) (first_test (tlist x) v ts g q h f) })

-- where nothing is to come no gap goes on
pub nothing_lacks : (n : ℕ) (rows : List (List Pat)) → lacks (suc n) [] rows ≡ true → ⊥
nothing_lacks n rows e = let l = ltb_lt (matched_by (suc n) [] rows) 0 e in absurd (omega arith)
