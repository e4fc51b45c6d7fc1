-- The sets after a word or two of the area are stored.
use Prim.Native.Nat.{ℕ, ◌+◌, ◌-◌, ◌*◌, ◌%◌, ◌^◌, ◌<◌, ◌≤◌}
use native.Mathlib.Nat.{mod-eq_of_lt}
use native.Mathlib.Omega.{arith}
use mathlib.Core.Path.{◌≡◌, refl, sym, ap, ap₂, ◌∙◌}
use mathlib.Core.Bool.{Bool, true, false, cond, ◌||◌, true≢false}
use mathlib.Core.List.{List}
use lib.Dec.{eqb, ltb}
use lib.ListN.{length, get_or, set, length-set}
use lib.Seq.{get_or-set_same, get_or-set_other}
use lib.Bits.{bit_or}
use lib.Pow.{pow_mono}
use borrow.Author.Tests.{ltb-true, ltb-false, lt-ltb, le-ltb, eqb-true, eqb-false}
use Rattle.check_sets.specs.Sets.{bit, gatherer, half, area, members, word_of, has, Emptied, United, Joined, Low, Full}
use Rattle.check_sets.proofs.Digits.{bit_or_lem, bit_zero, bit_same, bit_other, low_ones, low_clear}

-- ---- words

pub word_low : (c : ℕ) {i : ℕ} → i < 64 → c ≡ word_of c i
word_low c {i} h = sym (ap (λ b. cond b c (half + c)) (lt-ltb i 64 h))

pub word_high : (c : ℕ) {i : ℕ} → 64 ≤ i → half + c ≡ word_of c i
word_high c {i} h = sym (ap (λ b. cond b c (half + c)) (le-ltb i 64 h))

pub word_inside : (c i : ℕ) → c < half → word_of c i < area
word_inside c i h = go (ltb i 64)
  where
    go : (b : Bool) → cond b c (half + c) < area
    go true = omega arith
    go false = omega arith

-- the words of a set are not those of the gathering set
low_not : (b : Bool) (c : ℕ) → c < gatherer → cond b c (half + c) ≡ 128 → ⊥
low_not true c h e = omega arith
low_not false c h e = omega arith

high_not : (b : Bool) (c : ℕ) → c < gatherer → cond b c (half + c) ≡ 257 → ⊥
high_not true c h e = omega arith
high_not false c h e = omega arith

-- both words of the gathering set stored
module _ (s : List ℕ) (x y : ℕ) (long : length s ≡ area) where
  abbrev stored : List ℕ
  stored = set (set s 128 x) 257 y

  stored_long : length stored ≡ length s
  stored_long = length-set (set s 128 x) 257 y ∙ length-set s 128 x

  stored_kept : (c k : ℕ) → c < gatherer → has stored c k ≡ has s c k
  stored_kept c k h =
      ap (bit (k % 64))
      (get_or-set_other (set s 128 x) 257 (word_of c k) y 0 (high_not (ltb k 64) c h) ∙ get_or-set_other s 128 (word_of c k) x 0 (low_not (ltb k 64) c h))

  stored_low : get_or stored 128 0 ≡ x
  stored_low = get_or-set_other (set s 128 x) 257 128 y 0 (λ e. omega arith) ∙ get_or-set_same s 128 x 0 (omega arith)

  stored_high : get_or stored 257 0 ≡ y
  stored_high = get_or-set_same (set s 128 x) 257 y 0 (omega (arith, length-set s 128 x))

-- the gathering set's bit of clause k, and that of set c
abbrev gathered : (s : List ℕ) (b : Bool) (c k : ℕ) → Bool
gathered s b c k = bit (k % 64) (get_or s (cond b c (half + c)) 0)

pub emptied : (s : List ℕ) → length s ≡ area → Emptied s (set (set s 128 0) 257 0)
emptied s long = record { long = stored_long s 0 0 long; kept = λ c k h l. stored_kept s 0 0 long c k h; gathers = λ k l. go k (ltb k 64) }
  where
    go : (k : ℕ) (b : Bool) → gathered (set (set s 128 0) 257 0) b gatherer k ≡ false
    go k true = ap (bit (k % 64)) (stored_low s 0 0 long) ∙ bit_zero (k % 64)
    go k false = ap (bit (k % 64)) (stored_high s 0 0 long) ∙ bit_zero (k % 64)

pub united : (s : List ℕ) (c : ℕ) {x y : ℕ} → length s ≡ area → c < gatherer → x ≡ bit_or (get_or s 128 0) (get_or s c 0)
    → y ≡ bit_or (get_or (set s 128 x) 257 0) (get_or (set s 128 x) (half + c) 0) → United s (set (set s 128 x) 257 y) c
united s c {x} {y} long h e f = record { long = stored_long s x y long; kept = λ d k l m. stored_kept s x y long d k l; gathers = λ k l. go k (ltb k 64) }
  where
    go : (k : ℕ) (b : Bool) → gathered (set (set s 128 x) 257 y) b gatherer k ≡ (gathered s b gatherer k || gathered s b c k)
    go k true = ap (bit (k % 64)) (stored_low s x y long ∙ e) ∙ bit_or_lem (k % 64) (get_or s 128 0) (get_or s c 0)
    go k false =
        ap (bit (k % 64))
        (stored_high s x y long ∙ f
        ∙ ap₂ bit_or (get_or-set_other s 128 257 x 0 (λ z. omega arith)) (get_or-set_other s 128 (half + c) x 0 (λ z. omega arith)))
        ∙ bit_or_lem (k % 64) (get_or s 257 0) (get_or s (half + c) 0)

-- the word of the second half that is read
pub unite_inside : (s : List ℕ) (c x : ℕ) → length s ≡ area → c < gatherer → half + c < length (set s 128 x)
unite_inside s c x long h = omega (arith, length-set s 128 x)

-- ---- one clause more

or_true : (b : Bool) → (b || true) ≡ true
or_true true = refl
or_true false = refl

or_false : (b : Bool) → (b || false) ≡ b
or_false true = refl
or_false false = refl

-- two clauses of one word have different bits
word_differs : (d c k i : ℕ) → d < half → c < gatherer → k < members → i < members → (d ≡ c → k ≡ i → ⊥) → word_of d k ≡ word_of c i → k % 64 ≡ i % 64 → ⊥
word_differs d c k i hd hc hk hi n e f = go (ltb k 64) (ltb i 64) refl refl e
  where
    go : (b a : Bool) → ltb k 64 ≡ b → ltb i 64 ≡ a → cond b d (half + d) ≡ cond a c (half + c) → ⊥
    go true true p q z = let u = ltb-true k 64 p in let v = ltb-true i 64 q in n z (omega arith)
    go true false p q z = omega arith
    go false true p q z = omega arith
    go false false p q z = let u = ltb-false k 64 p in let v = ltb-false i 64 q in n (omega arith) (omega arith)

module _ (s : List ℕ) (c i w p : ℕ) (long : length s ≡ area) (hc : c < gatherer) (hi : i < members) (e : w ≡ word_of c i) (f : p ≡ 2 ^ (i % 64)) where
  abbrev v : ℕ
  v = bit_or (get_or s w 0) p

  inside : w < length s
  inside = omega (arith, word_inside c i (omega arith))

  mine : has (set s w v) c i ≡ true
  mine =
      ap (λ x. bit (i % 64) (get_or (set s w v) x 0)) (sym e)
      ∙ ap (bit (i % 64)) (get_or-set_same s w v 0 inside ∙ ap (bit_or (get_or s w 0)) f)
      ∙ bit_or_lem (i % 64) (get_or s w 0) (2 ^ (i % 64))
      ∙ ap (λ b. bit (i % 64) (get_or s w 0) || b) (bit_same (i % 64))
      ∙ or_true (bit (i % 64) (get_or s w 0))

  others : (d k : ℕ) → d < half → k < members → (d ≡ c → k ≡ i → ⊥) → (b : Bool) → eqb (word_of d k) w ≡ b → has (set s w v) d k ≡ has s d k
  others d k hd hk n true q =
      let same : word_of d k ≡ w = eqb-true (word_of d k) w q in
      ap (λ x. bit (k % 64) (get_or (set s w v) x 0)) same
      ∙ ap (bit (k % 64)) (get_or-set_same s w v 0 inside ∙ ap (bit_or (get_or s w 0)) f)
      ∙ bit_or_lem (k % 64) (get_or s w 0) (2 ^ (i % 64))
      ∙ ap (λ b. bit (k % 64) (get_or s w 0) || b) (bit_other (k % 64) (i % 64) (word_differs d c k i hd hc hk hi n (same ∙ e)))
      ∙ or_false (bit (k % 64) (get_or s w 0))
      ∙ ap (λ x. bit (k % 64) (get_or s x 0)) (sym same)
  others d k hd hk n false q = ap (bit (k % 64)) (get_or-set_other s w (word_of d k) v 0 (eqb-false (word_of d k) w q))

  pub joined : Joined s (set s w v) c i
  joined = record { long = length-set s w v; mine = mine; kept = λ d k hd hk n. others d k hd hk n (eqb (word_of d k) w) refl }

-- ---- all clauses below one

pub low_test : (x k : ℕ) {p : ℕ} → p ≡ 2 ^ k → Low x k (eqb (x % p) (p - 1))
low_test x k {p} e = record {
  yes = λ h. low_ones k x (ap (λ z. x % z) (sym e) ∙ eqb-true (x % p) (p - 1) h ∙ ap (λ z. z - 1) e);
  no = λ h. low_clear k x (λ d. eqb-false (x % p) (p - 1) h (ap (λ z. x % z) e ∙ d ∙ ap (λ z. z - 1) (sym e)));
}

pub ones_test : (x : ℕ) → x < 2 ^ 64 → Low x 64 (eqb x 18446744073709551615)
ones_test x l = record {
  yes = λ h. low_ones 64 x (ap (λ z. z % 2 ^ 64) (eqb-true x 18446744073709551615 h));
  no = λ h. low_clear 64 x (λ d. eqb-false x 18446744073709551615 h (sym (mod-eq_of_lt l) ∙ d));
}

pub shifted : (k : ℕ) → k < 64 → 1 * 2 ^ k % 2 ^ 64 ≡ 2 ^ k
shifted k h =
    let most : 2 ^ k ≤ 2 ^ 63 = pow_mono {j = 63} (omega arith) in
    ap (λ x. x % 2 ^ 64) (omega arith) ∙ mod-eq_of_lt (omega (arith, most))

module _ (s : List ℕ) (i : ℕ) where
  gather_low : (k : ℕ) → k < 64 → has s gatherer k ≡ bit k (get_or s 128 0)
  gather_low k h = ap₂ (λ j w. bit j (get_or s w 0)) (mod-eq_of_lt h) (sym (word_low 128 h))

  gather_high : (k : ℕ) → 64 ≤ k → k < members → has s gatherer k ≡ bit (k - 64) (get_or s 257 0)
  gather_high k h l =
      let rest : k % 64 ≡ k - 64 = omega arith in
      ap₂ (λ j w. bit j (get_or s w 0)) rest (sym (word_high 128 h))

  pub full_low : {x : ℕ} {r : Bool} → i < 64 → x ≡ get_or s 128 0 → Low x i r → Full s i r
  full_low {x} h e w = record {
    yes = λ z k l. gather_low k (omega arith) ∙ ap (bit k) (sym e) ∙ w.yes z k l;
    no = λ z. let g = w.no z in (g.0, g.1, gather_low g.0 (omega (arith, g.1)) ∙ ap (bit g.0) (sym e) ∙ g.2);
  }

  pub full_not : {x : ℕ} {a : Bool} → 64 ≤ i → x ≡ get_or s 128 0 → Low x 64 a → a ≡ false → Full s i false
  full_not {x} h e w z = record {
    yes = λ y k l. absurd (true≢false (sym y));
    no = λ y. let g = w.no z in (g.0, omega (arith, g.1), gather_low g.0 g.1 ∙ ap (bit g.0) (sym e) ∙ g.2);
  }

  pub full_high : {x y : ℕ} {a r : Bool} → 64 ≤ i → i < members → x ≡ get_or s 128 0 → Low x 64 a → a ≡ true → y ≡ get_or s 257 0 → Low y (i - 64) r → Full s i r
  full_high {x} {y} {a} {r} h m e w z f v = record { yes = λ t k l. go t k l (ltb k 64) refl; no = none }
    where
      go : r ≡ true → (k : ℕ) → k < i → (b : Bool) → ltb k 64 ≡ b → has s gatherer k ≡ true
      go t k l true q = gather_low k (ltb-true k 64 q) ∙ ap (bit k) (sym e) ∙ w.yes z k (ltb-true k 64 q)
      go t k l false q =
          let far = ltb-false k 64 q in
          gather_high k far (omega arith) ∙ ap (bit (k - 64)) (sym f) ∙ v.yes t (k - 64) (omega arith)

      none : r ≡ false → (k : ℕ) × (k < i) × (has s gatherer k ≡ false)
      none t =
          let g = v.no t in
          let back : 64 + g.0 - 64 ≡ g.0 = omega arith in
          (64 + g.0, omega (arith, g.1), gather_high (64 + g.0) (omega arith) (omega (arith, g.1)) ∙ ap₂ bit back (sym f) ∙ g.2)
