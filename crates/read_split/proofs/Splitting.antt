-- How many lines some bytes have: as many as line feeds, and one more where bytes follow the last of them.
use Prim.Native.Nat.{ℕ, zero, suc, ◌+◌, ◌-◌, ◌<◌, ◌≤◌, min}
use native.Mathlib.Numerals.{add-one}
use native.Mathlib.Omega.{arith}
use mathlib.Core.Path.{◌≡◌, refl, sym, ap, ◌∙◌}
use mathlib.Core.Bool.{true, false, cond}
use mathlib.Core.Logic.{◌⊎◌, inl, inr}
use mathlib.Core.List.{List, [], ◌∷◌, ◌++◌}
use lib.Dec.{eqb}
use lib.ListN.{length, get_or, drop, drop_of_length-le, length-append}
use lib.Seq.{drop-cons}
use Rattle.limits.specs.Limits.{line_feed}
use Rattle.format.specs.Lines.{lines, onto_first}
use Rattle.calculus.proofs.Basic.{bool_cases, eq_eqb, not_eqb}
use Rattle.read_split.specs.Feeds.{feed_of, feeds_in}

-- ---- a byte

pub feed_is : (b : ℕ) → b ≡ line_feed → 1 ≡ feed_of b
feed_is b e = sym (ap (λ t. cond t 1 0) (eq_eqb e))

pub feed_not : (b : ℕ) → (b ≡ line_feed → ⊥) → 0 ≡ feed_of b
feed_not b h = sym (ap (λ t. cond t 1 0) (not_eqb h))

pub feed_few : (b : ℕ) → feed_of b ≤ 1
feed_few b = go (bool_cases (eqb b line_feed))
  where
    go : (eqb b line_feed ≡ true) ⊎ (eqb b line_feed ≡ false) → feed_of b ≤ 1
    go (inl t) = rw t (omega arith)
    go (inr t) = rw t (omega arith)

-- ---- the bytes so far

-- n line feeds stand before place i
pub record Counted (s : List ℕ) (i n : ℕ) : Type 0 where
  pub all : n + feeds_in (drop i s) ≡ feeds_in s
  pub few : n ≤ i

pub counted_start : (s : List ℕ) → Counted s 0 0
counted_start s = record { all = omega arith; few = omega arith }

pub counted_step : {s : List ℕ} {i n m : ℕ} → Counted s i n → i < length s → m ≡ feed_of (get_or s i 0) → Counted s (i + 1) (n + m)
counted_step {s} {i} {n} {m} c h e =
    let here : feeds_in (drop i s) ≡ feed_of (get_or s i 0) + feeds_in (drop (i + 1) s) =
    ap feeds_in (drop-cons s i 0 h ∙ ap (λ k. get_or s i 0 ∷ drop k s) (sym (add-one i))) in
    let l = feed_few (get_or s i 0) in
    record { all = omega (arith, c.all); few = omega (arith, c.few) }

-- a whole block more
feeds_append : (xs ys : List ℕ) → feeds_in (xs ++ ys) ≡ feeds_in xs + feeds_in ys
feeds_append [] ys = omega arith
feeds_append (x ∷ xs) ys = let h = feeds_append xs ys in omega arith

feeds_few : (xs : List ℕ) → feeds_in xs ≤ length xs
feeds_few [] = omega arith
feeds_few (x ∷ xs) = let h = feeds_few xs in let l = feed_few x in omega arith

-- what the loop over blocks knows: n line feeds stand before the bytes that are left, which come in blocks of `size`
pub record CountedTo (s rest : List ℕ) (size n : ℕ) : Type 0 where
  pub block : size ≡ 192
  pub all : n + feeds_in rest ≡ feeds_in s
  pub few : n + length rest ≤ length s

pub counted_all : (s : List ℕ) {rest : List ℕ} {size : ℕ} → rest ≡ s → size ≡ 192 → CountedTo s rest size 0
counted_all s e h =
    let f = ap feeds_in e in
    let l = ap length e in
    record { block = h; all = omega arith; few = omega arith }

module _ {s rest : List ℕ} {size n : ℕ} (c : CountedTo s rest size n) where
  -- a block more
  module _ (block rest' : List ℕ) {m m' : ℕ} (split : rest ≡ block ++ rest') (w : m' ≡ m) (e : m ≡ feeds_in block) where
    pub counted_few : n + m' ≤ length s
    counted_few =
        let l = ap length split ∙ length-append block rest' in
        let f = feeds_few block in
        omega (arith, c.few)

    pub counted_block : {size' : ℕ} → size' ≡ size → CountedTo s rest' size' (n + m')
    counted_block h =
        let l = ap length split ∙ length-append block rest' in
        let p = ap feeds_in split ∙ feeds_append block rest' in
        let f = feeds_few block in
        record { block = h ∙ c.block; all = omega (arith, c.all); few = omega (arith, c.few) }

  pub counted_whole : length rest ≡ 0 → n ≡ feeds_in s
  counted_whole h = let f = feeds_few rest in omega (arith, c.all)

pub counted_end : {s : List ℕ} {i n : ℕ} → Counted s i n → length s ≤ i → n ≡ feeds_in s
counted_end {s} {i} {n} c h =
    let none_left : feeds_in (drop i s) ≡ 0 = ap feeds_in (drop_of_length-le s h) in
    omega (arith, c.all)

-- ---- lines by line feeds

onto_some : (b : ℕ) (ls : List (List ℕ)) → 0 < length ls → length (onto_first b ls) ≡ length ls
onto_some b [] h = absurd (omega arith)
onto_some b (l ∷ ls) h = refl

some_line : (b : ℕ) (bs : List ℕ) → 0 < length (lines (b ∷ bs))
some_line b bs = go (bool_cases (eqb b line_feed))
  where
    onto : (ls : List (List ℕ)) → 0 < length (onto_first b ls)
    onto [] = omega arith
    onto (l ∷ ls) = omega arith

    go : (eqb b line_feed ≡ true) ⊎ (eqb b line_feed ≡ false) → 0 < length (lines (b ∷ bs))
    go (inl t) = rw t (omega arith)
    go (inr t) = rw t (onto (lines bs))

-- a byte before others makes a line more where it is a line feed
one_more : (b c : ℕ) (cs : List ℕ) → length (lines (b ∷ c ∷ cs)) ≡ feed_of b + length (lines (c ∷ cs))
one_more b c cs = go (bool_cases (eqb b line_feed))
  where
    go : (eqb b line_feed ≡ true) ⊎ (eqb b line_feed ≡ false) → length (lines (b ∷ c ∷ cs)) ≡ feed_of b + length (lines (c ∷ cs))
    go (inl t) = rw t (omega arith)
    go (inr t) = rw t (let p = onto_some b (lines (c ∷ cs)) (some_line c cs) in omega arith)

-- the last byte is a line feed
pub lines_closed : (bs : List ℕ) (i : ℕ) → length bs ≡ suc i → get_or bs i 0 ≡ line_feed → length (lines bs) ≡ feeds_in bs
lines_closed [] i e h = absurd (omega arith)
lines_closed (b ∷ []) zero e h = rw (eq_eqb h)
lines_closed (b ∷ []) (suc i) e h = absurd (omega arith)
lines_closed (b ∷ c ∷ cs) zero e h = absurd (omega arith)
lines_closed (b ∷ c ∷ cs) (suc i) e h = let p = one_more b c cs in let q = lines_closed (c ∷ cs) i (omega arith) h in omega arith

-- it is another
pub lines_open : (bs : List ℕ) (i : ℕ) → length bs ≡ suc i → (get_or bs i 0 ≡ line_feed → ⊥) → (length (lines bs) ≡ feeds_in bs + 1) × (feeds_in bs ≤ i)
lines_open [] i e h = absurd (omega arith)
lines_open (b ∷ []) zero e h = let f = not_eqb h in (rw f, rw f (omega arith))
lines_open (b ∷ []) (suc i) e h = absurd (omega arith)
lines_open (b ∷ c ∷ cs) zero e h = absurd (omega arith)
lines_open (b ∷ c ∷ cs) (suc i) e h =
    let p = one_more b c cs in
    let q = lines_open (c ∷ cs) i (omega arith) h in
    let l = feed_few b in
    (omega arith, omega arith)

-- ---- the same by a place

pub no_lines : (s : List ℕ) → length s ≡ 0 → 0 ≡ length (lines s)
no_lines [] e = refl
no_lines (b ∷ bs) e = absurd (omega arith)

module _ (s : List ℕ) (some_there : length s ≡ 0 → ⊥) {n : ℕ} (feeds : n ≡ feeds_in s) where
  before_last : length s ≡ suc (length s - 1)
  before_last = let h : 0 < length s = nonzero (length s) some_there in omega arith
    where
      nonzero : (k : ℕ) → (k ≡ 0 → ⊥) → 0 < k
      nonzero zero h = absurd (h refl)
      nonzero (suc k) h = omega arith

  pub counted_closed : get_or s (length s - 1) 0 ≡ line_feed → n ≡ length (lines s)
  counted_closed h = feeds ∙ sym (lines_closed s (length s - 1) before_last h)

  pub counted_open : (get_or s (length s - 1) 0 ≡ line_feed → ⊥) → (n + 1 ≡ length (lines s)) × (n + 1 ≤ length s)
  counted_open h = let (p, q) = lines_open s (length s - 1) before_last h in let b = before_last in (omega arith, omega arith)
