-- Request 09: the search for a gap letter by letter, with one test for each left or right, and how large the counts are.
use Prim.Native.Nat.{ℕ, zero, suc, ◌+◌, ◌*◌, ◌^◌, ◌<◌, ◌≤◌}
use native.Mathlib.Nat.{le_trans, pow-le-pow_right, pow-suc}
use native.Mathlib.Omega.{arith}
use mathlib.Core.Path.{◌≡◌, refl, sym, ap, ◌∙◌}
use mathlib.Core.Bool.{Bool, true, false, cond}
use mathlib.Core.Option.{Option, none, some}
use mathlib.Core.List.{List, [], ◌∷◌, ◌++◌, map}
use lib.ListN.{length}
use lib.Pow.{pow-add}
use Rattle.limits.specs.Limits.{max_nodes, result_length}
use Rattle.calculus.specs.Tools.{total, first_of, or_else}
use Rattle.calculus.specs.Trees.{Ty, tunit, tlist, tsum, tprod, unit_leaf, empty_leaf, left, right, pair_node, element_node, Pat, type_nodes}
use Rattle.calculus.specs.Lists.{Finite}
use Rattle.law_witnesses.specs.Showing.{Move, leaf, tag, node, letter_on, moves, count_up}
use Rattle.law_witnesses.specs.Seeking.{after, or_zero, how_many, ways, also, keep, on, lacks, gap_from, alone, gap_in, pick, gap_word, gap_length}
use Rattle.calculus.proofs.Basic.{none≢some, some_inj, ltb_lt, lt_ltb, ltb_false}

-- ---- counts one letter further

-- how many the rows match together
abbrev matched : ℕ → List Ty → List (List Pat) → ℕ
matched n ts rows = total (map (ways n ts) rows)

abbrev behind : ℕ → List Ty → List (List Pat) → Move × List Ty → ℕ
behind n ts rows m = matched n (m.1 ++ ts) (keep (after m.0) rows)

-- one row more
kept_more : (n : ℕ) (ts : List Ty) (rows : List (List Pat)) (x : Option (List Pat)) → matched n ts (also x rows) ≡ or_zero (ways n ts) x + matched n ts rows
kept_more n ts rows none = omega arith
kept_more n ts rows (some r) = refl

swap_sums : {A : Type 0} (f g h : A → ℕ) (xs : List A) → ((x : A) → h x ≡ f x + g x) → total (map h xs) ≡ total (map f xs) + total (map g xs)
swap_sums f g h [] e = refl
swap_sums f g h (x ∷ xs) e = let k = swap_sums f g h xs e in let l = e x in omega arith

no_sum : {A : Type 0} (f : A → ℕ) (xs : List A) → ((x : A) → f x ≡ 0) → total (map f xs) ≡ 0
no_sum f [] e = refl
no_sum f (x ∷ xs) e = let k = no_sum f xs e in let l = e x in omega arith

matched_step : (n : ℕ) (a : Ty) (ts : List Ty) (rows : List (List Pat)) → matched (suc n) (a ∷ ts) rows ≡ total (map (behind n ts rows) (moves a))
matched_step n a ts [] = sym (no_sum (behind n ts []) (moves a) (λ m. refl))
matched_step n a ts (row ∷ rows) =
    ap (λ k. ways (suc n) (a ∷ ts) row + k) (matched_step n a ts rows)
    ∙ sym
    (swap_sums
    (λ m. or_zero (ways n (m.1 ++ ts)) (after m.0 row))
    (behind n ts rows)
    (behind n ts (row ∷ rows))
    (moves a)
    (λ m. kept_more n (m.1 ++ ts) (keep (after m.0) rows) (after m.0 row)))

-- ---- a gap goes on

unit_lacks : (n : ℕ) (ts : List Ty) (rows : List (List Pat)) → lacks (suc n) (tunit ∷ ts) rows ≡ true → lacks n ts (keep (after (leaf unit_leaf)) rows) ≡ true
unit_lacks n ts rows e =
    let l = ltb_lt (matched (suc n) (tunit ∷ ts) rows) (how_many (suc n) (tunit ∷ ts)) e in
    let h : matched n ts (keep (after (leaf unit_leaf)) rows) < how_many n ts = omega (arith, matched_step n tunit ts rows) in
    lt_ltb h

pair_lacks : (n : ℕ) (a b : Ty) (ts : List Ty) (rows : List (List Pat)) → lacks (suc n) (tprod a b ∷ ts) rows ≡ true → lacks n (a ∷ (b ∷ ts)) (keep (after (node pair_node)) rows) ≡ true
pair_lacks n a b ts rows e =
    let l = ltb_lt (matched (suc n) (tprod a b ∷ ts) rows) (how_many (suc n) (tprod a b ∷ ts)) e in
    let h : matched n (a ∷ (b ∷ ts)) (keep (after (node pair_node)) rows) < how_many n (a ∷ (b ∷ ts)) = omega (arith, matched_step n (tprod a b) ts rows) in
    lt_ltb h

-- where the left leaves none the right does
right_lacks : (n : ℕ) (a b : Ty) (ts : List Ty) (rows : List (List Pat)) → lacks (suc n) (tsum a b ∷ ts) rows ≡ true → lacks n (a ∷ ts) (keep (after (tag left)) rows) ≡ false
    → lacks n (b ∷ ts) (keep (after (tag right)) rows) ≡ true
right_lacks n a b ts rows e f =
    let l = ltb_lt (matched (suc n) (tsum a b ∷ ts) rows) (how_many (suc n) (tsum a b ∷ ts)) e in
    let k = ltb_false (matched n (a ∷ ts) (keep (after (tag left)) rows)) (how_many n (a ∷ ts)) f in
    let h : matched n (b ∷ ts) (keep (after (tag right)) rows) < how_many n (b ∷ ts) = omega (arith, matched_step n (tsum a b) ts rows) in
    lt_ltb h

-- where an element leaves none the empty list does
empty_lacks : (n : ℕ) (a : Ty) (ts : List Ty) (rows : List (List Pat)) → lacks (suc n) (tlist a ∷ ts) rows ≡ true
    → lacks n (a ∷ (tlist a ∷ ts)) (keep (after (node element_node)) rows) ≡ false → lacks n ts (keep (after (leaf empty_leaf)) rows) ≡ true
empty_lacks n a ts rows e f =
    let l = ltb_lt (matched (suc n) (tlist a ∷ ts) rows) (how_many (suc n) (tlist a ∷ ts)) e in
    let k = ltb_false (matched n (a ∷ (tlist a ∷ ts)) (keep (after (node element_node)) rows)) (how_many n (a ∷ (tlist a ∷ ts))) f in
    let h : matched n ts (keep (after (leaf empty_leaf)) rows) < how_many n ts = omega (arith, matched_step n (tlist a) ts rows) in
    lt_ltb h

abbrev picked : Bool → Ty → Ty → Move × List Ty
picked c a b = cond c (tag left, a ∷ []) (tag right, b ∷ [])

abbrev listed : Bool → Ty → Move × List Ty
listed c a = cond c (node element_node, a ∷ (tlist a ∷ [])) (leaf empty_leaf, [])

-- the letter picked leaves a gap
pub pick_lacks : (n : ℕ) (a : Ty) (ts : List Ty) (rows : List (List Pat)) → lacks (suc n) (a ∷ ts) rows ≡ true
    → lacks n ((pick n a ts rows).1 ++ ts) (keep (after (pick n a ts rows).0) rows) ≡ true
pick_lacks n tunit ts rows e = unit_lacks n ts rows e
pick_lacks n (tlist a) ts rows e = go (lacks n (a ∷ (tlist a ∷ ts)) (keep (after (node element_node)) rows)) refl
  where
    go : (c : Bool) → lacks n (a ∷ (tlist a ∷ ts)) (keep (after (node element_node)) rows) ≡ c
        → lacks n ((listed c a).1 ++ ts) (keep (after (listed c a).0) rows) ≡ true
    go true h = h
    go false h = empty_lacks n a ts rows e h
pick_lacks n (tprod a b) ts rows e = pair_lacks n a b ts rows e
pick_lacks n (tsum a b) ts rows e = go (lacks n (a ∷ ts) (keep (after (tag left)) rows)) refl
  where
    go : (c : Bool) → lacks n (a ∷ ts) (keep (after (tag left)) rows) ≡ c → lacks n ((picked c a b).1 ++ ts) (keep (after (picked c a b).0) rows) ≡ true
    go true h = h
    go false h = right_lacks n a b ts rows e h

-- ---- the word

-- the search takes the letter picked
from_step : (n : ℕ) (a : Ty) (ts : List Ty) (rows : List (List Pat)) (ls : List ℕ) → lacks (suc n) (a ∷ ts) rows ≡ true
    → gap_from n ((pick n a ts rows).1 ++ ts) (keep (after (pick n a ts rows).0) rows) ≡ some ls
    → gap_from (suc n) (a ∷ ts) rows ≡ some (letter_on (pick n a ts rows).0 ∷ ls)
from_step n tunit ts rows ls e h = rw (unit_lacks n ts rows e, h)
from_step n (tlist a) ts rows ls e h = go (lacks n (a ∷ (tlist a ∷ ts)) (keep (after (node element_node)) rows)) refl h
  where
    go : (c : Bool) → lacks n (a ∷ (tlist a ∷ ts)) (keep (after (node element_node)) rows) ≡ c
        → gap_from n ((listed c a).1 ++ ts) (keep (after (listed c a).0) rows) ≡ some ls
        → gap_from (suc n) (tlist a ∷ ts) rows ≡ some (letter_on (listed c a).0 ∷ ls)
    go true p q = rw (p, q)
    go false p q = rw (p, empty_lacks n a ts rows e p, q)
from_step n (tprod a b) ts rows ls e h = rw (pair_lacks n a b ts rows e, h)
from_step n (tsum a b) ts rows ls e h = go (lacks n (a ∷ ts) (keep (after (tag left)) rows)) refl h
  where
    go : (c : Bool) → lacks n (a ∷ ts) (keep (after (tag left)) rows) ≡ c
        → gap_from n ((picked c a b).1 ++ ts) (keep (after (picked c a b).0) rows) ≡ some ls
        → gap_from (suc n) (tsum a b ∷ ts) rows ≡ some (letter_on (picked c a b).0 ∷ ls)
    go true p q = rw (p, q)
    go false p q = rw (p, right_lacks n a b ts rows e p, q)

-- where a gap is left, the search gives the word
pub gap_word_lem : (n : ℕ) (ts : List Ty) (rows : List (List Pat)) → lacks n ts rows ≡ true → gap_from n ts rows ≡ some (gap_word n ts rows)
gap_word_lem zero [] rows e = ap (λ b. cond b (some []) none) e
gap_word_lem zero (a ∷ ts) rows e = absurd (none_lacks e)
  where
    none_lacks : lacks zero (a ∷ ts) rows ≡ true → ⊥
    none_lacks h = let l = ltb_lt (matched zero (a ∷ ts) rows) 0 h in absurd (omega arith)
gap_word_lem (suc n) [] rows e = absurd (none_lacks e)
  where
    none_lacks : lacks (suc n) [] rows ≡ true → ⊥
    none_lacks h = let l = ltb_lt (matched (suc n) [] rows) 0 h in absurd (omega arith)
gap_word_lem (suc n) (a ∷ ts) rows e =
    from_step n a ts rows _ e (gap_word_lem n ((pick n a ts rows).1 ++ ts) (keep (after (pick n a ts rows).0) rows) (pick_lacks n a ts rows e))

-- it has as many letters as were asked for
pub word_length : (n : ℕ) (ts : List Ty) (rows : List (List Pat)) → lacks n ts rows ≡ true → length (gap_word n ts rows) ≡ n
word_length zero ts rows e = refl
word_length (suc n) [] rows e = let l = ltb_lt (matched (suc n) [] rows) 0 e in absurd (omega arith)
word_length (suc n) (a ∷ ts) rows e = ap suc (word_length n ((pick n a ts rows).1 ++ ts) (keep (after (pick n a ts rows).0) rows) (pick_lacks n a ts rows e))

-- the first length with a gap has one
pub length_lacks : (a : Ty) (ps : List Pat) (r : ℕ) → gap_length a ps ≡ some r → lacks r (a ∷ []) (alone ps) ≡ true
length_lacks a ps r = go (count_up (suc result_length) 0)
  where
    go : (ns : List ℕ) → first_of (λ n. cond (lacks n (a ∷ []) (alone ps)) (some n) none) ns ≡ some r → lacks r (a ∷ []) (alone ps) ≡ true
    go [] e = absurd (none≢some e)
    go (n ∷ ns) e = at (lacks n (a ∷ []) (alone ps)) refl e (go ns)
      where
        at : (c : Bool) → lacks n (a ∷ []) (alone ps) ≡ c
            → or_else (cond c (some n) none) (first_of (λ m. cond (lacks m (a ∷ []) (alone ps)) (some m) none) ns) ≡ some r
            → (first_of (λ m. cond (lacks m (a ∷ []) (alone ps)) (some m) none) ns ≡ some r → lacks r (a ∷ []) (alone ps) ≡ true)
            → lacks r (a ∷ []) (alone ps) ≡ true
        at true h e below = ap (λ m. lacks m (a ∷ []) (alone ps)) (sym (some_inj e)) ∙ h
        at false h e below = below e

-- the two steps of the code: the length, and the word of that length
pub gap_in_lem : (a : Ty) (ps : List Pat) → gap_in a ps ≡ on (λ n. gap_word n (a ∷ []) (alone ps)) (gap_length a ps)
gap_in_lem a ps = go (count_up (suc result_length) 0)
  where
    go : (ns : List ℕ) → first_of (λ n. cond (lacks n (a ∷ []) (alone ps)) (gap_from n (a ∷ []) (alone ps)) none) ns
        ≡ on (λ n. gap_word n (a ∷ []) (alone ps)) (first_of (λ n. cond (lacks n (a ∷ []) (alone ps)) (some n) none) ns)
    go [] = refl
    go (n ∷ ns) = at (lacks n (a ∷ []) (alone ps)) refl (go ns)
      where
        at : (c : Bool) → lacks n (a ∷ []) (alone ps) ≡ c
            → first_of (λ m. cond (lacks m (a ∷ []) (alone ps)) (gap_from m (a ∷ []) (alone ps)) none) ns
            ≡ on (λ m. gap_word m (a ∷ []) (alone ps)) (first_of (λ m. cond (lacks m (a ∷ []) (alone ps)) (some m) none) ns)
            → or_else (cond c (gap_from n (a ∷ []) (alone ps)) none) (first_of (λ m. cond (lacks m (a ∷ []) (alone ps)) (gap_from m (a ∷ []) (alone ps)) none) ns)
            ≡ on (λ m. gap_word m (a ∷ []) (alone ps)) (or_else (cond c (some n) none) (first_of (λ m. cond (lacks m (a ∷ []) (alone ps)) (some m) none) ns))
        at true e h = ap (λ x. or_else x (first_of (λ m. cond (lacks m (a ∷ []) (alone ps)) (gap_from m (a ∷ []) (alone ps)) none) ns)) (gap_word_lem n (a ∷ []) (alone ps) e)
        at false e h = h

-- ---- how large a count is

-- a letter is one of two
pub how_many_power : (n : ℕ) (ts : List Ty) → how_many n ts ≤ 2 ^ n
how_many_power zero [] = omega arith
how_many_power zero (a ∷ ts) = omega arith
how_many_power (suc n) [] = omega arith
how_many_power (suc n) (tunit ∷ ts) = let h = how_many_power n ts in let e = pow-suc 2 n in omega arith
how_many_power (suc n) (tlist a ∷ ts) =
    let h = how_many_power n (a ∷ (tlist a ∷ ts)) in
    let k = how_many_power n ts in
    let e = pow-suc 2 n in
    omega arith
how_many_power (suc n) (tsum a b ∷ ts) =
    let h = how_many_power n (a ∷ ts) in
    let k = how_many_power n (b ∷ ts) in
    let e = pow-suc 2 n in
    omega arith
how_many_power (suc n) (tprod a b ∷ ts) = let h = how_many_power n (a ∷ (b ∷ ts)) in let e = pow-suc 2 n in omega arith

-- the sums of a type
abbrev pub choices : Ty → ℕ
choices tunit = 0
choices (tlist a) = 0
choices (tsum a b) = 1 + choices a + choices b
choices (tprod a b) = choices a + choices b

abbrev pub all_choices : List Ty → ℕ
all_choices [] = 0
all_choices (a ∷ ts) = choices a + all_choices ts

pub data AllFinite : List Ty → Type 0 where
  none_left : AllFinite []
  one_more : {a : Ty} {ts : List Ty} → Finite a → AllFinite ts → AllFinite (a ∷ ts)

pub choices_small : (a : Ty) → choices a + choices a + 1 ≤ type_nodes a
choices_small tunit = omega arith
choices_small (tlist a) = omega arith
choices_small (tsum a b) = let h = choices_small a in let k = choices_small b in omega arith
choices_small (tprod a b) = let h = choices_small a in let k = choices_small b in omega arith

more_power : (m n x : ℕ) → m ≤ n → x ≤ 2 ^ m → x ≤ 2 ^ n
more_power m n x h l = le_trans l (pow-le-pow_right (omega arith) h)

-- of types without lists
pub how_many_small : (n : ℕ) (ts : List Ty) → AllFinite ts → how_many n ts ≤ 2 ^ all_choices ts
how_many_small zero [] f = omega arith
how_many_small zero (a ∷ ts) f = omega arith
how_many_small (suc n) [] f = omega arith
how_many_small (suc n) (tunit ∷ ts) (one_more u f) =
    let h = how_many_small n ts f in let k = more_power (all_choices ts) (0 + all_choices ts) (how_many n ts) (omega arith) h in omega arith
how_many_small (suc n) (tlist a ∷ ts) (one_more u f) = elim u [ ]
how_many_small (suc n) (tsum a b ∷ ts) (one_more (Finite.sum x y) f) =
    let c = choices a + choices b + all_choices ts in
    let h = more_power (choices a + all_choices ts) c (how_many n (a ∷ ts)) (omega arith) (how_many_small n (a ∷ ts) (one_more x f)) in
    let k = more_power (choices b + all_choices ts) c (how_many n (b ∷ ts)) (omega arith) (how_many_small n (b ∷ ts) (one_more y f)) in
    let e : 2 ^ (1 + choices a + choices b + all_choices ts) ≡ 2 * 2 ^ c = ap (λ m. 2 ^ m) (assoc (choices a) (choices b) (all_choices ts)) ∙ pow-add 2 1 c in
    omega arith
  where
    assoc : (x y z : ℕ) → 1 + x + y + z ≡ 1 + (x + y + z)
    assoc x y z = omega arith
how_many_small (suc n) (tprod a b ∷ ts) (one_more (Finite.product x y) f) =
    let h = how_many_small n (a ∷ (b ∷ ts)) (one_more x (one_more y f)) in
    let k = more_power (choices a + (choices b + all_choices ts)) (choices a + choices b + all_choices ts) (how_many n (a ∷ (b ∷ ts))) (omega arith) h in
    omega arith

-- a type without lists of at most 127 nodes has at most 2^63 values of any number of letters, so one word of 64 bits holds every count
pub how_many_word : (n : ℕ) (a : Ty) → Finite a → type_nodes a ≤ max_nodes → how_many n (a ∷ []) ≤ 2 ^ 63
how_many_word n a f h =
    let c = choices_small a in more_power (choices a + 0) 63 (how_many n (a ∷ [])) (omega arith) (how_many_small n (a ∷ []) (one_more f none_left))
