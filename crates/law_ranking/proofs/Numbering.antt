-- Request 02, settings as numbers: a type's closed values and the numbers below its count stand for each other, in the letters' order.
use Prim.Native.Nat.{ℕ, zero, suc, ◌+◌, ◌-◌, ◌*◌, ◌/◌, ◌%◌, ◌≤◌, ◌<◌}
use native.Mathlib.Nat.{le_trans, zero-add, suc-mul, mul_comm, mul-pos, add-sub_cancel_left, add-sub_of_le, ne_of_gt, eq-or-lt_of_le, le_of_eq, le_of_lt}
use native.Mathlib.Nat.{le-add_right, mul-le-mul_right, le-mul_of_pos_right, mod-lt, mod-eq_of_lt, div-eq_of_lt, div-add-mod', div-lt_iff_lt-mul}
use native.Mathlib.Nat.{mul-add-div_right, mul-add-mod_self_right}
use native.Mathlib.Omega.{arith}
use mathlib.Core.Path.{◌≡◌, refl, sym, ap, ap₂, ◌∙◌, subst}
use mathlib.Core.Logic.{⊎_elim}
use mathlib.Core.Bool.{Bool, true, false, cond, ◌||◌}
use mathlib.Core.List.{List, [], ◌∷◌, ◌++◌, append_assoc, append-nil}
use lib.Dec.{ltb, eqb}
use lib.ListN.{length}
use Rattle.limits.specs.Limits.{max_nodes, max_values}
use Rattle.calculus.specs.Trees.{Ty, tunit, tsum, tprod, left, right, Val, vinj, type_nodes, tlist, pair_node, vnode}
use Rattle.calculus.specs.Letters.{letters, inhabits}
use Rattle.calculus.specs.Paper.{Of}
use Rattle.law_ranking.specs.Numbering.{count, rank, unrank, before}
use Rattle.calculus.proofs.Basic.{true_and, true_or_left, true_or_right, eq_eqb, not_eqb, lt_ltb, not_ltb, not_both, le_or_lt}
use Rattle.calculus.proofs.Letters.{inhabits_of}
use Rattle.calculus.specs.Lists.{list_free, Finite}
use Rattle.calculus.proofs.Lists.{finite_free}
use Rattle.model.proofs.Sizes.{of_small}

-- ---- counts

-- "the left type's count of values": every type has one
pub count_positive : (a : Ty) → 1 ≤ count a
count_positive tunit = omega arith
count_positive (tlist a) = omega arith
count_positive (tsum a b) = let h = count_positive a in omega arith
count_positive (tprod a b) = mul-pos (count_positive a) (count_positive b)

-- "a count above 4,294,967,295": no part counts more than the whole
pub count_left : (a b : Ty) → count a ≤ count (tsum a b)
count_left a b = omega arith

pub count_right : (a b : Ty) → count b ≤ count (tsum a b)
count_right a b = omega arith

pub count_first : (a b : Ty) → count a ≤ count (tprod a b)
count_first a b = le-mul_of_pos_right (count a) (count_positive b)

pub count_second : (a b : Ty) → count b ≤ count (tprod a b)
count_second a b = omega (arith, le-mul_of_pos_right (count b) (count_positive a), mul_comm (count a) (count b))

-- "refuse 18 where a type … holds a list": a type with few values holds none
pub few_finite : (a : Ty) → count a ≤ max_values → Finite a
few_finite tunit h = Finite.unit
few_finite (tlist a) h = absurd (omega arith)
few_finite (tsum a b) h = Finite.sum (few_finite a (le_trans (count_left a b) h)) (few_finite b (le_trans (count_right a b) h))
few_finite (tprod a b) h = Finite.product (few_finite a (le_trans (count_first a b) h)) (few_finite b (le_trans (count_second a b) h))

-- and one that holds a list has too many
pub list_many : (a : Ty) → list_free a ≡ false → max_values < count a
list_many a e = ⊎_elim (λ l. absurd (not_both (finite_free (few_finite a l)) e)) (λ l. l) (le_or_lt (count a) max_values)

-- a pair's number is below the product
pair_below : {p q r k : ℕ} → p < q → r < k → p * k + r < q * k
pair_below {p} {k = k} h l = let m = mul-le-mul_right k h in omega (arith, suc-mul p k)

-- ---- values to numbers and back

of_below : {v : Val} {a : Ty} → Of v a → rank v a < count a
of_below Of.unit = omega arith
of_below Of.nil = omega arith
of_below (Of.inj {t = left} h) = let k = of_below h in omega arith
of_below (Of.inj {t = right} h) = let k = of_below h in omega arith
of_below (Of.pair h k) = pair_below (of_below h) (of_below k)
of_below (Of.cons h k) = omega arith

-- "not below the count": the number of a value never is
pub rank_below : (v : Val) (a : Ty) → inhabits v a ≡ true → rank v a < count a
rank_below v a e = of_below (inhabits_of v a e)

-- the parts of a pair's number
div_part : (p : ℕ) {r k : ℕ} → r < k → (p * k + r) / k ≡ p
div_part p {r} {k} h = let z : 0 < k = omega arith in let e = div-eq_of_lt h in mul-add-div_right z p r ∙ omega arith

mod_part : (p : ℕ) {r k : ℕ} → r < k → (p * k + r) % k ≡ r
mod_part p {r} {k} h = mul-add-mod_self_right p k r ∙ mod-eq_of_lt h

-- what a number of a sum stands for
unrank_left : (a b : Ty) {n : ℕ} → n < count a → unrank (tsum a b) n ≡ vinj left (unrank a n)
unrank_left a b {n} h = ap (λ c. cond c (vinj left (unrank a n)) (vinj right (unrank b (n - count a)))) (lt_ltb h)

unrank_right : (a b : Ty) {n : ℕ} → count a ≤ n → unrank (tsum a b) n ≡ vinj right (unrank b (n - count a))
unrank_right a b {n} h = ap (λ c. cond c (vinj left (unrank a n)) (vinj right (unrank b (n - count a)))) (not_ltb h)

sum_cases : (P : Val → Type 0) (a b : Ty) (n : ℕ) → n < count (tsum a b) → (n < count a → P (vinj left (unrank a n)))
    → (n - count a < count b → count a ≤ n → P (vinj right (unrank b (n - count a)))) → P (unrank (tsum a b) n)
sum_cases P a b n h f g =
    ⊎_elim (λ l. subst P (sym (unrank_right a b l)) (g (omega arith) l)) (λ l. subst P (sym (unrank_left a b l)) (f l)) (le_or_lt (count a) n)

of_back : {v : Val} {a : Ty} → Finite a → Of v a → unrank a (rank v a) ≡ v
of_back Finite.unit Of.unit = refl
of_back (Finite.sum f g) (Of.inj {t = left} {v} {a} {b} h) =
    ap (unrank (tsum a b)) (zero-add (rank v a)) ∙ unrank_left a b (of_below h) ∙ ap (vinj left) (of_back f h)
of_back (Finite.sum f g) (Of.inj {t = right} {v} {a} {b} h) =
    unrank_right a b (le-add_right (count a) (rank v b)) ∙ ap (λ n. vinj right (unrank b n)) (add-sub_cancel_left (count a) (rank v b)) ∙ ap (vinj right) (of_back g h)
of_back (Finite.product f g) (Of.pair {v} {w} {a} {b} h k) =
    ap₂ (vnode pair_node) (ap (unrank a) (div_part (rank v a) (of_below k)) ∙ of_back f h) (ap (unrank b) (mod_part (rank v a) (of_below k)) ∙ of_back g k)

-- "each undoing the other": a value's number stands for the value
pub unrank_rank : (v : Val) (a : Ty) → Finite a → inhabits v a ≡ true → unrank a (rank v a) ≡ v
unrank_rank v a f e = of_back f (inhabits_of v a e)

-- the parts of a number below a product's count
first_below : (a b : Ty) {n : ℕ} → n < count (tprod a b) → n / count b < count a
first_below a b h = (div-lt_iff_lt-mul (count_positive b)).1 h

second_below : (b : Ty) (n : ℕ) → n % count b < count b
second_below b n = mod-lt n (count_positive b)

-- "not below the count": every number below it is that of a closed value of the type
pub unrank_inhabits : (a : Ty) (n : ℕ) → n < count a → inhabits (unrank a n) a ≡ true
unrank_inhabits tunit n h = refl
unrank_inhabits (tlist a) n h = refl
unrank_inhabits (tsum a b) n h =
    sum_cases (λ v. inhabits v (tsum a b) ≡ true) a b n h (unrank_inhabits a n) (λ k l. unrank_inhabits b (n - count a) k)
unrank_inhabits (tprod a b) n h =
    true_and (unrank_inhabits a (n / count b) (first_below a b h)) (unrank_inhabits b (n % count b) (second_below b n))

-- "each undoing the other": the value that a number stands for has that number
finite_rank : {a : Ty} → Finite a → (n : ℕ) → n < count a → rank (unrank a n) a ≡ n
finite_rank Finite.unit n h = omega arith
finite_rank (Finite.sum {a} {b} f g) n h =
    sum_cases (λ v. rank v (tsum a b) ≡ n) a b n h (λ k. zero-add (rank (unrank a n) a) ∙ finite_rank f n k)
    (λ k l. ap (λ r. count a + r) (finite_rank g (n - count a) k) ∙ add-sub_of_le l)
finite_rank (Finite.product {a} {b} f g) n h =
    ap₂ (λ p r. p * count b + r) (finite_rank f (n / count b) (first_below a b h)) (finite_rank g (n % count b) (second_below b n))
    ∙ div-add-mod' n (count b)

pub rank_unrank : (a : Ty) → Finite a → (n : ℕ) → n < count a → rank (unrank a n) a ≡ n
rank_unrank a f n h = finite_rank f n h

-- ---- the order

-- how two numbers stand to each other
data Stand (m n : ℕ) : Type 0 where
  lower : m < n → Stand m n
  same : m ≡ n → Stand m n
  higher : n < m → Stand m n

stand : (m n : ℕ) → Stand m n
stand m n = ⊎_elim (λ h. ⊎_elim (λ e. same (sym e)) higher (eq-or-lt_of_le h)) lower (le_or_lt n m)

-- two lists by their first numbers m and n, where these are equal by the rest
abbrev ahead : ℕ → ℕ → Bool → Bool
ahead m n c = ltb m n || cond (eqb m n) c false

ahead_lower : (m n : ℕ) (c : Bool) → m < n → ahead m n c ≡ true
ahead_lower m n c h = true_or_left (cond (eqb m n) c false) (lt_ltb h)

ahead_same : (m n : ℕ) (c : Bool) → m ≡ n → ahead m n c ≡ c
ahead_same m n c e = ap₂ (λ p q. p || cond q c false) (not_ltb (le_of_eq (sym e))) (eq_eqb e)

ahead_higher : (m n : ℕ) (c : Bool) → n < m → ahead m n c ≡ false
ahead_higher m n c h = ap₂ (λ p q. p || cond q c false) (not_ltb (le_of_lt h)) (not_eqb (λ e. ne_of_gt h e))

-- equal numbers added change no order
ahead_add : {p q : ℕ} (m n : ℕ) (c : Bool) → p ≡ q → ahead m n c ≡ ahead (p + m) (q + n) c
ahead_add {p} {q} m n c e = go (stand m n)
  where
    go : Stand m n → ahead m n c ≡ ahead (p + m) (q + n) c
    go (lower h) = ahead_lower m n c h ∙ sym (ahead_lower (p + m) (q + n) c (omega arith))
    go (same h) = ahead_same m n c h ∙ sym (ahead_same (p + m) (q + n) c (omega arith))
    go (higher h) = ahead_higher m n c h ∙ sym (ahead_higher (p + m) (q + n) c (omega arith))

-- the numbers of pairs stand as the firsts do, where these are equal as the seconds
ahead_pair : (p q : ℕ) {r s k : ℕ} (c : Bool) → r < k → s < k → ahead p q (ahead r s c) ≡ ahead (p * k + r) (q * k + s) c
ahead_pair p q {r} {s} {k} c hr hs = go (stand p q)
  where
    go : Stand p q → ahead p q (ahead r s c) ≡ ahead (p * k + r) (q * k + s) c
    go (lower h) =
        let l = pair_below h hr in ahead_lower p q (ahead r s c) h ∙ sym (ahead_lower (p * k + r) (q * k + s) c (omega arith))
    go (same h) = ahead_same p q (ahead r s c) h ∙ ahead_add r s c (ap (λ n. n * k) h)
    go (higher h) =
        let l = pair_below h hs in ahead_higher p q (ahead r s c) h ∙ sym (ahead_higher (p * k + r) (q * k + s) c (omega arith))

-- two values of a type before any letters: their numbers decide, where these are equal the letters behind them
of_order : {v w : Val} {a : Ty} → Finite a → Of v a → Of w a → (xs ys : List ℕ)
    → before (letters v ++ xs) (letters w ++ ys) ≡ ahead (rank v a) (rank w a) (before xs ys)
of_order Finite.unit Of.unit Of.unit xs ys = refl
of_order (Finite.sum f g) (Of.inj {t = left} {v} {a} h) (Of.inj {t = left} {v = w} k) xs ys =
    of_order f h k xs ys ∙ ahead_add (rank v a) (rank w a) (before xs ys) refl
of_order (Finite.sum f g) (Of.inj {t = left} {v} {a} h) (Of.inj {t = right} {v = w} {b = b} k) xs ys =
    let l = of_below h in sym (ahead_lower (0 + rank v a) (count a + rank w b) (before xs ys) (omega arith))
of_order (Finite.sum f g) (Of.inj {t = right} {v} {b = b} h) (Of.inj {t = left} {v = w} {a = a} k) xs ys =
    let l = of_below k in sym (ahead_higher (count a + rank v b) (0 + rank w a) (before xs ys) (omega arith))
of_order (Finite.sum f g) (Of.inj {t = right} {v} {b = b} h) (Of.inj {t = right} {v = w} k) xs ys =
    of_order g h k xs ys ∙ ahead_add (rank v b) (rank w b) (before xs ys) refl
of_order (Finite.product f g) (Of.pair {v} {w} {a} {b} h k) (Of.pair {v = v'} {w = w'} h' k') xs ys =
    ap₂ before (append_assoc (letters v) (letters w) xs) (append_assoc (letters v') (letters w') ys)
    ∙ of_order f h h' (letters w ++ xs) (letters w' ++ ys)
    ∙ ap (ahead (rank v a) (rank v' a)) (of_order g k k' xs ys)
    ∙ ahead_pair (rank v a) (rank v' a) (before xs ys) (of_below k) (of_below k')

ahead_end : (m n : ℕ) → ahead m n false ≡ ltb m n
ahead_end m n = go (ltb m n) (eqb m n)
  where
    go : (b c : Bool) → (b || cond c false false) ≡ b
    go true c = refl
    go false true = refl
    go false false = refl

-- "numbers of one type rise exactly as the letters do in byte order"
pub rank_order : (v w : Val) (a : Ty) → Finite a → inhabits v a ≡ true → inhabits w a ≡ true → ltb (rank v a) (rank w a) ≡ before (letters v) (letters w)
rank_order v w a f h k =
    sym (ahead_end (rank v a) (rank w a))
    ∙ sym (of_order f (inhabits_of v a h) (inhabits_of w a k) [] [])
    ∙ ap₂ before (append-nil (letters v)) (append-nil (letters w))

-- letters stand before those that go on behind them
pub prefix_before : (bs : List ℕ) (c : ℕ) (cs : List ℕ) → before bs (bs ++ (c ∷ cs)) ≡ true
prefix_before [] c cs = refl
prefix_before (b ∷ bs) c cs =
    ap₂ (λ x y. ltb b b || cond x y false) (eq_eqb {m = b} refl) (prefix_before bs c cs) ∙ true_or_right (ltb b b) refl

-- "letters written into 127 lent bytes": a value of a type without lists has at most as many letters as its type has nodes
pub letters_bound : (v : Val) (a : Ty) → Finite a → inhabits v a ≡ true → length (letters v) ≤ type_nodes a
letters_bound v a f e = of_small f (inhabits_of v a e)

-- ---- a product of two-valued types

-- the product of n + 1 of them
abbrev pub twos : ℕ → Ty
twos zero = tsum tunit tunit
twos (suc n) = tprod (tsum tunit tunit) (twos n)

-- "a product of 32 two-valued types passes it by one", and a T line may hold it
pub thirty_two : (count (twos 31) ≡ suc max_values) × (type_nodes (twos 31) ≡ max_nodes)
thirty_two = (refl, refl)

-- and one of 31 is far below
pub thirty_one : count (twos 30) ≡ 2147483648
thirty_one = refl
