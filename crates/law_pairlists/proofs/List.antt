-- Request 07: the list. A list that is taken is the printing of its tos; its froms and its tos are all numbers of their types, each once.
use Prim.Native.Nat.{ℕ, zero, suc, ◌+◌, ◌*◌, ◌/◌, ◌%◌, ◌^◌, ◌≤◌, ◌<◌}
use native.Mathlib.Nat.{lt_irrefl, ne_of_gt, not-suc-le-zero, pow-suc, add-zero, add-suc, suc-add}
use native.Mathlib.Omega.{arith}
use mathlib.Core.Path.{◌≡◌, refl, sym, ap, ap₂, ◌∙◌, subst}
use mathlib.Core.Logic.{◌⊎◌, inl, inr}
use mathlib.Core.Bool.{Bool, true, false, cond, not, ◌&&◌}
use mathlib.Core.Option.{some}
use mathlib.Core.List.Memᴰ
use mathlib.Core.List.{List, [], ◌∷◌, ◌++◌, map, append_assoc, append-nil, Memᴰ}
use lib.Dec.{eqb, ltb}
use lib.ListN.{length, get_elem?, length-append}
use Rattle.limits.specs.Limits.{max_values, budget_bound, comma, line_feed, digit_zero}
use Rattle.calculus.specs.Tools.{guard, all, select, concat}
use Rattle.calculus.specs.Trees.{Ty}
use Rattle.format.specs.Lines.{lines, text, without_returns, is_digit, numeral, skip, ended, decimal_of, decimal}
use Rattle.law_ranking.specs.Numbering.{count, rank, unrank}
use Rattle.calculus.specs.Lists.{Finite}
use Rattle.law_pairlists.specs.PairLists.{pair_line, pair_lines, to_in, to_of, tos_of, none_twice, pairs_up, settings}
use Rattle.calculus.specs.Paper.{Of, Distinct, nobody, another}
use Rattle.calculus.proofs.Basic.{bind_some, some_bind, none≢some, some_inj, guard_true, true_guard, and_true, true_and, bool_cases, not_both, not_true, eqb_eq}
use Rattle.calculus.proofs.Basic.{eq_eqb, not_eqb, eqb_false, ltb_lt, ltb_false, each_cons, each_append, all_mem, mem_all, select_true, select_false}
use Rattle.calculus.proofs.Basic.{select_mem}
use Rattle.calculus.proofs.Letters.{inhabits_of, of_inhabits}
use Rattle.format.proofs.Numerals.{read_numeral, numeral_decimal, decimal_digits, digit_lower}
use Rattle.format.proofs.Endings.{feed, NoReturn, Returnless, text_ended, text_feed, without_append, without_line}
use Rattle.format.proofs.Printing.{skip_some, ended_some, lines_feed, NoFeed, Feedless}
use Rattle.law_ranking.proofs.Numbering.{few_finite, rank_below, unrank_rank, unrank_inhabits, rank_unrank}
use Rattle.law_pairlists.proofs.Iso.{Differ, alone, beside, Lists, firsts, seconds}
use Rattle.law_endings.proofs.Printed.{decimal_plain}

-- ---- no number twice

pub none_twice_lem : (ts : List ℕ) → none_twice ts ≡ true → Distinct ts
none_twice_lem [] e = nobody
none_twice_lem (t ∷ ts) e =
    let h = and_true (all (λ u. not (eqb t u)) ts) (none_twice ts) e in
    another (λ m. not_both (eq_eqb {m = t} refl) (not_true (eqb t t) (all_mem (λ u. not (eqb t u)) h.0 m))) (none_twice_lem ts h.1)

pub twice_none : {ts : List ℕ} → Distinct ts → none_twice ts ≡ true
twice_none nobody = refl
twice_none (another {n} {ns} f d) =
    true_and (mem_all (λ u. not (eqb n u)) ns (λ u m. ap not (not_eqb (λ e. f (Memᴰ.cast e m))))) (twice_none d)

-- ---- different numbers below n are at most n

abbrev other : ℕ → ℕ → Bool
other m t = not (eqb t m)

select_distinct : (f : ℕ → Bool) {ts : List ℕ} → Distinct ts → Distinct (select f ts)
select_distinct f nobody = nobody
select_distinct f (another {n} {ns} h d) = go (f n) refl (select_distinct f d)
  where
    go : (b : Bool) → f n ≡ b → Distinct (select f ns) → Distinct (select f (n ∷ ns))
    go true e k = subst Distinct (sym (select_true f n ns e)) (another (λ m. h (select_mem f ns m).0) k)
    go false e k = subst Distinct (sym (select_false f n ns e)) k

select_all : (f : ℕ → Bool) (ts : List ℕ) → ((t : ℕ) → Memᴰ t ts → f t ≡ true) → select f ts ≡ ts
select_all f [] h = refl
select_all f (t ∷ ts) h = select_true f t ts (h t (Memᴰ.head refl)) ∙ ap (λ us. t ∷ us) (select_all f ts (λ u m. h u (Memᴰ.tail m)))

without_one : (m : ℕ) {ts : List ℕ} → Distinct ts → length ts ≤ suc (length (select (other m) ts))
without_one m nobody = omega arith
without_one m (another {n} {ns} h d) = go (eqb n m) refl (without_one m d)
  where
    go : (b : Bool) → eqb n m ≡ b → length ns ≤ suc (length (select (other m) ns)) → suc (length ns) ≤ suc (length (select (other m) (n ∷ ns)))
    go true e k =
        let p = ap length (select_false (other m) n ns (ap not e)) in
        let q = ap length (select_all (other m) ns (λ t i. ap not (not_eqb (λ x. h (Memᴰ.cast (eqb_eq n m e ∙ sym x) i))))) in
        omega arith
    go false e k = let p = ap length (select_true (other m) n ns (ap not e)) in omega arith

below_none : (ts : List ℕ) → ((t : ℕ) → Memᴰ t ts → t < 0) → length ts ≤ 0
below_none [] h = omega arith
below_none (t ∷ ts) h = absurd (not-suc-le-zero (h t (Memᴰ.head refl)))

pub distinct_few : (n : ℕ) (ts : List ℕ) → Distinct ts → ((t : ℕ) → Memᴰ t ts → t < n) → length ts ≤ n
distinct_few zero ts d h = below_none ts h
distinct_few (suc n) ts d h =
    let p = without_one n d in
    let q = distinct_few n (select (other n) ts) (select_distinct (other n) d) (λ u m. below u (select_mem (other n) ts m)) in
    omega arith
  where
    below : (u : ℕ) → Memᴰ u ts × (other n u ≡ true) → u < n
    below u m = cut (bool_cases (ltb u n)) (h u m.0) (eqb_false (not_true (eqb u n) m.1))
      where
        cut : (ltb u n ≡ true) ⊎ (ltb u n ≡ false) → u < suc n → (u ≡ n → ⊥) → u < n
        cut (inl e) k l = ltb_lt u n e
        cut (inr e) k l = let z = ltb_false u n e in absurd (l (omega arith))

elem_or_not : (k : ℕ) (ts : List ℕ) → Memᴰ k ts ⊎ (Memᴰ k ts → ⊥)
elem_or_not k [] = inr Memᴰ.not-nil
elem_or_not k (t ∷ ts) = go (bool_cases (eqb k t)) (elem_or_not k ts)
  where
    miss : eqb k t ≡ false → (Memᴰ k ts → ⊥) → Memᴰ k (t ∷ ts) → ⊥
    miss e f (Memᴰ.head p) = eqb_false e p
    miss e f (Memᴰ.tail m) = f m

    go : (eqb k t ≡ true) ⊎ (eqb k t ≡ false) → Memᴰ k ts ⊎ (Memᴰ k ts → ⊥) → Memᴰ k (t ∷ ts) ⊎ (Memᴰ k (t ∷ ts) → ⊥)
    go (inl e) r = inl (Memᴰ.head (eqb_eq k t e))
    go (inr e) (inl m) = inl (Memᴰ.tail m)
    go (inr e) (inr f) = inr (miss e f)

-- n different numbers below n are all of them
pub all_there : (n : ℕ) (ts : List ℕ) → Distinct ts → ((t : ℕ) → Memᴰ t ts → t < n) → length ts ≡ n → (k : ℕ) → k < n → Memᴰ k ts
all_there n ts d h l k b = go (elem_or_not k ts)
  where
    go : Memᴰ k ts ⊎ (Memᴰ k ts → ⊥) → Memᴰ k ts
    go (inl m) = m
    go (inr f) = let p = distinct_few n (k ∷ ts) (another f d) (each_cons (λ t. t < n) b h) in absurd (lt_irrefl n (omega arith))

-- ---- the settings of different numbers

differ_settings : (a : Ty) → Finite a → {ts : List ℕ} → Distinct ts → ((t : ℕ) → Memᴰ t ts → t < count a) → Differ (map (unrank a) ts)
differ_settings a fin nobody h = alone
differ_settings a fin (another {n} {ns} f d) h =
    beside
    (λ w m e. let r = Memᴰ.of_map (unrank a) ns m in
    f (Memᴰ.cast (sym (rank_unrank a fin n (h n (Memᴰ.head refl))) ∙ ap (λ v. rank v a) (e ∙ sym r.2) ∙ rank_unrank a fin r.0 (h r.0 (Memᴰ.tail r.1))) r.1))
    (differ_settings a fin d (λ t m. h t (Memᴰ.tail m)))

-- count many different numbers below the count stand for all values of the type
pub all_settings : (a : Ty) → Finite a → (ts : List ℕ) → Distinct ts → ((t : ℕ) → Memᴰ t ts → t < count a) → length ts ≡ count a → Lists a (map (unrank a) ts)
all_settings a fin ts d h l =
    record {
      finite = fin;
      typed = λ v m. let r = Memᴰ.of_map (unrank a) ts m in subst (λ u. Of u a) r.2 (inhabits_of (unrank a r.0) a (unrank_inhabits a r.0 (h r.0 r.1)));
      differ = differ_settings a fin d h;
      whole = λ v o.
          let e = of_inhabits o in
          Memᴰ.cast (sym (unrank_rank v a fin e)) (Memᴰ.map (unrank a) (all_there (count a) ts d h l (rank v a) (rank_below v a e)));
    }

-- ---- the froms

abbrev pub up_from : ℕ → ℕ → List ℕ
up_from k zero = []
up_from k (suc n) = k ∷ up_from (suc k) n

up_bounds : (k n t : ℕ) → Memᴰ t (up_from k n) → (k ≤ t) × (t < k + n)
up_bounds k zero t m = absurd (Memᴰ.not-nil m)
up_bounds k (suc n) t (Memᴰ.head e) = (omega arith, omega arith)
up_bounds k (suc n) t (Memᴰ.tail m) = let h = up_bounds (suc k) n t m in let p = h.0 in let q = h.1 in (omega arith, omega arith)

up_distinct : (k n : ℕ) → Distinct (up_from k n)
up_distinct k zero = nobody
up_distinct k (suc n) = another (λ m. let p = (up_bounds (suc k) n k m).0 in absurd (lt_irrefl k (omega arith))) (up_distinct (suc k) n)

up_length : (k n : ℕ) → length (up_from k n) ≡ n
up_length k zero = refl
up_length k (suc n) = ap suc (up_length (suc k) n)

settings_firsts : (a b : Ty) (k : ℕ) (ts : List ℕ) → firsts (settings a b k ts) ≡ map (unrank a) (up_from k (length ts))
settings_firsts a b k [] = refl
settings_firsts a b k (t ∷ ts) = ap (λ vs. unrank a k ∷ vs) (settings_firsts a b (suc k) ts)

settings_seconds : (a b : Ty) (k : ℕ) (ts : List ℕ) → seconds (settings a b k ts) ≡ map (unrank b) ts
settings_seconds a b k [] = refl
settings_seconds a b k (t ∷ ts) = ap (λ vs. unrank b t ∷ vs) (settings_seconds a b (suc k) ts)

pub settings_length : (a b : Ty) (k : ℕ) (ts : List ℕ) → length (settings a b k ts) ≡ length ts
settings_length a b k [] = refl
settings_length a b k (t ∷ ts) = ap suc (settings_length a b (suc k) ts)

-- the pair of each line
pub settings_at : (a b : Ty) (k : ℕ) (ts : List ℕ) (i t : ℕ) → get_elem? ts i ≡ some t → Memᴰ (unrank a (k + i), unrank b t) (settings a b k ts)
settings_at a b k [] i t e = absurd (none≢some e)
settings_at a b k (u ∷ ts) zero t e =
    Memᴰ.head (λ i. (unrank a (add-zero k i), unrank b (sym (some_inj e) i)))
settings_at a b k (u ∷ ts) (suc i) t e =
    Memᴰ.tail (subst (λ n. Memᴰ (unrank a n, unrank b t) (settings a b (suc k) ts)) (suc-add k i ∙ sym (add-suc k i)) (settings_at a b (suc k) ts i t e))

-- ---- a list that is taken

pub record Taken (a b : Ty) (ts : List ℕ) : Type 0 where
  pub finite_from : Finite a
  pub finite_to : Finite b
  pub froms : length ts ≡ count a
  pub tos : length ts ≡ count b
  pub below : (t : ℕ) → Memᴰ t ts → t < count b
  pub once : Distinct ts

pub pairs_taken : (a b : Ty) → Finite a → Finite b → (ts : List ℕ) → pairs_up a b ts ≡ true → Taken a b ts
pairs_taken a b fa fb ts e =
    let p = and_true (eqb (length ts) (count a)) (eqb (length ts) (count b) && (all (λ t. ltb t (count b)) ts && none_twice ts)) e in
    let q = and_true (eqb (length ts) (count b)) (all (λ t. ltb t (count b)) ts && none_twice ts) p.1 in
    let r = and_true (all (λ t. ltb t (count b)) ts) (none_twice ts) q.1 in
    record {
      finite_from = fa;
      finite_to = fb;
      froms = eqb_eq (length ts) (count a) p.0;
      tos = eqb_eq (length ts) (count b) q.0;
      below = λ t m. ltb_lt t (count b) (all_mem (λ u. ltb u (count b)) r.0 m);
      once = none_twice_lem ts r.1;
    }

-- few pairs leave no room for a list
pub few_taken : (a b : Ty) (ts : List ℕ) → length ts ≤ max_values → pairs_up a b ts ≡ true → Taken a b ts
few_taken a b ts h e =
    let p = and_true (eqb (length ts) (count a)) (eqb (length ts) (count b) && (all (λ t. ltb t (count b)) ts && none_twice ts)) e in
    let q = and_true (eqb (length ts) (count b)) (all (λ t. ltb t (count b)) ts && none_twice ts) p.1 in
    let first : count a ≤ max_values = subst (λ n. n ≤ max_values) (eqb_eq (length ts) (count a) p.0) h in
    let second : count b ≤ max_values = subst (λ n. n ≤ max_values) (eqb_eq (length ts) (count b) q.0) h in
    pairs_taken a b (few_finite a first) (few_finite b second) ts e

pub lefts_all : {a b : Ty} {ts : List ℕ} → Taken a b ts → Lists a (firsts (settings a b 0 ts))
lefts_all {a} {b} {ts} h =
    subst (Lists a) (sym (settings_firsts a b 0 ts))
    (all_settings a h.finite_from (up_from 0 (length ts)) (up_distinct 0 (length ts))
    (λ t m. let q = (up_bounds 0 (length ts) t m).1 in let f = h.froms in omega arith)
    (up_length 0 (length ts) ∙ h.froms))

pub rights_all : {a b : Ty} {ts : List ℕ} → Taken a b ts → Lists b (seconds (settings a b 0 ts))
rights_all {a} {b} {ts} h = subst (Lists b) (sym (settings_seconds a b 0 ts)) (all_settings b h.finite_to ts h.once h.below h.tos)

-- ---- the list as bytes

pub pair_line_shape : (k t : ℕ) → pair_line k t ≡ decimal k ++ (comma ∷ (decimal t ++ (line_feed ∷ [])))
unfolding pair_line
pair_line_shape k t = refl

-- the text of a line
abbrev pub pair_text : ℕ → ℕ → List ℕ
pair_text k t = decimal k ++ (comma ∷ decimal t)

line_text : (k t : ℕ) → pair_line k t ≡ pair_text k t ++ feed
line_text k t = pair_line_shape k t ∙ sym (append_assoc (decimal k) (comma ∷ decimal t) feed)

returnless_text : (k t : ℕ) → Returnless (pair_text k t)
returnless_text k t = each_append NoReturn (decimal k) (decimal_plain k) (each_cons NoReturn refl (decimal_plain t))

-- a text that reads is what is printed, of numbers of 32 bits
pub to_in_lem : (k : ℕ) (bs : List ℕ) (t : ℕ) → to_in k bs ≡ some t → (bs ≡ pair_text k t) × (k < budget_bound) × (t < budget_bound)
to_in_lem k bs t e =
    let f = bind_some (numeral budget_bound bs) _ e in
    let g = bind_some (guard (eqb f.0.0 k)) _ f.2 in
    let c = bind_some (skip comma f.0.1) _ g.2 in
    let n = bind_some (numeral budget_bound c.0) _ c.2 in
    let d = bind_some (ended n.0.1) _ n.2 in
    let p = read_numeral budget_bound (omega arith) (omega arith) bs f.1 in
    let q = read_numeral budget_bound (omega arith) (omega arith) c.0 n.1 in
    let from = eqb_eq f.0.0 k (guard_true (eqb f.0.0 k) g.1) in (
      p.0
          ∙ ap₂ (λ m rest. decimal m ++ rest) from
          (skip_some comma f.0.1 c.1 ∙ ap (λ x. comma ∷ x) (q.0 ∙ ap₂ (λ m rest. decimal m ++ rest) (some_inj d.2) (ended_some n.0.1 d.1) ∙ append-nil (decimal t))),
      subst (λ m. m < budget_bound) from p.1,
      subst (λ m. m < budget_bound) (some_inj d.2) q.1,
    )

-- a line that reads is what is printed, but for a carriage return
pub to_of_lem : (k : ℕ) (l : List ℕ) (t : ℕ) → to_of k l ≡ some t → without_returns l ≡ pair_line k t
to_of_lem k l t e =
    let f = bind_some (text l) (to_in k) e in
    without_line (text_ended l (f.1 ∙ ap some (to_in_lem k f.0 t f.2).0)) (returnless_text k t) ∙ sym (line_text k t)

pub tos_printed : (k : ℕ) (ls : List (List ℕ)) (ts : List ℕ) → tos_of k ls ≡ some ts → without_returns (concat ls) ≡ pair_lines k ts
tos_printed k [] ts e = ap (pair_lines k) (some_inj e)
tos_printed k (l ∷ ls) ts e =
    let f = bind_some (to_of k l) _ e in
    let g = bind_some (tos_of (suc k) ls) _ f.2 in
    without_append l (concat ls) ∙ ap₂ ◌++◌ (to_of_lem k l f.0 f.1) (tos_printed (suc k) ls g.0 g.1) ∙ ap (pair_lines k) (some_inj g.2)

pub tos_length : (k : ℕ) (ls : List (List ℕ)) (ts : List ℕ) → tos_of k ls ≡ some ts → length ls ≡ length ts
tos_length k [] ts e = ap length (some_inj e)
tos_length k (l ∷ ls) ts e =
    let f = bind_some (to_of k l) _ e in
    let g = bind_some (tos_of (suc k) ls) _ f.2 in
    ap suc (tos_length (suc k) ls g.0 g.1) ∙ ap length (some_inj g.2)

-- what is printed reads back
pub in_to : (k t : ℕ) → k < budget_bound → t < budget_bound → to_in k (pair_text k t) ≡ some t
in_to k t h l =
    some_bind _ (numeral_decimal budget_bound k (comma ∷ decimal t) (omega arith) h refl)
    ∙ some_bind _ (true_guard (eq_eqb {m = k} refl))
    ∙ some_bind _ (ap (numeral budget_bound) (sym (append-nil (decimal t))) ∙ numeral_decimal budget_bound t [] (omega arith) l tt)

of_to : (k t : ℕ) → k < budget_bound → t < budget_bound → to_of k (pair_line k t) ≡ some t
of_to k t h l = ap (to_of k) (line_text k t) ∙ some_bind (to_in k) (text_feed (pair_text k t) (returnless_text k t)) ∙ in_to k t h l

pub lines_pairs : (k t : ℕ) (rest : List ℕ) → lines (pair_line k t ++ rest) ≡ pair_line k t ∷ lines rest
lines_pairs k t rest =
    ap (λ l. lines (l ++ rest)) (line_text k t)
    ∙ ap lines (append_assoc (pair_text k t) feed rest)
    ∙ lines_feed (pair_text k t) rest (each_append NoFeed (decimal k) (digits_feedless k) (each_cons NoFeed refl (digits_feedless t)))
    ∙ ap (λ l. l ∷ lines rest) (sym (line_text k t))
  where
    digits_feedless : (n : ℕ) → Feedless (decimal n)
    digits_feedless n b m = let low = digit_lower b (all_mem is_digit (decimal_digits n) m) in not_eqb {m = b} {n = line_feed} (ne_of_gt (omega arith))

pub printed_tos : (k : ℕ) (ts : List ℕ) → k + length ts ≤ budget_bound → ((t : ℕ) → Memᴰ t ts → t < budget_bound) → tos_of k (lines (pair_lines k ts)) ≡ some ts
printed_tos k [] h l = refl
printed_tos k (t ∷ ts) h l =
    ap (tos_of k) (lines_pairs k t (pair_lines (suc k) ts))
    ∙ some_bind _ (of_to k t (omega arith) (l t (Memᴰ.head refl)))
    ∙ some_bind (λ us. some (t ∷ us)) (printed_tos (suc k) ts (omega arith) (λ u m. l u (Memᴰ.tail m)))

-- ---- room

digits_few : (d f n : ℕ) → n < 10 ^ suc d → length (decimal_of f n) ≤ suc d
digits_few d zero n h = omega arith
digits_few d (suc f) n h = go d h (λ e k. digits_few e f (n / 10) k) (bool_cases (ltb n 10))
  where
    go : (d : ℕ) → n < 10 ^ suc d → ((e : ℕ) → n / 10 < 10 ^ suc e → length (decimal_of f (n / 10)) ≤ suc e) → (ltb n 10 ≡ true) ⊎ (ltb n 10 ≡ false)
        → length (decimal_of (suc f) n) ≤ suc d
    go d h below (inl e) = let p = ap (λ b. length (cond b ((digit_zero + n) ∷ []) (decimal_of f (n / 10) ++ ((digit_zero + n % 10) ∷ [])))) e in omega arith
    go zero h below (inr e) = let q = ltb_false n 10 e in absurd (lt_irrefl n (omega arith))
    go (suc d) h below (inr e) =
        let p = ap (λ b. length (cond b ((digit_zero + n) ∷ []) (decimal_of f (n / 10) ++ ((digit_zero + n % 10) ∷ [])))) e in
        let q = length-append (decimal_of f (n / 10)) ((digit_zero + n % 10) ∷ []) in
        let s : 10 ^ suc (suc d) ≡ 10 ^ suc d * 10 = pow-suc 10 (suc d) in
        let r = below d (omega arith) in
        omega arith

pub decimal_few : (d n : ℕ) → n < 10 ^ suc d → length (decimal n) ≤ suc d
unfolding decimal
decimal_few d n h = digits_few d 10 n h

-- "into an area of 40,960 bytes": ten bytes a line for numbers below 10,000
pub pairs_room : (k : ℕ) (ts : List ℕ) → k + length ts ≤ 10000 → ((t : ℕ) → Memᴰ t ts → t < 10000) → length (pair_lines k ts) ≤ length ts * 10
pairs_room k [] h l = omega arith
pairs_room k (t ∷ ts) h l =
    let p = pairs_room (suc k) ts (omega arith) (λ u m. l u (Memᴰ.tail m)) in
    let q = ap length (pair_line_shape k t) ∙ length-append (decimal k) (comma ∷ (decimal t ++ (line_feed ∷ []))) in
    let r = length-append (decimal t) (line_feed ∷ []) in
    let s = length-append (pair_line k t) (pair_lines (suc k) ts) in
    let x = decimal_few 3 k (omega arith) in
    let y = decimal_few 3 t (l t (Memᴰ.head refl)) in
    omega arith
