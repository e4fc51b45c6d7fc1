-- Request 09, 13 and 14: counting finds the first value that no pattern matches. Orthogonal patterns match no value twice, so what they
-- match together is the sum of what each matches.
use Prim.Native.Nat.{ℕ, zero, suc, ◌+◌, ◌*◌, ◌<◌, ◌≤◌}
use native.Mathlib.Nat.{one-mul, mul-one, zero-mul, mul_assoc, eq-or-lt_of_le}
use native.Mathlib.Omega.{arith}
use mathlib.Core.Path.{◌≡◌, refl, sym, ap, ap₂, ◌∙◌, subst}
use mathlib.Core.Logic.{◌⊎◌, inl, inr, ◌↔◌}
use mathlib.Core.Bool.{Bool, true, false, cond, false≢true}
use mathlib.Core.Option.{Option, none, some}
use mathlib.Core.List.Memᴰ
use mathlib.Core.List.{List, [], ◌∷◌, ◌++◌, map, Memᴰ}
use lib.Dec.{eqb}
use Rattle.limits.specs.Limits.{max_tags, result_length}
use Rattle.calculus.specs.Tools.{concat, total, first_of, or_else}
use Rattle.calculus.specs.Trees.{Ty, tunit, tlist, tsum, tprod, Leaf, unit_leaf, empty_leaf, Tag, left, right, Node, pair_node, element_node, Pat, pvar, pleaf}
use Rattle.calculus.specs.Trees.{pinj, pnode, Val, vinj, vnode, same_leaf, same_tag, same_node, vars, tags}
use Rattle.calculus.specs.Letters.{letters}
use Rattle.calculus.specs.Clauses.{full_weight}
use Rattle.calculus.specs.Paper.{Of, Apart, Matched, Distinct}
use Rattle.calculus.specs.Shapes.{Shape}
use Rattle.calculus.specs.Hits.{hit, hits}
use Rattle.law_witnesses.specs.Showing.{Never, Move, leaf, tag, node, letter_on, moves, made, spelled, the, values_with, find, count_up, never, setting}
use Rattle.law_witnesses.specs.Seeking.{after, or_zero, how_many, ways, also, keep, on, lacks, gap_from, alone, gap_in}
use Rattle.calculus.proofs.Basic.{none≢some, some_inj, ltb_lt, ltb_false, eqb_eq, eq_eqb, not_eqb, each_nil, each_cons}
use Rattle.calculus.proofs.Covering.{uncovered, hit_le, matched_hit, hit_matched, hits_le, hit_le_hits}
use Rattle.law_witnesses.proofs.Spelling.{Ofs, ends, also as with, all_letters, sound, find_map, find_step, first_of_ext, one_ofs, one_letters}

-- ---- values side by side and a row of patterns

abbrev pub hit_row : List Pat → List Val → ℕ
hit_row [] [] = 1
hit_row [] (v ∷ vs) = 0
hit_row (p ∷ ps) [] = 0
hit_row (p ∷ ps) (v ∷ vs) = hit p v * hit_row ps vs

abbrev pub hit_rows : List (List Pat) → List Val → ℕ
hit_rows rows vs = total (map (λ r. hit_row r vs) rows)

-- a row after a letter matches what the row matches with it
abbrev Suits : Move × List Ty → Type 0
Suits m = (ts : List Ty) (vs : List Val) → Ofs vs (m.1 ++ ts) → (row : List Pat) → hit_row row (made m.0 vs) ≡ or_zero (λ r. hit_row r vs) (after m.0 row)

leaf_suits : (l : Leaf) → Suits (leaf l, [])
leaf_suits l ts vs o [] = refl
leaf_suits l ts vs o (pvar n ∷ ps) = one-mul (hit_row ps vs)
leaf_suits l ts vs o (pleaf k ∷ ps) = go (same_leaf k l)
  where
    go : (b : Bool) → cond b 1 0 * hit_row ps vs ≡ or_zero (λ r. hit_row r vs) (cond b (some ps) none)
    go true = one-mul (hit_row ps vs)
    go false = zero-mul (hit_row ps vs)
leaf_suits l ts vs o (pinj t p ∷ ps) = zero-mul (hit_row ps vs)
leaf_suits l ts vs o (pnode k p q ∷ ps) = zero-mul (hit_row ps vs)

tag_row : (t : Tag) (v : Val) (vs : List Val) (row : List Pat) → hit_row row (vinj t v ∷ vs) ≡ or_zero (λ r. hit_row r (v ∷ vs)) (after (tag t) row)
tag_row t v vs [] = refl
tag_row t v vs (pvar n ∷ ps) = refl
tag_row t v vs (pleaf l ∷ ps) = zero-mul (hit_row ps vs)
tag_row t v vs (pinj s p ∷ ps) = go (same_tag s t)
  where
    go : (b : Bool) → cond b (hit p v) 0 * hit_row ps vs ≡ or_zero (λ r. hit_row r (v ∷ vs)) (cond b (some (p ∷ ps)) none)
    go true = refl
    go false = zero-mul (hit_row ps vs)
tag_row t v vs (pnode k p q ∷ ps) = zero-mul (hit_row ps vs)

tag_suits : (t : Tag) (a : Ty) → Suits (tag t, a ∷ [])
tag_suits t a ts us (with {v = v} {vs = vs} h o) row = tag_row t v vs row

node_row : (k : Node) (v w : Val) (vs : List Val) (row : List Pat) → hit_row row (vnode k v w ∷ vs) ≡ or_zero (λ r. hit_row r (v ∷ (w ∷ vs))) (after (node k) row)
node_row k v w vs [] = refl
node_row k v w vs (pvar n ∷ ps) = sym (one-mul (1 * hit_row ps vs))
node_row k v w vs (pleaf l ∷ ps) = zero-mul (hit_row ps vs)
node_row k v w vs (pinj t p ∷ ps) = zero-mul (hit_row ps vs)
node_row k v w vs (pnode m p q ∷ ps) = go (same_node m k)
  where
    go : (b : Bool) → cond b (hit p v * hit q w) 0 * hit_row ps vs ≡ or_zero (λ r. hit_row r (v ∷ (w ∷ vs))) (cond b (some (p ∷ (q ∷ ps))) none)
    go true = mul_assoc (hit p v) (hit q w) (hit_row ps vs)
    go false = zero-mul (hit_row ps vs)

node_suits : (k : Node) (a b : Ty) → Suits (node k, a ∷ (b ∷ []))
node_suits k a b ts us (with {v = v} h (with {v = w} {vs = vs} i o)) row = node_row k v w vs row

suits : (a : Ty) (m : Move × List Ty) → Memᴰ m (moves a) → Suits m
suits tunit = each_cons Suits (leaf_suits unit_leaf) (each_nil Suits)
suits (tlist a) = each_cons Suits (node_suits element_node a (tlist a)) (each_cons Suits (leaf_suits empty_leaf) (each_nil Suits))
suits (tsum a b) = each_cons Suits (tag_suits left a) (each_cons Suits (tag_suits right b) (each_nil Suits))
suits (tprod a b) = each_cons Suits (node_suits pair_node a b) (each_nil Suits)

-- the rows that begin with a letter, after it, match what all rows match with it
rows_after : (a : Ty) (m : Move × List Ty) → Memᴰ m (moves a) → (ts : List Ty) (vs : List Val) → Ofs vs (m.1 ++ ts) → (rows : List (List Pat))
    → hit_rows rows (made m.0 vs) ≡ hit_rows (keep (after m.0) rows) vs
rows_after a m i ts vs o [] = refl
rows_after a m i ts vs o (row ∷ rows) =
    ap₂ ◌+◌ (suits a m i ts vs o row) (rows_after a m i ts vs o rows) ∙ go (after m.0 row)
  where
    go : (x : Option (List Pat)) → or_zero (λ r. hit_row r vs) x + hit_rows (keep (after m.0) rows) vs ≡ hit_rows (also x (keep (after m.0) rows)) vs
    go none = omega arith
    go (some r) = refl

-- ---- sums over the values with n letters

abbrev tally : {A : Type 0} → (A → ℕ) → List A → ℕ
tally g xs = total (map g xs)

tally_append : {A : Type 0} (g : A → ℕ) (xs ys : List A) → tally g (xs ++ ys) ≡ tally g xs + tally g ys
tally_append g [] ys = omega arith
tally_append g (x ∷ xs) ys = let h = tally_append g xs ys in omega arith

tally_map : {A B : Type 0} (g : B → ℕ) (h : A → B) (xs : List A) → tally g (map h xs) ≡ tally (λ x. g (h x)) xs
tally_map g h [] = refl
tally_map g h (x ∷ xs) = ap (λ n. g (h x) + n) (tally_map g h xs)

tally_concat : {A B : Type 0} (g : B → ℕ) (h : A → List B) (ms : List A) → tally g (concat (map h ms)) ≡ tally (λ m. tally g (h m)) ms
tally_concat g h [] = refl
tally_concat g h (m ∷ ms) = tally_append g (h m) (concat (map h ms)) ∙ ap (λ n. tally g (h m) + n) (tally_concat g h ms)

tally_ext : {A : Type 0} {g h : A → ℕ} (xs : List A) → ((x : A) → Memᴰ x xs → g x ≡ h x) → tally g xs ≡ tally h xs
tally_ext [] e = refl
tally_ext (x ∷ xs) e = ap₂ ◌+◌ (e x (Memᴰ.head refl)) (tally_ext xs (λ y m. e y (Memᴰ.tail m)))

tally_zero : {A : Type 0} (xs : List A) → tally (λ x. 0) xs ≡ 0
tally_zero [] = refl
tally_zero (x ∷ xs) = let h = tally_zero xs in omega arith

tally_add : {A : Type 0} (g h : A → ℕ) (xs : List A) → tally (λ x. g x + h x) xs ≡ tally g xs + tally h xs
tally_add g h [] = refl
tally_add g h (x ∷ xs) = let e = tally_add g h xs in omega arith

-- one letter further
tally_step : (g : List Val → ℕ) (n : ℕ) (a : Ty) (ts : List Ty)
    → tally g (spelled (suc n) (a ∷ ts)) ≡ tally (λ m. tally (λ vs. g (made m.0 vs)) (spelled n (m.1 ++ ts))) (moves a)
tally_step g n a ts =
    tally_concat g (λ m. map (made m.0) (spelled n (m.1 ++ ts))) (moves a)
    ∙ tally_ext (moves a) (λ m i. tally_map g (made m.0) (spelled n (m.1 ++ ts)))

mem_concat : {A B : Type 0} {y : B} (h : A → List B) (ms : List A) → Memᴰ y (concat (map h ms)) → (m : A) × Memᴰ m ms × Memᴰ y (h m)
mem_concat h [] i = absurd (Memᴰ.not-nil i)
mem_concat {A} {y = y} h (m ∷ ms) i = go (Memᴰ.append_cases (h m) i) (mem_concat h ms)
  where
    go : Memᴰ y (h m) ⊎ Memᴰ y (concat (map h ms)) → (Memᴰ y (concat (map h ms)) → (k : A) × Memᴰ k ms × Memᴰ y (h k))
        → (k : A) × Memᴰ k (m ∷ ms) × Memᴰ y (h k)
    go (inl j) below = (m, Memᴰ.head refl, j)
    go (inr j) below = let r = below j in (r.0, Memᴰ.tail r.1, r.2)

-- the lists hold values of the types
pub spelled_of : (n : ℕ) (ts : List Ty) (vs : List Val) → Memᴰ vs (spelled n ts) → Ofs vs ts
spelled_of zero [] vs i = each_cons (λ us. Ofs us []) ends (each_nil (λ us. Ofs us [])) vs i
spelled_of zero (a ∷ ts) vs i = each_nil (λ us. Ofs us (a ∷ ts)) vs i
spelled_of (suc n) [] vs i = each_nil (λ us. Ofs us []) vs i
spelled_of (suc n) (a ∷ ts) vs i =
    let r = mem_concat (λ m. map (made m.0) (spelled n (m.1 ++ ts))) (moves a) i in
    let s = Memᴰ.of_map (made r.0.0) (spelled n (r.0.1 ++ ts)) r.2 in
    subst (λ us. Ofs us (a ∷ ts)) s.2 (sound a r.0 r.1 ts s.0 (spelled_of n (r.0.1 ++ ts) s.0 s.1)).0

pub how_many_is : (n : ℕ) (ts : List Ty) → how_many n ts ≡ tally (λ vs. 1) (spelled n ts)
how_many_is zero [] = refl
how_many_is zero (a ∷ ts) = refl
how_many_is (suc n) [] = refl
how_many_is (suc n) (a ∷ ts) = tally_ext (moves a) (λ m i. how_many_is n (m.1 ++ ts)) ∙ sym (tally_step (λ vs. 1) n a ts)

pub ways_is : (n : ℕ) (ts : List Ty) (row : List Pat) → ways n ts row ≡ tally (hit_row row) (spelled n ts)
ways_is zero [] [] = refl
ways_is zero [] (p ∷ ps) = refl
ways_is zero (a ∷ ts) row = refl
ways_is (suc n) [] row = refl
ways_is (suc n) (a ∷ ts) row =
    tally_ext (moves a) (λ m i. go m (after m.0 row) (ways_is n (m.1 ++ ts)) ∙ sym (tally_ext (spelled n (m.1 ++ ts)) (λ vs j. suits a m i ts vs (spelled_of n (m.1 ++ ts) vs j) row)))
    ∙ sym (tally_step (hit_row row) n a ts)
  where
    go : (m : Move × List Ty) (x : Option (List Pat)) → ((r : List Pat) → ways n (m.1 ++ ts) r ≡ tally (hit_row r) (spelled n (m.1 ++ ts)))
        → or_zero (ways n (m.1 ++ ts)) x ≡ tally (λ vs. or_zero (λ r. hit_row r vs) x) (spelled n (m.1 ++ ts))
    go m none e = sym (tally_zero (spelled n (m.1 ++ ts)))
    go m (some r) e = e r

rows_is : (n : ℕ) (ts : List Ty) (rows : List (List Pat)) → total (map (ways n ts) rows) ≡ tally (hit_rows rows) (spelled n ts)
rows_is n ts [] = sym (tally_zero (spelled n ts))
rows_is n ts (row ∷ rows) = ap₂ ◌+◌ (ways_is n ts row) (rows_is n ts rows) ∙ sym (tally_add (hit_row row) (hit_rows rows) (spelled n ts))

-- ---- where a sum falls short

module _ {A : Type 0} (g : A → ℕ) where
  tally_le : (xs : List A) → ((x : A) → Memᴰ x xs → g x ≤ 1) → tally g xs ≤ tally (λ x. 1) xs
  tally_le [] h = omega arith
  tally_le (x ∷ xs) h =
      let k = h x (Memᴰ.head refl) in
      let l = tally_le xs (λ y m. h y (Memᴰ.tail m)) in
      omega arith

  -- where it does not, no element has 0
  full_none : (xs : List A) → ((x : A) → Memᴰ x xs → g x ≤ 1) → tally (λ x. 1) xs ≤ tally g xs → find (λ x. eqb (g x) 0) xs ≡ none
  full_none [] h l = refl
  full_none (x ∷ xs) h l =
      let k = h x (Memᴰ.head refl) in
      let below = tally_le xs (λ y m. h y (Memᴰ.tail m)) in
      let z : g x ≡ 1 = omega arith in
      let r : tally (λ x. 1) xs ≤ tally g xs = omega arith in
      ap (λ b. cond b (some x) (find (λ y. eqb (g y) 0) xs)) (not_eqb (λ e. absurd (one_zero z e))) ∙ full_none xs (λ y m. h y (Memᴰ.tail m)) r
    where
      one_zero : {n : ℕ} → n ≡ 1 → n ≡ 0 → ⊥
      one_zero p q = absurd (omega arith)

  -- where it does, some element has
  short_some : (xs : List A) → tally g xs < tally (λ x. 1) xs → find (λ x. eqb (g x) 0) xs ≡ none → ⊥
  short_some [] l e = absurd (omega arith)
  short_some (x ∷ xs) l e = go (eqb (g x) 0) refl e (short_some xs)
    where
      go : (b : Bool) → eqb (g x) 0 ≡ b → cond b (some x) (find (λ y. eqb (g y) 0) xs) ≡ none
          → (tally g xs < tally (λ y. 1) xs → find (λ y. eqb (g y) 0) xs ≡ none → ⊥) → ⊥
      go true p e below = none≢some (sym e)
      go false p e below = below (omega (arith, positive (g x) p)) e
        where
          positive : (n : ℕ) → eqb n 0 ≡ false → 1 ≤ n
          positive zero p = absurd (false≢true (sym p))
          positive (suc n) p = omega arith

find_ext : {A : Type 0} {f g : A → Bool} (xs : List A) → ((x : A) → Memᴰ x xs → f x ≡ g x) → find f xs ≡ find g xs
find_ext [] h = refl
find_ext {f = f} {g = g} (x ∷ xs) h =
    ap₂ (λ b y. cond b (some x) y) (h x (Memᴰ.head refl)) (find_ext xs (λ y m. h y (Memᴰ.tail m)))

find_mem : {A : Type 0} (f : A → Bool) (xs : List A) (y : A) → find f xs ≡ some y → Memᴰ y xs
find_mem f [] y e = absurd (none≢some e)
find_mem f (x ∷ xs) y e = go (f x) e (find_mem f xs y)
  where
    go : (b : Bool) → cond b (some x) (find f xs) ≡ some y → (find f xs ≡ some y → Memᴰ y xs) → Memᴰ y (x ∷ xs)
    go true e below = Memᴰ.head (sym (some_inj e))
    go false e below = Memᴰ.tail (below e)

-- two functions that agree on what is found
on_ext : {A B : Type 0} {g h : A → B} (x : Option A) → ((y : A) → x ≡ some y → g y ≡ h y) → on g x ≡ on h x
on_ext none e = refl
on_ext (some y) e = ap some (e y refl)

on_on : {A B C : Type 0} (g : B → C) (h : A → B) (x : Option A) → on g (on h x) ≡ on (λ y. g (h y)) x
on_on g h none = refl
on_on g h (some y) = refl

on_or_else : {A B : Type 0} (g : A → B) (x y : Option A) → on g (or_else x y) ≡ or_else (on g x) (on g y)
on_or_else g none y = refl
on_or_else g (some x) y = refl

on_first_of : {A B C : Type 0} (g : B → C) (h : A → Option B) (ms : List A) → on g (first_of h ms) ≡ first_of (λ m. on g (h m)) ms
on_first_of g h [] = refl
on_first_of g h (m ∷ ms) = on_or_else g (h m) (first_of h ms) ∙ ap (or_else (on g (h m))) (on_first_of g h ms)

first_of_mem : {A B : Type 0} {f g : A → Option B} (xs : List A) → ((x : A) → Memᴰ x xs → f x ≡ g x) → first_of f xs ≡ first_of g xs
first_of_mem [] h = refl
first_of_mem (x ∷ xs) h = ap₂ or_else (h x (Memᴰ.head refl)) (first_of_mem xs (λ y m. h y (Memᴰ.tail m)))

-- ---- letter by letter

-- no values are matched twice
abbrev pub Once : List Ty → List (List Pat) → Type 0
Once ts rows = (vs : List Val) → Ofs vs ts → hit_rows rows vs ≤ 1

abbrev first_gap : ℕ → List Ty → List (List Pat) → Option (List Val)
first_gap n ts rows = find (λ vs. eqb (hit_rows rows vs) 0) (spelled n ts)

-- rows that match nothing twice match no more than there is
pub matched_le : (n : ℕ) (ts : List Ty) (rows : List (List Pat)) → Once ts rows → total (map (ways n ts) rows) ≤ how_many n ts
matched_le n ts rows once =
    let l = tally_le (hit_rows rows) (spelled n ts) (λ vs i. once vs (spelled_of n ts vs i)) in omega (arith, rows_is n ts rows, how_many_is n ts)

-- where the counts say that nothing is lacking, nothing is found
pub no_gap : (n : ℕ) (ts : List Ty) (rows : List (List Pat)) → Once ts rows → lacks n ts rows ≡ false → first_gap n ts rows ≡ none
no_gap n ts rows once e =
    let l = ltb_false (total (map (ways n ts) rows)) (how_many n ts) e in
    full_none (hit_rows rows) (spelled n ts) (λ vs i. once vs (spelled_of n ts vs i)) (omega (arith, rows_is n ts rows, how_many_is n ts))

pub some_gap : (n : ℕ) (ts : List Ty) (rows : List (List Pat)) → lacks n ts rows ≡ true → first_gap n ts rows ≡ none → ⊥
some_gap n ts rows e =
    let l = ltb_lt (total (map (ways n ts) rows)) (how_many n ts) e in
    short_some (hit_rows rows) (spelled n ts) (omega (arith, rows_is n ts rows, how_many_is n ts))

-- a test of the counts before a search changes nothing
tested : {A : Type 0} (b : Bool) (x : Option A) → (b ≡ false → x ≡ none) → cond b x none ≡ x
tested true x h = refl
tested false x h = sym (h refl)

pub once_after : (a : Ty) (m : Move × List Ty) → Memᴰ m (moves a) → (ts : List Ty) (rows : List (List Pat)) → Once (a ∷ ts) rows → Once (m.1 ++ ts) (keep (after m.0) rows)
once_after a m i ts rows once vs o = subst (λ k. k ≤ 1) (rows_after a m i ts vs o rows) (once (made m.0 vs) (sound a m i ts vs o).0)

-- the letters found are those of the first gap
pub gap_letters : (n : ℕ) (ts : List Ty) (rows : List (List Pat)) → Once ts rows → gap_from n ts rows ≡ on all_letters (first_gap n ts rows)
gap_letters zero [] rows once = go (lacks zero [] rows) refl
  where
    go : (b : Bool) → lacks zero [] rows ≡ b → cond b (some []) none ≡ on all_letters (first_gap zero [] rows)
    go false e = sym (ap (on all_letters) (no_gap zero [] rows once e))
    go true e = at (eqb (hit_rows rows []) 0) refl
      where
        at : (c : Bool) → eqb (hit_rows rows []) 0 ≡ c → some [] ≡ on all_letters (cond c (some []) none)
        at true h = refl
        at false h = absurd (some_gap zero [] rows e (ap (λ c. cond c (some []) none) h))
gap_letters zero (a ∷ ts) rows once = refl
gap_letters (suc n) [] rows once = refl
gap_letters (suc n) (a ∷ ts) rows once =
    first_of_mem (moves a) (λ m i. each m i (gap_letters n (m.1 ++ ts) (keep (after m.0) rows) (once_after a m i ts rows once)))
    ∙ sym (on_first_of all_letters (λ m. on (made m.0) (find (λ vs. eqb (hit_rows rows (made m.0 vs)) 0) (spelled n (m.1 ++ ts)))) (moves a))
    ∙ sym (ap (on all_letters) (find_step (λ vs. eqb (hit_rows rows vs) 0) n a ts))
  where
    each : (m : Move × List Ty) (i : Memᴰ m (moves a)) → gap_from n (m.1 ++ ts) (keep (after m.0) rows) ≡ on all_letters (first_gap n (m.1 ++ ts) (keep (after m.0) rows))
        → cond (lacks n (m.1 ++ ts) (keep (after m.0) rows)) (on (λ ls. letter_on m.0 ∷ ls) (gap_from n (m.1 ++ ts) (keep (after m.0) rows))) none
        ≡ on all_letters (on (made m.0) (find (λ vs. eqb (hit_rows rows (made m.0 vs)) 0) (spelled n (m.1 ++ ts))))
    each m i e =
        tested (lacks n (m.1 ++ ts) (keep (after m.0) rows)) _
        (λ h. ap (on (λ ls. letter_on m.0 ∷ ls)) (e ∙ ap (on all_letters) (no_gap n (m.1 ++ ts) (keep (after m.0) rows) (once_after a m i ts rows once) h)))
        ∙ ap (on (λ ls. letter_on m.0 ∷ ls)) e
        ∙ on_on (λ ls. letter_on m.0 ∷ ls) all_letters (first_gap n (m.1 ++ ts) (keep (after m.0) rows))
        ∙ on_ext
        (first_gap n (m.1 ++ ts) (keep (after m.0) rows))
        (λ vs f. sym (sound a m i ts vs (spelled_of n (m.1 ++ ts) vs (find_mem (λ us. eqb (hit_rows (keep (after m.0) rows) us) 0) (spelled n (m.1 ++ ts)) vs f))).1)
        ∙ sym (on_on all_letters (made m.0) (first_gap n (m.1 ++ ts) (keep (after m.0) rows)))
        ∙ ap
        (λ x. on all_letters (on (made m.0) x))
        (find_ext (spelled n (m.1 ++ ts)) (λ vs j. ap (λ k. eqb k 0) (sym (rows_after a m i ts vs (spelled_of n (m.1 ++ ts) vs j) rows))))

-- ---- one type

hits_alone : (ps : List Pat) (v : Val) → hit_rows (alone ps) (v ∷ []) ≡ hits ps v
hits_alone [] v = refl
hits_alone (p ∷ ps) v = ap₂ ◌+◌ (mul-one (hit p v)) (hits_alone ps v)

pub once_alone : (a : Ty) (ps : List Pat) → Apart ps → Once (a ∷ []) (alone ps)
once_alone a ps apart vs o = let r = one_ofs a vs o in subst (λ us. hit_rows (alone ps) us ≤ 1) (sym r.1) (subst (λ k. k ≤ 1) (sym (hits_alone ps r.0)) (hits_le apart r.0))

-- the first gap among the values with n letters
gap_values : (a : Ty) (ps : List Pat) (n : ℕ) → on letters (find (never ps) (values_with n a)) ≡ on all_letters (first_gap n (a ∷ []) (alone ps))
gap_values a ps n =
    ap (on letters) (find_map (never ps) the (spelled n (a ∷ [])))
    ∙ ap (λ x. on letters (on the x)) (find_ext (spelled n (a ∷ [])) (λ vs i. ap (λ k. eqb k 0) (same_hits vs (spelled_of n (a ∷ []) vs i))))
    ∙ on_on letters the (first_gap n (a ∷ []) (alone ps))
    ∙ on_ext
    (first_gap n (a ∷ []) (alone ps))
    (λ vs e. same_letters vs (spelled_of n (a ∷ []) vs (find_mem (λ us. eqb (hit_rows (alone ps) us) 0) (spelled n (a ∷ [])) vs e)))
  where
    same_hits : (vs : List Val) → Ofs vs (a ∷ []) → hits ps (the vs) ≡ hit_rows (alone ps) vs
    same_hits vs o = let r = one_ofs a vs o in ap (λ us. hits ps (the us)) r.1 ∙ sym (hits_alone ps r.0) ∙ ap (hit_rows (alone ps)) (sym r.1)

    same_letters : (vs : List Val) → Ofs vs (a ∷ []) → letters (the vs) ≡ all_letters vs
    same_letters vs o = let r = one_ofs a vs o in ap (λ us. letters (the us)) r.1 ∙ sym (one_letters r.0) ∙ ap all_letters (sym r.1)

-- ---- the laws

-- 13 and 14: the letters that counting finds are those of the value that the definition gives
pub gap_setting : (a : Ty) (ps : List Pat) → Apart ps → gap_in a ps ≡ on letters (setting a (never ps))
unfolding setting
gap_setting a ps apart =
    first_of_ext (count_up (suc result_length) 0) each ∙ sym (on_first_of letters (λ n. find (never ps) (values_with n a)) (count_up (suc result_length) 0))
  where
    each : (n : ℕ) → cond (lacks n (a ∷ []) (alone ps)) (gap_from n (a ∷ []) (alone ps)) none ≡ on letters (find (never ps) (values_with n a))
    each n =
        let e = gap_letters n (a ∷ []) (alone ps) (once_alone a ps apart) in
        tested (lacks n (a ∷ []) (alone ps)) (gap_from n (a ∷ []) (alone ps))
        (λ h. e ∙ ap (on all_letters) (no_gap n (a ∷ []) (alone ps) (once_alone a ps apart) h))
        ∙ e
        ∙ sym (gap_values a ps n)

-- "or by none"
pub never_iff : (ps : List Pat) → ((p : Pat) → Memᴰ p ps → Distinct (vars p)) → (v : Val) → (never ps v ≡ true) ↔ Never ps v
never_iff ps d v = (λ e p m k. to p m k (eqb_eq (hits ps v) 0 e), λ h. eq_eqb (from ps d h))
  where
    to : (p : Pat) → Memᴰ p ps → Matched p v → hits ps v ≡ 0 → ⊥
    to p m k e = let l = hit_le_hits v m in let h = matched_hit k in absurd (omega arith)

    from : (qs : List Pat) → ((p : Pat) → Memᴰ p qs → Distinct (vars p)) → Never qs v → hits qs v ≡ 0
    from [] d h = refl
    from (q ∷ qs) d h = at (eq-or-lt_of_le (hit_le q v)) (from qs (λ p m. d p (Memᴰ.tail m)) (λ p m. h p (Memᴰ.tail m)))
      where
        at : (hit q v ≡ 1) ⊎ (hit q v < 1) → hits qs v ≡ 0 → hits (q ∷ qs) v ≡ 0
        at (inl e) k = absurd (h q (Memᴰ.head refl) (hit_matched (d q (Memᴰ.head refl)) e))
        at (inr l) k = omega arith

-- where the weights fall short there is one
pub gap_found : (a : Ty) (ps : List Pat)
    → ((p : Pat) → Memᴰ p ps → Shape p a)
    → ((p : Pat) → Memᴰ p ps → Distinct (vars p))
    → ((p : Pat) → Memᴰ p ps → tags p ≤ max_tags)
    → Apart ps
    → full_weight ps ≡ false
    → (v : Val) × Of v a × Never ps v
gap_found a ps fits distinct light apart e = uncovered a ps fits distinct light apart e
