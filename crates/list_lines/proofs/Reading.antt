-- All lines of a list: what the loop knows before a line, and what a list that is taken, or is not, comes to.
use Prim.Native.Nat.{ℕ, zero, suc, ◌+◌, ◌-◌, ◌%◌, ◌≤◌, ◌<◌}
use native.Mathlib.Nat.{lt_irrefl, mod-eq_of_lt}
use native.Mathlib.Numerals.{add-one}
use native.Mathlib.Omega.{arith}
use mathlib.Core.Path.{◌≡◌, refl, sym, ap, ap₂, ◌∙◌, subst}
use mathlib.Core.Logic.{◌⊎◌, inl, inr}
use mathlib.Core.Bool.{Bool, true, false, cond, not, ◌&&◌, false≢true}
use mathlib.Core.Option.{Option, none, some}
use mathlib.Core.List.Memᴰ
use mathlib.Core.List.{List, [], ◌∷◌, ◌++◌, append_assoc, append-nil, Memᴰ}
use lib.Dec.{eqb, ltb}
use lib.ListN.{length, get_or, set, take, drop, length-set, drop_of_length-le}
use lib.Seq.{take-suc, take-suc-set}
use borrow.Rule.Slice.PartMut.{mid_of}
use Rattle.calculus.specs.Tools.{◌>>=◌, guard, all}
use Rattle.format.specs.Lines.{lines}
use Rattle.calculus.specs.Paper.{Distinct, nobody, another}
use Rattle.calculus.specs.Trees.{Ty}
use Rattle.calculus.proofs.Basic.{bind_some, some_bind, some_inj, not_some, guard_true, true_guard, and_true, true_and, bool_cases, eq_eqb, eqb_eq, not_eqb, ltb_lt, lt_ltb, all_mem}
use Rattle.law_ranking.specs.Numbering.{count}
use Rattle.read_fields.specs.Views.{LineEnd}
use Rattle.law_pairlists.specs.PairLists.{to_of, tos_of, none_twice, pairs_up, list_of}
use Rattle.law_pairlists.proofs.List.{none_twice_lem, twice_none, tos_length}
use Rattle.std.specs.Prelude as P
use Rattle.std.specs.Prelude.{Some, None}
use Rattle.list_lines.specs.Views.{as_to, stands, taking}

-- ---- a number among others

pub record Past (words : List ℕ) (n x i : ℕ) : Type 0 where
  pub high : i ≤ n
  pub others : n ≤ length words → all (λ u. not (eqb u x)) (take i words) ≡ true

pub past_start : (words : List ℕ) (n x : ℕ) → Past words n x 0
past_start words n x = record { high = omega arith; others = λ h. refl }

all_snoc : (f : ℕ → Bool) (us : List ℕ) (u : ℕ) → all f us ≡ true → f u ≡ true → all f (us ++ (u ∷ [])) ≡ true
all_snoc f [] u h k = true_and k refl
all_snoc f (v ∷ us) u h k = let p = and_true (f v) (all f us) h in true_and p.0 (all_snoc f us u p.1 k)

pub past_step : {words : List ℕ} {n x i w v : ℕ} → Past words n x i → i < n → w ≡ get_or words i 0 → v ≡ w → (v ≡ x → ⊥) → Past words n x (i + 1)
past_step {words} {n} {x} {i} p l e f h =
    record {
      high = omega arith;
      others = λ k. subst (λ us. all (λ u. not (eqb u x)) us ≡ true) (sym (ap (λ m. take m words) (add-one i) ∙ take-suc words i 0 (omega arith)))
          (all_snoc (λ u. not (eqb u x)) (take i words) (get_or words i 0) (p.others k) (ap not (not_eqb (λ q. h (f ∙ e ∙ q)))));
    }

pub past_end : {words : List ℕ} {n x i : ℕ} → Past words n x i → n ≤ i → n ≤ length words → false ≡ stands x (take n words)
past_end {words} {n} {x} {i} p l k =
    let e : i ≡ n = omega (arith, p.high) in
    sym (ap not (subst (λ m. all (λ u. not (eqb u x)) (take m words) ≡ true) e (p.others k)))

mem_take : (words : List ℕ) (n i : ℕ) → i < n → n ≤ length words → Memᴰ (get_or words i 0) (take n words)
mem_take [] n i h l = absurd (lt_irrefl 0 (omega arith))
mem_take (w ∷ words) zero i h l = absurd (lt_irrefl 0 (omega arith))
mem_take (w ∷ words) (suc n) zero h l = Memᴰ.head refl
mem_take (w ∷ words) (suc n) (suc i) h l = Memᴰ.tail (mem_take words n i (omega arith) (omega arith))

mem_stands : (x : ℕ) (us : List ℕ) → Memᴰ x us → stands x us ≡ true
mem_stands x us m = go (bool_cases (all (λ u. not (eqb u x)) us))
  where
    go : (all (λ u. not (eqb u x)) us ≡ true) ⊎ (all (λ u. not (eqb u x)) us ≡ false) → stands x us ≡ true
    go (inl e) = absurd (false≢true (ap not (sym (eq_eqb {m = x} refl)) ∙ all_mem (λ u. not (eqb u x)) e m))
    go (inr e) = ap not e

pub past_hit : {words : List ℕ} {n x i w v : ℕ} → Past words n x i → i < n → w ≡ get_or words i 0 → v ≡ w → v ≡ x → n ≤ length words → true ≡ stands x (take n words)
past_hit {words} {n} {x} {i} p l e f h k = sym (mem_stands x (take n words) (subst (λ u. Memᴰ u (take n words)) (sym e ∙ sym f ∙ h) (mem_take words n i l k)))

-- ---- numbers told apart

stands_mem : (x : ℕ) (us : List ℕ) → stands x us ≡ true → Memᴰ x us
stands_mem x [] e = absurd (false≢true e)
stands_mem x (u ∷ us) e = go (bool_cases (eqb u x)) (stands_mem x us)
  where
    go : (eqb u x ≡ true) ⊎ (eqb u x ≡ false) → (stands x us ≡ true → Memᴰ x us) → Memᴰ x (u ∷ us)
    go (inl c) f = Memᴰ.head (sym (eqb_eq u x c))
    go (inr c) f = Memᴰ.tail (f (sym (ap (λ b. not (not b && all (λ v. not (eqb v x)) us)) c) ∙ e))

mem_front : {x : ℕ} {us : List ℕ} (vs : List ℕ) → Memᴰ x us → Memᴰ x (us ++ vs)
mem_front vs (Memᴰ.head e) = Memᴰ.head e
mem_front vs (Memᴰ.tail m) = Memᴰ.tail (mem_front vs m)

mem_back : {x : ℕ} (us : List ℕ) {vs : List ℕ} → Memᴰ x vs → Memᴰ x (us ++ vs)
mem_back [] m = m
mem_back (u ∷ us) m = Memᴰ.tail (mem_back us m)

-- what stands in front does not stand behind
pub not_twice : (us vs : List ℕ) {x : ℕ} → Distinct (us ++ vs) → Memᴰ x us → Memᴰ x vs → ⊥
not_twice us vs {x} d m n = go us m d
  where
    go : (ws : List ℕ) → Memᴰ x ws → Distinct (ws ++ vs) → ⊥
    go [] h e = Memᴰ.not-nil h
    go (w ∷ ws) (Memᴰ.head p) (another f e) = f (mem_back ws (subst (λ y. Memᴰ y vs) p n))
    go (w ∷ ws) (Memᴰ.tail h) (another f e) = go ws h e

one_more : (us : List ℕ) (x : ℕ) → Distinct us → (Memᴰ x us → ⊥) → Distinct (us ++ (x ∷ []))
one_more [] x d h = another (λ m. Memᴰ.not-nil m) nobody
one_more (u ∷ us) x (another f d) h =
    another (λ m. go (split us m)) (one_more us x d (λ m. h (Memᴰ.tail m)))
  where
    split : (ws : List ℕ) → Memᴰ u (ws ++ (x ∷ [])) → Memᴰ u ws ⊎ (u ≡ x)
    split [] (Memᴰ.head e) = inr e
    split [] (Memᴰ.tail m) = absurd (Memᴰ.not-nil m)
    split (w ∷ ws) (Memᴰ.head e) = inl (Memᴰ.head e)
    split (w ∷ ws) (Memᴰ.tail m) = next (split ws m)
      where
        next : Memᴰ u ws ⊎ (u ≡ x) → Memᴰ u (w ∷ ws) ⊎ (u ≡ x)
        next (inl n) = inl (Memᴰ.tail n)
        next (inr e) = inr e

    go : Memᴰ u us ⊎ (u ≡ x) → ⊥
    go (inl m) = f m
    go (inr e) = h (Memᴰ.head (sym e))

-- ---- the lines

-- the tos of the lines from line k on, behind those before it
abbrev behind : List ℕ → Option (List ℕ) → Option (List ℕ)
behind us o = o >>= λ ts. some (us ++ ts)

-- what is taken of tos
abbrev keep : ℕ → Option (List ℕ) → Option (List ℕ)
keep most o = o >>= λ ts. guard (all (λ t. ltb t most) ts && none_twice ts) >>= λ _. some ts

-- what the loop knows before the line at place `at`, which is line k: its tos so far stand in the words
pub record Reading (list : List ℕ) (most : ℕ) (w₀ w : List ℕ) (at k : ℕ) : Type 0 where
  pub within : at ≤ length list
  pub fewer : k ≤ at
  pub lines_left : k + length (lines (drop at list)) ≡ length (lines list)
  pub long : length w ≡ length w₀
  pub below : length (lines list) ≤ length w₀ → most ≤ 65536 → all (λ t. ltb t most) (take k w) ≡ true
  pub once : length (lines list) ≤ length w₀ → most ≤ 65536 → Distinct (take k w)
  pub rest : length (lines list) ≤ length w₀ → most ≤ 65536 → tos_of 0 (lines list) ≡ behind (take k w) (tos_of k (lines (drop at list)))

behind_nil : (o : Option (List ℕ)) → o ≡ behind [] o
behind_nil none = refl
behind_nil (some ts) = refl

pub reading_start : (list : List ℕ) (most : ℕ) (w : List ℕ) → Reading list most w w 0 0
reading_start list most w =
    record { within = omega arith; fewer = omega arith; lines_left = omega arith; long = refl; below = λ h m. refl; once = λ h m. nobody; rest = λ h m. behind_nil (tos_of 0 (lines list)) }

module _ {list : List ℕ} {most : ℕ} {w₀ w : List ℕ} {at k end : ℕ} (x : Reading list most w₀ w at k) (here : at < length list) (e : LineEnd list at end) where
  abbrev pub line : List ℕ
  line = mid_of at (end - at) list

  -- there is a word for the line's to
  pub a_word : length (lines list) ≤ length w₀ → k < length w
  a_word h = let s = ap length (e.splits here) in let l = x.lines_left in let c = x.long in omega arith

  by_line : length (lines list) ≤ length w₀ → most ≤ 65536 → tos_of 0 (lines list) ≡ behind (take k w) (to_of k line >>= λ t. tos_of (suc k) (lines (drop end list)) >>= λ ts. some (t ∷ ts))
  by_line h m = x.rest h m ∙ ap (λ ls. behind (take k w) (tos_of k ls)) (e.splits here)

  -- a line of another form
  pub line_bad : {r : P.Option ℕ} → as_to r ≡ to_of k line → r ≡ None → length (lines list) ≤ length w₀ → most ≤ 65536 → taking most (lines list) ≡ none
  line_bad p q h m = ap (keep most) (by_line h m ∙ ap (λ o. behind (take k w) (o >>= λ t. tos_of (suc k) (lines (drop end list)) >>= λ ts. some (t ∷ ts))) (sym p ∙ ap as_to q))

  module _ {r : P.Option ℕ} {t : ℕ} (p : as_to r ≡ to_of k line) (q : r ≡ Some t) where
    by_to : length (lines list) ≤ length w₀ → most ≤ 65536 → tos_of 0 (lines list) ≡ behind (take k w) (tos_of (suc k) (lines (drop end list)) >>= λ ts. some (t ∷ ts))
    by_to h m = by_line h m ∙ ap (λ o. behind (take k w) (o >>= λ u. tos_of (suc k) (lines (drop end list)) >>= λ ts. some (u ∷ ts))) (sym p ∙ ap as_to q)

    -- whatever is taken holds this to behind those before it
    shape : length (lines list) ≤ length w₀ → most ≤ 65536 → (ts : List ℕ) → tos_of 0 (lines list) ≡ some ts → (us : List ℕ) × (ts ≡ take k w ++ (t ∷ us))
    shape h m ts g =
        let f = bind_some (tos_of (suc k) (lines (drop end list)) >>= λ us. some (t ∷ us)) (λ us. some (take k w ++ us)) (sym (by_to h m) ∙ g) in
        let d = bind_some (tos_of (suc k) (lines (drop end list))) (λ us. some (t ∷ us)) f.1 in
        (d.0, sym (some_inj f.2) ∙ ap (λ us. take k w ++ us) (sym (some_inj d.2)))

    refuse : length (lines list) ≤ length w₀ → most ≤ 65536
        → ((us : List ℕ) → all (λ u. ltb u most) (take k w ++ (t ∷ us)) ≡ true → none_twice (take k w ++ (t ∷ us)) ≡ true → ⊥) → taking most (lines list) ≡ none
    refuse h m never = not_some (taking most (lines list)) (λ ts g.
        let f = bind_some (tos_of 0 (lines list)) (λ vs. guard (all (λ v. ltb v most) vs && none_twice vs) >>= λ _. some vs) g in
        let d = bind_some (guard (all (λ v. ltb v most) f.0 && none_twice f.0)) (λ _. some f.0) f.2 in
        let s = shape h m f.0 f.1 in
        let b = and_true (all (λ v. ltb v most) f.0) (none_twice f.0) (guard_true (all (λ v. ltb v most) f.0 && none_twice f.0) d.1) in
        never s.0 (subst (λ vs. all (λ v. ltb v most) vs ≡ true) s.1 b.0) (subst (λ vs. none_twice vs ≡ true) s.1 b.1))

    -- a to that is too high
    pub to_high : most ≤ t → length (lines list) ≤ length w₀ → most ≤ 65536 → taking most (lines list) ≡ none
    to_high l h m = refuse h m (λ us a n. lt_irrefl t (let z = ltb_lt t most (all_mem (λ u. ltb u most) a (mem_back (take k w) (Memᴰ.head refl))) in omega arith))

    -- a to that is repeated
    pub to_again : {b : Bool} → (k ≤ length w → b ≡ stands t (take k w)) → b ≡ true → length (lines list) ≤ length w₀ → most ≤ 65536 → taking most (lines list) ≡ none
    to_again f c h m =
        let l = a_word h in
        refuse h m (λ us a n. not_twice (take k w) (t ∷ us) (none_twice_lem (take k w ++ (t ∷ us)) n) (stands_mem t (take k w) (sym (f (omega arith)) ∙ c)) (Memᴰ.head refl))

    -- a to that is stored
    pub reading_next : {b : Bool} {v : ℕ} {w' : List ℕ} → t < most → (k ≤ length w → b ≡ stands t (take k w)) → b ≡ false → v ≡ t % 65536 → w' ≡ set w k v
        → Reading list most w₀ w' end (k + 1)
    reading_next {b} {v} {w'} l f c ev ew =
        let s = ap length (e.splits here) in
        let n = x.lines_left in
        record {
          within = e.within here;
          fewer = let z = e.further here in omega (arith, x.fewer);
          lines_left = omega arith;
          long = ap length ew ∙ length-set w k v ∙ x.long;
          below = λ h m. subst (λ us. all (λ u. ltb u most) us ≡ true) (sym (front h m)) (all_snoc (λ u. ltb u most) (take k w) t (x.below h m) (lt_ltb l));
          once = λ h m. subst Distinct (sym (front h m)) (one_more (take k w) t (x.once h m) (λ i. let z = a_word h in false≢true (sym c ∙ f (omega arith) ∙ mem_stands t (take k w) i)));
          rest = λ h m.
              by_to h m ∙ moved (take k w) (tos_of (suc k) (lines (drop end list)))
              ∙ ap₂ (λ us j. behind us (tos_of j (lines (drop end list)))) (sym (front h m)) (sym (add-one k));
        }
      where
        front : length (lines list) ≤ length w₀ → most ≤ 65536 → take (k + 1) w' ≡ take k w ++ (t ∷ [])
        front h m =
            ap₂ take (add-one k) ew ∙ take-suc-set w k v (a_word h)
            ∙ ap (λ u. take k w ++ (u ∷ [])) (ev ∙ mod-eq_of_lt (omega arith))

        moved : (us : List ℕ) (o : Option (List ℕ)) → behind us (o >>= λ ts. some (t ∷ ts)) ≡ behind (us ++ (t ∷ [])) o
        moved us none = refl
        moved us (some ts) = ap some (sym (append_assoc us (t ∷ []) ts))

-- the end of the list: all its tos are taken
pub reading_end : {list : List ℕ} {most : ℕ} {w₀ w : List ℕ} {at k : ℕ} → Reading list most w₀ w at k → length list ≤ at → length (lines list) ≤ length w₀ → most ≤ 65536
    → taking most (lines list) ≡ some (take (length (lines list)) w)
reading_end {list} {most} {w₀} {w} {at} {k} x l h m =
    let none_left : drop at list ≡ [] = drop_of_length-le list l in
    let n : k ≡ length (lines list) = let c = x.lines_left in let z = ap (λ bs. length (lines bs)) none_left in omega arith in
    let all_tos : tos_of 0 (lines list) ≡ some (take k w) = x.rest h m ∙ ap (λ bs. behind (take k w) (tos_of k (lines bs))) none_left ∙ ap some (append-nil (take k w)) in
    ap (keep most) all_tos
    ∙ some_bind (λ _. some (take k w)) (true_guard (true_and (x.below h m) (twice_none (x.once h m))))
    ∙ ap (λ j. some (take j w)) n

-- ---- the counts

module _ (a b : Ty) (ls : List (List ℕ)) where
  -- as many lines as values
  counts_none : ((ts : List ℕ) → length ts ≡ length ls → pairs_up a b ts ≡ true → ⊥) → list_of a b ls ≡ none
  unfolding list_of
  counts_none never = not_some (list_of a b ls) (λ ts g.
      let f = bind_some (tos_of 0 ls) (λ us. guard (pairs_up a b us) >>= λ _. some us) g in
      let d = bind_some (guard (pairs_up a b f.0)) (λ _. some f.0) f.2 in
      never f.0 (sym (tos_length 0 ls f.0 f.1)) (guard_true (pairs_up a b f.0) d.1))

  pub froms_differ : {n c : ℕ} → (n ≡ c → ⊥) → c ≡ count a → n ≡ length ls → list_of a b ls ≡ none
  froms_differ {n} {c} h p q = counts_none (λ ts l u.
      let z = and_true (eqb (length ts) (count a)) (eqb (length ts) (count b) && (all (λ t. ltb t (count b)) ts && none_twice ts)) u in
      h (q ∙ sym l ∙ eqb_eq (length ts) (count a) z.0 ∙ sym p))

  pub tos_differ : {n c : ℕ} → (n ≡ c → ⊥) → c ≡ count b → n ≡ length ls → list_of a b ls ≡ none
  tos_differ {n} {c} h p q = counts_none (λ ts l u.
      let y = and_true (eqb (length ts) (count a)) (eqb (length ts) (count b) && (all (λ t. ltb t (count b)) ts && none_twice ts)) u in
      let z = and_true (eqb (length ts) (count b)) (all (λ t. ltb t (count b)) ts && none_twice ts) y.1 in
      h (q ∙ sym l ∙ eqb_eq (length ts) (count b) z.0 ∙ sym p))

  pub counts_same : {n c d : ℕ} {o : Option (List ℕ)} → n ≡ c → n ≡ d → c ≡ count a → d ≡ count b → n ≡ length ls → taking d ls ≡ o → list_of a b ls ≡ o
  unfolding list_of
  counts_same {n} {c} {d} {o} h k p q r e = go (tos_of 0 ls) refl ∙ e
    where
      go : (x : Option (List ℕ)) → tos_of 0 ls ≡ x → list_of a b ls ≡ taking d ls
      go none g = ap (λ y. y >>= λ us. guard (pairs_up a b us) >>= λ _. some us) g ∙ sym (ap (keep d) g)
      go (some ts) g =
          let l : length ts ≡ n = sym (tos_length 0 ls ts g) ∙ sym r in
          ap (λ y. y >>= λ us. guard (pairs_up a b us) >>= λ _. some us) g
          ∙ ap₂ (λ y z. guard (y && (z && (all (λ t. ltb t (count b)) ts && none_twice ts))) >>= λ _. some ts) (eq_eqb (l ∙ h ∙ p)) (eq_eqb (l ∙ k ∙ q))
          ∙ ap (λ m. guard (all (λ t. ltb t m) ts && none_twice ts) >>= λ _. some ts) (sym q)
          ∙ sym (ap (keep d) g)

  pub list_read : {n c d : ℕ} (w w' : List ℕ) (r : Bool) → n ≡ c → n ≡ d → (length ls ≤ length w → d ≤ 65536 → taking d ls ≡ cond r (some (take (length ls) w')) none)
      → c ≡ count a → d ≡ count b → n ≡ length ls → n ≤ length w → d ≤ 65536 → list_of a b ls ≡ cond r (some (take n w')) none
  list_read {n} w w' r h k f p q e l m = counts_same h k p q e (f (subst (λ i. i ≤ length w) e l) m) ∙ ap (λ i. cond r (some (take i w')) none) (sym e)
